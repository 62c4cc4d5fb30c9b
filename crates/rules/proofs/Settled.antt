-- That a rack is sound can be shown in one way only, so a board can carry it as a hidden fact and have it back.
use Rattle.std.proofs.Common.{ℕ, suc, ◌≤◌, ◌⊎◌, List, [], ◌∷◌, refl, ap, inl, inr, arith}
use mathlib.Core.Bool.{Bool-set}
use mathlib.Core.Logic.{∥∥₁_elim}
use mathlib.Core.HLevel.{Π_prop, ×_prop}
use native.Mathlib.Bridge.{le_prop}
use native.Mathlib.Nat.{ℕ_set}
use Rattle.std.specs.List.{AllByRecursion}
use Rattle.rules.specs.declared.ticket.Ticket.{Ticket}
use Rattle.rules.specs.declared.ticket.Phase.{Phase}
use Rattle.rules.specs.declared.ticket.Phase.TheVariants.{Forward, Backing, Without, Granted, Out, Closing}
use Rattle.rules.specs.declared.rack.Sizes.{Sizes}
use Rattle.rules.specs.Rack.{Rack}
use Rattle.rules.specs.Sound.{Rising, Shape, Fit, Agree, Sound, Reached}
use Rattle.rules.proofs.Kept.{sound}

-- two ways that exclude each other
sum_prop : {A B : Type 0} → IsProp A → IsProp B → (A → B → ⊥) → IsProp (A ⊎ B)
sum_prop p q n (inl a) (inl b) = ap inl (p a b)
sum_prop p q n (inl a) (inr b) = absurd (n a b)
sum_prop p q n (inr a) (inl b) = absurd (n b a)
sum_prop p q n (inr a) (inr b) = ap inr (q a b)

rising_prop : (lo hi : ℕ) (ts : List Ticket) → IsProp (Rising lo hi ts)
rising_prop lo hi [] = le_prop
rising_prop lo hi (t ∷ ts) = ×_prop le_prop (rising_prop (suc t.number) hi ts)

all_prop : (P : Ticket → Type 0) → ((t : Ticket) → IsProp (P t)) → (ts : List Ticket) → IsProp (AllByRecursion P ts)
all_prop P k [] = λ a b. refl
all_prop P k (t ∷ ts) = ×_prop (k t) (all_prop P k ts)

shape_prop : (z : Sizes) (p : Phase) (t : Ticket) → t.request.start ≤ t.first → IsProp (Shape z p t)
shape_prop z Forward t b =
    sum_prop (ℕ_set t.marks 0) (×_prop le_prop le_prop) (λ e h. let k = h.0 in omega arith)
shape_prop z (Backing g) t b =
    λ u v i. (
      le_prop u.0 v.0 i,
      le_prop u.1 v.1 i,
      le_prop u.2 v.2 i,
      sum_prop (ℕ_set g t.request.start) le_prop (λ e h. omega arith) u.3 v.3 i,
      le_prop u.4 v.4 i,
    )
shape_prop z Without t b = ℕ_set t.marks 0
shape_prop z Granted t b = ×_prop (ℕ_set t.marks t.request.length) le_prop
shape_prop z Out t b = ×_prop (ℕ_set t.marks t.request.length) le_prop
shape_prop z Closing t b = ×_prop le_prop le_prop

fit_prop : (z : Sizes) (n : ℕ) (t : Ticket) → IsProp (Fit z n t)
fit_prop z n t u v = λ i.
    record {
      some = le_prop u.some v.some i;
      most = le_prop u.most v.most i;
      inside = le_prop u.inside v.inside i;
      begun = le_prop u.begun v.begun i;
      held = le_prop u.held v.held i;
      reach = le_prop u.reach v.reach i;
      noted = le_prop u.noted v.noted i;
      shape = shape_prop z t.phase t u.begun u.shape v.shape i;
    }

agree_prop : (x : Rack) → IsProp (Agree x)
agree_prop x u v = λ i.
    record {
      size = ℕ_set _ _ u.size v.size i;
      vacant = Π_prop (λ c. Π_prop (λ h. ℕ_set _ _)) u.vacant v.vacant i;
      held = Π_prop (λ c. Π_prop (λ n. Π_prop (λ h. ℕ_set _ _))) u.held v.held i;
    }

sound_prop : (x : Rack) → IsProp (Sound x)
sound_prop x u v = λ i.
    record {
      limits = Bool-set _ _ u.limits v.limits i;
      rows_some = le_prop u.rows_some v.rows_some i;
      rows_most = le_prop u.rows_most v.rows_most i;
      first_some = le_prop u.first_some v.first_some i;
      numbers = le_prop u.numbers v.numbers i;
      rising = rising_prop x.first x.next x.tickets u.rising v.rising i;
      fits = all_prop (Fit x.sizes x.handbacks) (fit_prop x.sizes x.handbacks) x.tickets u.fits v.fits i;
      few = le_prop u.few v.few i;
      counted = le_prop u.counted v.counted i;
      agree = agree_prop x u.agree v.agree i;
    }

-- a rack that some history leads to is sound
pub reached_sound : (x : Rack) → Reached x → Sound x
reached_sound x r = ∥∥₁_elim r (sound_prop x) (λ p. sound p.0 x p.1)
