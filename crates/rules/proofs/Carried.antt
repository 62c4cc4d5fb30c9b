-- The promise over histories, call by call: what each call tells leads to the rack that it leaves, and all laws hold.
use Rattle.std.proofs.Common.{◌≡◌, ℕ, List, [], ◌∷◌, ◌++◌, Ok, Err, Result, sym, refl, subst}
use mathlib.Core.Logic.{∥∥₁_elim, ∥∥₁_prop}
use Rattle.rules.specs.declared.ticket.Request.{Request}
use Rattle.rules.specs.declared.ticket.Ticket.{Ticket}
use Rattle.rules.specs.declared.refusal.Refusal.{Refusal}
use Rattle.rules.specs.Rack.{Rack}
use Rattle.rules.specs.Step.{due}
use Rattle.rules.specs.Choosers.{Meaning, Lawful}
use Rattle.rules.specs.Calls.{book, step_with, step, drive, collect, drop', back}
use Rattle.rules.specs.History.{Event, Accepts, Reaches}
use Rattle.rules.specs.Laws.{told, reported, Carries}
use Rattle.rules.specs.Sound.{Reached}
use Rattle.rules.proofs.Plays.{book_accepts, book_refused, collect_refused, drop_refused, back_refused, step_reaches, drive_reaches}
use Rattle.rules.proofs.Whole.{laws}

-- a board that was reached is reached after the call
pub reached_on : (es : List Event) (x y : Rack) → Carries es x y → Reached x → Reached y
reached_on es x y c r = ∥∥₁_elim r ∥∥₁_prop (λ p. ∣ (es ++ p.0, (c p.0 p.1).0) ∣₁)

reaches_carries : (es : List Event) (x y : Rack) → ((h : List Event) → Reaches h x → Reaches (es ++ h) y) → Carries es x y
reaches_carries es x y k h r = let q = k h r in (q, laws (es ++ h) y q)

told_carries : {A : Type 0} (f : A → Event) (x y : Rack) (o : Result A Refusal) → ((a : A) → o ≡ Ok a → Accepts x (f a) y) → ((e : Refusal) → o ≡ Err e → y ≡ x) → Carries (told f o) x y
told_carries f x y (Ok a) k l = reaches_carries (f a ∷ []) x y (λ h r. (x, r, k a refl))
told_carries f x y (Err e) k l = reaches_carries [] x y (λ h r. subst (Reaches h) (sym (l e refl)) r)

pub book_carries : (x : Rack) (q : Request) → Carries (told (λ n. Event.taken n q) (book x q).answer) x (book x q).rack
book_carries x q = told_carries (λ n. Event.taken n q) x (book x q).rack (book x q).answer (λ n k. book_accepts x q n k) (λ e k. book_refused x q e k)

pub collect_carries : (x : Rack) (n : ℕ) → Carries (told (λ _. Event.collected n) (collect x n).answer) x (collect x n).rack
collect_carries x n = told_carries (λ _. Event.collected n) x (collect x n).rack (collect x n).answer (λ o k. Accepts.collects n o k) (λ e k. collect_refused x n e k)

pub drop_carries : (x : Rack) (n : ℕ) → Carries (told (λ _. Event.dropped n) (drop' x n).answer) x (drop' x n).rack
drop_carries x n = told_carries (λ _. Event.dropped n) x (drop' x n).rack (drop' x n).answer (λ _ k. Accepts.drops n k) (λ e k. drop_refused x n e k)

pub back_carries : (x : Rack) (n : ℕ) → Carries (told (λ _. Event.returned n) (back x n).answer) x (back x n).rack
back_carries x n = told_carries (λ _. Event.returned n) x (back x n).rack (back x n).answer (λ _ k. Accepts.backs n k) (λ e k. back_refused x n e k)

module _ {S : Type 0} (m : Meaning S) (lawful : Lawful m) (x : Rack) (n : ℕ) where
  step_told : (s : S) (d : Result Ticket Refusal) → reported (step_with m x s d).ran.reports ≡ told Event.stepped (step_with m x s d).answer
  step_told s (Ok t) = refl
  step_told s (Err e) = refl

  pub step_carries : (s : S) → Carries (told Event.stepped (step m x n s).answer) x (step m x n s).ran.rack
  step_carries s =
      subst (λ (es : List Event). Carries es x (step m x n s).ran.rack) (step_told s (due x n))
      (reaches_carries (reported (step m x n s).ran.reports) x (step m x n s).ran.rack (λ h r. step_reaches m lawful h x r n s))

  pub drive_carries : (budget room : ℕ) (s : S) → Carries (reported (drive m x n budget room s).ran.reports) x (drive m x n budget room s).ran.rack
  drive_carries budget room s =
      reaches_carries (reported (drive m x n budget room s).ran.reports) x (drive m x n budget room s).ran.rack (λ h r. drive_reaches m lawful h x r n budget room s)
