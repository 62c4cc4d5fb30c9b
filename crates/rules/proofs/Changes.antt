-- What is found under each number after a call that changes one ticket.
use Rattle.std.proofs.Common.{◌≡◌, ℕ, List, [], ◌∷◌, Some, None, Option, refl, ◌∙◌}
use Rattle.std.specs.List.{AllByRecursion}
use Rattle.rules.specs.declared.ticket.Ticket.{Ticket}
use Rattle.rules.specs.declared.ticket.Phase.TheVariants.{Out, Closing}
use Rattle.rules.specs.Lists.{find, edit}
use Rattle.rules.specs.Rack.{Rack, named}
use Rattle.rules.specs.Step.{action_of, after, with_phase, acted}
use Rattle.rules.specs.Calls.{changed, withdrawn, returned}
use Rattle.rules.specs.History.{Event}
use Rattle.rules.proofs.Listing.{Few}
use Rattle.rules.proofs.Tickets.{Same, after_same, after_few, withdrawn_same, withdrawn_few, find_other, find_same, find_gone}
use Rattle.rules.specs.Sound.{Rising, Sound}

-- the number that an event tells of
abbrev pub subject : Event → ℕ
subject (Event.taken m q) = m
subject (Event.stepped r) = r.number
subject (Event.collected m) = m
subject (Event.dropped m) = m
subject (Event.returned m) = m

abbrev pub head_of : List Ticket → Option Ticket
head_of [] = None
head_of (t ∷ ts) = Some t

-- ticket t becomes us, which is one ticket or none; nothing else changes but slots and the hand-back count
pub record Change (x y : Rack) (t : Ticket) (us : List Ticket) : Type 0 where
  pub first : y.first ≡ x.first
  pub next : y.next ≡ x.next
  pub own : find (named t.number) y.tickets ≡ head_of us
  pub others : (n : ℕ) → (n ≡ t.number → ⊥) → find (named n) y.tickets ≡ find (named n) x.tickets

find_after : (n lo hi : ℕ) (f : Ticket → List Ticket) (ts us : List Ticket) (w : Ticket) → Rising lo hi ts → find (named n) ts ≡ Some w → w.number ≡ n
    → f w ≡ us → Few us → AllByRecursion (Same w) us → find (named n) (edit (named n) f ts) ≡ head_of us
find_after n lo hi f ts _ w r p k q Few.none a = find_gone n lo hi f ts w r p q
find_after n lo hi f ts _ w r p k q (Few.one v) a = find_same n f ts w v p q (a.0.0 ∙ k)

module _ (x : Rack) (sd : Sound x) (t : Ticket) (found : find (named t.number) x.tickets ≡ Some t) where
  edited : (y : Rack) (f : Ticket → List Ticket) → y.first ≡ x.first → y.next ≡ x.next → y.tickets ≡ edit (named t.number) f x.tickets
      → ((u : Ticket) → Few (f u)) → ((u : Ticket) → AllByRecursion (Same u) (f u)) → Change x y t (f t)
  edited y f a b e few same =
      record {
        first = a;
        next = b;
        own = rw e (find_after t.number x.first x.next f x.tickets (f t) t sd.rising found refl refl (few t) (same t));
        others = λ n d. rw e (find_other n t.number f x.tickets d few same);
      }

  pub step_change : (row : ℕ) → Change x (acted x t row) t (after x.handbacks (action_of x t) t)
  step_change row =
      let n = x.handbacks in let a = action_of x t in
      edited (acted x t row) (after n a) refl refl refl (after_few n a) (after_same n a)

  pub fetch_change : Change x (changed x t (λ u. with_phase Out u ∷ [])) t (with_phase Out t ∷ [])
  fetch_change =
      edited (changed x t (λ u. with_phase Out u ∷ [])) (λ u. with_phase Out u ∷ []) refl refl refl (λ u. Few.one (with_phase Out u)) (λ u. ((refl, refl), tt))

  pub leave_change : Change x (changed x t (λ u. [])) t []
  leave_change = edited (changed x t (λ u. [])) (λ u. []) refl refl refl (λ u. Few.none) (λ u. tt)

  pub drop_change : Change x (changed x t withdrawn) t (withdrawn t)
  drop_change = edited (changed x t withdrawn) withdrawn refl refl refl withdrawn_few withdrawn_same

  pub back_change : Change x (returned x t) t (with_phase Closing t ∷ [])
  back_change = edited (returned x t) (λ u. with_phase Closing u ∷ []) refl refl refl (λ u. Few.one (with_phase Closing u)) (λ u. ((refl, refl), tt))
