-- The walk of rule 2, turn by turn.
use Rattle.std.proofs.Common.{◌≡◌, ℕ, zero, suc, ◌<◌, Bool, true, false, [], ◌∷◌, length, Some, None, Ok, Option, Result, sym, refl, ap, ◌∙◌, subst}
use Rattle.rules.specs.declared.ticket.Ticket.{Ticket}
use Rattle.rules.specs.declared.refusal.Refusal.{Refusal}
use Rattle.rules.specs.Rack.{Rack, soft}
use Rattle.rules.specs.Step.{blocked, passed_to, walk, last_of, led, worked, due, report_of, acted}
use Rattle.rules.specs.Choosers.{Meaning}
use Rattle.rules.specs.Calls.{row_for, step, step_with}
use Rattle.rules.specs.Sound.{Sound}
use Rattle.rules.proofs.Effects.{due_names, found_own}
use Rattle.rules.proofs.Walks.{works}
use Rattle.board.specs.Reading.{ticket_at, Passes, walk_end}

-- whatever a walk that is not empty is asked after, it ends at the same ticket
last_any : (n : ℕ) (r : Rack) (s t u : Ticket) → last_of s (walk n r u) ≡ last_of t (walk n r u)
last_any zero r s t u = refl
last_any (suc n) r s t u = at (blocked r u)
  where
    at : (b : Bool) → last_of s (elim b [ true ↦ u ∷ walk n r (passed_to r u) | false ↦ u ∷ [] ]) ≡ last_of t (elim b [ true ↦ u ∷ walk n r (passed_to r u) | false ↦ u ∷ [] ])
    at true = refl
    at false = refl

pub walk_free : (n : ℕ) (r : Rack) (t : Ticket) → blocked r t ≡ false → walk_end n r t ≡ t
walk_free zero r t e = refl
walk_free (suc n) r t e = rw (e, walk) refl

pub walk_on : (n : ℕ) (r : Rack) (t u : Ticket) → blocked r t ≡ true → u ≡ passed_to r t → walk_end (suc n) r t ≡ walk_end n r u
walk_on n r t u e k = rw (e, walk) (last_any n r t (passed_to r t) (passed_to r t) ∙ ap (walk_end n r) (sym k))

module _ (r : Rack) (k place : ℕ) (t w : Ticket) (o : Option ℕ) (e : t ≡ ticket_at r place) (p : Passes r t o) (inv : walk_end k r (ticket_at r place) ≡ w) where
  -- a ticket that is not blocked is the walk's end
  pub walk_ends : o ≡ None → ticket_at r place ≡ w
  walk_ends q =
      let b : blocked r t ≡ false = subst (λ (v : Option ℕ). Passes r t v) q p in
      let f : blocked r (ticket_at r place) ≡ false = subst (λ (u : Ticket). blocked r u ≡ false) e b in
      sym (walk_free k r (ticket_at r place) f) ∙ inv

  -- a blocked one hands on what is left of it
  pub walk_goes : (n next : ℕ) → k ≡ suc n → o ≡ Some next → (walk_end n r (ticket_at r next) ≡ w) × (next < length r.tickets)
  walk_goes n next s q =
      let b = subst (λ (v : Option ℕ). Passes r t v) q p in
      let f : blocked r (ticket_at r place) ≡ true = subst (λ (u : Ticket). blocked r u ≡ true) e b.1 in
      let g : ticket_at r next ≡ passed_to r (ticket_at r place) = subst (λ (u : Ticket). ticket_at r next ≡ passed_to r u) e b.2 in
      let h : walk_end (suc n) r (ticket_at r place) ≡ w = subst (λ (m : ℕ). walk_end m r (ticket_at r place) ≡ w) s inv in
      (sym (walk_on n r (ticket_at r place) (ticket_at r next) f g) ∙ h, b.0)

-- the walk from the ticket that rule 1 gives ends at the one that the step works on
pub due_ends : (r : Rack) (n i j place : ℕ) → due r n ≡ Ok (worked r (ticket_at r i)) → ticket_at r j ≡ led r (ticket_at r i) → ticket_at r place ≡ walk_end (suc r.sizes.columns) r (ticket_at r j)
    → due r n ≡ Ok (ticket_at r place)
due_ends r n i j place d l w =
    d ∙ ap {B = Result Ticket Refusal} Ok
    (last_any (suc r.sizes.columns) r (ticket_at r i) (led r (ticket_at r i)) (led r (ticket_at r i))
    ∙ (ap (walk_end (suc r.sizes.columns) r) (sym l) ∙ sym w))

-- and that one is soft
pub due_soft : (r : Rack) → Sound r → (n : ℕ) (t : Ticket) → due r n ≡ Ok t → soft t.phase ≡ true
due_soft r sd n t d =
    let k = due_names r n t d in
    let o = found_own r.tickets n k.0 k.1 in
    subst (λ (u : Ticket). soft u.phase ≡ true) k.3 (works r sd k.0 o.1 k.2).is_soft

-- a step of the ticket that is due does its action
module _ {S : Type 0} (m : Meaning S) (r : Rack) (n : ℕ) (t : Ticket) (s : S) (d : due r n ≡ Ok t) where
  pub step_answer : (step m r n s).answer ≡ Ok (report_of r t (row_for m r t s))
  step_answer = ap (λ o. (step_with m r s o).answer) d

  pub step_rack : (step m r n s).ran.rack ≡ acted r t (row_for m r t s)
  step_rack = ap (λ o. (step_with m r s o).ran.rack) d
