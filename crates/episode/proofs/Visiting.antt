-- Calls one after another, and the stage that a hand-back leaves.
use Rattle.std.proofs.Common.{◌≡◌, ℕ, Bool, true, false, cond, List, [], ◌∷◌, ◌++◌, Some, None, Ok, Err, Option, Result, sym, refl, ap, ◌∙◌, subst, append_assoc}
use Rattle.std.proofs.lemmas.Bool.{eqb-true}
use Rattle.rules.specs.declared.ticket.Ticket.{Ticket}
use Rattle.rules.specs.declared.ticket.Phase.{Phase}
use Rattle.rules.specs.declared.ticket.Phase.TheVariants as phase
use Rattle.rules.specs.declared.ticket.Stage.{Stage}
use Rattle.rules.specs.declared.ticket.Stage.TheVariants as stage
use Rattle.rules.specs.declared.ticket.Request.{Request}
use Rattle.rules.specs.declared.span.Span.{Span}
use Rattle.rules.specs.declared.refusal.Refusal.{Refusal}
use Rattle.rules.specs.Lists.{find}
use Rattle.rules.specs.Rack.{Rack, named}
use Rattle.rules.specs.Step.{with_phase}
use Rattle.rules.specs.Calls.{admission, book_with, book, at_ticket, collect_at, collect, back_at, back, stage_found, stage_at}
use Rattle.rules.specs.History.{Event, Reaches}
use Rattle.rules.specs.Laws.{Holds, Carries}
use Rattle.rules.proofs.Listing.{find_in}
use Rattle.rules.proofs.Tickets.{find_same}
use Rattle.handles.specs.declared.slip.Slip.{Slip}
use Rattle.handles.specs.declared.slip.Refused.{Refused}
use Rattle.handles.specs.declared.slip.Refused.TheVariants as refused
use Rattle.handles.specs.declared.grant.Grant.{Grant}
use Rattle.handles.specs.Holding.{waits, slip_for, grant_for}
use Rattle.episode.specs.Visits.{Leads}

pub leads_on : (x y z : Rack) (es : List Event) → Leads x y → Carries es y z → Leads x z
leads_on x y z es p q =
    (es ++ p.0, λ h r. subst (λ (g : List Event). Reaches g z × Holds g z) (sym (append_assoc es p.0 h)) (q (p.0 ++ h) (p.1 h r).0))

module _ (x : Rack) (n : ℕ) where
  closes_at : (t : Ticket) (p : Phase) → find (named n) x.tickets ≡ Some t → (back_at x t p).answer ≡ Ok tt
      → stage_found (find (named n) (back_at x t p).rack.tickets) ≡ stage.Closing
  closes_at t phase.Out e k =
      let own = eqb-true t.number n (find_in (named n) x.tickets t e).1 in
      rw (own, find_same n (λ u. with_phase phase.Closing u ∷ []) x.tickets t (with_phase phase.Closing t) e refl own) refl
  closes_at t phase.Forward e k = cc
  closes_at t (phase.Backing next) e k = cc
  closes_at t phase.Without e k = cc
  closes_at t phase.Granted e k = cc
  closes_at t phase.Closing e k = cc

  closes_found : (o : Option Ticket) → find (named n) x.tickets ≡ o → (at_ticket x (λ t. back_at x t t.phase) o).answer ≡ Ok tt
      → stage_found (find (named n) (at_ticket x (λ t. back_at x t t.phase) o).rack.tickets) ≡ stage.Closing
  closes_found None e k = cc
  closes_found (Some t) e k = closes_at t t.phase e k

  -- a window handed back is closing
  closes : (back x n).answer ≡ Ok tt → stage_at (back x n).rack n ≡ stage.Closing
  closes k = closes_found (find (named n) x.tickets) refl k

-- the slip has the number that was next
abbrev slip_number : Result Slip Refusal → ℕ
slip_number (Ok s) = s.number
slip_number (Err e) = 0

slip_next_at : (x : Rack) (q : Request) (s : Slip) (o : Option Refusal) → Ok s ≡ slip_for (book_with x q o).answer → s.number ≡ x.next
slip_next_at x q s None e = ap slip_number e
slip_next_at x q s (Some f) e = cc

pub slip_next : (x : Rack) (q : Request) (s : Slip) → Ok s ≡ slip_for (book x q).answer → s.number ≡ x.next
slip_next x q s e = slip_next_at x q s (admission x q) e

-- the grant has the number of its slip
abbrev grant_number : Result (Option (Grant × Span)) Refused → ℕ
grant_number (Ok (Some p)) = p.0.number
grant_number (Ok None) = 0
grant_number (Err e) = 0

pub grant_same : (s : Stage) (n : ℕ) (o : Result (Option Span) Refusal) (g : Grant) (w : Span) → Ok (Some (g, w)) ≡ grant_for s n o → g.number ≡ n
grant_same s n (Ok (Some v)) g w e = ap grant_number e
grant_same s n (Ok None) g w e = cc
grant_same s n (Err f) g w e = cc

pub closing_after : (x y : Rack) (n m : ℕ) → y ≡ (back x n).rack → (back x n).answer ≡ Ok tt → n ≡ m → stage_at y m ≡ stage.Closing
closing_after x y n m e k q = subst (λ (i : ℕ). stage_at y i ≡ stage.Closing) q (subst (λ (z : Rack). stage_at z n ≡ stage.Closing) (sym e) (closes x n k))

-- the collection's answer, whatever became of the slip
abbrev plain : Result (Option (Grant × Span)) Refused → Result (Option Span) Refusal
plain (Ok (Some p)) = Ok (Some p.1)
plain (Ok None) = Ok None
plain (Err (refused.Kept slip e)) = Err e
plain (Err (refused.Ended e)) = Err e

plain_refused : (b : Bool) (n : ℕ) (e : Refusal) → plain (Err (cond b (refused.Kept (record { number = n }) e) (refused.Ended e))) ≡ Err e
plain_refused true n e = refl
plain_refused false n e = refl

pub plain_grant : (s : Stage) (n : ℕ) (o : Result (Option Span) Refusal) (r : Result (Option (Grant × Span)) Refused) → r ≡ grant_for s n o → plain r ≡ o
plain_grant s n (Ok (Some w)) r k = ap plain k
plain_grant s n (Ok None) r k = ap plain k
plain_grant s n (Err e) r k = ap plain k ∙ plain_refused (waits s) n e

-- a window that was collected can be handed back
module _ (x : Rack) (n : ℕ) where
  collects_at : (t : Ticket) (p : Phase) (w : Span) → find (named n) x.tickets ≡ Some t → t.phase ≡ p → (collect_at x t p).answer ≡ Ok (Some w)
      → (back (collect_at x t p).rack n).answer ≡ Ok tt
  collects_at t phase.Granted w e q k =
      let own = eqb-true t.number n (find_in (named n) x.tickets t e).1 in
      rw (own, find_same n (λ u. with_phase phase.Out u ∷ []) x.tickets t (with_phase phase.Out t) e refl own) refl
  collects_at t phase.Without w e q k = cc
  collects_at t phase.Forward w e q k = cc
  collects_at t (phase.Backing next) w e q k = cc
  collects_at t phase.Out w e q k = cc
  collects_at t phase.Closing w e q k = cc

  collects_found : (o : Option Ticket) (w : Span) → find (named n) x.tickets ≡ o → (at_ticket x (λ t. collect_at x t t.phase) o).answer ≡ Ok (Some w)
      → (back (at_ticket x (λ t. collect_at x t t.phase) o).rack n).answer ≡ Ok tt
  collects_found None w e k = cc
  collects_found (Some t) w e k = collects_at t t.phase w e refl k

  pub back_after : (w : Span) → (collect x n).answer ≡ Ok (Some w) → (back (collect x n).rack n).answer ≡ Ok tt
  back_after w k = collects_found (find (named n) x.tickets) w refl k

-- so handing its window back is never refused
pub back_served : {P : Type 0} (y z : Rack) (n g : ℕ) (w : Span) (e : Refusal) → (collect y n).answer ≡ Ok (Some w) → z ≡ (collect y n).rack → g ≡ n → (back z g).answer ≡ Err e → P
back_served y z n g w e k b q r =
    let served = back_after y n w k in
    let same : (back z g).answer ≡ (back (collect y n).rack n).answer = ap (λ (v : Rack). (back v g).answer) b ∙ ap (λ (i : ℕ). (back (collect y n).rack i).answer) q in
    cc
