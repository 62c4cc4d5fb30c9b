-- What holds of every history that calls on a new rack can have, and of the rack that it leads to.
use Rattle.std.specs.Prelude.{◌≡◌, ℕ, suc, ◌+◌, ◌-◌, ◌*◌, ◌<◌, ◌≤◌, Bool, true, false, ◌&&◌, List, [], ◌∷◌, ◌++◌, map, reverse, length, Some, None, Ok, Err, Result, ◌≢◌, nat_eq, slice_index_or}
use Rattle.rules.specs.declared.refusal.Refusal.{Refusal}
use Rattle.rules.specs.declared.slot.Slot.TheVariants.{Vacant}
use Rattle.rules.specs.declared.ticket.Ticket.{Ticket}
use Rattle.rules.specs.declared.report.Action.{Action}
use Rattle.rules.specs.declared.report.Action.TheVariants as action
use Rattle.rules.specs.declared.report.Report.{Report}
use Rattle.rules.specs.Lists.{unit, any_of, count_of, find}
use Rattle.rules.specs.declared.rack.Sizes.{Sizes}
use Rattle.rules.specs.Rack.{Rack, seeking, soft, hard, named, is_booked, cells}
use Rattle.rules.specs.Step.{blocked, met, worked, due, acted}
use Rattle.rules.specs.Calls.{last_number}
use Rattle.rules.specs.History.{Event, Fair, Reaches}
use Rattle.rules.specs.Ledger.{ledger, request_of, Answers}
use Rattle.rules.specs.Accounts.{returns, is_taken, is_undecided, is_withdrawn, is_denied, is_standing, is_returned, kinds, numbers, tally, in_window, waited}

-- each number taken was taken once and is of exactly one kind, and a number never taken is of none; so the counts add up
pub record BooksBalance (h : List Event) : Type 0 where
  pub taken_once : (n : ℕ) → count_of (λ m. nat_eq m n) (numbers h) ≡ unit (is_taken h n)
  pub one_kind : (n : ℕ) → kinds h n ≡ unit (is_taken h n)
  pub counts : length (numbers h) ≡ tally is_undecided h + tally is_withdrawn h + tally is_denied h + tally is_standing h + tally is_returned h

-- the seeking tickets are exactly the undecided bookings; those granted or out exactly the standing grants
pub record TicketsMatchHistory (h : List Event) (x : Rack) : Type 0 where
  pub undecided : (n : ℕ) → any_of (λ t. named n t && seeking t.phase) x.tickets ≡ is_undecided h n
  pub standing : (n : ℕ) → any_of (λ t. named n t && hard t.phase) x.tickets ≡ is_standing h n

-- column c and row are on the board
abbrev pub OnBoard : Rack → ℕ → ℕ → Type 0
OnBoard x c row = (c < x.sizes.columns) × (1 ≤ row) × (row ≤ x.sizes.rows)

-- the slot in column c and row is booked
abbrev pub booked_at : Rack → ℕ → ℕ → Bool
booked_at x c row = is_booked x.tickets (slice_index_or (cells x c) (row - 1) Vacant)

-- a slot of the board is booked if and only if it is a slot of a standing grant's window; no slot is in two windows, and all are on the board
pub record BookedSlotsAreStandingWindows (h : List Event) (x : Rack) : Type 0 where
  pub booked : (c row : ℕ) → OnBoard x c row → booked_at x c row ≡ true → (n : ℕ) × (in_window h n c row ≡ true)
  pub windows : (n c row : ℕ) → in_window h n c row ≡ true → OnBoard x c row × (booked_at x c row ≡ true)
  pub one_owner : (n m c row : ℕ) → in_window h n c row ≡ true → in_window h m c row ≡ true → n ≡ m

-- no grant goes back twice
abbrev pub NoGrantGoesBackTwice : List Event → Type 0
NoGrantGoesBackTwice h = (n : ℕ) → count_of (returns n) h ≤ 1

-- a report that decides tells what the ledger of the history before it gives: a grant its column, a without nothing
abbrev pub DecidedRightly : Sizes → Report → Action → List Event → Type 0
DecidedRightly z r action.Grant h = Answers z (ledger h) (request_of r.number h) (Some r.column)
DecidedRightly z r action.Without h = Answers z (ledger h) (request_of r.number h) None
DecidedRightly z r action.Wipe h = Unit
DecidedRightly z r action.Over h = Unit
DecidedRightly z r action.Mark h = Unit
DecidedRightly z r action.Wall h = Unit

-- so does every report of the history
abbrev pub EveryDecisionIsTheLedgersNextEntry : Sizes → List Event → Type 0
EveryDecisionIsTheLedgersNextEntry z [] = Unit
EveryDecisionIsTheLedgersNextEntry z (Event.taken m q ∷ h) = EveryDecisionIsTheLedgersNextEntry z h
EveryDecisionIsTheLedgersNextEntry z (Event.stepped r ∷ h) = DecidedRightly z r r.action h × EveryDecisionIsTheLedgersNextEntry z h
EveryDecisionIsTheLedgersNextEntry z (Event.collected m ∷ h) = EveryDecisionIsTheLedgersNextEntry z h
EveryDecisionIsTheLedgersNextEntry z (Event.dropped m ∷ h) = EveryDecisionIsTheLedgersNextEntry z h
EveryDecisionIsTheLedgersNextEntry z (Event.returned m ∷ h) = EveryDecisionIsTheLedgersNextEntry z h

-- the longest wait, in steps: (places + lead) squared, times twice the columns and one
abbrev pub longest_wait : Sizes → ℕ
longest_wait z = (z.places + z.lead) * (z.places + z.lead) * (2 * z.columns + 1)

-- at every moment of the history, a booking still undecided has seen fewer reports than that since it was taken
abbrev pub WaitingEnds : Sizes → List Event → Type 0
WaitingEnds z h = (later earlier : List Event) → h ≡ later ++ earlier → (n : ℕ) → is_undecided earlier n ≡ true → waited n earlier < longest_wait z

-- a step that names the soft ticket s is served: it comes by each ticket once and ends at one that is soft and not blocked; where that
-- one marks, there is a vacant row to take; it changes that ticket, and no other
pub record Served (x : Rack) (s : Ticket) : Type 0 where
  pub is_due : due x s.number ≡ Ok (worked x s)
  pub on_board : find (named (worked x s).number) x.tickets ≡ Some (worked x s)
  pub is_soft : soft (worked x s).phase ≡ true
  pub not_blocked : blocked x (worked x s) ≡ false
  pub met_once : (n : ℕ) → count_of (named n) (met x s) ≤ 1
  pub some_row : (row : ℕ) × Fair x (worked x s) row
  pub moves : (row : ℕ) → find (named (worked x s).number) (acted x (worked x s) row).tickets ≢ Some (worked x s)
  pub no_other : (row n : ℕ) → (n ≢ (worked x s).number) → find (named n) (acted x (worked x s) row).tickets ≡ find (named n) x.tickets

abbrev pub AStepIsAlwaysServed : Rack → Type 0
AStepIsAlwaysServed x = (n : ℕ) (s : Ticket) → find (named n) x.tickets ≡ Some s → soft s.phase ≡ true → Served x s

-- the hand-back count never exceeds the numbers given out, and those stop at their limit
pub record NothingWraps (x : Rack) : Type 0 where
  pub handbacks_few : x.first + x.handbacks ≤ x.next
  pub numbers_end : x.next ≤ suc last_number

-- all of it
pub record Holds (h : List Event) (x : Rack) : Type 0 where
  pub books_balance : BooksBalance h
  pub tickets_match_history : TicketsMatchHistory h x
  pub booked_slots_are_standing_windows : BookedSlotsAreStandingWindows h x
  pub no_grant_goes_back_twice : NoGrantGoesBackTwice h
  pub every_decision_is_the_ledgers_next_entry : EveryDecisionIsTheLedgersNextEntry x.sizes h
  pub waiting_ends : WaitingEnds x.sizes h
  pub a_step_is_always_served : AStepIsAlwaysServed x
  pub nothing_wraps : NothingWraps x

-- what the answer of a call tells: its event if it is accepted, nothing if it is refused
abbrev pub told : {A : Type 0} → (A → Event) → Result A Refusal → List Event
told f (Ok a) = f a ∷ []
told f (Err e) = []

-- what reports tell, the latest first
abbrev pub reported : List Report → List Event
reported rs = reverse (map Event.stepped rs)

-- the promise of a call on rack x that tells these events and leaves rack y: every history that leads to x, with the events
-- added, leads to y, and all laws hold of it
abbrev pub Carries : List Event → Rack → Rack → Type 0
Carries es x y = (h : List Event) → Reaches h x → Reaches (es ++ h) y × Holds (es ++ h) y

-- every history that leads to a rack holds of it
abbrev pub LawsHold : Type 0
LawsHold = (h : List Event) (x : Rack) → Reaches h x → Holds h x
