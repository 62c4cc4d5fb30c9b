-- Wrong rules: variants of the rules with one part turned, and for each a short list of calls after which a law is false.
use Rattle.std.specs.Prelude.{◌≡◌, ℕ, zero, suc, min, Bool, true, false, cond, not, ◌&&◌, ◌||◌, List, [], ◌∷◌, ◌++◌, map, Some, None, Ok, Err, Option, Result, nat_lt}
use Rattle.rules.specs.declared.slot.Slot.{Slot}
use Rattle.rules.specs.declared.slot.Slot.TheVariants.{Vacant, Marked}
use Rattle.rules.specs.declared.ticket.Ticket.{Ticket}
use Rattle.rules.specs.declared.ticket.Phase.{Phase}
use Rattle.rules.specs.declared.report.Action.{Action}
use Rattle.rules.specs.declared.report.Report.{Report}
use Rattle.rules.specs.declared.refusal.Refusal.{Refusal}
use Rattle.rules.specs.declared.refusal.Refusal.TheVariants as refusal
use Rattle.rules.specs.Lists.{any_of, all_of, find, edit}
use Rattle.rules.specs.declared.rack.Sizes.{Sizes}
use Rattle.rules.specs.Rack.{Rack, opened, seeking, soft, hard, named, cells, has_vacant, is_wall, with}
use Rattle.rules.specs.Step.{led, is_forward, ahead, past, passed_to, duty, action_of, after, column_of, row_told, slots_after}
use Rattle.rules.specs.Choosers.{asked, lowest_row}
use Rattle.rules.specs.Calls.{Outcome, openable, book, accepted, at, changed, collect, withdrawn, drop_at, returned, back_at}
use Rattle.rules.specs.History.{Event}
use Rattle.rules.specs.Laws.{BooksBalance, TicketsMatchHistory, BookedSlotsAreStandingWindows, NoGrantGoesBackTwice}
use Rattle.rules.specs.Laws.{EveryDecisionIsTheLedgersNextEntry, WaitingEnds, AStepIsAlwaysServed, NothingWraps}
use Rattle.rules.specs.Play.{Call, Told, tells, turned}
use Rattle.rules.specs.Cases.{wipe, over, without, grant, mark, wall}

-- the parts of the rules that a variant may turn: rule 1; what is a wall in rule 2; the action of rule 3 and what becomes of the
-- ticket; the row that a mark takes; drop and back of a ticket that was found
pub record Rules : Type 0 where
  pub led : Rack → Ticket → Ticket
  pub is_wall : Rack → ℕ → Bool
  pub action_of : Rack → Ticket → Action
  pub after : ℕ → Action → Ticket → List Ticket
  pub row : Rack → Ticket → ℕ
  pub drop_at : Rack → Ticket → Phase → Outcome Unit
  pub back_at : Rack → Ticket → Phase → Outcome Unit

module _ (v : Rules) where
  abbrev pub blocked_by : Rack → Ticket → Bool
  blocked_by r t =
      is_forward t.phase && (nat_lt t.marks t.request.length && (not (past r.sizes t) && (not (has_vacant r (ahead t)) && not (v.is_wall r (ahead t)))))

  abbrev pub walk_by : ℕ → Rack → Ticket → Ticket
  walk_by zero r t = t
  walk_by (suc n) r t = cond (blocked_by r t) (walk_by n r (passed_to r t)) t

  abbrev pub due_for_by : Rack → Option Ticket → Result Ticket Refusal
  due_for_by r None = Err refusal.Unknown
  due_for_by r (Some s) = cond (soft s.phase) (Ok (walk_by (suc r.sizes.columns) r (v.led r s))) (Err refusal.Stage)

  abbrev pub due_by : Rack → ℕ → Result Ticket Refusal
  due_by r n = due_for_by r (find (named n) r.tickets)

  abbrev pub report_by : Rack → Ticket → Report
  report_by r t = let a = v.action_of r t in record { number = t.number; action = a; column = column_of a t; row = row_told r t (v.row r t) a }

  abbrev pub acted_by : Rack → Ticket → Rack
  acted_by r t =
      let a = v.action_of r t in
      with r (edit (named t.number) (v.after r.handbacks a) r.tickets) (slots_after r t (column_of a t) (row_told r t (v.row r t) a) a)

  abbrev pub stepped_by : Told → Ticket → Told
  stepped_by p t = record { history = Event.stepped (report_by p.rack t) ∷ p.history; rack = acted_by p.rack t }

  -- at most k steps that name n, until its ticket is not soft
  abbrev pub steps_by : ℕ → ℕ → Told → Told
  steps_by zero n p = p
  steps_by (suc k) n p = elim (due_by p.rack n) [ Err e ↦ p | Ok t ↦ steps_by k n (stepped_by p t) ]

  -- a call by these rules
  abbrev pub turned_by : Told → Call → Told
  turned_by p (Call.booking q) = tells p (λ n. Event.taken n q) (book p.rack q)
  turned_by p (Call.stepping n) = steps_by 1 n p
  turned_by p (Call.driving n budget room) = steps_by (min budget room) n p
  turned_by p (Call.collecting n) = tells p (λ _. Event.collected n) (collect p.rack n)
  turned_by p (Call.dropping n) = tells p (λ _. Event.dropped n) (at p.rack n (λ t. v.drop_at p.rack t t.phase))
  turned_by p (Call.returning n) = tells p (λ _. Event.returned n) (at p.rack n (λ t. v.back_at p.rack t t.phase))

  abbrev pub played_by : Told → List Call → Told
  played_by p [] = p
  played_by p (c ∷ cs) = played_by (turned_by p c) cs

-- the rules as they are, with the lowest row at each mark
abbrev pub right : Rules
right = record { led = led; is_wall = is_wall; action_of = action_of; after = after; row = λ r t. lowest_row (asked r t); drop_at = drop_at; back_at = back_at }

abbrev pub is_closing : Phase → Bool
is_closing p = soft p && not (seeking p)

-- a column full of marks is passed as if it were a wall
abbrev pub full_as_wall : Rules
full_as_wall =
    record { led = led; is_wall = λ r c. not (has_vacant r c); action_of = action_of; after = after; row = right.row; drop_at = drop_at; back_at = back_at }

-- the slots of a closing ticket are still read as booked
abbrev pub reads_booked : List Ticket → Slot → Bool
reads_booked ts Vacant = false
reads_booked ts (Marked n) = any_of (λ t. named n t && (hard t.phase || is_closing t.phase)) ts

abbrev pub closing_as_booked : Rules
closing_as_booked =
    record {
      led = led;
      is_wall = λ r c. all_of (reads_booked r.tickets) (cells r c);
      action_of = action_of;
      after = after;
      row = right.row;
      drop_at = drop_at;
      back_at = back_at;
    }

-- no search starts over: a window is granted though a hand-back came after the search began
abbrev pub never_over : Rules
never_over =
    record {
      led = led;
      is_wall = is_wall;
      action_of = λ r t. duty r.sizes t.seen (has_vacant r (ahead t)) t;
      after = after;
      row = right.row;
      drop_at = drop_at;
      back_at = back_at;
    }

-- a hand-back is not counted
abbrev pub uncounted : Rack → Outcome Unit → Outcome Unit
uncounted r o = record { answer = o.answer; rack = with r o.rack.tickets o.rack.slots }

abbrev pub back_uncounted : Rules
back_uncounted =
    record { led = led; is_wall = is_wall; action_of = action_of; after = after; row = right.row; drop_at = drop_at; back_at = λ r t p. uncounted r (back_at r t p) }

-- a step works on the ticket that it names, however far ahead
abbrev pub no_lead : Rules
no_lead = record { led = λ r s. s; is_wall = is_wall; action_of = action_of; after = after; row = right.row; drop_at = drop_at; back_at = back_at }

-- a search that starts over keeps the hand-back count that it saw first
abbrev pub with_seen : ℕ → Ticket → Ticket
with_seen k t = record { number = t.number; request = t.request; phase = t.phase; first = t.first; marks = t.marks; seen = k }

abbrev pub seen_kept : Rules
seen_kept =
    record {
      led = led;
      is_wall = is_wall;
      action_of = action_of;
      after = λ n a t. map (with_seen t.seen) (after n a t);
      row = right.row;
      drop_at = drop_at;
      back_at = back_at;
    }

-- a closing ticket may be handed back again
abbrev pub back_again : Rules
back_again =
    record {
      led = led;
      is_wall = is_wall;
      action_of = action_of;
      after = after;
      row = right.row;
      drop_at = drop_at;
      back_at = λ r t p. cond (is_closing p) (accepted tt (returned r t)) (back_at r t p);
    }

-- a granted ticket may be dropped
abbrev pub drop_granted : Rules
drop_granted =
    record {
      led = led;
      is_wall = is_wall;
      action_of = action_of;
      after = after;
      row = right.row;
      drop_at = λ r t p. cond (hard p) (accepted tt (changed r t withdrawn)) (drop_at r t p);
      back_at = back_at;
    }

-- a dropped ticket leaves the board at once, and its marks stay
abbrev pub drop_unwiped : Rules
drop_unwiped =
    record {
      led = led;
      is_wall = is_wall;
      action_of = action_of;
      after = after;
      row = right.row;
      drop_at = λ r t p. cond (seeking p) (accepted tt (changed r t (λ u. []))) (drop_at r t p);
      back_at = back_at;
    }

-- a mark takes row 1, vacant or not
abbrev pub row_1 : Rules
row_1 = record { led = led; is_wall = is_wall; action_of = action_of; after = after; row = λ r t. 1; drop_at = drop_at; back_at = back_at }

-- a new rack
abbrev pub sized : ℕ → ℕ → ℕ → ℕ → Sizes
sized rows columns places lead = record { rows = rows; columns = columns; places = places; lead = lead }

abbrev pub fresh : Sizes → Told
fresh z = record { history = []; rack = opened z 1 }

-- the calls, by these rules, on a new rack of these sizes tell this history, and the law is false of it and of the rack that they leave
pub record Breaks (v : Rules) (z : Sizes) (calls : List Call) (told : List Event) (Law : List Event → Rack → Type 0) : Type 0 where
  pub opens : openable z 1 ≡ true
  pub tells_it : (played_by v (fresh z) calls).history ≡ told
  pub is_false : Law told (played_by v (fresh z) calls).rack → ⊥

-- one column, from its start 0 on
abbrev pub one : Call
one = Call.booking (record { start = 0; length = 1 })

abbrev pub taken : ℕ → Event
taken n = Event.taken n (record { start = 0; length = 1 })

-- ticket 2 passes ticket 1's mark, and has no window, though nothing is granted yet
abbrev pub full_calls : List Call
full_calls = one ∷ one ∷ Call.stepping 1 ∷ Call.driving 2 2 2 ∷ []

abbrev pub full_told : List Event
full_told = Event.stepped (without 2 0) ∷ Event.stepped (wall 2 0) ∷ Event.stepped (mark 1 0 1) ∷ taken 2 ∷ taken 1 ∷ []

-- ticket 2 passes the mark of ticket 1, which is dropped, and has no window on an empty ledger
abbrev pub closing_calls : List Call
closing_calls = one ∷ Call.stepping 1 ∷ Call.dropping 1 ∷ one ∷ Call.driving 2 2 2 ∷ []

abbrev pub closing_told : List Event
closing_told =
    Event.stepped (without 2 0) ∷ Event.stepped (wall 2 0) ∷ taken 2 ∷ Event.dropped 1 ∷ Event.stepped (mark 1 0 1) ∷ taken 1 ∷ []

-- ticket 1 goes back after ticket 2 has passed it; ticket 2 is granted column 1, though column 0 is free in the ledger
abbrev pub missed_calls : List Call
missed_calls = one ∷ Call.driving 1 2 2 ∷ Call.collecting 1 ∷ one ∷ Call.stepping 2 ∷ Call.returning 1 ∷ Call.driving 2 2 2 ∷ []

abbrev pub missed_told : List Event
missed_told =
    Event.stepped (grant 2 1) ∷ Event.stepped (mark 2 1 1) ∷ Event.returned 1 ∷ Event.stepped (wall 2 0) ∷ taken 2
    ∷ Event.collected 1 ∷ Event.stepped (grant 1 0) ∷ Event.stepped (mark 1 0 1) ∷ taken 1 ∷ []

-- ticket 1 is never worked on: booking n is taken, granted, collected, handed back and wiped, again and again
abbrev pub served_calls : ℕ → List Call
served_calls n = one ∷ Call.driving n 2 2 ∷ Call.collecting n ∷ Call.returning n ∷ Call.stepping n ∷ []

abbrev pub passed_calls : List Call
passed_calls = one ∷ served_calls 2 ++ served_calls 3 ++ served_calls 4 ++ served_calls 5

abbrev pub served_told : ℕ → List Event
served_told n =
    Event.stepped (wipe n 0 1) ∷ Event.returned n ∷ Event.collected n ∷ Event.stepped (grant n 0) ∷ Event.stepped (mark n 0 1) ∷ taken n ∷ []

abbrev pub passed_told : List Event
passed_told = served_told 5 ++ served_told 4 ++ served_told 3 ++ served_told 2 ++ (taken 1 ∷ [])

-- ticket 1 goes back while ticket 2 searches; then ticket 2 marks, starts over and wipes, again and again
abbrev pub restless_calls : List Call
restless_calls = one ∷ Call.driving 1 2 2 ∷ Call.collecting 1 ∷ one ∷ Call.returning 1 ∷ Call.driving 2 13 13 ∷ []

abbrev pub restless_round : List Event
restless_round = Event.stepped (wipe 2 0 1) ∷ Event.stepped (over 2 0) ∷ Event.stepped (mark 2 0 1) ∷ []

abbrev pub restless_told : List Event
restless_told =
    restless_round ++ restless_round ++ restless_round ++ restless_round
    ++ (Event.stepped (wipe 1 0 1) ∷ Event.returned 1 ∷ taken 2
    ∷ Event.collected 1 ∷ Event.stepped (grant 1 0) ∷ Event.stepped (mark 1 0 1) ∷ taken 1 ∷ [])

-- ticket 1 is handed back twice
abbrev pub twice_calls : List Call
twice_calls = one ∷ Call.driving 1 2 2 ∷ Call.collecting 1 ∷ Call.returning 1 ∷ Call.returning 1 ∷ []

abbrev pub twice_told : List Event
twice_told =
    Event.returned 1 ∷ Event.returned 1 ∷ Event.collected 1 ∷ Event.stepped (grant 1 0) ∷ Event.stepped (mark 1 0 1) ∷ taken 1 ∷ []

-- booking 1 is granted, and then withdrawn
abbrev pub both_calls : List Call
both_calls = one ∷ Call.driving 1 2 2 ∷ Call.dropping 1 ∷ []

abbrev pub both_told : List Event
both_told = Event.dropped 1 ∷ Event.stepped (grant 1 0) ∷ Event.stepped (mark 1 0 1) ∷ taken 1 ∷ []

-- ticket 2 is blocked by a mark that is no ticket's
abbrev pub stuck_calls : List Call
stuck_calls = one ∷ Call.stepping 1 ∷ Call.dropping 1 ∷ one ∷ []

abbrev pub stuck_told : List Event
stuck_told = taken 2 ∷ Event.dropped 1 ∷ Event.stepped (mark 1 0 1) ∷ taken 1 ∷ []

-- tickets 1 and 2 are granted the same slot
abbrev pub shared_calls : List Call
shared_calls = one ∷ one ∷ Call.driving 1 2 2 ∷ Call.driving 2 2 2 ∷ []

abbrev pub shared_told : List Event
shared_told =
    Event.stepped (grant 2 0) ∷ Event.stepped (mark 2 0 1) ∷ Event.stepped (grant 1 0) ∷ Event.stepped (mark 1 0 1) ∷ taken 2 ∷ taken 1 ∷ []

abbrev pub LedgerLaw : List Event → Rack → Type 0
LedgerLaw h x = EveryDecisionIsTheLedgersNextEntry x.sizes h

abbrev pub WaitingLaw : List Event → Rack → Type 0
WaitingLaw h x = WaitingEnds x.sizes h

-- each law is false under some wrong rule. Turned in no part, these rules are those of the calls
pub record WrongRulesBreakTheLaws : Type 0 where
  pub right_rules : (p : Told) (c : Call) → turned_by right p c ≡ turned p (λ past q. lowest_row q) c
  -- a decision is not the ledger's
  pub passing_a_full_column : Breaks full_as_wall (sized 1 1 2 1) full_calls full_told LedgerLaw
  pub reading_closing_as_booked : Breaks closing_as_booked (sized 1 1 2 1) closing_calls closing_told LedgerLaw
  pub granting_after_a_hand_back : Breaks never_over (sized 1 2 2 1) missed_calls missed_told LedgerLaw
  pub not_counting_a_hand_back : Breaks back_uncounted (sized 1 2 2 1) missed_calls missed_told LedgerLaw
  -- a booking waits too long
  pub leaving_out_the_lead : Breaks no_lead (sized 1 1 2 0) passed_calls passed_told WaitingLaw
  pub keeping_what_was_seen : Breaks seen_kept (sized 1 1 2 0) restless_calls restless_told WaitingLaw
  -- a grant goes back twice, and the hand-backs outnumber the bookings
  pub handing_back_twice : Breaks back_again (sized 1 1 1 0) twice_calls twice_told (λ h x. NoGrantGoesBackTwice h)
  pub counting_it_twice : Breaks back_again (sized 1 1 1 0) twice_calls twice_told (λ h x. NothingWraps x)
  -- a booking is both withdrawn and standing; its ticket is not; its window's slot is not booked
  pub dropping_a_grant : Breaks drop_granted (sized 1 1 1 0) both_calls both_told (λ h x. BooksBalance h)
  pub losing_its_ticket : Breaks drop_granted (sized 1 1 1 0) both_calls both_told TicketsMatchHistory
  pub losing_its_slot : Breaks drop_granted (sized 1 1 1 0) both_calls both_told BookedSlotsAreStandingWindows
  -- a slot is in two windows
  pub taking_a_row_twice : Breaks row_1 (sized 2 1 2 1) shared_calls shared_told BookedSlotsAreStandingWindows
  -- a step that names a soft ticket finds nothing to do
  pub leaving_marks_behind : Breaks drop_unwiped (sized 1 1 2 0) stuck_calls stuck_told (λ h x. AStepIsAlwaysServed x)
