-- Each call as one definition of its whole outcome, refusals among its cases in the order in which they are tried.
use Rattle.std.specs.Prelude.{ℕ, zero, suc, ◌+◌, min, Bool, cond, not, ◌&&◌, List, [], ◌∷◌, ◌++◌, length, Some, None, Ok, Err, Option, Result, ◌==◌, nat_le, nat_lt}
use Rattle.rules.specs.declared.span.Span.{Span}
use Rattle.rules.specs.declared.ticket.Request.{Request}
use Rattle.rules.specs.declared.ticket.Ticket.{Ticket}
use Rattle.rules.specs.declared.ticket.Stage.{Stage}
use Rattle.rules.specs.declared.ticket.Stage.TheVariants as stage
use Rattle.rules.specs.declared.ticket.Phase.{Phase}
use Rattle.rules.specs.declared.ticket.Phase.TheVariants.{Forward, Backing, Without, Granted, Out, Closing}
use Rattle.rules.specs.declared.report.Report.{Report}
use Rattle.rules.specs.declared.refusal.Refusal.{Refusal}
use Rattle.rules.specs.declared.refusal.Refusal.TheVariants as refusal
use Rattle.rules.specs.Words.{stage_of, is_mark}
use Rattle.rules.specs.Lists.{find, edit, count_of}
use Rattle.rules.specs.declared.rack.Sizes.{Sizes}
use Rattle.rules.specs.Rack.{Rack, opened, named, is_vacant, cells, row_of, with}
use Rattle.rules.specs.Step.{due, action_of, report_of, acted, with_phase}
use Rattle.rules.specs.Choosers.{Meaning, asked}

-- what a call answers, and the rack that it leaves
pub record Outcome (A : Type 0) : Type 0 where
  pub answer : Result A Refusal
  pub rack : Rack

-- a refusal leaves the rack as it was
abbrev pub refused : {A : Type 0} → Rack → Refusal → Outcome A
refused r e = record { answer = Err e; rack = r }

abbrev pub accepted : {A : Type 0} → A → Rack → Outcome A
accepted a r = record { answer = Ok a; rack = r }

-- lo to hi, both among them
abbrev pub within : ℕ → ℕ → ℕ → Bool
within lo hi n = nat_le lo n && nat_le n hi

-- the largest number of a booking
abbrev pub last_number : ℕ
last_number = 2000000000

-- the limits of an opening
abbrev pub openable : Sizes → ℕ → Bool
openable z first =
    within 1 16 z.rows && (within 1 256 z.columns && (within 1 64 z.places && (within 0 64 z.lead && within 1 1000000000 first)))

-- open: a new rack, whatever stood there
abbrev pub open' : Rack → Sizes → ℕ → Outcome Unit
open' r z first = cond (openable z first) (accepted tt (opened z first)) (refused r refusal.Limits)

-- book, whether it is taken: why not, if it is not
abbrev pub admission : Rack → Request → Option Refusal
admission r q =
    cond (not (within 1 64 q.length && nat_le (q.start + q.length) r.sizes.columns)) (Some refusal.Columns)
    (cond (nat_lt last_number r.next) (Some refusal.Numbers)
    (cond (nat_le r.sizes.places (length r.tickets)) (Some refusal.Places) None))

-- a booking starts forward from its start, with no mark
abbrev pub ticket_for : Rack → Request → Ticket
ticket_for r q = record { number = r.next; request = q; phase = Forward; first = q.start; marks = 0; seen = r.handbacks }

-- book, what it does: a ticket with the next number
abbrev pub booked : Rack → Request → Rack
booked r q =
    record { sizes = r.sizes; first = r.first; next = suc r.next; handbacks = r.handbacks; tickets = r.tickets ++ (ticket_for r q ∷ []); slots = r.slots }

abbrev pub book_with : Rack → Request → Option Refusal → Outcome ℕ
book_with r q (Some e) = refused r e
book_with r q None = accepted r.next (booked r q)

abbrev pub book : Rack → Request → Outcome ℕ
book r q = book_with r q (admission r q)

-- what a call does with the ticket that it names
abbrev pub at_ticket : {A : Type 0} → Rack → (Ticket → Outcome A) → Option Ticket → Outcome A
at_ticket r f None = refused r refusal.Unknown
at_ticket r f (Some t) = f t

abbrev pub at : {A : Type 0} → Rack → ℕ → (Ticket → Outcome A) → Outcome A
at r n f = at_ticket r f (find (named n) r.tickets)

-- the rack with ticket t changed
abbrev pub changed : Rack → Ticket → (Ticket → List Ticket) → Rack
changed r t f = with r (edit (named t.number) f r.tickets) r.slots

-- collect: granted turns out and its span is answered; without leaves the board
abbrev pub collect_at : Rack → Ticket → Phase → Outcome (Option Span)
collect_at r t Granted = accepted (Some (record { first = t.first; length = t.request.length })) (changed r t (λ u. with_phase Out u ∷ []))
collect_at r t Without = accepted None (changed r t (λ u. []))
collect_at r t Forward = refused r refusal.Stage
collect_at r t (Backing next) = refused r refusal.Stage
collect_at r t Out = refused r refusal.Stage
collect_at r t Closing = refused r refusal.Stage

abbrev pub collect : Rack → ℕ → Outcome (Option Span)
collect r n = at r n (λ t. collect_at r t t.phase)

-- drop: seeking turns closing, or leaves the board if it has no mark
abbrev pub withdrawn : Ticket → List Ticket
withdrawn t = cond (t.marks == 0) [] (with_phase Closing t ∷ [])

abbrev pub drop_at : Rack → Ticket → Phase → Outcome Unit
drop_at r t Forward = accepted tt (changed r t withdrawn)
drop_at r t (Backing next) = accepted tt (changed r t withdrawn)
drop_at r t Without = refused r refusal.Stage
drop_at r t Granted = refused r refusal.Stage
drop_at r t Out = refused r refusal.Stage
drop_at r t Closing = refused r refusal.Stage

abbrev pub drop' : Rack → ℕ → Outcome Unit
drop' r n = at r n (λ t. drop_at r t t.phase)

-- back: out turns closing, and the hand-back count rises
abbrev pub returned : Rack → Ticket → Rack
returned r t =
    record {
      sizes = r.sizes;
      first = r.first;
      next = r.next;
      handbacks = suc r.handbacks;
      tickets = edit (named t.number) (λ u. with_phase Closing u ∷ []) r.tickets;
      slots = r.slots;
    }

abbrev pub back_at : Rack → Ticket → Phase → Outcome Unit
back_at r t Out = accepted tt (returned r t)
back_at r t Forward = refused r refusal.Stage
back_at r t (Backing next) = refused r refusal.Stage
back_at r t Without = refused r refusal.Stage
back_at r t Granted = refused r refusal.Stage
back_at r t Closing = refused r refusal.Stage

abbrev pub back : Rack → ℕ → Outcome Unit
back r n = at r n (λ t. back_at r t t.phase)

-- row: the row of the mark in the window's column j. The rack stays
abbrev pub row_at : Rack → ℕ → Ticket → Phase → Result ℕ Refusal
row_at r j t Out = cond (nat_lt j t.request.length) (Ok (row_of t.number (cells r (t.first + j)))) (Err refusal.Columns)
row_at r j t Forward = Err refusal.Stage
row_at r j t (Backing next) = Err refusal.Stage
row_at r j t Without = Err refusal.Stage
row_at r j t Granted = Err refusal.Stage
row_at r j t Closing = Err refusal.Stage

abbrev pub row_found : Rack → ℕ → Option Ticket → Result ℕ Refusal
row_found r j None = Err refusal.Unknown
row_found r j (Some t) = row_at r j t t.phase

abbrev pub row : Rack → ℕ → ℕ → Result ℕ Refusal
row r n j = row_found r j (find (named n) r.tickets)

-- show: how many slots of the column hold a mark. The rack stays
abbrev pub show : Rack → ℕ → Result ℕ Refusal
show r c = cond (nat_lt c r.sizes.columns) (Ok (count_of (λ s. not (is_vacant s)) (cells r c))) (Err refusal.Columns)

-- the stage that a number is in: idle where no ticket has it
abbrev pub stage_found : Option Ticket → Stage
stage_found None = stage.Idle
stage_found (Some t) = stage_of t.phase

abbrev pub stage_at : Rack → ℕ → Stage
stage_at r n = stage_found (find (named n) r.tickets)

-- what steps leave: their reports in order, the rack, and what the chooser then holds
pub record Ran (S : Type 0) : Type 0 where
  pub reports : List Report
  pub rack : Rack
  pub held : S

-- what a step or a drive answers, and what it leaves
pub record Moved (A S : Type 0) : Type 0 where
  pub answer : Result A Refusal
  pub ran : Ran S

-- no step made
abbrev pub still : {S : Type 0} → Rack → S → Ran S
still r s = record { reports = []; rack = r; held = s }

module _ {S : Type 0} (m : Meaning S) where
  -- the row that the chooser would pick for a mark of t
  abbrev pub row_for : Rack → Ticket → S → ℕ
  row_for r t s = m.row s (asked r t)

  -- a mark consults the chooser, and nothing else does
  abbrev pub held_after : Rack → Ticket → S → S
  held_after r t s = cond (is_mark (action_of r t)) (m.then s (asked r t)) s

  -- step: one action of one ticket
  abbrev pub step_with : Rack → S → Result Ticket Refusal → Moved Report S
  step_with r s (Err e) = record { answer = Err e; ran = still r s }
  step_with r s (Ok t) =
      record {
        answer = Ok (report_of r t (row_for r t s));
        ran = record { reports = report_of r t (row_for r t s) ∷ []; rack = acted r t (row_for r t s); held = held_after r t s };
      }

  abbrev pub step : Rack → ℕ → S → Moved Report S
  step r n s = step_with r s (due r n)

  -- a step of t, and what followed it
  abbrev pub onward : Rack → Ticket → S → Ran S → Ran S
  onward r t s rest = record { reports = report_of r t (row_for r t s) ∷ rest.reports; rack = rest.rack; held = rest.held }

  -- at most k steps that name n, until its ticket is not soft
  abbrev pub steps : ℕ → Rack → ℕ → S → Ran S
  steps zero r n s = still r s
  steps (suc k) r n s = elim (due r n) [ Err e ↦ still r s | Ok t ↦ onward r t s (steps k (acted r t (row_for r t s)) n (held_after r t s)) ]

  -- drive: steps until the ticket is not soft, the budget is made or the journal, which has room for some reports, is full
  abbrev pub drive_with : Rack → ℕ → ℕ → ℕ → S → Result Ticket Refusal → Moved (ℕ × Stage) S
  drive_with r n budget room s (Err e) = record { answer = Err e; ran = still r s }
  drive_with r n budget room s (Ok t) =
      let ran = steps (min budget room) r n s in
      cond (room == 0) (record { answer = Err refusal.Full; ran = still r s })
      (record { answer = Ok (length ran.reports, stage_at ran.rack n); ran = ran })

  abbrev pub drive : Rack → ℕ → ℕ → ℕ → S → Moved (ℕ × Stage) S
  drive r n budget room s = drive_with r n budget room s (due r n)
