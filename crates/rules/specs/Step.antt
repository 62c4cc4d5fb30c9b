-- One step: which ticket it works on (rules 1 and 2), and what that ticket does (rule 3).
use Rattle.std.specs.Prelude.{ℕ, zero, suc, ◌+◌, ◌-◌, Bool, true, false, cond, not, ◌&&◌, ◌||◌, List, [], ◌∷◌, Some, None, Ok, Err, Option, Result, ◌==◌, nat_le, nat_lt}
use Rattle.rules.specs.declared.slot.Slot.{Slot}
use Rattle.rules.specs.declared.slot.Slot.TheVariants.{Vacant, Marked}
use Rattle.rules.specs.declared.ticket.Ticket.{Ticket}
use Rattle.rules.specs.declared.ticket.Phase.{Phase}
use Rattle.rules.specs.declared.ticket.Phase.TheVariants.{Forward, Backing, Without, Granted, Out, Closing}
use Rattle.rules.specs.declared.report.Action.{Action}
use Rattle.rules.specs.declared.report.Action.TheVariants as action
use Rattle.rules.specs.declared.report.Report.{Report}
use Rattle.rules.specs.declared.refusal.Refusal.{Refusal}
use Rattle.rules.specs.declared.refusal.Refusal.TheVariants as refusal
use Rattle.rules.specs.Lists.{find, or_else, edit}
use Rattle.rules.specs.declared.rack.Sizes.{Sizes}
use Rattle.rules.specs.Rack.{Rack, soft, named, cells, has_vacant, is_wall, oldest, holder, row_of, put, with}

-- Rule 1. A step that names s works on the oldest soft ticket, if s is more than the lead ahead of it; otherwise on s
abbrev pub led : Rack → Ticket → Ticket
led r s = let o = or_else (oldest r) s in cond (nat_lt r.sizes.lead (s.number - o.number)) o s

abbrev pub is_forward : Phase → Bool
is_forward Forward = true
is_forward (Backing next) = false
is_forward Without = false
is_forward Granted = false
is_forward Out = false
is_forward Closing = false

-- the column that the ticket comes to next
abbrev pub ahead : Ticket → ℕ
ahead t = t.first + t.marks

-- its window would pass the last column
abbrev pub past : Sizes → Ticket → Bool
past z t = nat_lt z.columns (t.first + t.request.length)

-- Rule 2. A forward ticket that still lacks marks is blocked, if the column ahead has no vacant slot and is no wall
abbrev pub blocked : Rack → Ticket → Bool
blocked r t =
    is_forward t.phase && (nat_lt t.marks t.request.length && (not (past r.sizes t) && (not (has_vacant r (ahead t)) && not (is_wall r (ahead t)))))

-- a blocked ticket passes the step on to the lowest-numbered soft ticket with a mark in that column
abbrev pub passed_to : Rack → Ticket → Ticket
passed_to r t = or_else (holder r (ahead t)) t

-- the tickets that the step comes by, the last one being worked on. Each is further ahead than the one before it, so as many
-- turns as there are columns, and one more, always suffice: see the laws on the walk
abbrev pub walk : ℕ → Rack → Ticket → List Ticket
walk zero r t = t ∷ []
walk (suc n) r t = elim (blocked r t) [ true ↦ t ∷ walk n r (passed_to r t) | false ↦ t ∷ [] ]

abbrev pub last_of : Ticket → List Ticket → Ticket
last_of t [] = t
last_of t (u ∷ us) = last_of u us

abbrev pub met : Rack → Ticket → List Ticket
met r s = walk (suc r.sizes.columns) r (led r s)

-- the ticket that a step naming s works on
abbrev pub worked : Rack → Ticket → Ticket
worked r s = last_of s (met r s)

-- the ticket that a step naming number n works on, or why there is none
abbrev pub due_for : Rack → Option Ticket → Result Ticket Refusal
due_for r None = Err refusal.Unknown
due_for r (Some s) = cond (soft s.phase) (Ok (worked r s)) (Err refusal.Stage)

abbrev pub due : Rack → ℕ → Result Ticket Refusal
due r n = due_for r (find (named n) r.tickets)

-- it is closing or backs out
abbrev pub retreats : Phase → Bool
retreats Forward = false
retreats (Backing next) = true
retreats Without = false
retreats Granted = false
retreats Out = false
retreats Closing = true

-- it has all its marks
abbrev pub complete : Ticket → Bool
complete t = t.marks == t.request.length

-- Rule 3. The ticket does the first action whose condition holds. vacant: the column ahead has a vacant slot
abbrev pub duty : Sizes → ℕ → Bool → Ticket → Action
duty z handbacks vacant t =
    cond (retreats t.phase) action.Wipe
    (cond ((past z t || complete t) && not (t.seen == handbacks)) action.Over
    (cond (past z t) action.Without
    (cond (complete t) action.Grant
    (cond vacant action.Mark action.Wall))))

abbrev pub action_of : Rack → Ticket → Action
action_of r t = duty r.sizes r.handbacks (has_vacant r (ahead t)) t

abbrev pub with_phase : Phase → Ticket → Ticket
with_phase p t = record { number = t.number; request = t.request; phase = p; first = t.first; marks = t.marks; seen = t.seen }

abbrev pub with_marks : ℕ → Ticket → Ticket
with_marks k t = record { number = t.number; request = t.request; phase = t.phase; first = t.first; marks = k; seen = t.seen }

-- the ticket, without a mark, goes forward from column g. Where that is its start it takes the hand-back count as seen: only an
-- over sends a ticket to its start, since a wall sends it to a column above
abbrev pub sets_out : ℕ → ℕ → Ticket → Ticket
sets_out handbacks g t =
    record { number = t.number; request = t.request; phase = Forward; first = g; marks = 0; seen = cond (g == t.request.start) handbacks t.seen }

-- next it will go forward from column g: it backs out first, if it has marks
abbrev pub redirect : ℕ → ℕ → Ticket → Ticket
redirect handbacks g t = cond (t.marks == 0) (sets_out handbacks g t) (with_phase (Backing g) t)

-- its last mark goes. With none left, a closing ticket leaves the board, and one that backs out goes forward
abbrev pub wiped : ℕ → Phase → Ticket → List Ticket
wiped handbacks (Backing g) t = cond (nat_le t.marks 1) (sets_out handbacks g t) (with_marks (t.marks - 1) t) ∷ []
wiped handbacks Closing t = cond (nat_le t.marks 1) [] (with_marks (t.marks - 1) t ∷ [])
wiped handbacks Forward t = t ∷ []
wiped handbacks Without t = t ∷ []
wiped handbacks Granted t = t ∷ []
wiped handbacks Out t = t ∷ []

-- what becomes of the ticket
abbrev pub after : ℕ → Action → Ticket → List Ticket
after handbacks action.Wipe t = wiped handbacks t.phase t
after handbacks action.Over t = redirect handbacks t.request.start t ∷ []
after handbacks action.Without t = with_phase Without t ∷ []
after handbacks action.Grant t = with_phase Granted t ∷ []
after handbacks action.Mark t = with_marks (t.marks + 1) t ∷ []
after handbacks action.Wall t = redirect handbacks (ahead t + 1) t ∷ []

-- the column that the report gives
abbrev pub column_of : Action → Ticket → ℕ
column_of action.Wipe t = ahead t - 1
column_of action.Over t = t.request.start
column_of action.Without t = t.request.start
column_of action.Grant t = t.first
column_of action.Mark t = ahead t
column_of action.Wall t = ahead t

-- the row that the report gives; row is the one picked for a mark
abbrev pub row_told : Rack → Ticket → ℕ → Action → ℕ
row_told r t row action.Wipe = row_of t.number (cells r (ahead t - 1))
row_told r t row action.Over = 0
row_told r t row action.Without = 0
row_told r t row action.Grant = 0
row_told r t row action.Mark = row
row_told r t row action.Wall = 0

-- what becomes of the slots, column and row being the report's
abbrev pub slots_after : Rack → Ticket → ℕ → ℕ → Action → List Slot
slots_after r t column row action.Wipe = put r.sizes.rows r.slots column row Vacant
slots_after r t column row action.Over = r.slots
slots_after r t column row action.Without = r.slots
slots_after r t column row action.Grant = r.slots
slots_after r t column row action.Mark = put r.sizes.rows r.slots column row (Marked t.number)
slots_after r t column row action.Wall = r.slots

-- what the step tells of ticket t, row being the one picked if it marks
abbrev pub report_of : Rack → Ticket → ℕ → Report
report_of r t row =
    let a = action_of r t in record { number = t.number; action = a; column = column_of a t; row = row_told r t row a }

-- the rack after it
abbrev pub acted : Rack → Ticket → ℕ → Rack
acted r t row =
    let a = action_of r t in
    with r (edit (named t.number) (after r.handbacks a) r.tickets) (slots_after r t (column_of a t) (row_told r t row a) a)
