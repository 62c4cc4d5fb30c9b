-- The rack: its sizes, the tickets in use and the slots, and what a column shows.
use Rattle.std.specs.Prelude.{ℕ, suc, ◌+◌, ◌-◌, ◌*◌, Bool, true, false, cond, ◌&&◌, List, [], ◌∷◌, take, drop, replicate, Option, ◌==◌, slice_set}
use Rattle.rules.specs.declared.rack.Sizes.{Sizes}
use Rattle.rules.specs.declared.slot.Slot.{Slot}
use Rattle.rules.specs.declared.slot.Slot.TheVariants.{Vacant, Marked}
use Rattle.rules.specs.declared.ticket.Ticket.{Ticket}
use Rattle.rules.specs.declared.ticket.Phase.{Phase}
use Rattle.rules.specs.declared.ticket.Phase.TheVariants.{Forward, Backing, Without, Granted, Out, Closing}
use Rattle.rules.specs.Lists.{any_of, all_of, find}

-- first is the number of the first booking, next the number of the next one; handbacks counts the grants handed back.
-- tickets are those in use, in rising order of their numbers: a place that no ticket has is idle.
-- slots go column by column, and in a column row by row
pub record Rack : Type 0 where
  pub sizes : Sizes
  pub first : ℕ
  pub next : ℕ
  pub handbacks : ℕ
  pub tickets : List Ticket
  pub slots : List Slot

-- a rack just opened: all places idle, all slots vacant
abbrev pub opened : Sizes → ℕ → Rack
opened z first = record { sizes = z; first = first; next = first; handbacks = 0; tickets = []; slots = replicate (z.columns * z.rows) Vacant }

-- a rack that was never opened
abbrev pub never_opened : Rack
never_opened = opened (record { rows = 1; columns = 1; places = 1; lead = 0 }) 1

-- seeking: undecided
abbrev pub seeking : Phase → Bool
seeking Forward = true
seeking (Backing next) = true
seeking Without = false
seeking Granted = false
seeking Out = false
seeking Closing = false

-- soft: a step can work on it, that is, it is seeking or closing
abbrev pub soft : Phase → Bool
soft Forward = true
soft (Backing next) = true
soft Without = false
soft Granted = false
soft Out = false
soft Closing = true

-- hard: its slots are booked, that is, it is granted or out
abbrev pub hard : Phase → Bool
hard Forward = false
hard (Backing next) = false
hard Without = false
hard Granted = true
hard Out = true
hard Closing = false

-- the ticket has this number
abbrev pub named : ℕ → Ticket → Bool
named n t = t.number == n

abbrev pub is_vacant : Slot → Bool
is_vacant Vacant = true
is_vacant (Marked n) = false

-- the slot holds the mark of ticket n
abbrev pub holds : ℕ → Slot → Bool
holds n Vacant = false
holds n (Marked m) = m == n

-- the slot is booked: it holds the mark of a ticket granted or out
abbrev pub is_booked : List Ticket → Slot → Bool
is_booked ts Vacant = false
is_booked ts (Marked n) = any_of (λ t. named n t && hard t.phase) ts

-- the slots of a column, row 1 first
abbrev pub cells_of : ℕ → List Slot → ℕ → List Slot
cells_of rows slots c = take rows (drop (c * rows) slots)

abbrev pub cells : Rack → ℕ → List Slot
cells r c = cells_of r.sizes.rows r.slots c

-- some slot of the column is vacant
abbrev pub has_vacant : Rack → ℕ → Bool
has_vacant r c = any_of is_vacant (cells r c)

-- the column is a wall: all its slots are booked
abbrev pub is_wall : Rack → ℕ → Bool
is_wall r c = all_of (is_booked r.tickets) (cells r c)

-- ticket t has a mark in the column
abbrev pub has_mark : Rack → ℕ → Ticket → Bool
has_mark r c t = any_of (holds t.number) (cells r c)

-- the soft ticket with the lowest number; tickets stand in rising order
abbrev pub oldest : Rack → Option Ticket
oldest r = find (λ t. soft t.phase) r.tickets

-- the soft ticket with the lowest number of those with a mark in the column
abbrev pub holder : Rack → ℕ → Option Ticket
holder r c = find (λ t. soft t.phase && has_mark r c t) r.tickets

-- the row of ticket n's mark among the slots of a column, counted from 1; 0 where there is none
abbrev pub row_of : ℕ → List Slot → ℕ
row_of n [] = 0
row_of n (s ∷ ss) = cond (holds n s) 1 (cond (row_of n ss == 0) 0 (suc (row_of n ss)))

-- the slots, with the one in column c and row (counted from 1) changed
abbrev pub put : ℕ → List Slot → ℕ → ℕ → Slot → List Slot
put rows slots c row s = slice_set slots (c * rows + (row - 1)) s

-- the rack with other tickets and slots
abbrev pub with : Rack → List Ticket → List Slot → Rack
with r ts ss = record { sizes = r.sizes; first = r.first; next = r.next; handbacks = r.handbacks; tickets = ts; slots = ss }
