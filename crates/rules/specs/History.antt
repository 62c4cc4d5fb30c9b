-- The history of a rack: what its calls answered, the latest first, and the racks that a history leads to.
use Rattle.std.specs.Prelude.{◌≡◌, ℕ, true, List, [], ◌∷◌, None, Ok, Option}
use Rattle.rules.specs.declared.span.Span.{Span}
use Rattle.rules.specs.declared.ticket.Request.{Request}
use Rattle.rules.specs.declared.ticket.Ticket.{Ticket}
use Rattle.rules.specs.declared.report.Action.TheVariants as action
use Rattle.rules.specs.declared.report.Report.{Report}
use Rattle.rules.specs.declared.rack.Sizes.{Sizes}
use Rattle.rules.specs.Rack.{Rack, opened, cells}
use Rattle.rules.specs.Step.{ahead, due, action_of, report_of, acted}
use Rattle.rules.specs.Choosers.{mask_of, vacant_in}
use Rattle.rules.specs.Calls.{openable, admission, booked, collect, drop', back}

-- what an accepted call tells: a booking taken with its number, a step's report (a drive tells one for each of its steps),
-- a collection, a withdrawal (drop), a hand-back (back). A refused call tells nothing
pub data Event : Type 0 where
  taken : ℕ → Request → Event
  stepped : Report → Event
  collected : ℕ → Event
  dropped : ℕ → Event
  returned : ℕ → Event

-- any vacant row will do for a mark: that covers every chooser
abbrev pub Fair : Rack → Ticket → ℕ → Type 0
Fair x t row = action_of x t ≡ action.Mark → vacant_in (mask_of (cells x (ahead t))) row ≡ true

-- a call on rack x is accepted, tells the event, and leaves the second rack
pub data Accepts (x : Rack) : Event → Rack → Type 0 where
  books : (q : Request) → admission x q ≡ None → Accepts x (Event.taken x.next q) (booked x q)
  steps : (n row : ℕ) (t : Ticket) → due x n ≡ Ok t → Fair x t row → Accepts x (Event.stepped (report_of x t row)) (acted x t row)
  collects : (n : ℕ) (o : Option Span) → (collect x n).answer ≡ Ok o → Accepts x (Event.collected n) (collect x n).rack
  drops : (n : ℕ) → (drop' x n).answer ≡ Ok tt → Accepts x (Event.dropped n) (drop' x n).rack
  backs : (n : ℕ) → (back x n).answer ≡ Ok tt → Accepts x (Event.returned n) (back x n).rack

-- a new rack: just opened within the limits. One never opened is such a rack
abbrev pub New : Rack → Type 0
New x = (z : Sizes) × (first : ℕ) × (openable z first ≡ true) × (x ≡ opened z first)

-- calls on a new rack that told this history lead to this rack
abbrev pub Reaches : List Event → Rack → Type 0
Reaches [] x = New x
Reaches (e ∷ h) y = (x : Rack) × Reaches h x × Accepts x e y
