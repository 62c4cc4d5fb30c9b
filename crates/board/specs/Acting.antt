-- What a change makes of the ticket at a place: another ticket, or none.
use Rattle.std.specs.Prelude.{◌≡◌, ℕ, ◌<◌, ◌≤◌, List, [], ◌∷◌, Some, None, Option}
use Rattle.rules.specs.declared.ticket.Ticket.{Ticket}
use Rattle.rules.specs.declared.report.Action.{Action}
use Rattle.rules.specs.declared.report.Action.TheVariants as action
use Rattle.rules.specs.Lists.{edit}
use Rattle.rules.specs.Rack.{Rack, named, with}

abbrev pub list_of : Option Ticket → List Ticket
list_of None = []
list_of (Some t) = t ∷ []

-- in rack x ticket t became what o has, and nothing else changed
abbrev pub Replaced : Rack → Ticket → Option Ticket → Rack → Type 0
Replaced x t o y = (f : Ticket → List Ticket) → f t ≡ list_of o → y ≡ with x (edit (named t.number) f x.tickets) x.slots

-- an action that writes a slot has a column and a row of the board
abbrev pub Writes : Rack → Action → ℕ → ℕ → Type 0
Writes r action.Wipe column row = (column < r.sizes.columns) × (1 ≤ row) × (row ≤ r.sizes.rows)
Writes r action.Over column row = Unit {0}
Writes r action.Without column row = Unit {0}
Writes r action.Grant column row = Unit {0}
Writes r action.Mark column row = (column < r.sizes.columns) × (1 ≤ row) × (row ≤ r.sizes.rows)
Writes r action.Wall column row = Unit {0}
