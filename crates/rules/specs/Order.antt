-- The order in which tickets are served.
use Rattle.std.specs.Prelude.{Bool, cond, not, ◌&&◌, ◌||◌, nat_le}
use Rattle.rules.specs.declared.ticket.Ticket.{Ticket}
use Rattle.rules.specs.Rack.{soft}

-- t stands before u or level with it: soft tickets first, then the lower number
abbrev pub ticket_before : Ticket → Ticket → Bool
ticket_before t u = cond (soft t.phase) (not (soft u.phase) || nat_le t.number u.number) (not (soft u.phase) && nat_le t.number u.number)
