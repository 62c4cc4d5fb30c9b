-- The rack that a board's tables stand for, and its tickets by place.
use Rattle.std.specs.Prelude.{◌≡◌, ℕ, ◌<◌, Bool, true, false, cond, not, ◌&&◌, List, length, Some, None, Ok, Err, vec_items, Option, Result, nat_lt, slice_index_or}
use Rattle.rules.specs.declared.ticket.Ticket.{Ticket}
use Rattle.rules.specs.declared.ticket.Phase.TheVariants.{Forward}
use Rattle.rules.specs.Lists.{find}
use Rattle.rules.specs.declared.refusal.Refusal.{Refusal}
use Rattle.rules.specs.declared.refusal.Refusal.TheVariants as refusal
use Rattle.rules.specs.Rack.{Rack, named, cells}
use Rattle.rules.specs.Step.{is_forward, ahead, past, blocked, passed_to, walk, last_of}
use Rattle.rules.specs.Choosers.{mask_of}
use Rattle.board.specs.declared.tables.Tables.{Tables}

abbrev pub rack_of : Tables → Rack
rack_of b =
    record {
      sizes = b.sizes;
      first = b.first;
      next = b.next;
      handbacks = b.handbacks;
      tickets = vec_items b.tickets;
      slots = vec_items b.slots;
    }

-- a stand-in for a ticket past the end of the list
abbrev pub no_ticket : Ticket
no_ticket = record { number = 0; request = record { start = 0; length = 0 }; phase = Forward; first = 0; marks = 0; seen = 0 }

-- the ticket at a place of the list
abbrev pub ticket_at : Rack → ℕ → Ticket
ticket_at r i = slice_index_or r.tickets i no_ticket

-- the place, if any, of the first ticket that passes
abbrev pub Placed : (Ticket → Bool) → List Ticket → Option ℕ → Type 0
Placed p ts None = find p ts ≡ None
Placed p ts (Some i) = (i < length ts) × (find p ts ≡ Some (slice_index_or ts i no_ticket))

-- the place and the ticket that a number names; or the refusal where there is none
abbrev pub Named : Rack → ℕ → Result (ℕ × Ticket) Refusal → Type 0
Named r n (Err e) = (e ≡ refusal.Unknown) × (find (named n) r.tickets ≡ None)
Named r n (Ok p) = (p.0 < length r.tickets) × (p.1 ≡ ticket_at r p.0) × (find (named n) r.tickets ≡ Some p.1)

-- a step looks at the column ahead of a forward ticket that lacks marks and whose window lies within the board
abbrev pub looks : Rack → Ticket → Bool
looks r t = is_forward t.phase && (nat_lt t.marks t.request.length && not (past r.sizes t))

-- the vacancy mask that it sees there
abbrev pub mask_seen : Rack → Ticket → ℕ
mask_seen r t = cond (looks r t) (mask_of (cells r (ahead t))) 0

-- whom a ticket passes the step on to, by place: nobody, if it is not blocked
abbrev pub Passes : Rack → Ticket → Option ℕ → Type 0
Passes r t None = blocked r t ≡ false
Passes r t (Some i) = (i < length r.tickets) × (blocked r t ≡ true) × (ticket_at r i ≡ passed_to r t)

-- the ticket at which a walk of so many turns ends
abbrev pub walk_end : ℕ → Rack → Ticket → Ticket
walk_end n r t = last_of t (walk n r t)
