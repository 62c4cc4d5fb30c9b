-- What holds of a rack alone, whatever calls led to it: the shape of its tickets, and that the slots agree with them.
use Rattle.std.specs.Prelude.{◌≡◌, ℕ, suc, ◌+◌, ◌*◌, ◌<◌, ◌≤◌, Bool, true, false, ◌&&◌, ◌⊎◌, List, [], ◌∷◌, length}
use Rattle.std.specs.List.{AllByRecursion}
use Rattle.rules.specs.declared.span.Span.{Span}
use Rattle.rules.specs.declared.ticket.Ticket.{Ticket}
use Rattle.rules.specs.declared.ticket.Phase.{Phase}
use Rattle.rules.specs.declared.ticket.Phase.TheVariants.{Forward, Backing, Without, Granted, Out, Closing}
use Rattle.rules.specs.Lists.{unit, total, count_of}
use Rattle.rules.specs.declared.rack.Sizes.{Sizes}
use Rattle.rules.specs.Rack.{Rack, hard, named, is_vacant, holds, cells}
use Rattle.rules.specs.Calls.{last_number, openable}
use Rattle.rules.specs.Ledger.{covers}
use Rattle.rules.specs.History.{Event, Reaches}

-- numbers rise strictly, from lo on, and stay below hi
abbrev pub Rising : ℕ → ℕ → List Ticket → Type 0
Rising lo hi [] = lo ≤ hi
Rising lo hi (t ∷ ts) = (lo ≤ t.number) × Rising (suc t.number) hi ts

-- the columns that a ticket has marks in
abbrev pub marked : Ticket → Span
marked t = record { first = t.first; length = t.marks }

-- the ticket has a mark in column c
abbrev pub marks_in : ℕ → Ticket → Bool
marks_in c t = covers (marked t) c

-- how many tickets have a mark in column c, how many of those granted or out, and how many of number n
abbrev pub load : ℕ → List Ticket → ℕ
load c ts = total (λ t. unit (marks_in c t)) ts

abbrev pub booked_in : ℕ → List Ticket → ℕ
booked_in c ts = total (λ t. unit (hard t.phase && marks_in c t)) ts

abbrev pub marks_of : ℕ → ℕ → List Ticket → ℕ
marks_of n c ts = total (λ t. unit (named n t && marks_in c t)) ts

-- marks and columns, phase by phase
abbrev pub Shape : Sizes → Phase → Ticket → Type 0
Shape z Forward t = (t.marks ≡ 0) ⊎ ((1 ≤ t.marks) × (t.first + t.request.length ≤ z.columns))
Shape z (Backing g) t =
    (1 ≤ t.marks) × (t.first + t.request.length ≤ z.columns) × (t.request.start ≤ g) × ((g ≡ t.request.start) ⊎ (t.first + t.marks < g)) × (g ≤ z.columns)
Shape z Without t = t.marks ≡ 0
Shape z Granted t = (t.marks ≡ t.request.length) × (t.first + t.request.length ≤ z.columns)
Shape z Out t = (t.marks ≡ t.request.length) × (t.first + t.request.length ≤ z.columns)
Shape z Closing t = (1 ≤ t.marks) × (t.first + t.request.length ≤ z.columns)

pub record Fit (z : Sizes) (handbacks : ℕ) (t : Ticket) : Type 0 where
  pub some : 1 ≤ t.request.length
  pub most : t.request.length ≤ 64
  pub inside : t.request.start + t.request.length ≤ z.columns
  pub begun : t.request.start ≤ t.first
  pub held : t.marks ≤ t.request.length
  pub reach : t.first + t.marks ≤ z.columns
  pub noted : t.seen ≤ handbacks
  pub shape : Shape z t.phase t

-- a ticket that can still be handed back, or never was granted: all but those closing
abbrev pub live : Phase → Bool
live Forward = true
live (Backing g) = true
live Without = true
live Granted = true
live Out = true
live Closing = false

-- the slots agree with the tickets: each mark of a ticket has one cell, and the other cells are vacant
pub record Agree (x : Rack) : Type 0 where
  pub size : length x.slots ≡ x.sizes.columns * x.sizes.rows
  pub vacant : (c : ℕ) → c < x.sizes.columns → count_of is_vacant (cells x c) + load c x.tickets ≡ x.sizes.rows
  pub held : (c n : ℕ) → c < x.sizes.columns → count_of (holds n) (cells x c) ≡ marks_of n c x.tickets

pub record Sound (x : Rack) : Type 0 where
  pub limits : openable x.sizes x.first ≡ true
  pub rows_some : 1 ≤ x.sizes.rows
  pub rows_most : x.sizes.rows ≤ 16
  pub first_some : 1 ≤ x.first
  pub numbers : x.next ≤ suc last_number
  pub rising : Rising x.first x.next x.tickets
  pub fits : AllByRecursion (Fit x.sizes x.handbacks) x.tickets
  pub few : length x.tickets ≤ x.sizes.places
  pub counted : x.first + x.handbacks + count_of (λ t. live t.phase) x.tickets ≤ x.next
  pub agree : Agree x

-- some history leads to the rack
abbrev pub Reached : Rack → Type 0
Reached x = ∥ ((h : List Event) × Reaches h x) ∥₁
