-- The ledger: bookings entered one at a time, and the window that it gives the next one.
use Rattle.std.specs.Prelude.{◌≡◌, ℕ, zero, suc, ◌+◌, ◌-◌, ◌<◌, ◌≤◌, Bool, true, cond, ◌&&◌, List, [], ◌∷◌, Some, None, Option, ◌==◌, nat_le, nat_lt}
use Rattle.rules.specs.declared.span.Span.{Span}
use Rattle.rules.specs.declared.ticket.Request.{Request}
use Rattle.rules.specs.declared.report.Action.{Action}
use Rattle.rules.specs.declared.report.Action.TheVariants as action
use Rattle.rules.specs.declared.report.Report.{Report}
use Rattle.rules.specs.Lists.{count_of}
use Rattle.rules.specs.declared.rack.Sizes.{Sizes}
use Rattle.rules.specs.History.{Event}

-- a span in the ledger, with the number of its booking
pub record Entry : Type 0 where
  pub number : ℕ
  pub span : Span

-- the span covers the column
abbrev pub covers : Span → ℕ → Bool
covers g c = nat_le g.first c && nat_lt c (g.first + g.length)

-- a column's load: how many spans cover it
abbrev pub load_of : List Entry → ℕ → ℕ
load_of es c = count_of (λ e. covers e.span c) es

-- a back entry removes the span of its booking
abbrev pub struck : ℕ → List Entry → List Entry
struck n [] = []
struck n (e ∷ es) = cond (e.number == n) es (e ∷ struck n es)

-- what booking n asked for, by the history
abbrev pub request_of : ℕ → List Event → Request
request_of n [] = record { start = 0; length = 0 }
request_of n (Event.taken m q ∷ h) = cond (m == n) q (request_of n h)
request_of n (Event.stepped r ∷ h) = request_of n h
request_of n (Event.collected m ∷ h) = request_of n h
request_of n (Event.dropped m ∷ h) = request_of n h
request_of n (Event.returned m ∷ h) = request_of n h

-- a grant enters the span that its report gives
abbrev pub entered : Report → Action → List Event → List Entry → List Entry
entered r action.Grant h es = record { number = r.number; span = record { first = r.column; length = (request_of r.number h).length } } ∷ es
entered r action.Wipe h es = es
entered r action.Over h es = es
entered r action.Without h es = es
entered r action.Mark h es = es
entered r action.Wall h es = es

-- the ledger of a history, empty at a new rack
abbrev pub ledger : List Event → List Entry
ledger [] = []
ledger (Event.taken m q ∷ h) = ledger h
ledger (Event.stepped r ∷ h) = entered r r.action h (ledger h)
ledger (Event.collected m ∷ h) = ledger h
ledger (Event.dropped m ∷ h) = ledger h
ledger (Event.returned m ∷ h) = struck m (ledger h)

-- some column of the window of this length from g on is full
abbrev pub Full : Sizes → List Entry → ℕ → ℕ → Type 0
Full z es g length = (c : ℕ) × (g ≤ c) × (c < g + length) × (z.rows ≤ load_of es c)

-- the ledger gives the request this first column: not before the start, exactly the length, adjacent columns within the board,
-- room in each of them, and no earlier column will do
pub record Gives (z : Sizes) (es : List Entry) (q : Request) (f : ℕ) : Type 0 where
  pub not_before : q.start ≤ f
  pub inside : f + q.length ≤ z.columns
  pub room : (c : ℕ) → f ≤ c → c < f + q.length → load_of es c < z.rows
  pub earliest : (g : ℕ) → q.start ≤ g → g < f → Full z es g q.length

-- the ledger gives the request nothing: every window from the start on has a full column
abbrev pub GivesNone : Sizes → List Entry → Request → Type 0
GivesNone z es q = (g : ℕ) → q.start ≤ g → g + q.length ≤ z.columns → Full z es g q.length

-- one or the other, as an answer
abbrev pub Answers : Sizes → List Entry → Request → Option ℕ → Type 0
Answers z es q None = GivesNone z es q
Answers z es q (Some f) = Gives z es q f

-- the same by computing. There is room in each of the n columns from c on
abbrev pub roomy : Sizes → List Entry → ℕ → ℕ → Bool
roomy z es c zero = true
roomy z es c (suc n) = nat_lt (load_of es c) z.rows && roomy z es (suc c) n

-- the first of n columns from g on where a window of this length has room
abbrev pub first_fit : Sizes → List Entry → ℕ → ℕ → ℕ → Option ℕ
first_fit z es length g zero = None
first_fit z es length g (suc n) = cond (roomy z es g length) (Some g) (first_fit z es length (suc g) n)

-- what the ledger gives: from the start on, this many first columns leave the window within the board
abbrev pub given : Sizes → List Entry → Request → Option ℕ
given z es q = first_fit z es q.length q.start (suc z.columns - (q.start + q.length))

-- the ledger gives a request one answer: no two first columns, and not both a column and nothing
abbrev pub LedgerGivesOneAnswer : Type 0
LedgerGivesOneAnswer = (z : Sizes) (es : List Entry) (q : Request) (o p : Option ℕ) → Answers z es q o → Answers z es q p → o ≡ p

-- the search computes it, so there always is one
abbrev pub SearchFindsTheLedgersAnswer : Type 0
SearchFindsTheLedgersAnswer = (z : Sizes) (es : List Entry) (q : Request) → Answers z es q (given z es q)
