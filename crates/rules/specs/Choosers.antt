-- Row choosers: what one is told, what it means, and the meanings of lowest, staying and evening.
use Rattle.std.specs.Prelude.{◌≡◌, ℕ, zero, suc, ◌+◌, ◌-◌, ◌*◌, ◌/◌, ◌%◌, ◌<◌, ◌≤◌, min, Bool, true, false, cond, ◌&&◌, ◌||◌, List, [], ◌∷◌, length, Some, None, Option, ◌==◌, ◌≢◌, nat_le, slice_index, slice_set}
use Rattle.rules.specs.declared.asked.Asked.{Asked}
use Rattle.rules.specs.declared.slot.Slot.{Slot}
use Rattle.rules.specs.declared.ticket.Ticket.{Ticket}
use Rattle.rules.specs.Lists.{unit}
use Rattle.rules.specs.Rack.{Rack, is_vacant, cells, row_of}
use Rattle.rules.specs.Step.{ahead}

-- what a chooser that holds an S means: the row it would pick, and what it then holds
pub record Meaning (S : Type 0) : Type 0 where
  pub row : S → Asked → ℕ
  pub then : S → Asked → S

-- the vacancy mask of a column's slots
abbrev pub mask_of : List Slot → ℕ
mask_of [] = 0
mask_of (s ∷ ss) = unit (is_vacant s) + 2 * mask_of ss

-- what is told of the column ahead of ticket t
abbrev pub asked : Rack → Ticket → Asked
asked r t =
    record {
      mask = mask_of (cells r (ahead t));
      column = ahead t;
      left = cond (t.marks == 0) None (Some (row_of t.number (cells r (ahead t - 1))));
    }

-- bit i of a mask is set
abbrev pub bit : ℕ → ℕ → Bool
bit zero mask = mask % 2 == 1
bit (suc i) mask = bit i (mask / 2)

-- the row, counted from 1, is vacant by the mask
abbrev pub vacant_in : ℕ → ℕ → Bool
vacant_in mask row = nat_le 1 row && (nat_le row 16 && bit (row - 1) mask)

-- a chooser is lawful if it picks a vacant row wherever there is one
abbrev pub Lawful : {S : Type 0} → Meaning S → Type 0
Lawful {S} m = (s : S) (q : Asked) (row : ℕ) → vacant_in q.mask row ≡ true → vacant_in q.mask (m.row s q) ≡ true

-- what it answers: nothing exactly when no row is vacant, otherwise the row that it means
abbrev pub answer_of : {S : Type 0} → Meaning S → S → Asked → Option ℕ
answer_of m s q = cond (q.mask == 0) None (Some (m.row s q))

-- and what it then holds
abbrev pub held_by : {S : Type 0} → Meaning S → S → Asked → S
held_by m s q = cond (q.mask == 0) s (m.then s q)

-- of n rows from row i on, the first that passes; 0 where none does
abbrev pub first_row : (ℕ → Bool) → ℕ → ℕ → ℕ
first_row p i zero = 0
first_row p i (suc n) = cond (p i) i (first_row p (suc i) n)

-- the lowest vacant row
abbrev pub lowest_row : Asked → ℕ
lowest_row q = first_row (vacant_in q.mask) 1 16

-- the left row if it is vacant, else the lowest
abbrev pub staying_row : Asked → Option ℕ → ℕ
staying_row q None = lowest_row q
staying_row q (Some left) = cond (vacant_in q.mask left) left (lowest_row q)

-- a tally stops here
abbrev pub most_picks : ℕ
most_picks = 65535

-- the tally of a row
abbrev pub tally_of : List ℕ → ℕ → ℕ
tally_of tallies row = slice_index tallies (row - 1)

-- of n rows from row i on, the vacant one with the smallest tally, the lower row on ties; 0 where none is vacant
abbrev pub least_from : List ℕ → ℕ → ℕ → ℕ → ℕ
least_from tallies mask i zero = 0
least_from tallies mask i (suc n) =
    let rest = least_from tallies mask (suc i) n in
    cond (vacant_in mask i && (rest == 0 || nat_le (tally_of tallies i) (tally_of tallies rest))) i rest

abbrev pub evening_row : List ℕ → Asked → ℕ
evening_row tallies q = least_from tallies q.mask 1 16

-- a pick adds one to the row's tally, which stops at its limit
abbrev pub picked : List ℕ → ℕ → List ℕ
picked tallies row = slice_set tallies (row - 1) (min most_picks (tally_of tallies row + 1))

-- lowest and staying hold the same after a pick, whatever it is
abbrev pub lowest : {S : Type 0} → Meaning S
lowest = record { row = λ s q. lowest_row q; then = λ s q. s }

abbrev pub staying : {S : Type 0} → Meaning S
staying = record { row = λ s q. staying_row q q.left; then = λ s q. s }

-- evening holds a tally of its own picks for each row
abbrev pub evening : Meaning (List ℕ)
evening = record { row = λ tallies q. evening_row tallies q; then = λ tallies q. picked tallies (evening_row tallies q) }

-- what the three choosers do, said without computing. Some row is vacant
abbrev pub SomeVacant : ℕ → Type 0
SomeVacant mask = (row : ℕ) × (vacant_in mask row ≡ true)

-- the row is vacant, and no lower row is
pub record PicksLowest (mask row : ℕ) : Type 0 where
  pub vacant : vacant_in mask row ≡ true
  pub no_lower : (lower : ℕ) → lower < row → vacant_in mask lower ≡ false

-- the row is the left row if that is vacant, else the lowest
pub record PicksStaying (q : Asked) (row : ℕ) : Type 0 where
  pub stays : (left : ℕ) → q.left ≡ Some left → vacant_in q.mask left ≡ true → row ≡ left
  pub else_lowest : ((left : ℕ) → q.left ≡ Some left → vacant_in q.mask left ≡ false) → PicksLowest q.mask row

-- the row is vacant, no vacant row has a smaller tally, and no lower vacant row has the same
pub record PicksEvening (tallies : List ℕ) (mask row : ℕ) : Type 0 where
  pub vacant : vacant_in mask row ≡ true
  pub smallest : (other : ℕ) → vacant_in mask other ≡ true → tally_of tallies row ≤ tally_of tallies other
  pub lower_on_ties : (lower : ℕ) → vacant_in mask lower ≡ true → lower < row → tally_of tallies lower ≢ tally_of tallies row

-- the row's tally has one more, up to 65,535, and the tallies of the other rows stay
pub record AddsOne (tallies : List ℕ) (row : ℕ) (after : List ℕ) : Type 0 where
  pub rows_stay : length after ≡ length tallies
  pub added : row ≤ length tallies → tally_of after row ≡ min most_picks (tally_of tallies row + 1)
  pub others_stay : (other : ℕ) → 1 ≤ other → (other ≢ row) → tally_of after other ≡ tally_of tallies other

-- wherever some row is vacant, each chooser picks as its name says
pub record LowestSays (S : Type 0) : Type 0 where
  pub picks : (s : S) (q : Asked) → SomeVacant q.mask → PicksLowest q.mask (lowest.row s q)
  pub holds_same : (s : S) (q : Asked) → lowest.then s q ≡ s

pub record StayingSays (S : Type 0) : Type 0 where
  pub picks : (s : S) (q : Asked) → SomeVacant q.mask → PicksStaying q (staying.row s q)
  pub holds_same : (s : S) (q : Asked) → staying.then s q ≡ s

pub record EveningSays : Type 0 where
  pub picks : (tallies : List ℕ) (q : Asked) → SomeVacant q.mask → PicksEvening tallies q.mask (evening.row tallies q)
  pub adds_one : (tallies : List ℕ) (q : Asked) → SomeVacant q.mask → AddsOne tallies (evening.row tallies q) (evening.then tallies q)
