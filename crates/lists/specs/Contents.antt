-- What a journal holds, and what it makes of an entry.
use Rattle.std.specs.Prelude.{ℕ, ◌+◌, ◌-◌, Bool, cond, List, [], ◌∷◌, length, take, drop, Ok, Err, Result, ◌==◌, slice_set}
use Rattle.lists.specs.declared.journal.Full.{Full}

-- All places lent to a journal, and how many of them, from the first on, hold its entries.
pub record Contents (X : Type 0) : Type 0 where
  pub slots : List X
  pub len : ℕ

abbrev pub entries_of : {X : Type 0} → Contents X → List X
entries_of c = take c.len c.slots

-- the places behind the entries
abbrev pub behind_of : {X : Type 0} → Contents X → List X
behind_of c = drop c.len c.slots

abbrev pub room_of : {X : Type 0} → Contents X → ℕ
room_of c = length c.slots - c.len

abbrev pub full_of : {X : Type 0} → Contents X → Bool
full_of c = room_of c == 0

-- places just lent: no entry yet
abbrev pub lent : {X : Type 0} → List X → Contents X
lent slots = record { slots = slots; len = 0 }

-- no entries, and every place as it was
abbrev pub cleared : {X : Type 0} → Contents X → Contents X
cleared c = lent c.slots

-- what a journal answers to an entry, and what it then holds
pub record Pushed (X : Type 0) : Type 0 where
  pub answer : Result (Unit {0}) Full
  pub contents : Contents X

-- An entry goes to the first place behind the entries. Where there is none, it is refused and all stays as it was.
abbrev pub pushed : {X : Type 0} → Contents X → X → Pushed X
pushed c x =
    cond (full_of c)
    (record { answer = Err (record {}); contents = c })
    (record { answer = Ok tt; contents = record { slots = slice_set c.slots c.len x; len = c.len + 1 } })

-- entries pushed one after another
abbrev pub entered : {X : Type 0} → Contents X → List X → Contents X
entered c [] = c
entered c (x ∷ xs) = entered (pushed c x).contents xs
