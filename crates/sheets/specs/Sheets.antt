-- How a sheet is read: line by line into grants, and those into a list.
use Rattle.std.specs.Prelude.{◌≡◌, ℕ, suc, ◌+◌, ◌<◌, ◌≤◌, cond, not, ◌||◌, List, [], ◌∷◌, ◌++◌, length, drop, Some, None, Ok, Err, codes, Option, Result, nat_le, nat_lt, slice_index}
use Rattle.std.specs.Str.{bytes_eq}
use Rattle.rules.specs.declared.refusal.Refusal.TheVariants as refusal
use Rattle.rules.specs.Calls.{within, last_number}
use Rattle.text.specs.declared.fault.Fault.{Fault}
use Rattle.text.specs.declared.fault.LineFault.{LineFault}
use Rattle.text.specs.declared.figures.Figures.{Figures}
use Rattle.text.specs.Faults.{fault_of}
use Rattle.text.specs.Frames.{lines_of}
use Rattle.text.specs.Heads.{line_read}
use Rattle.sheets.specs.declared.grant.GrantLine.{GrantLine}
use Rattle.sheets.specs.declared.grant.GrantWord.{GrantWord}
use Rattle.sheets.specs.declared.grant.GrantWord.TheVariants.{Grant}
use Rattle.sheets.specs.Grants.{sheet_text}

-- the first field of every line
abbrev pub grant_word : List ℕ → Option GrantWord
grant_word text = cond (bytes_eq text (codes "grant")) (Some Grant) None

-- three figures follow it
abbrev pub grant_figures : GrantWord → Figures
grant_figures Grant = record { least = 3; most = 3 }

-- number, first column, and how many columns
abbrev pub grant_in : List ℕ → GrantLine
grant_in figures = record { number = slice_index figures 0; span = record { first = slice_index figures 1; length = slice_index figures 2 } }

-- The limits of a grant, in the order in which they are tried, after a line with number `last`: the number, field 2, must be
-- above that one and at most 2,000,000,000; the length, field 4, must be 1 to 64; the first column, field 3, and the length must
-- not come to more than 256.
abbrev pub in_limits : ℕ → GrantLine → Result GrantLine Fault
in_limits last g =
    cond (nat_le g.number last || nat_lt last_number g.number) (Err (fault_of refusal.Grant 2 0))
    (cond (not (within 1 64 g.span.length)) (Err (fault_of refusal.Grant 4 0))
    (cond (nat_lt 256 (g.span.first + g.span.length)) (Err (fault_of refusal.Grant 3 0)) (Ok g)))

-- the grant of a line that could be read
abbrev pub grant_after : ℕ → Result (GrantWord × List ℕ) Fault → Result GrantLine Fault
grant_after last (Err f) = Err f
grant_after last (Ok p) = in_limits last (grant_in p.1)

-- a line, after one with number `last`
abbrev pub grant_read : ℕ → List ℕ → Result GrantLine Fault
grant_read last bytes = grant_after last (line_read grant_word grant_figures bytes)

-- the fault of a line, with the line's number
abbrev pub numbered : ℕ → Result GrantLine Fault → Result GrantLine LineFault
numbered n (Err f) = Err (record { line = n; fault = f })
numbered n (Ok g) = Ok g

-- a grant before others
abbrev pub onto : GrantLine → Result (List GrantLine) LineFault → Result (List GrantLine) LineFault
onto g (Err f) = Err f
onto g (Ok gs) = Ok (g ∷ gs)

-- the first fault is the answer; else the grant, and what is read after it
abbrev pub and_then : Result GrantLine LineFault → (GrantLine → Result (List GrantLine) LineFault) → Result (List GrantLine) LineFault
and_then (Err f) rest = Err f
and_then (Ok g) rest = onto g (rest g)

-- Lines, of which the first is line `n` and follows one with number `last`.
abbrev pub lines_read : ℕ → ℕ → List (List ℕ) → Result (List GrantLine) LineFault
lines_read n last [] = Ok []
lines_read n last (bytes ∷ more) = and_then (numbered n (grant_read last bytes)) (λ g. lines_read (suc n) g.number more)

-- A sheet: no line stands before the first, so that its number has only to be above 0.
abbrev pub sheet_read : List ℕ → Result (List GrantLine) LineFault
sheet_read bytes = lines_read 1 0 (lines_of bytes)

-- how many grants a reading gives
abbrev pub counted : Result (List GrantLine) LineFault → Result ℕ LineFault
counted (Err f) = Err f
counted (Ok gs) = Ok (length gs)

-- grants over the places of a list, from the first on, as far as there are places
abbrev pub laid : List GrantLine → List GrantLine → List GrantLine
laid [] places = places
laid (g ∷ gs) [] = []
laid (g ∷ gs) (place ∷ places) = g ∷ laid gs places

-- the list that a reading without fault leaves
abbrev pub Lays : Result (List GrantLine) LineFault → List GrantLine → List GrantLine → Type 0
Lays (Err f) places list = Unit {0}
Lays (Ok gs) places list = list ≡ laid gs places

-- what a call that reads a sheet answers, and the list that it leaves
pub record Outcome : Type 0 where
  pub answer : Result ℕ LineFault
  pub list : List GrantLine

-- a refusal leaves the list as it was
abbrev pub refused : LineFault → List GrantLine → Outcome
refused f places = record { answer = Err f; list = places }

-- the grants from the first place on; places past them are as they were
abbrev pub taken : List GrantLine → List GrantLine → Outcome
taken gs places = record { answer = Ok (length gs); list = gs ++ drop (length gs) places }

-- no room in the list is the fault of no line
abbrev pub no_room : LineFault
no_room = record { line = 0; fault = fault_of refusal.Full 0 0 }

-- when all lines have passed, the list must have room
abbrev pub into_list : Result (List GrantLine) LineFault → List GrantLine → Outcome
into_list (Err f) places = refused f places
into_list (Ok gs) places = cond (nat_lt (length places) (length gs)) (refused no_room places) (taken gs places)

-- a sheet read into a list
abbrev pub read_into : List ℕ → List GrantLine → Outcome
read_into bytes places = into_list (sheet_read bytes) places

-- These bytes are read as these grants: a list with room takes them, and for one that is too short that is the refusal.
pub record ReadsBack (bytes : List ℕ) (gs : List GrantLine) : Type 0 where
  pub whole : (places : List GrantLine) → length gs ≤ length places → read_into bytes places ≡ taken gs places
  pub short : (places : List GrantLine) → length places < length gs → read_into bytes places ≡ refused no_room places

-- A sheet that is read without fault is what is written of its grants; so no two sheets read as the same grants.
abbrev pub OneSheetForGrants : Type 0
OneSheetForGrants = (bytes : List ℕ) (gs : List GrantLine) → sheet_read bytes ≡ Ok gs → sheet_text gs ≡ bytes
