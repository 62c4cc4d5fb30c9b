-- How a line is read: its first field is a known word, and figures follow, as many as that word wants.
use Rattle.std.specs.Prelude.{ℕ, ◌-◌, Bool, cond, ◌&&◌, List, [], ◌∷◌, length, Some, None, Ok, Err, Option, Result, nat_le}
use Rattle.rules.specs.declared.refusal.Refusal.TheVariants as refusal
use Rattle.text.specs.declared.fault.Fault.{Fault}
use Rattle.text.specs.declared.figures.Figures.{Figures}
use Rattle.text.specs.Faults.{fault_of}
use Rattle.text.specs.Fields.{fields_of}
use Rattle.text.specs.Lines.{is_line}
use Rattle.text.specs.Tokens.{Told, token_of, word_in, figures_of}

-- so many figures are as many as are wanted
abbrev pub wanted : Figures → ℕ → Bool
wanted range n = nat_le range.least n && nat_le n range.most

-- the first field; a line always has one
abbrev pub first_of : List (List ℕ) → List ℕ
first_of [] = []
first_of (field ∷ fields) = field

-- a known word, and the figures that follow it
abbrev pub headed : {H : Type 0} → H → Result (List ℕ) Fault → Result (H × List ℕ) Fault
headed head (Err f) = Err f
headed head (Ok figures) = Ok (head, figures)

-- what a word must be, by a function that knows some words, and how many figures each of them wants
module _ {H : Type 0} (spelled : List ℕ → Option H) (wants : H → Figures) where
  -- the word that a token is, if it is a known one; a figure is no word
  abbrev pub known_in : Option (List ℕ) → Option H
  known_in None = None
  known_in (Some text) = spelled text

  abbrev pub head_in : Told → Option H
  head_in token = known_in (word_in token)

  -- the figures after a known word: as many as it wants, each a figure
  abbrev pub read_after : List (List ℕ) → Option H → Result (H × List ℕ) Fault
  read_after fields None = Err (fault_of refusal.Verb 1 (length fields))
  read_after fields (Some head) = cond (wanted (wants head) (length fields - 1)) (headed head (figures_of fields)) (Err (fault_of refusal.Fields 1 (length fields)))

  -- first it must be a line, then its first field a known word, then the number of figures right, then each a figure
  abbrev pub line_read : List ℕ → Result (H × List ℕ) Fault
  line_read bytes = cond (is_line bytes) (read_after (fields_of bytes) (head_in (token_of (first_of (fields_of bytes)) 1))) (Err (fault_of refusal.Line 0 0))
