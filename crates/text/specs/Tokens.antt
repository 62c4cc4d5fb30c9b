-- Tokens: a field with its place, known for a word or a figure; and the figures of a line.
use Rattle.std.specs.Prelude.{ℕ, suc, List, [], ◌∷◌, Some, None, Ok, Err, Option, Result}
use Rattle.rules.specs.declared.refusal.Refusal.TheVariants as refusal
use Rattle.text.specs.declared.fault.Fault.{Fault}
use Rattle.text.specs.declared.token.Token.{Token}
use Rattle.text.specs.declared.token.Token.TheVariants as token
use Rattle.text.specs.Faults.{fault_of}
use Rattle.text.specs.Fields.{fields_after}
use Rattle.text.specs.Figures.{figure_of}

-- what a token tells: the text of a word or the value of a figure, and the number of its field, counted from 1
pub data Told : Type 0 where
  word : List ℕ → ℕ → Told
  figure : ℕ → ℕ → Told

abbrev pub told_by : Token → Told
told_by (token.Word text field) = Told.word text.now field
told_by (token.Figure value field) = Told.figure value field

-- a field is a figure if its text is one, and else a word
abbrev pub token_of : List ℕ → ℕ → Told
token_of text field = elim (figure_of text) [ None ↦ Told.word text field | Some value ↦ Told.figure value field ]

-- the text, where a word is wanted
abbrev pub word_in : Told → Option (List ℕ)
word_in (Told.word text field) = Some text
word_in (Told.figure value field) = None

-- the value, where a figure is wanted
abbrev pub figure_in : Told → Result ℕ Fault
figure_in (Told.word text field) = Err (fault_of refusal.Figure field 0)
figure_in (Told.figure value field) = Ok value

-- one figure before others
abbrev pub before : Result ℕ Fault → Result (List ℕ) Fault → Result (List ℕ) Fault
before (Err f) rest = Err f
before (Ok n) (Err f) = Err f
before (Ok n) (Ok ns) = Ok (n ∷ ns)

-- Figures for these places, read from fields of which the first has this number. The leftmost field that is no figure is the fault;
-- places for which there is no field keep what they hold, and fields past the places are not read.
abbrev pub figures_from : ℕ → List ℕ → List (List ℕ) → Result (List ℕ) Fault
figures_from number [] fields = Ok []
figures_from number (place ∷ places) [] = Ok (place ∷ places)
figures_from number (place ∷ places) (field ∷ fields) = before (figure_in (token_of field number)) (figures_from (suc number) places fields)

-- the figures after the first field of a line: five, and 0 for each that is not there
abbrev pub figures_of : List (List ℕ) → Result (List ℕ) Fault
figures_of fields = figures_from 2 (0 ∷ 0 ∷ 0 ∷ 0 ∷ 0 ∷ []) (fields_after fields)
