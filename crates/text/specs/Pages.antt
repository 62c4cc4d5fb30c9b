-- The texts that are written, and a page that they are written on.
use Rattle.std.specs.Prelude.{◌≡◌, ℕ, ◌+◌, ◌<◌, ◌≤◌, cond, List, [], ◌∷◌, ◌++◌, length, take, drop, Ok, Err, codes, decimal, Result, ◌==◌, nat_lt}
use Rattle.rules.specs.Words.{refusal_number}
use Rattle.rules.specs.declared.refusal.Refusal.TheVariants as refusal
use Rattle.text.specs.declared.fault.Fault.{Fault}
use Rattle.text.specs.declared.page.Field.{Field}
use Rattle.text.specs.declared.page.Field.TheVariants as field
use Rattle.text.specs.Faults.{layer_of, layer_word, fault_of}
use Rattle.text.specs.Fields.{tab, text_line}

-- a page of so many bytes has room for every answer
abbrev pub shortest : ℕ
shortest = 64

-- the text of a field: a word as it is, a figure in decimal digits
abbrev pub field_text : Field → List ℕ
field_text (field.Word text) = text.now
field_text (field.Figure n) = decimal n

-- what stands before the field at this place of a line: a tab, but nothing before the first
abbrev pub gap : ℕ → List ℕ
gap place = cond (place == 0) [] (tab ∷ [])

-- a fault: layer, number, field
abbrev pub fault_fields : Fault → List (List ℕ)
fault_fields f = layer_word (layer_of f.refusal) ∷ decimal (refusal_number f.refusal) ∷ decimal f.field ∷ []

-- the answer to a line that was refused
abbrev pub no_line : Fault → List ℕ
no_line f = text_line (codes "no") (fault_fields f)

-- the closing line for the fault of the line with this number
abbrev pub fault_line : ℕ → Fault → List ℕ
fault_line line f = text_line (codes "fault") (decimal line ∷ fault_fields f)

-- the last line: how many lines there were, and how many were refused
abbrev pub end_line : ℕ → ℕ → List ℕ
end_line lines refusals = text_line (codes "end") (decimal lines ∷ decimal refusals ∷ [])

-- a page with a text from its first byte on; past the text it is as it was
abbrev pub over : List ℕ → List ℕ → List ℕ
over text page = text ++ drop (length text) page

-- The answer of a call that writes a text on a page: how many bytes it wrote, or that the page is too short.
abbrev pub answered : List ℕ → List ℕ → Result ℕ Fault
answered text page = cond (nat_lt (length page) shortest) (Err (fault_of refusal.Page 0 0)) (Ok (length text))

-- The page after it; too short a page is as it was.
abbrev pub page_with : List ℕ → List ℕ → List ℕ
page_with text page = cond (nat_lt (length page) shortest) page (over text page)

-- The text was written on the page from `at` on and ends at `end`; past that the page is as it was.
pub record Puts (page : List ℕ) (at : ℕ) (text : List ℕ) (after : List ℕ) (end : ℕ) : Type 0 where
  pub ends : end ≡ at + length text
  pub front : take end after ≡ take at page ++ text
  pub rest : drop end after ≡ drop end page

-- whether a page has room for an answer
abbrev pub checked : List ℕ → Result (Unit {0}) Fault
checked page = cond (nat_lt (length page) shortest) (Err (fault_of refusal.Page 0 0)) (Ok tt)

-- and what that says of its length
abbrev pub Checked : List ℕ → Result (Unit {0}) Fault → Type 0
Checked page (Ok _) = shortest ≤ length page
Checked page (Err f) = (length page < shortest) × (f ≡ fault_of refusal.Page 0 0)
