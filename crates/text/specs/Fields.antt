-- The fields of a line, and a line made of its fields.
use Rattle.std.specs.Prelude.{◌≡◌, ℕ, Bool, true, cond, not, ◌&&◌, ◌||◌, List, [], ◌∷◌, ◌++◌, Some, None, Option, ◌==◌}
use Rattle.std.specs.Borrow.{Bor}
use Rattle.text.specs.Frames.{feed, on_first}
use Rattle.text.specs.Lines.{ends_once}

-- what parts the fields of a line
abbrev pub tab : ℕ
tab = 9

-- The fields of a line: it is cut at each tab, up to the line feed, or where the bytes end.
abbrev pub fields_of : List ℕ → List (List ℕ)
fields_of [] = [] ∷ []
fields_of (b ∷ bs) = cond (b == feed) ([] ∷ []) (cond (b == tab) ([] ∷ fields_of bs) (on_first b (fields_of bs)))

-- the fields of what is left of a line, if anything is
abbrev pub fields_left : Option (Bor (List ℕ)) → List (List ℕ)
fields_left None = []
fields_left (Some rest) = fields_of rest.now

-- the bytes before the first tab or line feed, or all of them
abbrev pub first_field : List ℕ → List ℕ
first_field [] = []
first_field (b ∷ bs) = cond (b == feed || b == tab) [] (b ∷ first_field bs)

-- the bytes after the first tab, unless a line feed stands before it
abbrev pub after_field : List ℕ → Option (List ℕ)
after_field [] = None
after_field (b ∷ bs) = cond (b == feed) None (cond (b == tab) (Some bs) (after_field bs))

-- the fields but the first
abbrev pub fields_after : List (List ℕ) → List (List ℕ)
fields_after [] = []
fields_after (field ∷ fields) = fields

-- a tab and then a field, for each field; then the line feed
abbrev pub tabbed : List (List ℕ) → List ℕ
tabbed [] = feed ∷ []
tabbed (field ∷ fields) = tab ∷ (field ++ tabbed fields)

-- a line: its first word, and the fields that follow
abbrev pub text_line : List ℕ → List (List ℕ) → List ℕ
text_line word fields = word ++ tabbed fields

-- a line of these fields
abbrev pub line_of : List (List ℕ) → List ℕ
line_of [] = feed ∷ []
line_of (field ∷ fields) = text_line field fields

-- a field has no tab and no line feed in it
abbrev pub plain : List ℕ → Bool
plain [] = true
plain (b ∷ bs) = not (b == feed || b == tab) && plain bs

abbrev pub all_plain : List (List ℕ) → Bool
all_plain [] = true
all_plain (field ∷ fields) = plain field && all_plain fields

-- Cutting a line into fields loses nothing and leaves no tab: a line is made of its fields again, each of them is plain, and
-- no other plain fields make the same line.
pub record FieldsAreTheLineCutAtTabs : Type 0 where
  pub whole : (line : List ℕ) → ends_once line ≡ true → line_of (fields_of line) ≡ line
  pub cut : (bytes : List ℕ) → all_plain (fields_of bytes) ≡ true
  pub only : (field : List ℕ) (fields : List (List ℕ)) → all_plain (field ∷ fields) ≡ true → fields_of (text_line field fields) ≡ field ∷ fields
