-- Figures: numbers as lines have them.
use Rattle.std.specs.Prelude.{ℕ, ◌+◌, ◌-◌, ◌*◌, Bool, cond, not, ◌&&◌, List, [], ◌∷◌, length, Some, None, Option, ◌==◌, nat_le, nat_lt, slice_index}
use Rattle.std.specs.Str.{all_ascii_digits}

-- the number that digits write, after those that were read
abbrev pub read_on : ℕ → List ℕ → ℕ
read_on n [] = n
read_on n (d ∷ ds) = read_on (n * 10 + (d - 48)) ds

-- the number that digits write
abbrev pub number_of : List ℕ → ℕ
number_of text = read_on 0 text

-- a zero before other digits
abbrev pub padded : List ℕ → Bool
padded text = slice_index text 0 == 48 && nat_lt 1 (length text)

-- neither that nor a sign
abbrev pub bare : List ℕ → Bool
bare text = not (slice_index text 0 == 43) && not (padded text)

-- 1 to 10 digits, no zero before others, and at most 4,294,967,295
abbrev pub is_figure : List ℕ → Bool
is_figure text =
    all_ascii_digits text && (nat_le 1 (length text) && (nat_le (length text) 10 && (not (padded text) && nat_le (number_of text) 4294967295)))

-- the number of a figure; nothing of another text
abbrev pub figure_of : List ℕ → Option ℕ
figure_of text = cond (is_figure text) (Some (number_of text)) None
