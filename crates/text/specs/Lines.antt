-- What is a line.
use Rattle.std.specs.Prelude.{ℕ, Bool, false, cond, ◌&&◌, List, [], ◌∷◌, length, ◌==◌, nat_le}
use Rattle.text.specs.Frames.{feed, longest}

-- the first line feed is the last byte
abbrev pub ends_once : List ℕ → Bool
ends_once [] = false
ends_once (b ∷ bs) = cond (b == feed) (length bs == 0) (ends_once bs)

-- at most 80 bytes, with one line feed, at the end
abbrev pub is_line : List ℕ → Bool
is_line bytes = nat_le (length bytes) longest && ends_once bytes
