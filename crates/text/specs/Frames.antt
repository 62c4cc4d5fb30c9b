-- How an input is cut into lines, and what the framer makes of it, block by block.
use Rattle.std.specs.Prelude.{◌≡◌, ℕ, Bool, false, cond, List, [], ◌∷◌, ◌++◌, map, length, Some, None, Option, ◌==◌, ◌≤◌, nat_le, IfSome}
use Rattle.std.specs.List.{flat_map}

-- what ends a line, and belongs to it
abbrev pub feed : ℕ
feed = 10

-- the longest line, with its line feed
abbrev pub longest : ℕ
longest = 80

-- a byte before the first piece
abbrev pub on_first : ℕ → List (List ℕ) → List (List ℕ)
on_first b [] = (b ∷ []) ∷ []
on_first b (l ∷ ls) = (b ∷ l) ∷ ls

-- The lines of an input: each ends with its line feed; what follows the last line feed is a line too, unless it is empty.
abbrev pub lines_of : List ℕ → List (List ℕ)
lines_of [] = []
lines_of (b ∷ bs) = cond (b == feed) ((b ∷ []) ∷ lines_of bs) (on_first b (lines_of bs))

-- nothing of the input is lost between its lines
abbrev pub Whole : Type 0
Whole = (input : List ℕ) → flat_map (λ line. line) (lines_of input) ≡ input

-- what is kept of a line: all of it, if it is not too long
abbrev pub kept : List ℕ → Option (List ℕ)
kept line = cond (nat_le (length line) longest) (Some line) None

-- what is kept of a line is no longer than the longest one
abbrev pub Short : Option (List ℕ) → Type 0
Short h = IfSome h (λ line. length line ≤ longest)

-- one more byte of a line
abbrev pub more : Option (List ℕ) → ℕ → Option (List ℕ)
more None b = None
more (Some bs) b = kept (bs ++ (b ∷ []))

-- nothing was read of the line
abbrev pub is_new : Option (List ℕ) → Bool
is_new None = false
is_new (Some bs) = length bs == 0

-- a block up to its first line feed, with it; all of it if it has none
abbrev pub up_to_feed : List ℕ → List ℕ
up_to_feed [] = []
up_to_feed (b ∷ bs) = b ∷ cond (b == feed) [] (up_to_feed bs)

-- what follows the first line feed of a block
abbrev pub after_feed : List ℕ → Option (List ℕ)
after_feed [] = None
after_feed (b ∷ bs) = cond (b == feed) (Some bs) (after_feed bs)

-- The lines that a framer hands out while it is fed these bytes, when it has kept `h` of the first one.
abbrev pub handed : Option (List ℕ) → List ℕ → List (Option (List ℕ))
handed h [] = []
handed h (b ∷ bs) = cond (b == feed) (more h b ∷ handed (Some []) bs) (handed (more h b) bs)

-- what it has kept after these bytes
abbrev pub holding : Option (List ℕ) → List ℕ → Option (List ℕ)
holding h [] = h
holding h (b ∷ bs) = holding (cond (b == feed) (Some []) (more h b)) bs

-- the same when it has just kept `h`, and these bytes are left of the block; if none, the line goes on past the block
abbrev pub handed_on : Option (List ℕ) → Option (List ℕ) → List (Option (List ℕ))
handed_on h None = []
handed_on h (Some rest) = h ∷ handed (Some []) rest

abbrev pub holding_on : Option (List ℕ) → Option (List ℕ) → Option (List ℕ)
holding_on h None = h
holding_on h (Some rest) = holding (Some []) rest

-- the lines that it hands out for an input in blocks; at the end of the input what it has kept is a line too, unless it is empty
abbrev pub handed_out : Option (List ℕ) → List (List ℕ) → List (Option (List ℕ))
handed_out h [] = cond (is_new h) [] (h ∷ [])
handed_out h (block ∷ blocks) = handed h block ++ handed_out (holding h block) blocks

-- Over an input in any blocks, the lines handed out are the lines of the input, each as far as it is kept.
abbrev pub Frames : Option (List ℕ) → Type 0
Frames h = (blocks : List (List ℕ)) → handed_out h blocks ≡ map kept (lines_of (flat_map (λ block. block) blocks))
