-- The foremost entry of a list, by a test `before x y`: x stands before y, or level with it.
use Rattle.std.specs.Prelude.{◌≡◌, ℕ, suc, ◌<◌, Bool, true, false, cond, List, [], ◌∷◌, length, Some, None, Option, slice_index_or}
use Rattle.std.specs.Option.{option_map}
use Rattle.std.specs.List.{list_all}

-- the first place whose entry passes the test
abbrev pub first_where : {X : Type 0} → (X → Bool) → List X → Option ℕ
first_where test [] = None
first_where test (x ∷ xs) = cond (test x) (Some 0) (option_map suc (first_where test xs))

-- the first place whose entry stands before or level with every entry
abbrev pub foremost_of : {X : Type 0} → (X → X → Bool) → List X → Option ℕ
foremost_of before list = first_where (λ x. list_all (before x) list) list

-- The entry at `place` stands before or level with every entry, and no earlier one stands level with it or before it.
pub record LeadsAt {X : Type 0} (before : X → X → Bool) (list : List X) (place : ℕ) : Type 0 where
  pub within : place < length list
  pub all : (k : ℕ) (d : X) → k < length list → before (slice_index_or list place d) (slice_index_or list k d) ≡ true
  pub first : (k : ℕ) (d : X) → k < place → before (slice_index_or list k d) (slice_index_or list place d) ≡ false

-- what the place of the foremost entry tells; there is none just of an empty list
abbrev pub Foremost : {X : Type 0} → (X → X → Bool) → List X → Option ℕ → Type 0
Foremost before list None = list ≡ []
Foremost before list (Some place) = LeadsAt before list place
