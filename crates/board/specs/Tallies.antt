-- The tallies of the vacant rows, and their order.
use Rattle.std.specs.Prelude.{◌≡◌, ℕ, zero, suc, Bool, cond, ◌&&◌, ◌||◌, List, [], ◌∷◌, Some, None, Option, ◌==◌, nat_le, nat_lt}
use Rattle.rules.specs.Choosers.{vacant_in, tally_of, PicksEvening}
use Rattle.board.specs.declared.tally.RowTally.{RowTally}

-- the first stands before the second, or level with it: by count, then by row
abbrev pub ranks : RowTally → RowTally → Bool
ranks x y = nat_lt x.count y.count || (x.count == y.count && nat_le x.row y.row)

-- a row with its tally
abbrev pub tallied : List ℕ → ℕ → RowTally
tallied tallies row = record { count = tally_of tallies row; row = row }

-- of n rows from row i on, the vacant ones with their tallies
unfoldable pub vacant_tallies : List ℕ → ℕ → ℕ → ℕ → List RowTally
vacant_tallies tallies mask i zero = []
vacant_tallies tallies mask i (suc n) =
    let rest = vacant_tallies tallies mask (suc i) n in
    cond (vacant_in mask i) (tallied tallies i ∷ rest) rest

-- the vacant row with the smallest tally, the lower row on ties; none if and only if no row is vacant
abbrev pub LeastPicked : List ℕ → ℕ → Option ℕ → Type 0
LeastPicked tallies mask None = mask ≡ 0
LeastPicked tallies mask (Some row) = PicksEvening tallies mask row
