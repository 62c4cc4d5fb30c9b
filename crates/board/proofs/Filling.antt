-- Filling a list with the tallies of the vacant rows, row by row.
use Rattle.std.proofs.Common.{◌≡◌, ℕ, suc, ◌+◌, ◌-◌, ◌<◌, ◌≤◌, true, false, List, [], ◌∷◌, ◌++◌, length, sym, refl, ap, ◌∙◌, arith}
use Rattle.std.proofs.lemmas.List.{append-nil, append_assoc, length-append}
use Rattle.rules.specs.Choosers.{vacant_in}
use Rattle.board.specs.declared.tally.RowTally.{RowTally}
use Rattle.board.specs.Tallies.{tallied, vacant_tallies}

-- the entries of the first i rows, with the vacant rows behind them, are all vacant rows
pub record Filled (tallies : List ℕ) (mask : ℕ) (entries : List RowTally) (i : ℕ) : Type 0 where
  pub within : length entries ≤ i
  pub filled : entries ++ vacant_tallies tallies mask (i + 1) (16 - i) ≡ vacant_tallies tallies mask 1 16

module _ (tallies : List ℕ) (mask : ℕ) (entries : List RowTally) (i : ℕ) (f : Filled tallies mask entries i) where
  pub filled_all : 16 ≤ i → entries ≡ vacant_tallies tallies mask 1 16
  unfolding vacant_tallies
  filled_all e =
      let z : 16 - i ≡ 0 = omega arith in
      sym (append-nil entries) ∙ (ap (λ (n : ℕ). entries ++ vacant_tallies tallies mask (i + 1) n) (sym z) ∙ f.filled)

  module _ (h : i < 16) where
    left : 16 - i ≡ suc (16 - (i + 1))
    left = omega arith

    next : suc (i + 1) ≡ i + 1 + 1
    next = omega arith

    pub filled_vacant : (entry : RowTally) → entry ≡ tallied tallies (i + 1) → vacant_in mask (i + 1) ≡ true → Filled tallies mask (entries ++ (entry ∷ [])) (i + 1)
    unfolding vacant_tallies
    filled_vacant entry k v =
        let rest = vacant_tallies tallies mask (i + 1 + 1) (16 - (i + 1)) in
        let e : vacant_tallies tallies mask (i + 1) (16 - i) ≡ entry ∷ rest = rw (k, left, v, next) refl in
        let w = f.within in
        record {
          within = simp length-append (omega arith);
          filled = append_assoc entries (entry ∷ []) rest ∙ (ap (λ (xs : List RowTally). entries ++ xs) (sym e) ∙ f.filled);
        }

    pub filled_taken : vacant_in mask (i + 1) ≡ false → Filled tallies mask entries (i + 1)
    unfolding vacant_tallies
    filled_taken v =
        let e : vacant_tallies tallies mask (i + 1) (16 - i) ≡ vacant_tallies tallies mask (i + 1 + 1) (16 - (i + 1)) = rw (left, v, next) refl in
        let w = f.within in
        record {
          within = omega arith;
          filled = ap (λ (xs : List RowTally). entries ++ xs) (sym e) ∙ f.filled;
        }
