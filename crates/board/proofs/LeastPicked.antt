-- The foremost of the vacant rows' tallies is the row that the evening chooser means.
use Rattle.std.proofs.Common.{◌≡◌, ℕ, zero, suc, ◌+◌, ◌^◌, ◌<◌, ◌≤◌, Bool, true, false, cond, ◌⊎◌, List, [], ◌∷◌, length, get_or, sym, refl, ap, ◌∙◌, subst, inl, inr, arith}
use lib.Count.{count_trailing_zeros}
use Rattle.std.proofs.lemmas.Bool.{both_ways, cases_lt, cases_order}
use Rattle.std.proofs.lemmas.Bool.Decides.{nat_tests}
use Rattle.lists.specs.Order.{LeadsAt}
use Rattle.rules.specs.declared.asked.Asked.{Asked}
use Rattle.rules.specs.Choosers.{vacant_in, tally_of, evening_row, PicksEvening}
use Rattle.rules.proofs.Picks.{vacant_range, picks_evening, one_evening}
use Rattle.board.specs.declared.tally.RowTally.{RowTally}
use Rattle.board.specs.Tallies.{ranks, tallied, vacant_tallies}
use Rattle.board.proofs.Rows.{trailing_row}

-- what an entry's rank tells
ranks_tells : (x y : RowTally) → ranks x y ≡ true → (x.count ≤ y.count) × (y.row < x.row → x.count < y.count)
ranks_tells x y e = (grind (arith, nat_tests), λ l. grind (arith, nat_tests))

module _ (tallies : List ℕ) (mask : ℕ) where
  -- each entry is that of a vacant row
  abbrev VacantAt : List RowTally → ℕ → RowTally → Type 0
  VacantAt entries k d = (row : ℕ) × (vacant_in mask row ≡ true) × (get_or entries k d ≡ tallied tallies row)

  vacant_at : (i : ℕ) (rest : List RowTally) (b : Bool) (k : ℕ) (d : RowTally) → vacant_in mask i ≡ b
      → ((j : ℕ) → j < length rest → VacantAt rest j d) → k < length (cond b (tallied tallies i ∷ rest) rest) → VacantAt (cond b (tallied tallies i ∷ rest) rest) k d
  vacant_at i rest true zero d e more h = (i, e, refl)
  vacant_at i rest true (suc k) d e more h = more k (omega arith)
  vacant_at i rest false k d e more h = more k h

  each_vacant : (i n k : ℕ) (d : RowTally) → k < length (vacant_tallies tallies mask i n) → VacantAt (vacant_tallies tallies mask i n) k d
  unfolding vacant_tallies
  each_vacant i zero k d h = absurd (omega arith)
  each_vacant i (suc n) k d h = vacant_at i (vacant_tallies tallies mask (suc i) n) (vacant_in mask i) k d refl (λ j l. each_vacant (suc i) n j d l) h

  -- each vacant row has its entry
  abbrev EntryOf : List RowTally → ℕ → RowTally → Type 0
  EntryOf entries row d = (k : ℕ) × (k < length entries) × (get_or entries k d ≡ tallied tallies row)

  entry_at : (i : ℕ) (rest : List RowTally) (b : Bool) (row : ℕ) (d : RowTally) → vacant_in mask i ≡ b → vacant_in mask row ≡ true → i ≤ row
      → (row ≡ i) ⊎ ((row < i) ⊎ (i < row)) → (suc i ≤ row → EntryOf rest row d) → EntryOf (cond b (tallied tallies i ∷ rest) rest) row d
  entry_at i rest true row d e v a (inl s) more = (0, omega arith, ap (tallied tallies) (sym s))
  entry_at i rest true row d e v a (inr (inl l)) more = absurd (omega arith)
  entry_at i rest true row d e v a (inr (inr l)) more = let m = more l in (suc m.0, let k = m.1 in omega arith, m.2)
  entry_at i rest false row d e v a (inl s) more = absurd (both_ways (vacant_in mask i) e (sym (ap (vacant_in mask) s) ∙ v))
  entry_at i rest false row d e v a (inr (inl l)) more = absurd (omega arith)
  entry_at i rest false row d e v a (inr (inr l)) more = more l

  each_entry : (i n row : ℕ) (d : RowTally) → i ≤ row → row < i + n → vacant_in mask row ≡ true → EntryOf (vacant_tallies tallies mask i n) row d
  unfolding vacant_tallies
  each_entry i zero row d a b v = absurd (omega arith)
  each_entry i (suc n) row d a b v =
      entry_at i (vacant_tallies tallies mask (suc i) n) (vacant_in mask i) row d refl v a (cases_order row i) (λ l. each_entry (suc i) n row d l (omega arith) v)

  -- there is none only where no row is vacant
  pub none_leads : mask < 2 ^ 16 → vacant_tallies tallies mask 1 16 ≡ [] → mask ≡ 0
  none_leads h e = at (cases_lt 0 mask)
    where
      at : (0 < mask) ⊎ (mask ≤ 0) → mask ≡ 0
      at (inr l) = omega arith
      at (inl l) =
          let v = (trailing_row mask l h).vacant in
          let k = vacant_range mask (count_trailing_zeros 16 mask + 1) v in
          let m = each_entry 1 16 (count_trailing_zeros 16 mask + 1) (tallied tallies 0) k.0 (omega (arith, k.1)) v in
          let n = m.1 in
          let z = ap length e in
          absurd (omega arith)

  -- the entry that leads is that of the vacant row with the smallest tally, the lower row on ties
  leads_all : (place : ℕ) (d : RowTally) → LeadsAt ranks (vacant_tallies tallies mask 1 16) place
      → PicksEvening tallies mask (get_or (vacant_tallies tallies mask 1 16) place d).row
  leads_all place d h =
      let v = each_vacant 1 16 place d h.within in
      let row = v.0 in
      subst (λ (x : RowTally). PicksEvening tallies mask x.row) (sym v.2)
      (record {
        vacant = v.1;
        smallest = λ other w. (beats row other v.2 w).0;
        lower_on_ties = λ lower w l t. let b = (beats row lower v.2 w).1 l in omega arith;
      })
    where
      beats : (row other : ℕ) → get_or (vacant_tallies tallies mask 1 16) place d ≡ tallied tallies row → vacant_in mask other ≡ true
          → (tally_of tallies row ≤ tally_of tallies other) × (other < row → tally_of tallies row < tally_of tallies other)
      beats row other e w =
          let k = vacant_range mask other w in
          let m = each_entry 1 16 other d k.0 (omega (arith, k.1)) w in
          ranks_tells (tallied tallies row) (tallied tallies other)
          (subst (λ (y : RowTally). ranks (tallied tallies row) y ≡ true) m.2
          (subst (λ (x : RowTally). ranks x (get_or (vacant_tallies tallies mask 1 16) m.0 d) ≡ true) e (h.all m.0 d m.1)))

  pub leads_evening : (entries : List RowTally) (place : ℕ) (d : RowTally) → entries ≡ vacant_tallies tallies mask 1 16
      → LeadsAt ranks entries place → PicksEvening tallies mask (get_or entries place d).row
  leads_evening entries place d e h =
      subst (λ (xs : List RowTally). PicksEvening tallies mask (get_or xs place d).row) (sym e) (leads_all place d (subst (λ (xs : List RowTally). LeadsAt ranks xs place) e h))

-- so the row is the one that the chooser means
pub evening_row_lem : (tallies : List ℕ) (q : Asked) (row : ℕ) → PicksEvening tallies q.mask row → row ≡ evening_row tallies q
evening_row_lem tallies q row p = one_evening tallies q.mask row (evening_row tallies q) p (picks_evening tallies q (row, p.vacant))
