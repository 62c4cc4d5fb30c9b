-- A column's vacancy mask against its slots: bit i is set if and only if the slot in row i + 1 is vacant.
use Rattle.std.proofs.Common.{◌≡◌, ℕ, zero, suc, ◌+◌, ◌-◌, ◌*◌, ◌/◌, ◌%◌, ◌<◌, ◌≤◌, Bool, true, false, not, ◌&&◌, ◌||◌, eqb, leb, List, [], ◌∷◌, length, get_or, sym, refl, ap, ◌∙◌, arith}
use Rattle.std.proofs.lemmas.Bool.{and_parts, leb-true, le-leb}
use Rattle.std.proofs.lemmas.Bool.Decides.{nat_tests}
use Rattle.rules.specs.declared.slot.Slot.{Slot}
use Rattle.rules.specs.declared.slot.Slot.TheVariants.{Vacant, Marked}
use Rattle.rules.specs.Lists.{unit, any_of}
use Rattle.rules.specs.Rack.{is_vacant}
use Rattle.rules.specs.Choosers.{mask_of, bit, vacant_in}

-- the bits of an odd and of an even mask
low_bit : (b : Bool) (m : ℕ) → eqb ((unit b + 2 * m) % 2) 1 ≡ b
low_bit true m = let e : (1 + 2 * m) % 2 ≡ 1 = omega arith in rw e refl
low_bit false m = let e : (0 + 2 * m) % 2 ≡ 0 = omega arith in rw e refl

high_bits : (b : Bool) (m : ℕ) → (unit b + 2 * m) / 2 ≡ m
high_bits true m = omega arith
high_bits false m = omega arith

-- past the column there is no bit, as there is no vacant slot
pub mask_bit : (ss : List Slot) (i : ℕ) → bit i (mask_of ss) ≡ is_vacant (get_or ss i (Marked 0))
mask_bit [] zero = refl
mask_bit [] (suc i) = mask_bit [] i
mask_bit (s ∷ ss) zero = low_bit (is_vacant s) (mask_of ss)
mask_bit (s ∷ ss) (suc i) = ap (bit i) (high_bits (is_vacant s) (mask_of ss)) ∙ mask_bit ss i

is_vacant_lem : (s : Slot) → is_vacant s ≡ true → s ≡ Vacant
is_vacant_lem Vacant e = refl
is_vacant_lem (Marked n) e = cc

-- a vacant slot stands within the column
within_column : (ss : List Slot) (i : ℕ) → is_vacant (get_or ss i (Marked 0)) ≡ true → i < length ss
within_column [] i e = cc
within_column (s ∷ ss) zero e = omega arith
within_column (s ∷ ss) (suc i) e = let k = within_column ss i e in omega arith

-- a row that is vacant by the mask is a row of the column, and its slot is vacant
pub vacant_cell : (ss : List Slot) (row : ℕ) → vacant_in (mask_of ss) row ≡ true
    → (1 ≤ row) × (row ≤ length ss) × (get_or ss (row - 1) (Marked 0) ≡ Vacant)
vacant_cell ss row e =
    let p = and_parts (leb 1 row) (leb row 16 && bit (row - 1) (mask_of ss)) e in
    let q = and_parts (leb row 16) (bit (row - 1) (mask_of ss)) p.1 in
    let v : is_vacant (get_or ss (row - 1) (Marked 0)) ≡ true = sym (mask_bit ss (row - 1)) ∙ q.1 in
    let low = leb-true 1 row p.0 in
    let k = within_column ss (row - 1) v in
    (low, omega arith, is_vacant_lem (get_or ss (row - 1) (Marked 0)) v)

-- a vacant slot's row is vacant by the mask
pub vacant_row : (ss : List Slot) (i : ℕ) → length ss ≤ 16 → i < length ss → is_vacant (get_or ss i (Marked 0)) ≡ true → vacant_in (mask_of ss) (i + 1) ≡ true
vacant_row ss i most inside v =
    let a : leb 1 (i + 1) ≡ true = le-leb 1 (i + 1) (omega arith) in
    let b : leb (i + 1) 16 ≡ true = le-leb (i + 1) 16 (omega arith) in
    let d : i + 1 - 1 ≡ i = omega arith in
    let c : bit (i + 1 - 1) (mask_of ss) ≡ true = ap (λ (k : ℕ). bit k (mask_of ss)) d ∙ (mask_bit ss i ∙ v) in
    rw (a, b, c) refl

vacant_at : (ss : List Slot) → any_of is_vacant ss ≡ true → (i : ℕ) × (is_vacant (get_or ss i (Marked 0)) ≡ true)
vacant_at [] e = cc
vacant_at (Vacant ∷ ss) e = (0, refl)
vacant_at (Marked n ∷ ss) e = let k = vacant_at ss e in (suc k.0, k.1)

-- a column with a vacant slot has a row that is vacant by the mask
pub some_vacant : (ss : List Slot) → length ss ≤ 16 → any_of is_vacant ss ≡ true → (row : ℕ) × (vacant_in (mask_of ss) row ≡ true)
some_vacant ss most e = let k = vacant_at ss e in (k.0 + 1, vacant_row ss k.0 most (within_column ss k.0 k.1) k.1)

-- the mask is 0 if no slot is vacant
pub mask_zero : (ss : List Slot) → eqb (mask_of ss) 0 ≡ not (any_of is_vacant ss)
mask_zero [] = refl
mask_zero (s ∷ ss) = at (is_vacant s) (mask_of ss) (any_of is_vacant ss) (mask_zero ss)
  where
    at : (b : Bool) (m : ℕ) (a : Bool) → eqb m 0 ≡ not a → eqb (unit b + 2 * m) 0 ≡ not (b || a)
    at true m a e = grind (arith, nat_tests)
    at false m true e = grind (arith, nat_tests)
    at false m false e = grind (arith, nat_tests)
