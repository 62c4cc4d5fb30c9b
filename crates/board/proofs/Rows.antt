-- The rows of a mask, by shifts and by the zeros below its lowest bit.
use Rattle.std.proofs.Common.{◌≡◌, ℕ, zero, suc, ◌+◌, ◌-◌, ◌/◌, ◌%◌, ◌^◌, ◌<◌, ◌≤◌, true, false, cond, ◌&&◌, eqb, leb, Some, None, sym, refl, ap, ◌∙◌, pow-suc, arith}
use native.Mathlib.Nat.{pow-succ', div-div-eq-div-mul}
use lib.Bits.{bit_and}
use lib.Count.{count_trailing_zeros, under}
use Rattle.std.proofs.lemmas.Nat.{and_mask}
use Rattle.std.proofs.lemmas.Bool.{and_right, both_ways, eq-eqb, ne_eqb, le-leb}
use Rattle.rules.specs.Choosers.{bit, vacant_in, first_row, PicksLowest}
use Rattle.rules.proofs.Picks.{picks_lowest, one_lowest}

-- a bit by a shift
bit_shifted : (i mask : ℕ) → bit i mask ≡ eqb (bit_and (mask / 2 ^ i) 1) 1
bit_shifted zero mask = let e : mask / 1 ≡ mask = omega arith in rw (and_mask (mask / 2 ^ 0) 1, e) refl
bit_shifted (suc i) mask =
    let e : mask / 2 / 2 ^ i ≡ mask / 2 ^ suc i = div-div-eq-div-mul mask 2 (2 ^ i) ∙ ap (λ (n : ℕ). mask / n) (sym (pow-succ' 2 i)) in
    bit_shifted i (mask / 2) ∙ ap (λ (n : ℕ). eqb (bit_and n 1) 1) e

-- the lowest bit that is set stands above the zeros
record Found (k m i : ℕ) : Type 0 where
  within : i < k
  set : bit i m ≡ true

found_at : (k m d : ℕ) → m % 2 ≡ d → 0 < m → m < 2 ^ suc k → ((n : ℕ) → 0 < n → n < 2 ^ k → Found k n (count_trailing_zeros k n))
    → Found (suc k) m (under d (count_trailing_zeros k (m / 2)))
found_at k m zero e p q more =
    let f = more (m / 2) (omega arith) (omega (arith, pow-suc 2 k)) in record { within = let l = f.within in omega arith; set = f.set }
found_at k m (suc d) e p q more = record { within = omega arith; set = eq-eqb (m % 2) 1 (omega arith) }

found : (k m : ℕ) → 0 < m → m < 2 ^ k → Found k m (count_trailing_zeros k m)
unfolding count_trailing_zeros
found zero m p q = absurd (omega arith)
found (suc k) m p q = found_at k m (m % 2) refl p q (found k)

-- and none below it is set
below_at : (k m d i : ℕ) → m % 2 ≡ d → i < under d (count_trailing_zeros k (m / 2))
    → ((j : ℕ) → j < count_trailing_zeros k (m / 2) → bit j (m / 2) ≡ false) → bit i m ≡ false
below_at k m zero zero e h more = ne_eqb (m % 2) 1 (λ z. omega arith)
below_at k m zero (suc i) e h more = more i (omega arith)
below_at k m (suc d) i e h more = absurd (omega arith)

below_trailing : (k m i : ℕ) → i < count_trailing_zeros k m → bit i m ≡ false
unfolding count_trailing_zeros
below_trailing zero m i h = absurd (omega arith)
below_trailing (suc k) m i h = below_at k m (m % 2) i refl h (below_trailing k (m / 2))

-- a row by a shift
pub vacant_shifted : (mask row : ℕ) → 1 ≤ row → row ≤ 16 → eqb (bit_and (mask / 2 ^ (row - 1)) 1) 1 ≡ vacant_in mask row
vacant_shifted mask row a b =
    let low = le-leb 1 row a in
    let high = le-leb row 16 b in
    rw (low, high) (sym (bit_shifted (row - 1) mask))

-- a bit that is set is that of a vacant row
bit_vacant : (mask i : ℕ) → i < 16 → bit i mask ≡ true → vacant_in mask (i + 1) ≡ true
bit_vacant mask i h e =
    let low = le-leb 1 (i + 1) (omega arith) in
    let high = le-leb (i + 1) 16 (omega arith) in
    let d : i + 1 - 1 ≡ i = omega arith in
    rw (low, high, d) e

no_bit_vacant : (mask row : ℕ) → bit (row - 1) mask ≡ false → vacant_in mask row ≡ false
no_bit_vacant mask row e = and_right (leb 1 row) (leb row 16 && bit (row - 1) mask) (and_right (leb row 16) (bit (row - 1) mask) e)

-- no row is vacant by an empty mask
no_bit : (i : ℕ) → bit i 0 ≡ false
no_bit zero = refl
no_bit (suc i) = no_bit i

none_vacant : (row : ℕ) → vacant_in 0 row ≡ false
none_vacant row = no_bit_vacant 0 row (no_bit (row - 1))

pub some_vacant : (mask row : ℕ) → vacant_in mask row ≡ true → eqb mask 0 ≡ false
some_vacant mask row e = ne_eqb mask 0 (λ z. both_ways (vacant_in mask row) (ap (λ (m : ℕ). vacant_in m row) z ∙ none_vacant row) e)

-- one above the zeros below the lowest bit stands the lowest vacant row
pub trailing_row : (mask : ℕ) → 0 < mask → mask < 2 ^ 16 → PicksLowest mask (count_trailing_zeros 16 mask + 1)
trailing_row mask p q =
    let f = found 16 mask p q in
    record { vacant = bit_vacant mask (count_trailing_zeros 16 mask) f.within f.set; no_lower = λ lower h. below lower h }
  where
    below : (lower : ℕ) → lower < count_trailing_zeros 16 mask + 1 → vacant_in mask lower ≡ false
    below zero h = refl
    below (suc i) h = no_bit_vacant mask (suc i) (below_trailing 16 mask (suc i - 1) (omega arith))

pub lowest_row_lem : (mask row : ℕ) → (mask ≡ 0 → ⊥) → mask < 2 ^ 16 → row ≡ count_trailing_zeros 16 mask + 1
    → Some row ≡ cond (eqb mask 0) None (Some (first_row (vacant_in mask) 1 16))
lowest_row_lem mask row p q e =
    let t : PicksLowest mask row = rw e (trailing_row mask (omega arith) q) in
    let l = picks_lowest (record { mask = mask; column = 0; left = None }) (row, t.vacant) in
    rw (ne_eqb mask 0 p) (ap (λ (n : ℕ). Some n) (one_lowest mask row (first_row (vacant_in mask) 1 16) t l))
