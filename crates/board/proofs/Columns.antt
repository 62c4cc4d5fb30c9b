-- Loops over the cells of a column: the mask, and the row of a mark.
use Rattle.std.proofs.Common.{◌≡◌, ℕ, zero, suc, ◌+◌, ◌*◌, ◌^◌, ◌%◌, ◌<◌, ◌≤◌, Bool, true, false, cond, eqb, List, [], ◌∷◌, length, get_or, take, ap, ◌∙◌, subst, pow-suc, arith, pow_mono}
use Rattle.std.proofs.Math.Nat.{mod-eq_of_lt}
use Rattle.std.proofs.lemmas.List.{length-take-le}
use Rattle.rules.specs.declared.slot.Slot.{Slot}
use Rattle.rules.specs.Lists.{unit}
use Rattle.rules.specs.Rack.{is_vacant}
use Rattle.rules.specs.Choosers.{mask_of}

pub unit_most : (b : Bool) → unit b ≤ 1
unit_most true = omega arith
unit_most false = omega arith

mask_below : (ss : List Slot) → mask_of ss < 2 ^ length ss
mask_below [] = omega arith
mask_below (s ∷ ss) = rw (pow-suc 2 (length ss)) (omega (arith, mask_below ss, unit_most (is_vacant s)))

-- the first i cells, and one more
mask_upto : (ss : List Slot) (i : ℕ) (d : Slot) (b : Bool) → i < length ss → b ≡ is_vacant (get_or ss i d) → mask_of (take (suc i) ss) ≡ mask_of (take i ss) + unit b * 2 ^ i
mask_upto [] i d b l e = absurd (omega arith)
mask_upto (s ∷ ss) zero d b l e = rw e (omega arith)
mask_upto (s ∷ ss) (suc i) d true l e = rw (pow-suc 2 i) (omega (arith, mask_upto ss i d true (omega arith) e))
mask_upto (s ∷ ss) (suc i) d false l e = omega (arith, mask_upto ss i d false (omega arith) e)

module _ (ss : List Slot) (i m : ℕ) (l : i < length ss) (short : length ss ≤ 16) (e : m ≡ mask_of (take i ss)) where
  power : 2 ^ i ≤ 32768
  power = pow_mono {i = i} {j = 15} (omega arith)

  one_bit : 1 * 2 ^ i % 65536 ≡ 2 ^ i
  one_bit = let p = power in ap (λ n. n % 65536) (omega arith) ∙ mod-eq_of_lt (omega arith)

  below : m < 2 ^ i
  below =
      let k : length (take i ss) ≡ i = length-take-le i ss (omega arith) in
      rw e (subst (λ n. mask_of (take i ss) < 2 ^ n) k (mask_below (take i ss)))

  next : i + 1 ≡ suc i
  next = omega arith

  pub mask_fits : m + 1 * 2 ^ i % 65536 < 65536
  mask_fits = let p = power in let b = below in rw one_bit (omega arith)

  pub mask_vacant : (d : Slot) → true ≡ is_vacant (get_or ss i d) → m + 1 * 2 ^ i % 65536 ≡ mask_of (take (i + 1) ss)
  mask_vacant d v = rw (one_bit, next) (omega (arith, mask_upto ss i d true l v))

  pub mask_marked : (d : Slot) → false ≡ is_vacant (get_or ss i d) → m ≡ mask_of (take (i + 1) ss)
  mask_marked d v = rw next (omega (arith, mask_upto ss i d false l v))

-- the row found among the cells from i on, counted from the top
abbrev pub shifted : ℕ → ℕ → ℕ
shifted i r = cond (eqb r 0) 0 (i + r)
