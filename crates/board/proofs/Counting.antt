-- How many entries of a list pass: the library's count and the rules' are the same.
use Rattle.std.proofs.Common.{◌≡◌, ℕ, ◌+◌, Bool, true, false, cond, List, refl, sym, arith}
use Rattle.std.specs.List.{count_by}
use Rattle.std.proofs.lemmas.List.Recursion.{is_count_by}
use Rattle.rules.specs.Lists.{unit, count_of}

pub counted_by : {X : Type 0} (p : X → Bool) (xs : List X) → count_by p xs ≡ count_of p xs
counted_by p xs = sym (is_count_by (count_of p) p refl (λ x ys. at (p x) (count_of p ys)) xs)
  where
    at : (b : Bool) (n : ℕ) → unit b + n ≡ cond b (1 + n) n
    at true n = omega arith
    at false n = omega arith
