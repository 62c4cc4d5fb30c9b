-- The slots of a column: what a change of one slot does to it and to the others, and counting cells.
use Rattle.std.proofs.Common.{◌≡◌, ℕ, zero, suc, ◌+◌, ◌-◌, ◌*◌, ◌<◌, ◌≤◌, Bool, true, false, cond, ◌&&◌, ◌||◌, eqb, ltb, leb, ◌⊎◌, List, [], ◌∷◌, length, get_or, take, drop, set, replicate, refl, ap, ◌∙◌, inl, inr, arith}
use Rattle.std.proofs.lemmas.List.{length-take-le, length-drop, take-set-le, drop-set-lt, drop-set-add, take-replicate, drop-replicate}
use Rattle.std.proofs.lemmas.Bool.{cases_order, ne_eqb}
use Rattle.std.proofs.lemmas.Bool.Decides.{nat_tests}
use Rattle.rules.specs.declared.slot.Slot.{Slot}
use Rattle.rules.specs.declared.slot.Slot.TheVariants.{Vacant, Marked}
use Rattle.rules.specs.Lists.{unit, any_of, all_of, count_of}
use Rattle.rules.specs.Rack.{is_vacant, holds, cells_of, row_of, put}

pub mul_mono : (a b c : ℕ) → a ≤ b → a * c ≤ b * c
mul_mono a b zero h = omega arith
mul_mono a b (suc c) h = omega (arith, mul_mono a b c h)

-- column c ends where column c + 1 begins
pub next_column : (c rows : ℕ) → (c + 1) * rows ≡ c * rows + rows
next_column c zero = omega arith
next_column c (suc n) = omega (arith, next_column c n)

pub cells_length : (rows : ℕ) (ss : List Slot) (c : ℕ) → (c + 1) * rows ≤ length ss → length (cells_of rows ss c) ≡ rows
cells_length rows ss c h =
    let k = next_column c rows in
    let d = length-drop (c * rows) ss in
    length-take-le rows (drop (c * rows) ss) (omega arith)

-- take commutes with a write inside
take_set_in : (n : ℕ) (ss : List Slot) (i : ℕ) (s : Slot) → i < n → take n (set ss i s) ≡ set (take n ss) i s
take_set_in zero ss i s h = absurd (omega arith)
take_set_in (suc n) [] i s h = refl
take_set_in (suc n) (t ∷ ts) zero s h = refl
take_set_in (suc n) (t ∷ ts) (suc i) s h = ap (λ (l : List Slot). t ∷ l) (take_set_in n ts i s (omega arith))

pub cells_here : (rows : ℕ) (ss : List Slot) (c row : ℕ) (s : Slot) → 1 ≤ row → row ≤ rows → cells_of rows (put rows ss c row s) c ≡ set (cells_of rows ss c) (row - 1) s
cells_here rows ss c row s h k =
    ap (take rows) (drop-set-add (c * rows) ss (row - 1) s) ∙ take_set_in rows (drop (c * rows) ss) (row - 1) s (omega arith)

drop_set_above : (m : ℕ) (ss : List Slot) (n i : ℕ) (s : Slot) → n + m ≤ i → take m (drop n (set ss i s)) ≡ take m (drop n ss)
drop_set_above m ss zero i s h = take-set-le m ss i s (omega arith)
drop_set_above m [] (suc n) i s h = refl
drop_set_above m (t ∷ ts) (suc n) zero s h = absurd (omega arith)
drop_set_above m (t ∷ ts) (suc n) (suc i) s h = drop_set_above m ts n i s (omega arith)

there_at : (rows : ℕ) (ss : List Slot) (c d row : ℕ) (s : Slot) → 1 ≤ row → row ≤ rows → (d ≡ c) ⊎ ((d < c) ⊎ (c < d)) → (d ≡ c → ⊥)
    → cells_of rows (put rows ss c row s) d ≡ cells_of rows ss d
there_at rows ss c d row s h k (inl e) n = absurd (n e)
there_at rows ss c d row s h k (inr (inl l)) n =
    let a = mul_mono (d + 1) c rows (omega arith) in let b = next_column d rows in
    drop_set_above rows ss (d * rows) (c * rows + (row - 1)) s (omega arith)
there_at rows ss c d row s h k (inr (inr l)) n =
    let a = mul_mono (c + 1) d rows (omega arith) in let b = next_column c rows in
    ap (take rows) (drop-set-lt (d * rows) ss (c * rows + (row - 1)) s (omega arith))

pub cells_there : (rows : ℕ) (ss : List Slot) (c d row : ℕ) (s : Slot) → 1 ≤ row → row ≤ rows → (d ≡ c → ⊥) → cells_of rows (put rows ss c row s) d ≡ cells_of rows ss d
cells_there rows ss c d row s h k n = there_at rows ss c d row s h k (cases_order d c) n

-- the column of a rack just opened
pub cells_new : (rows columns c : ℕ) → c < columns → cells_of rows (replicate (columns * rows) Vacant) c ≡ replicate rows Vacant
cells_new rows columns c h =
    let a = mul_mono (c + 1) columns rows (omega arith) in let b = next_column c rows in
    ap (take rows) (drop-replicate (c * rows) (columns * rows) Vacant) ∙ take-replicate rows (columns * rows - c * rows) Vacant (omega arith)

-- a column of the board lies within the slots
pub column_inside : (c columns rows : ℕ) → c < columns → (c + 1) * rows ≤ columns * rows
column_inside c columns rows h = mul_mono (c + 1) columns rows (omega arith)

-- counting
module _ {X : Type 0} where
  pub any_count : (p : X → Bool) (xs : List X) → any_of p xs ≡ ltb 0 (count_of p xs)
  any_count p [] = refl
  any_count p (x ∷ xs) = at (p x) (any_count p xs)
    where
      at : (b : Bool) → any_of p xs ≡ ltb 0 (count_of p xs) → (b || any_of p xs) ≡ ltb 0 (unit b + count_of p xs)
      at true e = grind (arith, nat_tests)
      at false e = e ∙ ap (ltb 0) (omega arith)

  pub count_most : (p : X → Bool) (xs : List X) → count_of p xs ≤ length xs
  count_most p [] = omega arith
  count_most p (x ∷ xs) = at (p x) (count_most p xs)
    where
      at : (b : Bool) → count_of p xs ≤ length xs → unit b + count_of p xs ≤ suc (length xs)
      at true e = omega arith
      at false e = omega arith

  pub all_count : (p : X → Bool) (xs : List X) → all_of p xs ≡ leb (length xs) (count_of p xs)
  all_count p [] = refl
  all_count p (x ∷ xs) = at (p x) (all_count p xs) (count_most p xs)
    where
      at : (b : Bool) → all_of p xs ≡ leb (length xs) (count_of p xs) → count_of p xs ≤ length xs → (b && all_of p xs) ≡ leb (suc (length xs)) (unit b + count_of p xs)
      at true e h = e ∙ grind (arith, nat_tests)
      at false e h = grind (arith, nat_tests)

  -- the count after one cell is changed
  pub count_set : (p : X → Bool) (xs : List X) (i : ℕ) (y d : X) → i < length xs → count_of p (set xs i y) + unit (p (get_or xs i d)) ≡ count_of p xs + unit (p y)
  count_set p [] i y d h = absurd (omega arith)
  count_set p (x ∷ xs) zero y d h = omega arith
  count_set p (x ∷ xs) (suc i) y d h = omega (arith, count_set p xs i y d (omega arith))

-- the row of ticket n's mark, where there is one
row_at : (n : ℕ) (s : Slot) (ss : List Slot) (b : Bool) → holds n s ≡ b → 1 ≤ unit b + count_of (holds n) ss
    → (1 ≤ count_of (holds n) ss → (1 ≤ row_of n ss) × (row_of n ss ≤ length ss) × (holds n (get_or ss (row_of n ss - 1) Vacant) ≡ true))
    → let r = cond b 1 (cond (eqb (row_of n ss) 0) 0 (suc (row_of n ss))) in (1 ≤ r) × (r ≤ suc (length ss)) × (holds n (get_or (s ∷ ss) (r - 1) Vacant) ≡ true)
row_at n s ss true e h ih = (omega arith, omega arith, e)
row_at n s ss false e h ih = step (row_of n ss) (ih (omega arith))
  where
    step : (r : ℕ) → (1 ≤ r) × (r ≤ length ss) × (holds n (get_or ss (r - 1) Vacant) ≡ true)
        → let q = cond (eqb r 0) 0 (suc r) in (1 ≤ q) × (q ≤ suc (length ss)) × (holds n (get_or (s ∷ ss) (q - 1) Vacant) ≡ true)
    step zero k = absurd (let z = k.0 in omega arith)
    step (suc r) k =
        let e1 : suc (suc r) - 1 ≡ suc r = omega arith in
        let e2 : suc r - 1 ≡ r = omega arith in
        let z = ne_eqb (suc r) 0 (λ e. omega arith) in
        rw z (omega arith, let j = k.1 in omega arith, rw e1 (rw e2 at k.2))

pub row_held : (n : ℕ) (ss : List Slot) → 1 ≤ count_of (holds n) ss → (1 ≤ row_of n ss) × (row_of n ss ≤ length ss) × (holds n (get_or ss (row_of n ss - 1) Vacant) ≡ true)
row_held n [] h = absurd (omega arith)
row_held n (s ∷ ss) h = row_at n s ss (holds n s) refl h (λ k. row_held n ss k)

pub holds_mark : (n : ℕ) (s : Slot) → holds n s ≡ true → s ≡ Marked n
holds_mark n Vacant e = cc
holds_mark n (Marked m) e = ap Marked (grind (arith, nat_tests))

-- a rack just opened has nothing but vacant cells
pub all_vacant : (n : ℕ) → count_of is_vacant (replicate n Vacant) ≡ n
all_vacant zero = refl
all_vacant (suc n) = omega (arith, all_vacant n)

pub none_held : (m n : ℕ) → count_of (holds m) (replicate n Vacant) ≡ 0
none_held m zero = refl
none_held m (suc n) = omega (arith, none_held m n)
