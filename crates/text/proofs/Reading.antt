-- What `parse` makes of a text, and what a figure is.
use Rattle.std.proofs.Common.{◌≡◌, ℕ, ◌^◌, ◌<◌, ◌≤◌, true, false, ltb, List, length, get_or, Some, None, Ok, Err, IsUtf8, Result, sym, ap, ◌∙◌, ⊎_elim, arith, rules}
use Rattle.std.specs.Str.Parse.{ParsesUnsigned}
use Rattle.std.specs.Result.{OkIff, result_ok}
use Rattle.std.specs.Str.{all_ascii_digits}
use Rattle.std.proofs.lemmas.Str.{IsUtf8-from_ascii}
use Rattle.std.proofs.lemmas.Str.Parse.{IsNumeralModel, numerals_by_fold, parse_plain}
use Rattle.std.proofs.lemmas.Fmt.{length-decimal-le, decimal-digits_value, IsAscii-from_digits}
use Rattle.std.proofs.lemmas.Bool.{and_parts, and_from, not-true, not_from_false, leb-true, le-leb, eq-eqb, cond-true, cond-false, cases_Bool, cases_lt, both_ways}
use Rattle.text.specs.Figures.{read_on, number_of, padded, bare, is_figure, figure_of}

-- digits read from the left write a number
pub own : IsNumeralModel (λ ds. all_ascii_digits ds ≡ true) (read_on 0)
own = numerals_by_fold _ (search rules) read_on (search rules)

-- what makes a figure
pub record Figure (text : List ℕ) : Type 0 where
  pub digits : all_ascii_digits text ≡ true
  pub some : 0 < length text
  pub few : length text ≤ 10
  pub unpadded : padded text ≡ false
  pub small : number_of text < 2 ^ 32

pub figure_parts : (text : List ℕ) → is_figure text ≡ true → Figure text
figure_parts text h =
    let a = and_parts _ _ h in
    let b = and_parts _ _ a.1 in
    let c = and_parts _ _ b.1 in
    let d = and_parts _ _ c.1 in
    record { digits = a.0; some = leb-true _ _ b.0; few = leb-true _ _ c.0; unpadded = not-true _ d.0; small = let l = leb-true _ _ d.1 in omega arith }

pub figure_from : (text : List ℕ) → Figure text → is_figure text ≡ true
figure_from text f =
    and_from _ _ f.digits
    (and_from _ _ (le-leb _ _ f.some)
    (and_from _ _ (le-leb _ _ f.few) (and_from _ _ (not_from_false _ f.unpadded) (le-leb _ _ (let l = f.small in omega arith)))))

no_figure : (text : List ℕ) → (Figure text → ⊥) → figure_of text ≡ None
no_figure text n = cond-false (is_figure text) _ _ (⊎_elim (λ h. absurd (n (figure_parts text h))) (λ h. h) (cases_Bool (is_figure text)))

-- a zero in front that is not padding is all there is
pub alone : (text : List ℕ) → 0 < length text → padded text ≡ false → get_or text 0 0 ≡ 48 → length text ≡ 1
alone text some p e = ⊎_elim (λ l. absurd (both_ways _ p (and_from _ _ (eq-eqb _ _ e) l))) (λ l. omega (arith, ltb_false' l)) (cases_Bool (ltb 1 (length text)))
  where
    ltb_false' : ltb 1 (length text) ≡ false → length text ≤ 1
    ltb_false' l = ⊎_elim (λ k. absurd (both_ways _ l (le-leb _ _ (omega arith)))) (λ k. k) (cases_lt 1 (length text))

-- digits with no padding are what is written of their number, so that few of them make a small one
few_digits : (text : List ℕ) → all_ascii_digits text ≡ true → 0 < length text → padded text ≡ false → number_of text < 2 ^ 32 → length text ≤ 10
few_digits text d s p l =
    let w = decimal-digits_value own text d s (alone text s p) (omega arith) in
    let short = length-decimal-le 10 (number_of text) (omega arith) (omega arith) (omega arith) in
    omega (arith, ap length w)

-- no text in UTF-8 at all
pub not_text : (text : List ℕ) → (IsUtf8 text → ⊥) → figure_of text ≡ None
not_text text n = no_figure text (λ f. n (IsUtf8-from_ascii text (IsAscii-from_digits text (own.to text f.digits))))

-- what `parse` reads of a bare text
pub parsed : {E : Type 0} (text : List ℕ) (r : Result ℕ E) → bare text ≡ true → ParsesUnsigned 32 10 text r → result_ok r ≡ figure_of text
parsed text r h reads =
    let parts = and_parts _ _ h in
    by r (not-true _ parts.1) (parse_plain own 32 text r reads (λ e. both_ways _ (not-true _ parts.0) (eq-eqb _ _ e)))
  where
    by : {E : Type 0} (r : Result ℕ E) → padded text ≡ false → OkIff r ((all_ascii_digits text ≡ true) × (0 < length text) × (number_of text < 2 ^ 32)) (number_of text) → result_ok r ≡ figure_of text
    by (Ok x) p c =
        let f = figure_from text (record { digits = c.0.0; some = c.0.1; few = few_digits text c.0.0 c.0.1 p c.0.2; unpadded = p; small = c.0.2 }) in
        ap Some c.1 ∙ sym (cond-true (is_figure text) _ _ f)
    by (Err e) p c = sym (no_figure text (λ f. c (f.digits, f.some, f.small)))
