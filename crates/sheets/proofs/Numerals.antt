-- Figures there and back: a number's digits are a figure, and a figure's text is its number's digits.
use Rattle.std.proofs.Common.{◌≡◌, ℕ, ◌^◌, ◌<◌, Bool, true, false, cond, eqb, ltb, List, [], ◌∷◌, length, get_or, Some, None, Ok, decimal, sym, refl, ap, ◌∙◌, ⊎_elim, arith}
use Rattle.std.specs.Str.{all_ascii_digits}
use Rattle.std.proofs.lemmas.Str.Parse.{tells_all_ascii_digits}
use Rattle.std.proofs.lemmas.Fmt.{digits_decimal, digits_value-decimal, length-decimal-le, decimal_nonempty, first_decimal, decimal_digit, decimal-digits_value}
use Rattle.std.proofs.lemmas.Bool.{and_from, and_left, and_right, not_from_false, or_from, le-ltb, ne_eqb, cases_lt}
use Rattle.text.specs.Fields.{plain}
use Rattle.text.specs.Figures.{number_of, padded, is_figure}
use Rattle.text.specs.Tokens.{Told, token_of, word_in, figure_in}
use Rattle.text.proofs.Reading.{own, figure_parts, figure_from, alone}

unpadded : (n : ℕ) → n < 2 ^ 32 → padded (decimal n) ≡ false
unpadded n h =
    ⊎_elim
    (λ k. and_right (eqb (get_or (decimal n) 0 0) 48) _ (le-ltb 1 (length (decimal n)) (omega (arith, ap length (decimal_digit n k)))))
    (λ k. and_left _ (ltb 1 (length (decimal n))) (ne_eqb _ _ (λ e. omega (arith, first_decimal n (omega arith) (omega arith)))))
    (cases_lt n 10)

is_figure_lem : (n : ℕ) → n < 2 ^ 32 → is_figure (decimal n) ≡ true
is_figure_lem n h =
    figure_from (decimal n)
    (record {
      digits = digits_decimal own n (omega arith);
      some = decimal_nonempty n (omega arith);
      few = length-decimal-le 10 n (omega arith) (omega arith) (omega arith);
      unpadded = unpadded n h;
      small = omega (arith, digits_value-decimal own n (omega arith));
    })

-- a field is a figure or a word
token_is : (text : List ℕ) (k : ℕ) → token_of text k ≡ cond (is_figure text) (Told.figure (number_of text) k) (Told.word text k)
token_is text k = by (is_figure text)
  where
    by : (b : Bool) → elim (cond b (Some (number_of text)) None) [ None ↦ Told.word text k | Some value ↦ Told.figure value k ] ≡ cond b (Told.figure (number_of text) k) (Told.word text k)
    by true = refl
    by false = refl

-- a number is read back from its digits
pub figure_back : (n k : ℕ) → n < 2 ^ 32 → figure_in (token_of (decimal n) k) ≡ Ok n
figure_back n k h =
    ap figure_in (token_is (decimal n) k)
    ∙ ap (λ b. figure_in (cond b (Told.figure (number_of (decimal n)) k) (Told.word (decimal n) k))) (is_figure_lem n h)
    ∙ ap Ok (digits_value-decimal own n (omega arith))

-- digits have no tab and no line feed among them
digits_plain : (ds : List ℕ) → all_ascii_digits ds ≡ true → plain ds ≡ true
digits_plain [] h = refl
digits_plain (d ∷ ds) h =
    let p = tells_all_ascii_digits.parts d ds h in
    let low = p.0 in
    and_from _ _ (not_from_false _ (or_from _ _ (ne_eqb d 10 (λ e. omega arith)) (ne_eqb d 9 (λ e. omega arith)))) (digits_plain ds p.1)

pub decimal_plain : (n : ℕ) → n < 2 ^ 32 → plain (decimal n) ≡ true
decimal_plain n h = digits_plain (decimal n) (digits_decimal own n (omega arith))

-- a figure's text is the digits of its number
figure_text : (text : List ℕ) → is_figure text ≡ true → decimal (number_of text) ≡ text
figure_text text h = let f = figure_parts text h in decimal-digits_value own text f.digits f.some (alone text f.some f.unpadded) (omega (arith, f.small))

pub text_back : (text : List ℕ) (n k : ℕ) → figure_in (token_of text k) ≡ Ok n → decimal n ≡ text
text_back text n k h = by (is_figure text) refl (sym (ap figure_in (token_is text k)) ∙ h)
  where
    by : (b : Bool) → is_figure text ≡ b → figure_in (cond b (Told.figure (number_of text) k) (Told.word text k)) ≡ Ok n → decimal n ≡ text
    by true e p = let m : number_of text ≡ n = cc in ap decimal (sym m) ∙ figure_text text e
    by false e p = let z : ◌≡◌ {A = ℕ} 0 1 = cc in absurd (omega arith)

-- a word is its own text
pub word_text : (text word : List ℕ) (k : ℕ) → word_in (token_of text k) ≡ Some word → text ≡ word
word_text text word k h = by (is_figure text) (sym (ap word_in (token_is text k)) ∙ h)
  where
    by : (b : Bool) → word_in (cond b (Told.figure (number_of text) k) (Told.word text k)) ≡ Some word → text ≡ word
    by true p = let z : ◌≡◌ {A = ℕ} 0 1 = cc in absurd (omega arith)
    by false p = cc
