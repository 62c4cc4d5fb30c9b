-- One text after another on a page.
use Rattle.std.proofs.Common.{◌≡◌, ℕ, ◌+◌, ◌/◌, ◌%◌, ◌^◌, ◌<◌, ◌≤◌, Bool, true, false, cond, eqb, List, [], ◌∷◌, ◌++◌, map, length, get_or, take, drop, decimal, sym, refl, ap, ◌∙◌, append_assoc, arith}
use Rattle.std.proofs.lemmas.Fmt.{length-decimal-le, decimal_digit, decimal_step}
use Rattle.std.proofs.lemmas.Bool.{ne_eqb}
use Rattle.std.proofs.lemmas.List.{drop-drop, length-append, take-append-drop, at_drop_more}
use Rattle.text.specs.Fields.{tab, tabbed, line_of}
use Rattle.text.specs.Pages.{Puts, gap, field_text, fault_fields}
use Rattle.text.specs.Faults.{layer_of, layer_word}
use Rattle.text.specs.declared.fault.Fault.{Fault}
use Rattle.text.specs.declared.fault.Layer.{Layer}
use Rattle.text.specs.declared.page.Field.{Field}
use Rattle.text.specs.declared.page.Field.TheVariants as field
use Rattle.rules.specs.declared.refusal.Refusal.{Refusal}
use Rattle.rules.specs.Words.{refusal_number}

-- a figure of two digits is both, one after the other
pub two_digits : (n : ℕ) → 10 ≤ n → n < 100 → decimal n ≡ ((48 + n / 10) ∷ []) ++ ((48 + n % 10) ∷ [])
two_digits n h l = decimal_step n h (omega arith) ∙ ap (λ ds. ds ++ ((48 + n % 10) ∷ [])) (decimal_digit (n / 10) (omega arith))

pub puts_then : {page mid after : List ℕ} {at next end : ℕ} {text more : List ℕ} → Puts page at text mid next → Puts mid next more after end → Puts page at (text ++ more) after end
puts_then {page} {mid} {after} {at} {next} {end} {text} {more} p q =
    let far : next + length more ≡ end = sym q.ends in
    record {
      ends = omega (arith, p.ends, q.ends, length-append text more);
      front = q.front ∙ ap (λ xs. xs ++ more) p.front ∙ append_assoc (take at page) text more;
      rest =
          q.rest
          ∙ ap (λ n. drop n mid) (sym far)
          ∙ sym (drop-drop (length more) next mid)
          ∙ ap (drop (length more)) p.rest
          ∙ drop-drop (length more) next page
          ∙ ap (λ n. drop n page) far;
    }

-- a text from the start of the page
pub puts_page : (page text after : List ℕ) (end : ℕ) → Puts page 0 text after end → after ≡ text ++ drop (length text) page
puts_page page text after end p =
    let all : end ≡ length text = omega (arith, p.ends) in
    sym (take-append-drop end after)
    ∙ ap (λ xs. xs ++ drop end after) p.front
    ∙ ap (λ xs. text ++ xs) p.rest
    ∙ ap (λ n. text ++ drop n page) all

layer_short : (l : Layer) → length (layer_word l) ≤ 5
layer_short l = grind arith

number_small : (r : Refusal) → refusal_number r < 14
number_small r = grind arith

-- how long the fields of a fault are at most, with what stands between them
pub fault_short : (f : Fault) → f.field < 2 ^ 32 → length (line_of (fault_fields f)) ≤ 20
fault_short f h =
    let l = layer_short (layer_of f.refusal) in
    let s = number_small f.refusal in
    let number = length-decimal-le 2 (refusal_number f.refusal) (omega arith) (omega arith) (omega arith) in
    let field = length-decimal-le 10 f.field (omega arith) (omega arith) (omega arith) in
    simp length-append (omega arith)

-- a line of three fields that lie in a list
pub of_three : (fs : List Field) (d : Field) → length fs ≡ 3 → field_text (get_or fs 0 d) ++ (tab ∷ (field_text (get_or fs 1 d) ++ (tab ∷ (field_text (get_or fs 2 d) ++ (10 ∷ []))))) ≡ line_of (map field_text fs)
of_three [] d h = absurd (omega arith)
of_three (a ∷ []) d h = absurd (omega arith)
of_three (a ∷ b ∷ []) d h = absurd (omega arith)
of_three (a ∷ b ∷ c ∷ []) d h = refl
of_three (a ∷ b ∷ c ∷ e ∷ fs) d h = absurd (omega arith)

pub figure_short : (n : ℕ) → n < 2 ^ 64 → length (decimal n) ≤ 20
figure_short n h = length-decimal-le 20 n (omega arith) (omega arith) h

-- what is written of a line from the field at this place on
abbrev pub line_from : ℕ → List (List ℕ) → List ℕ
line_from place fields = cond (eqb place 0) (line_of fields) (tabbed fields)

-- the next field, after its gap
pub line_more : (place : ℕ) (field : List ℕ) (fields : List (List ℕ)) → line_from place (field ∷ fields) ≡ gap place ++ (field ++ line_from (place + 1) fields)
line_more place field fields = by (eqb place 0) (eqb (place + 1) 0) (ne_eqb _ _ (λ e. omega arith))
  where
    by : (s t : Bool) → t ≡ false → cond s (line_of (field ∷ fields)) (tabbed (field ∷ fields)) ≡ cond s [] (tab ∷ []) ++ (field ++ cond t (line_of fields) (tabbed fields))
    by true t e = rw e
    by false t e = rw e

-- what stands past the end of a list of fields
unfoldable pub blank : Field
blank = field.Word (record { ref_ptr = (0, 0); now = [] })

module _ (fields : List Field) (place : ℕ) (d : Field) (l : place < length fields) where
  line_at : line_from place (map field_text (drop place fields)) ≡ gap place ++ (field_text (get_or fields place d) ++ line_from (place + 1) (map field_text (drop (place + 1) fields)))
  line_at =
      at_drop_more (λ fs. line_from place (map field_text fs)) fields place d l
      ∙ line_more place (field_text (get_or fields place d)) (map field_text (drop (place + 1) fields))

  -- one field more was written
  pub line_again : {page mid next after : List ℕ} {at end start stop : ℕ} {text line : List ℕ} → Puts page at text mid end → text ++ line_from place (map field_text (drop place fields)) ≡ line
      → Puts mid end (gap place) next start → Puts next start (field_text (get_or fields place d)) after stop
      → (x : List ℕ) × Puts page at x after stop × (x ++ line_from (place + 1) (map field_text (drop (place + 1) fields)) ≡ line)
  line_again {page} {mid} {next} {after} {at} {end} {start} {stop} {text} {line} p e q r = (
    text ++ (gap place ++ field_text (get_or fields place d)),
    puts_then p (puts_then q r),
    append_assoc text _ _ ∙ ap (λ xs. text ++ xs) (append_assoc (gap place) _ _ ∙ sym line_at) ∙ e,
  )
