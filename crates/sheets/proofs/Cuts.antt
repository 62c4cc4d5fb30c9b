-- Bytes cut into lines.
use Rattle.std.proofs.Common.{◌≡◌, ℕ, ◌+◌, ◌<◌, ◌≤◌, Bool, true, false, cond, not, ◌&&◌, eqb, List, [], ◌∷◌, ◌++◌, length, take, drop, Some, None, sym, refl, ap, ◌∙◌, arith}
use Rattle.std.proofs.lemmas.List.{take_more, nil_from_length}
use Rattle.std.proofs.lemmas.Bool.{and_parts, not-true, or_parts, eqb-true}
use Rattle.std.specs.Prelude.{position}
use Rattle.text.proofs.Placing.{Fails, parted, none_passes, first_at}
use Rattle.text.specs.Frames.{lines_of, on_first}
use Rattle.text.specs.Lines.{ends_once}
use Rattle.text.specs.Fields.{tabbed, text_line, plain, all_plain}

-- no line feed among the bytes
abbrev pub unfed : List ℕ → Bool
unfed [] = true
unfed (b ∷ bs) = not (eqb b 10) && unfed bs

unfed_from : (bs : List ℕ) → Fails (λ b. eqb b 10) bs → unfed bs ≡ true
unfed_from [] h = refl
unfed_from (b ∷ bs) h = simp (h.0, unfed_from bs h.1)

-- such bytes before a line feed, or with nothing after them
cut_feed : (bs rest : List ℕ) → unfed bs ≡ true → lines_of (bs ++ (10 ∷ rest)) ≡ (bs ++ (10 ∷ [])) ∷ lines_of rest
cut_feed [] rest h = refl
cut_feed (b ∷ bs) rest h = let p = and_parts _ _ h in let no : eqb b 10 ≡ false = not-true _ p.0 in simp (no, cut_feed bs rest p.1)

cut_end : (b : ℕ) (bs : List ℕ) → unfed (b ∷ bs) ≡ true → lines_of (b ∷ bs) ≡ (b ∷ bs) ∷ []
cut_end b [] h = let p = and_parts _ _ h in let no : eqb b 10 ≡ false = not-true _ p.0 in simp no
cut_end b (c ∷ bs) h = let p = and_parts _ _ h in let no : eqb b 10 ≡ false = not-true _ p.0 in simp (no, cut_end c bs p.1)

last_line : (bytes : List ℕ) → 0 < length bytes → unfed bytes ≡ true → lines_of bytes ≡ bytes ∷ []
last_line [] l h = let z : ⊥ = omega arith in elim z [ ]
last_line (b ∷ bs) l h = cut_end b bs h

-- where a line feed is found, or none
module _ (bytes : List ℕ) where
  pub no_feed : 0 < length bytes → position (λ b. eqb b 10) bytes ≡ None → lines_of bytes ≡ bytes ∷ []
  no_feed l e = last_line bytes l (unfed_from bytes (none_passes (λ b. eqb b 10) bytes e))

  pub feed_at : (i : ℕ) → position (λ b. eqb b 10) bytes ≡ Some i → lines_of bytes ≡ take (i + 1) bytes ∷ lines_of (drop (i + 1) bytes)
  feed_at i e =
      let f = first_at (λ b. eqb b 10) bytes i e in
      let is = eqb-true _ _ f.passes in
      ap lines_of (parted bytes i f.inside)
      ∙ ap (λ b. lines_of (take i bytes ++ (b ∷ drop (i + 1) bytes))) is
      ∙ cut_feed (take i bytes) (drop (i + 1) bytes) (unfed_from (take i bytes) f.before)
      ∙ ap (λ b. (take i bytes ++ (b ∷ [])) ∷ lines_of (drop (i + 1) bytes)) (sym is)
      ∙ ap (λ xs. xs ∷ lines_of (drop (i + 1) bytes)) (sym (take_more bytes i 0 f.inside))

onto_few : (b : ℕ) (ls : List (List ℕ)) (n : ℕ) → length ls ≤ n → length (on_first b ls) ≤ n + 1
onto_few b [] n h = omega arith
onto_few b (l ∷ ls) n h = omega arith

-- at most as many lines as bytes
pub lines_few : (bytes : List ℕ) → length (lines_of bytes) ≤ length bytes
lines_few [] = omega arith
lines_few (b ∷ bytes) = by (eqb b 10) (lines_few bytes)
  where
    by : (t : Bool) → length (lines_of bytes) ≤ length bytes → length (cond t ((b ∷ []) ∷ lines_of bytes) (on_first b (lines_of bytes))) ≤ length (b ∷ bytes)
    by true h = omega arith
    by false h = omega (arith, onto_few b (lines_of bytes) (length bytes) h)

-- a line before others
pub line_first : (bytes rest : List ℕ) → ends_once bytes ≡ true → lines_of (bytes ++ rest) ≡ bytes ∷ lines_of rest
line_first [] rest h = let z : ◌≡◌ {A = ℕ} 0 1 = cc in absurd (omega arith)
line_first (b ∷ bytes) rest h = by (eqb b 10) h (line_first bytes rest)
  where
    by : (t : Bool) → cond t (eqb (length bytes) 0) (ends_once bytes) ≡ true → (ends_once bytes ≡ true → lines_of (bytes ++ rest) ≡ bytes ∷ lines_of rest)
        → cond t ((b ∷ []) ∷ lines_of (bytes ++ rest)) (on_first b (lines_of (bytes ++ rest))) ≡ (b ∷ bytes) ∷ lines_of rest
    by true e ih = ap (λ xs. (b ∷ []) ∷ lines_of (xs ++ rest)) (nil_from_length bytes (eqb-true _ _ e)) ∙ ap (λ xs. (b ∷ xs) ∷ lines_of rest) (sym (nil_from_length bytes (eqb-true _ _ e)))
    by false e ih = ap (on_first b) (ih e)

-- fields without a tab or a line feed make a line that ends once
ends_after : (field rest : List ℕ) → plain field ≡ true → ends_once rest ≡ true → ends_once (field ++ rest) ≡ true
ends_after [] rest h e = e
ends_after (b ∷ field) rest h e =
    let p = and_parts _ _ h in
    let no : eqb b 10 ≡ false = (or_parts _ _ (not-true _ p.0)).0 in
    simp no (ends_after field rest p.1 e)

ends_tabbed : (fields : List (List ℕ)) → all_plain fields ≡ true → ends_once (tabbed fields) ≡ true
ends_tabbed [] h = refl
ends_tabbed (field ∷ fields) h = let p = and_parts _ _ h in ends_after field (tabbed fields) p.0 (ends_tabbed fields p.1)

pub ends_line : (field : List ℕ) (fields : List (List ℕ)) → all_plain (field ∷ fields) ≡ true → ends_once (text_line field fields) ≡ true
ends_line field fields h = let p = and_parts _ _ h in ends_after field (tabbed fields) p.0 (ends_tabbed fields p.1)
