-- What the framer keeps of a line, and where a line ends.
use Rattle.std.proofs.Common.{◌≡◌, ℕ, ◌+◌, ◌-◌, ◌<◌, ◌≤◌, Bool, true, false, cond, eqb, leb, List, [], ◌∷◌, ◌++◌, map, length, take, drop, Some, None, fold, Option, sym, refl, ap, ◌∙◌, ⊎_elim, append_assoc, arith}
use Rattle.std.specs.Prelude.{position}
use Rattle.std.specs.List.{flat_map}
use Rattle.std.proofs.lemmas.List.{take_more, length_push, length-append, length-drop, append-nil}
use Rattle.std.proofs.lemmas.Bool.{le-leb, lt-leb, ne_eqb, eqb-true, cond_both, cond-false, cases_lt, cases_Bool}
use Rattle.std.proofs.lemmas.Bool.Decides.{nat_tests}
use Rattle.text.specs.Frames.{longest, more, is_new, up_to_feed, after_feed, kept, lines_of, handed, holding, handed_on, holding_on, handed_out, Frames, Whole, on_first}
use Rattle.text.specs.Lines.{ends_once}
use Rattle.text.proofs.Placing.{parted, Fails, fails_push, none_passes, first_at}

-- no line feed
abbrev pub Plain : List ℕ → Type 0
Plain = Fails (λ b. eqb b 10)

-- bytes without a line feed belong to the line, and what is left comes after them
module _ (rest : List ℕ) where
  up_to_plain : (p : List ℕ) → Plain p → up_to_feed (p ++ rest) ≡ p ++ up_to_feed rest
  up_to_plain [] h = refl
  up_to_plain (b ∷ p) h = simp (h.0, up_to_plain p h.1)

  after_plain : (p : List ℕ) → Plain p → after_feed (p ++ rest) ≡ after_feed rest
  after_plain [] h = refl
  after_plain (b ∷ p) h = simp (h.0, after_plain p h.1)

  ends_plain : (p : List ℕ) → Plain p → ends_once (p ++ rest) ≡ ends_once rest
  ends_plain [] h = refl
  ends_plain (b ∷ p) h = simp (h.0, ends_plain p h.1)

-- where a line feed is found, or none
module _ (bytes : List ℕ) where
  pub no_feed : position (λ b. eqb b 10) bytes ≡ None → (up_to_feed bytes ≡ bytes) × (after_feed bytes ≡ None) × (ends_once bytes ≡ false)
  no_feed e =
      let h : Plain bytes = none_passes (λ b. eqb b 10) bytes e in
      let n = append-nil bytes in
      (ap up_to_feed (sym n) ∙ up_to_plain [] bytes h ∙ n, ap after_feed (sym n) ∙ after_plain [] bytes h, ap ends_once (sym n) ∙ ends_plain [] bytes h)

  pub feed_at : (i : ℕ) → position (λ b. eqb b 10) bytes ≡ Some i
      → (up_to_feed bytes ≡ take (i + 1) bytes) × (after_feed bytes ≡ Some (drop (i + 1) bytes)) × (ends_once bytes ≡ eqb (i + 1) (length bytes))
  feed_at i e =
      let f = first_at (λ b. eqb b 10) bytes i e in
      let h : Plain (take i bytes) = f.before in
      let is = eqb-true _ _ f.passes in
      let rest = drop (i + 1) bytes in
      let cut : bytes ≡ take i bytes ++ (10 ∷ rest) = parted bytes i f.inside ∙ ap (λ b. take i bytes ++ (b ∷ rest)) is in
      let front : take (i + 1) bytes ≡ take i bytes ++ (10 ∷ []) = take_more bytes i 0 f.inside ∙ ap (λ b. take i bytes ++ (b ∷ [])) is in
      let left : length rest ≡ length bytes - (i + 1) = length-drop (i + 1) bytes in
      let inside = f.inside in
      let same : eqb (length rest) 0 ≡ eqb (i + 1) (length bytes) = grind (arith, nat_tests) in (
        ap up_to_feed cut ∙ up_to_plain (10 ∷ rest) (take i bytes) h ∙ sym front,
        ap after_feed cut ∙ after_plain (10 ∷ rest) (take i bytes) h,
        ap ends_once cut ∙ ends_plain (10 ∷ rest) (take i bytes) h ∙ same,
      )

-- a block is handed out up to its first line feed, and then on
pub handed_cut : (h : Option (List ℕ)) (bs : List ℕ) → handed h bs ≡ handed_on (fold more h (up_to_feed bs)) (after_feed bs)
handed_cut h [] = refl
handed_cut h (b ∷ bs) = by (eqb b 10) (handed_cut (more h b) bs)
  where
    by : (t : Bool) → handed (more h b) bs ≡ handed_on (fold more (more h b) (up_to_feed bs)) (after_feed bs)
        → cond t (more h b ∷ handed (Some []) bs) (handed (more h b) bs) ≡ handed_on (fold more (more h b) (cond t [] (up_to_feed bs))) (cond t (Some bs) (after_feed bs))
    by true e = refl
    by false e = e

pub holding_cut : (h : Option (List ℕ)) (bs : List ℕ) → holding h bs ≡ holding_on (fold more h (up_to_feed bs)) (after_feed bs)
holding_cut h [] = refl
holding_cut h (b ∷ bs) = by (eqb b 10) (holding_cut (more h b) bs)
  where
    by : (t : Bool) → holding (more h b) bs ≡ holding_on (fold more (more h b) (up_to_feed bs)) (after_feed bs)
        → holding (cond t (Some []) (more h b)) bs ≡ holding_on (fold more (more h b) (cond t [] (up_to_feed bs))) (cond t (Some bs) (after_feed bs))
    by true e = refl
    by false e = e

-- one block after another
handed_append : (h : Option (List ℕ)) (xs ys : List ℕ) → handed h (xs ++ ys) ≡ handed h xs ++ handed (holding h xs) ys
handed_append h [] ys = refl
handed_append h (x ∷ xs) ys = by (eqb x 10) (handed_append (Some []) xs ys) (handed_append (more h x) xs ys)
  where
    by : (t : Bool) → handed (Some []) (xs ++ ys) ≡ handed (Some []) xs ++ handed (holding (Some []) xs) ys
        → handed (more h x) (xs ++ ys) ≡ handed (more h x) xs ++ handed (holding (more h x) xs) ys
        → cond t (more h x ∷ handed (Some []) (xs ++ ys)) (handed (more h x) (xs ++ ys))
        ≡ cond t (more h x ∷ handed (Some []) xs) (handed (more h x) xs) ++ handed (holding (cond t (Some []) (more h x)) xs) ys
    by true p q = ap (λ ls. more h x ∷ ls) p
    by false p q = q

holding_append : (h : Option (List ℕ)) (xs ys : List ℕ) → holding h (xs ++ ys) ≡ holding (holding h xs) ys
holding_append h [] ys = refl
holding_append h (x ∷ xs) ys = holding_append (cond (eqb x 10) (Some []) (more h x)) xs ys

-- the lines of an input in one piece
whole : Option (List ℕ) → List ℕ → List (Option (List ℕ))
whole h bs = handed h bs ++ handed_out (holding h bs) []

in_one : (h : Option (List ℕ)) (blocks : List (List ℕ)) → handed_out h blocks ≡ whole h (flat_map (λ b. b) blocks)
unfolding whole
in_one h [] = refl
in_one h (b ∷ blocks) =
    ap (λ ls. handed h b ++ ls) (in_one (holding h b) blocks)
    ∙ sym (append_assoc (handed h b) _ _)
    ∙ ap (λ ls. ls ++ handed_out (holding (holding h b) (flat_map (λ b. b) blocks)) []) (sym (handed_append h b _))
    ∙ ap (λ o. handed h (b ++ flat_map (λ b. b) blocks) ++ handed_out o []) (sym (holding_append h b _))

-- one more byte of what is kept
kept_more : (p : List ℕ) (b : ℕ) → more (kept p) b ≡ kept (p ++ (b ∷ []))
kept_more p b = ⊎_elim over (λ k. fits k) (cases_lt 80 (length p))
  where
    over : 80 < length p → more (kept p) b ≡ kept (p ++ (b ∷ []))
    over k =
        let no : leb (length p) 80 ≡ false = lt-leb _ _ k in
        let never : leb (length (p ++ (b ∷ []))) 80 ≡ false = lt-leb _ _ (omega (arith, length_push p b)) in
        simp (no, never)

    fits : length p ≤ 80 → more (kept p) b ≡ kept (p ++ (b ∷ []))
    fits k = let yes : leb (length p) 80 ≡ true = le-leb _ _ k in simp yes

-- more bytes of what is kept
pub keeps : (p bs : List ℕ) → fold more (kept p) bs ≡ kept (p ++ bs)
keeps p [] = ap kept (sym (append-nil p))
keeps p (b ∷ bs) = ap (λ h. fold more h bs) (kept_more p b) ∙ keeps (p ++ (b ∷ [])) bs ∙ ap kept (append_assoc p (b ∷ []) bs)

module _ (p bs : List ℕ) (h : length p ≤ longest) where
  is_kept : Some p ≡ kept p
  is_kept = let yes : leb (length p) 80 ≡ true = le-leb _ _ h in simp yes

  -- there is room for them, or there is none
  pub extends : length p + length bs ≤ longest → Some (p ++ bs) ≡ fold more (Some p) bs
  extends l =
      let yes : leb (length (p ++ bs)) 80 ≡ true = le-leb _ _ (omega (arith, length-append p bs)) in
      let all : kept (p ++ bs) ≡ Some (p ++ bs) = simp yes in
      sym (ap (λ o. fold more o bs) is_kept ∙ keeps p bs ∙ all)

  pub overflows : longest < length p + length bs → None ≡ fold more (Some p) bs
  overflows l =
      let no : leb (length (p ++ bs)) 80 ≡ false = lt-leb _ _ (omega (arith, length-append p bs)) in
      let none : kept (p ++ bs) ≡ None = simp no in
      sym (ap (λ o. fold more o bs) is_kept ∙ keeps p bs ∙ none)

pub stays_lost : (bs : List ℕ) → None ≡ fold more None bs
stays_lost [] = refl
stays_lost (b ∷ bs) = stays_lost bs

-- the line that a plain piece begins
lines_ends : (p : List ℕ) (b : ℕ) (bs : List ℕ) → Plain p → eqb b 10 ≡ true → lines_of (p ++ (b ∷ bs)) ≡ (p ++ (b ∷ [])) ∷ lines_of bs
lines_ends [] b bs h e = simp e
lines_ends (x ∷ p) b bs h e = simp (h.0, lines_ends p b bs h.1 e)

lines_last : (x : ℕ) (p : List ℕ) → Plain (x ∷ p) → lines_of (x ∷ p) ≡ (x ∷ p) ∷ []
lines_last x [] h = simp h.0
lines_last x (y ∷ p) h = simp (h.0, lines_last y p h.1)

last_is : (p : List ℕ) → Plain p → handed_out (kept p) [] ≡ map kept (lines_of p)
last_is [] h = refl
last_is (x ∷ p) h =
    let some : is_new (kept (x ∷ p)) ≡ false = cond_both (leb (length (x ∷ p)) 80) (Some (x ∷ p)) None (λ o. is_new o ≡ false) (λ e. ne_eqb _ _ (λ z. omega arith)) (λ e. refl) in
    cond-false (is_new (kept (x ∷ p))) [] (kept (x ∷ p) ∷ []) some ∙ ap (map kept) (sym (lines_last x p h))

whole_ends : (h : Option (List ℕ)) (b : ℕ) (bs : List ℕ) → eqb b 10 ≡ true → whole h (b ∷ bs) ≡ more h b ∷ whole (Some []) bs
unfolding whole
whole_ends h b bs e = simp e

whole_on : (h : Option (List ℕ)) (b : ℕ) (bs : List ℕ) → eqb b 10 ≡ false → whole h (b ∷ bs) ≡ whole (more h b) bs
unfolding whole
whole_on h b bs e = simp e

whole_is : (p bs : List ℕ) → Plain p → whole (kept p) bs ≡ map kept (lines_of (p ++ bs))
unfolding whole
whole_is p [] h = last_is p h ∙ ap (λ q. map kept (lines_of q)) (sym (append-nil p))
whole_is p (b ∷ bs) h =
    ⊎_elim
    (λ e.
    whole_ends (kept p) b bs e
    ∙ ap (λ k. k ∷ whole (Some []) bs) (kept_more p b)
    ∙ ap (λ ls. kept (p ++ (b ∷ [])) ∷ ls) (whole_is [] bs tt)
    ∙ ap (map kept) (sym (lines_ends p b bs h e)))
    (λ e.
    whole_on (kept p) b bs e
    ∙ ap (λ k. whole k bs) (kept_more p b)
    ∙ whole_is (p ++ (b ∷ [])) bs (fails_push (λ x. eqb x 10) p b h e)
    ∙ ap (λ q. map kept (lines_of q)) (append_assoc p (b ∷ []) bs))
    (cases_Bool (eqb b 10))

pub frames : Frames (Some [])
frames blocks = in_one (Some []) blocks ∙ whole_is [] (flat_map (λ b. b) blocks) tt

pub whole_lines : Whole
whole_lines [] = refl
whole_lines (b ∷ bs) = by (eqb b 10) (lines_of bs) (whole_lines bs)
  where
    by : (t : Bool) (ls : List (List ℕ)) → flat_map (λ l. l) ls ≡ bs → flat_map (λ l. l) (cond t ((b ∷ []) ∷ ls) (on_first b ls)) ≡ b ∷ bs
    by true ls e = ap (λ xs. b ∷ xs) e
    by false [] e = ap (λ xs. b ∷ xs) e
    by false (l ∷ ls) e = ap (λ xs. b ∷ xs) e
