-- A line cut into fields, and made of them again.
use Rattle.std.proofs.Common.{◌≡◌, ℕ, ◌+◌, ◌<◌, ◌≤◌, Bool, true, false, cond, ◌||◌, eqb, List, [], ◌∷◌, ◌++◌, length, get_or, take, drop, Some, None, sym, refl, ap, ◌∙◌, arith}
use Rattle.std.proofs.lemmas.List.{append-nil}
use Rattle.std.proofs.lemmas.Bool.{and_parts, or_parts, not-true, eqb-true}
use Rattle.text.specs.Frames.{on_first}
use Rattle.text.specs.Lines.{ends_once}
use Rattle.text.proofs.Placing.{Fails, parted}
use Rattle.text.specs.Fields.{first_field, after_field, fields_of, tabbed, text_line, line_of, plain, all_plain, FieldsAreTheLineCutAtTabs}

-- the first byte of a plain field is no line feed and no tab, and the rest is plain
plain_parts : (b : ℕ) (bs : List ℕ) → plain (b ∷ bs) ≡ true → (eqb b 10 ≡ false) × (eqb b 9 ≡ false) × (plain bs ≡ true)
plain_parts b bs h =
    let both = and_parts _ _ h in
    let no = or_parts _ _ (not-true _ both.0) in
    (no.0, no.1, both.1)

-- bytes with no line feed and no tab among them
pub plain_from : (bs : List ℕ) → Fails (λ b. eqb b 10 || eqb b 9) bs → plain bs ≡ true
plain_from [] h = refl
plain_from (b ∷ bs) h = simp (h.0, plain_from bs h.1)

-- a plain field that ends at a tab, at the line feed, or with the bytes
cut_tab : (field rest : List ℕ) → plain field ≡ true → fields_of (field ++ (9 ∷ rest)) ≡ field ∷ fields_of rest
cut_tab [] rest h = refl
cut_tab (b ∷ field) rest h = let p = plain_parts b field h in simp (p.0, p.1, cut_tab field rest p.2)

cut_feed : (field rest : List ℕ) → plain field ≡ true → fields_of (field ++ (10 ∷ rest)) ≡ field ∷ []
cut_feed [] rest h = refl
cut_feed (b ∷ field) rest h = let p = plain_parts b field h in simp (p.0, p.1, cut_feed field rest p.2)

pub cut_end : (field : List ℕ) → plain field ≡ true → fields_of field ≡ field ∷ []
cut_end [] h = refl
cut_end (b ∷ field) h = let p = plain_parts b field h in simp (p.0, p.1, cut_end field p.2)

-- plain bytes belong to the first field, and what is left comes after them
first_plain : (field rest : List ℕ) → plain field ≡ true → first_field (field ++ rest) ≡ field ++ first_field rest
first_plain [] rest h = refl
first_plain (b ∷ field) rest h = let p = plain_parts b field h in simp (p.0, p.1, first_plain field rest p.2)

after_plain : (field rest : List ℕ) → plain field ≡ true → after_field (field ++ rest) ≡ after_field rest
after_plain [] rest h = refl
after_plain (b ∷ field) rest h = let p = plain_parts b field h in simp (p.0, p.1, after_plain field rest p.2)

-- so they are the first field, and nothing is left, where nothing follows
pub plain_end : (field : List ℕ) → plain field ≡ true → (field ≡ first_field field) × (None ≡ after_field field)
plain_end field h =
    let e = append-nil field in
    (sym (ap first_field (sym e) ∙ first_plain field [] h ∙ e), sym (ap after_field (sym e) ∙ after_plain field [] h))

module _ (bytes : List ℕ) (i : ℕ) (l : i < length bytes) (h : plain (take i bytes) ≡ true) where
  pub tab_at : get_or bytes i 0 ≡ 9 → fields_of bytes ≡ take i bytes ∷ fields_of (drop (i + 1) bytes)
  tab_at e =
      ap fields_of (parted bytes i l)
      ∙ ap (λ b. fields_of (take i bytes ++ (b ∷ drop (i + 1) bytes))) e
      ∙ cut_tab (take i bytes) (drop (i + 1) bytes) h

  pub feed_at : get_or bytes i 0 ≡ 10 → fields_of bytes ≡ take i bytes ∷ []
  feed_at e =
      ap fields_of (parted bytes i l)
      ∙ ap (λ b. fields_of (take i bytes ++ (b ∷ drop (i + 1) bytes))) e
      ∙ cut_feed (take i bytes) (drop (i + 1) bytes) h

  first_at : (b : ℕ) → get_or bytes i 0 ≡ b → first_field (b ∷ drop (i + 1) bytes) ≡ [] → first_field bytes ≡ take i bytes
  first_at b e n =
      ap first_field (parted bytes i l)
      ∙ ap (λ d. first_field (take i bytes ++ (d ∷ drop (i + 1) bytes))) e
      ∙ first_plain (take i bytes) (b ∷ drop (i + 1) bytes) h
      ∙ ap (λ xs. take i bytes ++ xs) n
      ∙ append-nil (take i bytes)

  after_at : (b : ℕ) → get_or bytes i 0 ≡ b → after_field bytes ≡ after_field (b ∷ drop (i + 1) bytes)
  after_at b e =
      ap after_field (parted bytes i l)
      ∙ ap (λ d. after_field (take i bytes ++ (d ∷ drop (i + 1) bytes))) e
      ∙ after_plain (take i bytes) (b ∷ drop (i + 1) bytes) h

  -- the first field ends at this tab, or at this line feed
  pub ends_at_tab : get_or bytes i 0 ≡ 9 → (first_field bytes ≡ take i bytes) × (after_field bytes ≡ Some (drop (i + 1) bytes))
  ends_at_tab e = (first_at 9 e refl, after_at 9 e)

  pub ends_at_feed : get_or bytes i 0 ≡ 10 → (first_field bytes ≡ take i bytes) × (after_field bytes ≡ None)
  ends_at_feed e = (first_at 10 e refl, after_at 10 e)

-- there is a first field
pub some_field : (bytes : List ℕ) → (field : List ℕ) × (fields : List (List ℕ)) × (fields_of bytes ≡ field ∷ fields)
some_field [] = ([], [], refl)
some_field (b ∷ bytes) = by (eqb b 10) (eqb b 9) (some_field bytes)
  where
    by : (s t : Bool) → (field : List ℕ) × (fields : List (List ℕ)) × (fields_of bytes ≡ field ∷ fields)
        → (field : List ℕ) × (fields : List (List ℕ)) × (cond s ([] ∷ []) (cond t ([] ∷ fields_of bytes) (on_first b (fields_of bytes))) ≡ field ∷ fields)
    by true t p = ([], [], refl)
    by false true p = ([], fields_of bytes, refl)
    by false false p = (b ∷ p.0, p.1, ap (on_first b) p.2)

-- at most one field more than bytes
pub fields_few : (bytes : List ℕ) → length (fields_of bytes) ≤ length bytes + 1
fields_few [] = omega arith
fields_few (b ∷ bytes) = by (eqb b 10) (eqb b 9) (some_field bytes) (fields_few bytes)
  where
    by : (s t : Bool) → (field : List ℕ) × (fields : List (List ℕ)) × (fields_of bytes ≡ field ∷ fields) → length (fields_of bytes) ≤ length bytes + 1
        → length (cond s ([] ∷ []) (cond t ([] ∷ fields_of bytes) (on_first b (fields_of bytes)))) ≤ length (b ∷ bytes) + 1
    by true t p h = omega arith
    by false true p h = omega arith
    by false false p h = let e = ap length p.2 in let f = ap (λ fs. length (on_first b fs)) p.2 in omega arith

-- a byte that is no line feed, before the fields that follow it
onto_line : (b : ℕ) (fields : List (List ℕ)) → (field : List ℕ) × (rest : List (List ℕ)) × (fields ≡ field ∷ rest) → line_of (on_first b fields) ≡ b ∷ line_of fields
onto_line b fields p = ap (λ fs. line_of (on_first b fs)) p.2 ∙ sym (ap (λ fs. b ∷ line_of fs) p.2)

tab_line : (fields : List (List ℕ)) → (field : List ℕ) × (rest : List (List ℕ)) × (fields ≡ field ∷ rest) → tabbed fields ≡ 9 ∷ line_of fields
tab_line fields p = ap tabbed p.2 ∙ sym (ap (λ fs. 9 ∷ line_of fs) p.2)

nothing_left : (bs : List ℕ) → eqb (length bs) 0 ≡ true → bs ≡ []
nothing_left [] h = refl
nothing_left (b ∷ bs) h = let n = eqb-true _ _ h in let z : ⊥ = omega arith in elim z [ ]

whole : (line : List ℕ) → ends_once line ≡ true → line_of (fields_of line) ≡ line
whole [] h = let n : ◌≡◌ {A = ℕ} 0 1 = cc in let z : ⊥ = omega arith in elim z [ ]
whole (b ∷ line) h = by (eqb b 10) (eqb b 9) refl refl h (whole line)
  where
    by : (s t : Bool) → eqb b 10 ≡ s → eqb b 9 ≡ t → cond s (eqb (length line) 0) (ends_once line) ≡ true → (ends_once line ≡ true → line_of (fields_of line) ≡ line)
        → line_of (cond s ([] ∷ []) (cond t ([] ∷ fields_of line) (on_first b (fields_of line)))) ≡ b ∷ line
    by true t e f p q = let b-is = eqb-true b 10 e in let none = nothing_left line p in cc
    by false true e f p q = let b-is = eqb-true b 9 f in tab_line (fields_of line) (some_field line) ∙ ap (λ xs. 9 ∷ xs) (q p) ∙ ap (λ c. c ∷ line) (sym b-is)
    by false false e f p q = onto_line b (fields_of line) (some_field line) ∙ ap (λ xs. b ∷ xs) (q p)

onto_plain : (b : ℕ) (fields : List (List ℕ)) → eqb b 10 ≡ false → eqb b 9 ≡ false → all_plain fields ≡ true → all_plain (on_first b fields) ≡ true
onto_plain b [] e f h = simp (e, f)
onto_plain b (field ∷ fields) e f h = simp (e, f) h

cut : (bytes : List ℕ) → all_plain (fields_of bytes) ≡ true
cut [] = refl
cut (b ∷ bytes) = by (eqb b 10) (eqb b 9) refl refl (cut bytes)
  where
    by : (s t : Bool) → eqb b 10 ≡ s → eqb b 9 ≡ t → all_plain (fields_of bytes) ≡ true
        → all_plain (cond s ([] ∷ []) (cond t ([] ∷ fields_of bytes) (on_first b (fields_of bytes)))) ≡ true
    by true t e f h = refl
    by false true e f h = h
    by false false e f h = onto_plain b (fields_of bytes) e f h

only : (field : List ℕ) (fields : List (List ℕ)) → all_plain (field ∷ fields) ≡ true → fields_of (text_line field fields) ≡ field ∷ fields
only field [] h = cut_feed field [] (and_parts _ _ h).0
only field (next ∷ fields) h =
    let p = and_parts _ _ h in
    cut_tab field (text_line next fields) p.0 ∙ ap (λ fs. field ∷ fs) (only next fields p.1)

pub fields_are_the_line_cut_at_tabs : FieldsAreTheLineCutAtTabs
fields_are_the_line_cut_at_tabs = record { whole = whole; cut = cut; only = only }
