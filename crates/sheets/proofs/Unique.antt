-- A sheet that is read without fault is what is written of its grants.
use Rattle.std.proofs.Common.{◌≡◌, ℕ, suc, ◌-◌, ◌≤◌, Bool, true, false, cond, leb, List, [], ◌∷◌, ◌++◌, length, Some, None, Ok, Err, codes, decimal, Option, Result, sym, refl, ap, ◌∙◌, arith}
use Rattle.std.specs.List.{flat_map}
use Rattle.std.specs.Str.{bytes_eq}
use Rattle.std.proofs.lemmas.Slice.Eq.{bytes_eq-Decides}
use Rattle.std.proofs.lemmas.Bool.{and_parts, leb-true}
use Rattle.std.proofs.lemmas.Bool.Decides.{nat_tests}
use Rattle.rules.specs.declared.refusal.Refusal.TheVariants as refusal
use Rattle.text.specs.declared.fault.Fault.{Fault}
use Rattle.text.specs.declared.fault.LineFault.{LineFault}
use Rattle.text.specs.Faults.{fault_of}
use Rattle.text.specs.Fields.{fields_of, text_line, line_of}
use Rattle.text.specs.Frames.{lines_of}
use Rattle.text.specs.Heads.{wanted, first_of, headed, known_in, head_in, read_after, line_read}
use Rattle.text.specs.Lines.{is_line}
use Rattle.text.specs.Tokens.{token_of, word_in, before, figures_of}
use Rattle.text.proofs.Cutting.{fields_are_the_line_cut_at_tabs}
use Rattle.sheets.specs.declared.grant.GrantLine.{GrantLine}
use Rattle.sheets.specs.declared.grant.GrantWord.{GrantWord}
use Rattle.sheets.specs.declared.grant.GrantWord.TheVariants.{Grant}
use Rattle.sheets.specs.Grants.{grant_text, sheet_text}
use Rattle.sheets.specs.Sheets.{grant_word, grant_figures, grant_in, in_limits, grant_after, grant_read, numbered, onto, and_then, lines_read, OneSheetForGrants}
use Rattle.text.proofs.Framing.{whole_lines}
use Rattle.sheets.proofs.Numerals.{text_back, word_text}

-- a grant within the limits is the one that was read
limits_same : (last : ℕ) (g k : GrantLine) → in_limits last g ≡ Ok k → g ≡ k
limits_same last g k h = grind (arith, nat_tests)

-- the first field is the word
word_known : (text : List ℕ) (w : GrantWord) → grant_word text ≡ Some w → text ≡ codes "grant"
word_known text w h = by (bytes_eq text (codes "grant")) refl h
  where
    by : (b : Bool) → bytes_eq text (codes "grant") ≡ b → cond b (Some Grant) None ≡ Some w → text ≡ codes "grant"
    by true e p = (bytes_eq-Decides text (codes "grant")).0 e
    by false e p = let z : ◌≡◌ {A = ℕ} 0 1 = cc in absurd (omega arith)

head_known : (text : List ℕ) (w : GrantWord) → head_in grant_word grant_figures (token_of text 1) ≡ Some w → text ≡ codes "grant"
head_known text w h = by (word_in (token_of text 1)) refl h
  where
    by : (o : Option (List ℕ)) → word_in (token_of text 1) ≡ o → known_in grant_word grant_figures o ≡ Some w → text ≡ codes "grant"
    by None e p = let z : ◌≡◌ {A = ℕ} 0 1 = cc in absurd (omega arith)
    by (Some word) e p = word_text text word 1 e ∙ word_known word w p

-- one figure before others
before_parts : (x : Result ℕ Fault) (r : Result (List ℕ) Fault) (ns : List ℕ) → before x r ≡ Ok ns → (n : ℕ) × (ms : List ℕ) × (x ≡ Ok n) × (r ≡ Ok ms) × (ns ≡ n ∷ ms)
before_parts (Err f) r ns h = let z : ◌≡◌ {A = ℕ} 0 1 = cc in absurd (omega arith)
before_parts (Ok n) (Err f) ns h = let z : ◌≡◌ {A = ℕ} 0 1 = cc in absurd (omega arith)
before_parts (Ok n) (Ok ms) ns h = (n, ms, refl, refl, (cc))

-- the four fields of a line, as they are written of its figures
fields_back : (w a b d : List ℕ) (ns : List ℕ) → w ≡ codes "grant" → figures_of (w ∷ a ∷ b ∷ d ∷ []) ≡ Ok ns → grant_text (grant_in ns) ≡ line_of (w ∷ a ∷ b ∷ d ∷ [])
fields_back w a b d ns e h =
    let p = before_parts _ _ ns h in
    let q = before_parts _ _ p.1 p.3 in
    let r = before_parts _ _ q.1 q.3 in
    let figures : ns ≡ p.0 ∷ q.0 ∷ r.0 ∷ r.1 = p.4 ∙ ap (λ ms. p.0 ∷ ms) q.4 ∙ ap (λ ms. p.0 ∷ q.0 ∷ ms) r.4 in
    ap (λ ms. grant_text (grant_in ms)) figures
    ∙ ap (λ x. text_line (codes "grant") (x ∷ decimal q.0 ∷ decimal r.0 ∷ [])) (text_back a p.0 2 p.2)
    ∙ ap (λ x. text_line (codes "grant") (a ∷ x ∷ decimal r.0 ∷ [])) (text_back b q.0 3 q.2)
    ∙ ap (λ x. text_line (codes "grant") (a ∷ b ∷ x ∷ [])) (text_back d r.0 4 r.2)
    ∙ ap (λ x. text_line x (a ∷ b ∷ d ∷ [])) (sym e)

-- as many fields as are wanted, the first of them the word
count_is : (fields : List (List ℕ)) → wanted (grant_figures Grant) (length fields - 1) ≡ true → length fields ≡ 4
count_is fields h =
    let both = and_parts (leb 3 (length fields - 1)) (leb (length fields - 1) 3) h in
    let low : 3 ≤ length fields - 1 = leb-true _ _ both.0 in
    let high : length fields - 1 ≤ 3 = leb-true _ _ both.1 in
    omega arith

four : (fields : List (List ℕ)) (ns : List ℕ) → first_of fields ≡ codes "grant" → length fields ≡ 4 → figures_of fields ≡ Ok ns → grant_text (grant_in ns) ≡ line_of fields
four (w ∷ a ∷ b ∷ d ∷ []) ns e n h = fields_back w a b d ns e h
four [] ns e n h = absurd (omega arith)
four (w ∷ []) ns e n h = absurd (omega arith)
four (w ∷ a ∷ []) ns e n h = absurd (omega arith)
four (w ∷ a ∷ b ∷ []) ns e n h = absurd (omega arith)
four (w ∷ a ∷ b ∷ d ∷ x ∷ xs) ns e n h = absurd (omega arith)

-- what was read of fields, and of a line
headed_back : (fields : List (List ℕ)) (r : Result (List ℕ) Fault) (p : GrantWord × List ℕ) → figures_of fields ≡ r → first_of fields ≡ codes "grant" → length fields ≡ 4 → headed Grant r ≡ Ok p
    → grant_text (grant_in p.1) ≡ line_of fields
headed_back fields (Err f) p e w n h = let z : ◌≡◌ {A = ℕ} 0 1 = cc in absurd (omega arith)
headed_back fields (Ok ns) p e w n h =
    let q : ◌≡◌ {A = GrantWord × List ℕ} (Grant, ns) p = cc in
    ap (λ (k : GrantWord × List ℕ). grant_text (grant_in k.1)) (sym q) ∙ four fields ns w n e

after_back : (fields : List (List ℕ)) (o : Option GrantWord) (p : GrantWord × List ℕ) → head_in grant_word grant_figures (token_of (first_of fields) 1) ≡ o
    → read_after grant_word grant_figures fields o ≡ Ok p → grant_text (grant_in p.1) ≡ line_of fields
after_back fields None p e h = let z : ◌≡◌ {A = ℕ} 0 1 = cc in absurd (omega arith)
after_back fields (Some Grant) p e h = by (wanted (grant_figures Grant) (length fields - 1)) refl h
  where
    by : (b : Bool) → wanted (grant_figures Grant) (length fields - 1) ≡ b → cond b (headed Grant (figures_of fields)) (Err (fault_of refusal.Fields 1 (length fields))) ≡ Ok p
        → grant_text (grant_in p.1) ≡ line_of fields
    by true n q = headed_back fields (figures_of fields) p refl (head_known (first_of fields) Grant e) (count_is fields n) q
    by false n q = let z : ◌≡◌ {A = ℕ} 0 1 = cc in absurd (omega arith)

line_back : (bytes : List ℕ) (p : GrantWord × List ℕ) → line_read grant_word grant_figures bytes ≡ Ok p → grant_text (grant_in p.1) ≡ bytes
line_back bytes p h = by (is_line bytes) refl h
  where
    by : (b : Bool) → is_line bytes ≡ b
        → cond b (read_after grant_word grant_figures (fields_of bytes) (head_in grant_word grant_figures (token_of (first_of (fields_of bytes)) 1))) (Err (fault_of refusal.Line 0 0)) ≡ Ok p
        → grant_text (grant_in p.1) ≡ bytes
    by true e q = after_back (fields_of bytes) _ p refl q ∙ fields_are_the_line_cut_at_tabs.whole bytes (and_parts _ _ e).1
    by false e q = let z : ◌≡◌ {A = ℕ} 0 1 = cc in absurd (omega arith)

grant_one : (last : ℕ) (bytes : List ℕ) (g : GrantLine) → grant_read last bytes ≡ Ok g → grant_text g ≡ bytes
grant_one last bytes g h = by (line_read grant_word grant_figures bytes) refl h
  where
    by : (r : Result (GrantWord × List ℕ) Fault) → line_read grant_word grant_figures bytes ≡ r → grant_after last r ≡ Ok g → grant_text g ≡ bytes
    by (Err f) e q = let z : ◌≡◌ {A = ℕ} 0 1 = cc in absurd (omega arith)
    by (Ok p) e q = ap grant_text (sym (limits_same last (grant_in p.1) g q)) ∙ line_back bytes p e

onto_parts : (g : GrantLine) (r : Result (List GrantLine) LineFault) (gs : List GrantLine) → onto g r ≡ Ok gs → (more : List GrantLine) × (r ≡ Ok more) × (gs ≡ g ∷ more)
onto_parts g (Err f) gs h = let z : ◌≡◌ {A = ℕ} 0 1 = cc in absurd (omega arith)
onto_parts g (Ok more) gs h = (more, refl, (cc))

-- line by line
lines_one : (ls : List (List ℕ)) (n last : ℕ) (gs : List GrantLine) → lines_read n last ls ≡ Ok gs → sheet_text gs ≡ flat_map (λ l. l) ls
lines_one [] n last gs h = let none : gs ≡ [] = cc in ap sheet_text none
lines_one (l ∷ ls) n last gs h = by (grant_read last l) refl h (lines_one ls)
  where
    by : (r : Result GrantLine Fault) → grant_read last l ≡ r → and_then (numbered n r) (λ k. lines_read (suc n) k.number ls) ≡ Ok gs
        → ((m next : ℕ) (more : List GrantLine) → lines_read m next ls ≡ Ok more → sheet_text more ≡ flat_map (λ l. l) ls)
        → sheet_text gs ≡ l ++ flat_map (λ l. l) ls
    by (Err f) e q ih = let z : ◌≡◌ {A = ℕ} 0 1 = cc in absurd (omega arith)
    by (Ok g) e q ih =
        let p = onto_parts g (lines_read (suc n) g.number ls) gs q in
        ap sheet_text p.2
        ∙ ap (λ xs. xs ++ sheet_text p.0) (grant_one last l g e)
        ∙ ap (λ xs. l ++ xs) (ih (suc n) g.number p.0 p.1)

pub one_sheet_for_grants : OneSheetForGrants
one_sheet_for_grants bytes gs h = lines_one (lines_of bytes) 1 0 gs h ∙ whole_lines bytes
