-- What is written of a board reads as its grants.
use Rattle.std.proofs.Common.{◌≡◌, ℕ, suc, ◌+◌, ◌*◌, ◌^◌, ◌<◌, ◌≤◌, Bool, true, false, cond, List, [], ◌∷◌, length, Ok, Err, codes, decimal, Result, refl, ap, ◌∙◌, arith}
use Rattle.std.specs.List.{AllByRecursion}
use Rattle.std.proofs.lemmas.Fmt.{length-decimal-le}
use Rattle.std.proofs.lemmas.List.{length-append}
use Rattle.std.proofs.lemmas.Bool.{and_from, le-leb, cond-true}
use Rattle.std.proofs.lemmas.Bool.Decides.{nat_tests}
use Rattle.rules.specs.declared.refusal.Refusal.TheVariants as refusal
use Rattle.rules.specs.declared.ticket.Ticket.{Ticket}
use Rattle.rules.specs.declared.ticket.Phase.{Phase}
use Rattle.rules.specs.declared.ticket.Phase.TheVariants.{Forward, Backing, Without, Granted, Out, Closing}
use Rattle.rules.specs.declared.rack.Sizes.{Sizes}
use Rattle.rules.specs.Rack.{Rack}
use Rattle.rules.specs.Sound.{Rising, Shape, Fit, Reached}
use Rattle.rules.proofs.Settled.{reached_sound}
use Rattle.rules.proofs.Tickets.{rising_top}
use Rattle.board.proofs.Opening.{limits}
use Rattle.text.specs.declared.fault.Fault.{Fault}
use Rattle.text.specs.Faults.{fault_of}
use Rattle.text.specs.Fields.{fields_of, all_plain}
use Rattle.text.specs.Frames.{lines_of}
use Rattle.text.specs.Heads.{line_read, read_after, head_in, headed, first_of}
use Rattle.text.specs.Lines.{ends_once, is_line}
use Rattle.text.specs.Tokens.{token_of, before}
use Rattle.text.proofs.Cutting.{fields_are_the_line_cut_at_tabs}
use Rattle.sheets.specs.declared.grant.GrantLine.{GrantLine}
use Rattle.sheets.specs.declared.grant.GrantWord.{GrantWord}
use Rattle.sheets.specs.declared.grant.GrantWord.TheVariants.{Grant}
use Rattle.sheets.specs.Grants.{is_out, grant_of, out_among, grants_out, grant_text, sheet_text}
use Rattle.sheets.specs.Sheets.{grant_word, grant_figures, in_limits, grant_after, grant_read, numbered, onto, and_then, lines_read, sheet_read, ReadsBack}
use Rattle.sheets.proofs.Cuts.{line_first, ends_line}
use Rattle.sheets.proofs.Numerals.{figure_back, decimal_plain}
use Rattle.sheets.proofs.Passing.{outcome_short, outcome_taken}
use Rattle.sheets.proofs.Texts.{grant_long}

-- within the limits, after a line with number `last`
pub record Limits (last : ℕ) (g : GrantLine) : Type 0 where
  pub above : last < g.number
  pub most : g.number ≤ 2000000000
  pub some : 1 ≤ g.span.length
  pub few : g.span.length ≤ 64
  pub inside : g.span.first + g.span.length ≤ 256

abbrev pub Lawful : ℕ → List GrantLine → Type 0
Lawful last [] = Unit {0}
Lawful last (g ∷ gs) = Limits last g × Lawful g.number gs

limits_pass : (last : ℕ) (g : GrantLine) → Limits last g → in_limits last g ≡ Ok g
limits_pass last g h = grind (arith, nat_tests)

-- the figures of a grant's line
abbrev figures_for : GrantLine → List (List ℕ)
figures_for g = decimal g.number ∷ decimal g.span.first ∷ decimal g.span.length ∷ []

-- what is read of the fields of a line
abbrev read_fields : List (List ℕ) → Result (GrantWord × List ℕ) Fault
read_fields fields = read_after grant_word grant_figures fields (head_in grant_word grant_figures (token_of (first_of fields) 1))

module _ (last : ℕ) (g : GrantLine) (h : Limits last g) where
  number_fits : g.number < 2 ^ 32
  number_fits = omega (arith, h.most)

  first_fits : g.span.first < 2 ^ 32
  first_fits = omega (arith, h.inside)

  length_fits : g.span.length < 2 ^ 32
  length_fits = omega (arith, h.few)

  all_plain_lem : all_plain (codes "grant" ∷ figures_for g) ≡ true
  all_plain_lem =
      and_from _ _ (decimal_plain g.number number_fits)
      (and_from _ _ (decimal_plain g.span.first first_fits) (and_from _ _ (decimal_plain g.span.length length_fits) refl))

  ends : ends_once (grant_text g) ≡ true
  ends = ends_line (codes "grant") (figures_for g) all_plain_lem

  short : length (grant_text g) ≤ 80
  short = omega (arith, grant_long g, ten g.number number_fits, ten g.span.first first_fits, ten g.span.length length_fits)
    where
      ten : (n : ℕ) → n < 2 ^ 32 → length (decimal n) ≤ 10
      ten n k = length-decimal-le 10 n (omega arith) (omega arith) (omega arith)

  three : (x y z : Result ℕ Fault) → x ≡ Ok g.number → y ≡ Ok g.span.first → z ≡ Ok g.span.length
      → headed Grant (before x (before y (before z (Ok (0 ∷ 0 ∷ []))))) ≡ Ok (Grant, g.number ∷ g.span.first ∷ g.span.length ∷ 0 ∷ 0 ∷ [])
  three x y z p q r = rw (p, q, r) refl

  line_back : line_read grant_word grant_figures (grant_text g) ≡ Ok (Grant, g.number ∷ g.span.first ∷ g.span.length ∷ 0 ∷ 0 ∷ [])
  line_back =
      cond-true (is_line (grant_text g)) (read_fields (fields_of (grant_text g))) (Err (fault_of refusal.Line 0 0)) (and_from _ _ (le-leb _ _ short) ends)
      ∙ ap read_fields (fields_are_the_line_cut_at_tabs.only (codes "grant") (figures_for g) all_plain_lem)
      ∙ three _ _ _ (figure_back g.number 2 number_fits) (figure_back g.span.first 3 first_fits) (figure_back g.span.length 4 length_fits)

  -- its line reads as the grant
  grant_back : grant_read last (grant_text g) ≡ Ok g
  grant_back = ap (grant_after last) line_back ∙ limits_pass last g h

lines_back : (gs : List GrantLine) (n last : ℕ) → Lawful last gs → lines_read n last (lines_of (sheet_text gs)) ≡ Ok gs
lines_back [] n last h = refl
lines_back (g ∷ gs) n last h =
    ap (lines_read n last) (line_first (grant_text g) (sheet_text gs) (ends last g h.0))
    ∙ ap (λ r. and_then (numbered n r) (λ k. lines_read (suc n) k.number (lines_of (sheet_text gs)))) (grant_back last g h.0)
    ∙ ap (onto g) (lines_back gs (suc n) g.number h.1)

lawful_short : (gs : List GrantLine) (last : ℕ) → Lawful last gs → length (sheet_text gs) ≤ 80 * length gs
lawful_short [] last h = omega arith
lawful_short (g ∷ gs) last h = omega (arith, length-append (grant_text g) (sheet_text gs), short last g h.0, lawful_short gs g.number h.1)

reads_back : (gs : List GrantLine) → Lawful 0 gs → ReadsBack (sheet_text gs) gs
reads_back gs h =
    let all = lines_back gs 1 0 h in
    record { whole = λ places l. outcome_taken (sheet_read (sheet_text gs)) gs places all l; short = λ places l. outcome_short (sheet_read (sheet_text gs)) gs places all l }

-- a ticket that is out has its columns on the board
out_inside : (z : Sizes) (t : Ticket) (p : Phase) → is_out p ≡ true → Shape z p t → t.first + t.request.length ≤ z.columns
out_inside z t Out e s = s.1
out_inside z t Forward e s = let w : ◌≡◌ {A = ℕ} 0 1 = cc in absurd (omega arith)
out_inside z t (Backing next) e s = let w : ◌≡◌ {A = ℕ} 0 1 = cc in absurd (omega arith)
out_inside z t Without e s = let w : ◌≡◌ {A = ℕ} 0 1 = cc in absurd (omega arith)
out_inside z t Granted e s = let w : ◌≡◌ {A = ℕ} 0 1 = cc in absurd (omega arith)
out_inside z t Closing e s = let w : ◌≡◌ {A = ℕ} 0 1 = cc in absurd (omega arith)

-- the grants of tickets in rising order, on a board within its limits
module _ (z : Sizes) (handbacks hi : ℕ) (wide : z.columns ≤ 256) (top : hi ≤ 2000000001) where
  out_lawful : (lo last : ℕ) (ts : List Ticket) → last < lo → Rising lo hi ts → AllByRecursion (Fit z handbacks) ts → Lawful last (out_among ts)
  out_lawful lo last [] l r f = tt
  out_lawful lo last (t ∷ ts) l r f =
      let below = rising_top (suc t.number) hi ts r.1 in
      by (is_out t.phase) refl
      (out_lawful (suc t.number) t.number ts (omega arith) r.1 f.1)
      (out_lawful (suc t.number) last ts (let k = r.0 in omega arith) r.1 f.1)
    where
      by : (b : Bool) → is_out t.phase ≡ b → Lawful t.number (out_among ts) → Lawful last (out_among ts) → Lawful last (cond b (grant_of t ∷ out_among ts) (out_among ts))
      by true e p q =
          let below = rising_top (suc t.number) hi ts r.1 in
          let low = r.0 in
          let fit = f.0 in
          let inside = out_inside z t t.phase e fit.shape in
          (record { above = omega arith; most = omega arith; some = fit.some; few = fit.most; inside = omega arith }, p)
      by false e p q = q

few_out : (ts : List Ticket) → length (out_among ts) ≤ length ts
few_out [] = omega arith
few_out (t ∷ ts) = by (is_out t.phase) (few_out ts)
  where
    by : (b : Bool) → length (out_among ts) ≤ length ts → length (cond b (grant_of t ∷ out_among ts) (out_among ts)) ≤ length (t ∷ ts)
    by true h = omega arith
    by false h = omega arith

-- the grants of a rack that some calls have led to
module _ (x : Rack) (r : Reached x) where
  rack_lawful : Lawful 0 (grants_out x)
  rack_lawful =
      let s = reached_sound x r in
      let wide = (limits x.sizes x.first s.limits).columns.1 in
      out_lawful x.sizes x.handbacks x.next wide (omega (arith, s.numbers)) x.first 0 x.tickets (omega (arith, s.first_some)) s.rising s.fits

  -- what is written of it reads as its grants
  pub rack_back : ReadsBack (sheet_text (grants_out x)) (grants_out x)
  rack_back = reads_back (grants_out x) rack_lawful

  -- and is not long
  pub rack_short : length (sheet_text (grants_out x)) ≤ 5120
  rack_short =
      let s = reached_sound x r in
      let places = (limits x.sizes x.first s.limits).places.1 in
      let few = s.few in
      omega (arith, lawful_short (grants_out x) 0 rack_lawful, few_out x.tickets)
