-- The text of a sheet, ticket by ticket.
use Rattle.std.proofs.Common.{◌≡◌, ℕ, ◌+◌, ◌<◌, ◌≤◌, Bool, true, false, cond, ltb, List, [], ◌∷◌, ◌++◌, length, get_or, take, drop, Some, None, Err, decimal, Option, sym, refl, ap, ◌∙◌, subst, append_assoc, arith}
use Rattle.std.specs.List.{filter_map, cons_option, sum_by}
use Rattle.std.proofs.lemmas.List.Sums.{sum_by-cons}
use Rattle.std.proofs.lemmas.List.{length-append, append-nil, at_drop_more}
use Rattle.std.proofs.lemmas.Bool.{lt-ltb}
use Rattle.rules.specs.declared.ticket.Ticket.{Ticket}
use Rattle.rules.specs.declared.refusal.Refusal.TheVariants as refusal
use Rattle.text.specs.Faults.{fault_of}
use Rattle.text.specs.Pages.{Puts}
use Rattle.text.proofs.Paging.{puts_then}
use Rattle.sheets.specs.declared.grant.GrantLine.{GrantLine}
use Rattle.sheets.specs.Grants.{is_out, grant_of, grant_told, out_among, grant_text, sheet_text, sheet_long, sheet_answer, page_after}

-- how long the line of a grant is
pub grant_long : (g : GrantLine) → length (grant_text g) ≡ 9 + length (decimal g.number) + length (decimal g.span.first) + length (decimal g.span.length)
grant_long g = simp length-append (omega arith)

-- what is written of a ticket
abbrev pub told_text : Option GrantLine → List ℕ
told_text None = []
told_text (Some g) = grant_text g

sheet_more : (t : Ticket) (ts : List Ticket) → sheet_text (out_among (t ∷ ts)) ≡ told_text (grant_told t) ++ sheet_text (out_among ts)
sheet_more t ts = by (is_out t.phase)
  where
    by : (b : Bool) → sheet_text (cond b (grant_of t ∷ out_among ts) (out_among ts)) ≡ told_text (cond b (Some (grant_of t)) None) ++ sheet_text (out_among ts)
    by true = refl
    by false = refl

-- how long the sheet is
pub sheet_sum : (ts : List Ticket) → sheet_long ts ≡ length (sheet_text (out_among ts))
sheet_sum [] = refl
sheet_sum (t ∷ ts) = by (is_out t.phase) (sheet_sum ts)
  where
    by : (b : Bool) → sheet_long ts ≡ length (sheet_text (out_among ts))
        → sum_by (λ g. length (grant_text g)) (cons_option (cond b (Some (grant_of t)) None) (filter_map grant_told ts)) ≡ length (sheet_text (cond b (grant_of t ∷ out_among ts) (out_among ts)))
    by true e =
        sum_by-cons (λ g. length (grant_text g)) (grant_of t) (filter_map grant_told ts)
        ∙ ap (λ n. length (grant_text (grant_of t)) + n) e
        ∙ sym (length-append (grant_text (grant_of t)) (sheet_text (out_among ts)))
    by false e = e

module _ (ts : List Ticket) (i : ℕ) (l : i < length ts) (d : Ticket) {told : Option GrantLine} (e : told ≡ grant_told (get_or ts i d)) where
  -- what is written from this ticket on
  told_at : sheet_text (out_among (drop i ts)) ≡ told_text told ++ sheet_text (out_among (drop (i + 1) ts))
  told_at =
      at_drop_more (λ us. sheet_text (out_among us)) ts i d l
      ∙ sheet_more (get_or ts i d) (drop (i + 1) ts)
      ∙ ap (λ o. told_text o ++ sheet_text (out_among (drop (i + 1) ts))) (sym e)

  told_long : length (sheet_text (out_among (drop i ts))) ≡ length (told_text told) + length (sheet_text (out_among (drop (i + 1) ts)))
  told_long = ap length told_at ∙ length-append (told_text told) _

  -- there is room for it, as there is for the sheet
  pub told_room : (text sheet : List ℕ) → text ++ sheet_text (out_among (drop i ts)) ≡ sheet → length text + length (told_text told) ≤ length sheet
  told_room text sheet h =
      let long = sym (length-append text (sheet_text (out_among (drop i ts)))) ∙ ap length h in
      omega (arith, told_long)

  -- it was written
  pub told_more : {page mid after : List ℕ} {end stop : ℕ} {text sheet : List ℕ} → Puts page 0 text mid end → text ++ sheet_text (out_among (drop i ts)) ≡ sheet
      → Puts mid end (told_text told) after stop → (x : List ℕ) × Puts page 0 x after stop × (x ++ sheet_text (out_among (drop (i + 1) ts)) ≡ sheet)
  told_more {page} {mid} {after} {end} {stop} {text} {sheet} p h q =
      (text ++ told_text told, puts_then p q, append_assoc text _ _ ∙ ap (λ xs. text ++ xs) (sym told_at) ∙ h)

-- nothing was written
pub puts_none : (page after : List ℕ) (at stop : ℕ) → after ≡ page → stop ≡ at → Puts page at [] after stop
puts_none page after at stop p e =
    record { ends = omega arith; front = ap (take stop) p ∙ ap (λ n. take n page) e ∙ sym (append-nil (take at page)); rest = ap (drop stop) p }

pub puts_at : {page after after' text : List ℕ} {at stop stop' : ℕ} → Puts page at text after stop → after' ≡ after → stop' ≡ stop → Puts page at text after' stop'
puts_at {page} {after} {after'} {text} {at} {stop} {stop'} p e f =
    subst (λ xs. Puts page at text xs stop') (sym e) (subst (λ n. Puts page at text after n) (sym f) p)

-- what a call answers that finds no room
pub unwritten : (page text : List ℕ) → length page < length text → (Err (fault_of refusal.Page 0 0) ≡ sheet_answer text page) × (page ≡ page_after text page)
unwritten page text h = let none : ltb (length page) (length text) ≡ true = lt-ltb _ _ h in (rw none refl, rw none refl)
