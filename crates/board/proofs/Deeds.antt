-- What holds of the ticket at a place when it does its action.
use Rattle.std.proofs.Common.{◌≡◌, ℕ, ◌+◌, ◌-◌, ◌<◌, ◌≤◌, true, false, not, eqb, length, Option, sym, refl, ap, ◌∙◌, subst, arith}
use Rattle.std.proofs.lemmas.Bool.{lt-ltb, le-ltb}
use Rattle.rules.specs.declared.ticket.Ticket.{Ticket}
use Rattle.rules.specs.declared.ticket.Phase.{Phase}
use Rattle.rules.specs.declared.ticket.Phase.TheVariants.{Forward, Backing, Without, Granted, Out, Closing}
use Rattle.rules.specs.declared.report.Report.{Report}
use Rattle.rules.specs.declared.report.Action.{Action}
use Rattle.rules.specs.declared.report.Action.TheVariants as action
use Rattle.rules.specs.Lists.{edit}
use Rattle.rules.specs.declared.rack.Sizes.{Sizes}
use Rattle.rules.specs.Rack.{Rack, soft, named, cells, has_vacant, row_of, with}
use Rattle.rules.specs.Step.{ahead, retreats, action_of, row_told, column_of, slots_after, after, report_of, acted}
use Rattle.rules.specs.Choosers.{Meaning, mask_of}
use Rattle.rules.specs.Calls.{row_for}
use Rattle.rules.specs.Sound.{Shape, Fit, Sound}
use Rattle.rules.proofs.Listing.{In, all_in}
use Rattle.rules.proofs.Duties.{Says, says}
use Rattle.rules.proofs.Masks.{mask_zero}
use Rattle.rules.proofs.Agreement.{own_mark}
use Rattle.board.specs.Reading.{ticket_at, looks, mask_seen}
use Rattle.board.specs.Acting.{list_of, Replaced, Writes}
use Rattle.board.proofs.Places.{at_in}

retreats_marks : (z : Sizes) (t : Ticket) (p : Phase) → Shape z p t → retreats p ≡ true → 1 ≤ t.marks
retreats_marks z t Forward s e = cc
retreats_marks z t (Backing g) s e = s.0
retreats_marks z t Without s e = cc
retreats_marks z t Granted s e = cc
retreats_marks z t Out s e = cc
retreats_marks z t Closing s e = s.0

-- what is told of a ticket on the board
pub fit_at : (r : Rack) → Sound r → (i : ℕ) (t : Ticket) → i < length r.tickets → t ≡ ticket_at r i → Fit r.sizes r.handbacks t
fit_at r sd i t h e = subst (λ (u : Ticket). Fit r.sizes r.handbacks u) (sym e) (all_in (Fit r.sizes r.handbacks) r.tickets (ticket_at r i) sd.fits (at_in r.tickets i h))

-- the window of a ticket out lies within the board
pub out_inside : (r : Rack) → Sound r → (i : ℕ) (t : Ticket) → i < length r.tickets → t ≡ ticket_at r i → t.phase ≡ Out → t.first + t.request.length ≤ r.sizes.columns
out_inside r sd i t h e q = (subst (λ (p : Phase). Shape r.sizes p t) q (fit_at r sd i t h e).shape).1

module _ (r : Rack) (sd : Sound r) (i : ℕ) (t : Ticket) (h : i < length r.tickets) (e : t ≡ ticket_at r i) (s : soft t.phase ≡ true) where
  here : In t r.tickets
  here = subst (λ (u : Ticket). In u r.tickets) (sym e) (at_in r.tickets i h)

  told : (a : Action) → action_of r t ≡ a → Says r.sizes r.handbacks (has_vacant r (ahead t)) t a
  told a q = subst (λ (b : Action). Says r.sizes r.handbacks (has_vacant r (ahead t)) t b) q (says r.sizes r.handbacks (has_vacant r (ahead t)) t s)

  pub wipe_marks : action_of r t ≡ action.Wipe → 1 ≤ t.marks
  wipe_marks q = retreats_marks r.sizes t t.phase (fit_at r sd i t h e).shape (told action.Wipe q)

  pub wipe_row : action_of r t ≡ action.Wipe → (t.first + t.marks - 1 < r.sizes.columns) × (1 ≤ row_of t.number (cells r (ahead t - 1))) × (row_of t.number (cells r (ahead t - 1)) ≤ r.sizes.rows)
  wipe_row q =
      let k = wipe_marks q in
      let c = (fit_at r sd i t h e).reach in
      let o = own_mark r sd t here (ahead t - 1) (omega arith) (omega arith) (omega arith) in
      (omega arith, o.0, o.1)

  pub mark_inside : action_of r t ≡ action.Mark → ahead t < r.sizes.columns
  mark_inside q =
      let y = told action.Mark q in
      let f = (fit_at r sd i t h e).held in
      let a = y.1 in let b = y.2 in omega arith

  mark_looks : action_of r t ≡ action.Mark → looks r t ≡ true
  mark_looks q =
      let y = told action.Mark q in
      let f = (fit_at r sd i t h e).held in
      let b = y.2 in
      rw (y.0, lt-ltb t.marks t.request.length (omega arith), le-ltb r.sizes.columns (t.first + t.request.length) y.1) refl

  pub mark_mask : (m : ℕ) → m ≡ mask_seen r t → action_of r t ≡ action.Mark → (m ≡ mask_of (cells r (ahead t))) × (m ≡ 0 → ⊥)
  mark_mask m k q =
      let y = told action.Mark q in
      let e1 : m ≡ mask_of (cells r (ahead t)) = k ∙ rw (mark_looks q) refl in (
        e1,
        λ z.
            let a : eqb (mask_of (cells r (ahead t))) 0 ≡ true = ap (λ (n : ℕ). eqb n 0) (sym e1 ∙ z) in
            let b : eqb (mask_of (cells r (ahead t))) 0 ≡ false = mask_zero (cells r (ahead t)) ∙ ap not y.3 in
            let n : false ≡ true = sym b ∙ a in cc,
      )

-- what the row of a mark and of a wipe says of the whole action
module _ {S : Type 0} (m : Meaning S) (r : Rack) (t : Ticket) (s : S) (a : Action) (k : a ≡ action_of r t) (row : ℕ) where
  pub mark_writes : a ≡ action.Mark → ahead t < r.sizes.columns → (1 ≤ row) × (row ≤ r.sizes.rows) → Writes r a (column_of a t) row
  mark_writes q h w = subst (λ (b : Action). Writes r b (column_of b t) row) (sym q) (h, w.0, w.1)

  pub wipe_writes : a ≡ action.Wipe → row ≡ row_of t.number (cells r (ahead t - 1))
      → (t.first + t.marks - 1 < r.sizes.columns) × (1 ≤ row_of t.number (cells r (ahead t - 1))) × (row_of t.number (cells r (ahead t - 1)) ≤ r.sizes.rows)
      → Writes r a (column_of a t) row
  wipe_writes q e w = subst (λ (b : Action). Writes r b (column_of b t) row) (sym q) (w.0, (rw e w.1), (rw e w.2))

-- the whole action: its report, and the rack that it leaves
module _ {S : Type 0} (m : Meaning S) (r : Rack) (t : Ticket) (s : S) (a : Action) (column row : ℕ)
    (p : a ≡ action_of r t) (q : column ≡ column_of a t) (k : row ≡ row_told r t (row_for m r t s) a) where
  column_is : column ≡ column_of (action_of r t) t
  column_is = q ∙ ap (λ (b : Action). column_of b t) p

  row_is : row ≡ row_told r t (row_for m r t s) (action_of r t)
  row_is = k ∙ ap (row_told r t (row_for m r t s)) p

  pub act_report : ◌≡◌ {A = Report} (record { number = t.number; action = a; column = column; row = row }) (report_of r t (row_for m r t s))
  act_report = let c = column_is in let l = row_is in cc

  pub act_rack : (x y : Rack) (o : Option Ticket) → x ≡ with r r.tickets (slots_after r t column row a) → after x.handbacks a t ≡ list_of o → Replaced x t o y
      → y ≡ acted r t (row_for m r t s)
  act_rack x y o e f h =
      let z = with r r.tickets (slots_after r t column row a) in
      let f2 : after r.handbacks a t ≡ list_of o = subst (λ (w : Rack). after w.handbacks a t ≡ list_of o) e f in
      let h2 : Replaced z t o y = subst (λ (w : Rack). Replaced w t o y) e h in
      let g : y ≡ with r (edit (named t.number) (after r.handbacks a) r.tickets) (slots_after r t column row a) = h2 (after r.handbacks a) f2 in
      g ∙ (ap (λ (b : Action). with r (edit (named t.number) (after r.handbacks b) r.tickets) (slots_after r t column row b)) p
      ∙ (ap (λ (c : ℕ). with r (edit (named t.number) (after r.handbacks (action_of r t)) r.tickets) (slots_after r t c row (action_of r t))) column_is
      ∙ ap (λ (l : ℕ). with r (edit (named t.number) (after r.handbacks (action_of r t)) r.tickets) (slots_after r t (column_of (action_of r t) t) l (action_of r t))) row_is))
