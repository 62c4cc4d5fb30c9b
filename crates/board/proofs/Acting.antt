-- Which action a ticket does, by the mask that was seen ahead of it; and what the actions make of the rack.
use Rattle.std.proofs.Common.{◌≡◌, ℕ, ◌≤◌, true, false, cond, sym, refl, ◌∙◌, arith}
use Rattle.std.proofs.lemmas.Bool.{not-false, not-true, eq-eqb, ne_eqb, lt-ltb}
use Rattle.rules.specs.declared.ticket.Ticket.{Ticket}
use Rattle.rules.specs.declared.ticket.Phase.{Phase}
use Rattle.rules.specs.declared.ticket.Phase.TheVariants.{Forward, Backing, Without, Granted, Out, Closing}
use Rattle.rules.specs.declared.report.Action.TheVariants as action
use Rattle.rules.specs.Rack.{Rack, soft, cells, has_vacant}
use Rattle.rules.specs.Step.{is_forward, retreats, past, ahead, action_of}
use Rattle.rules.specs.Choosers.{mask_of}
use Rattle.rules.proofs.Masks.{mask_zero}
use Rattle.board.specs.Reading.{looks, mask_seen}

forward_soft : (p : Phase) → soft p ≡ true → retreats p ≡ false → is_forward p ≡ true
forward_soft Forward s e = refl
forward_soft (Backing g) s e = sym e
forward_soft Without s e = s
forward_soft Granted s e = s
forward_soft Out s e = s
forward_soft Closing s e = sym e

module _ (r : Rack) (t : Ticket) (m : ℕ) (s : soft t.phase ≡ true) (h : t.marks ≤ t.request.length) (k : m ≡ mask_seen r t)
    (a : retreats t.phase ≡ false) (b : past r.sizes t ≡ false) (d : t.marks ≡ t.request.length → ⊥) where
  looks_here : looks r t ≡ true
  looks_here = rw (forward_soft t.phase s a, lt-ltb t.marks t.request.length (omega (arith, d)), b) refl

  mask_here : m ≡ mask_of (cells r (ahead t))
  mask_here = k ∙ rw looks_here refl

  duty_here : action_of r t ≡ cond (has_vacant r (ahead t)) action.Mark action.Wall
  duty_here = rw (a, b, ne_eqb t.marks t.request.length d) refl

  pub marks_on : (m ≡ 0 → ⊥) → action.Mark ≡ action_of r t
  marks_on n =
      let v : has_vacant r (ahead t) ≡ true = not-false (has_vacant r (ahead t)) (sym (mask_zero (cells r (ahead t))) ∙ ne_eqb (mask_of (cells r (ahead t))) 0 (λ e. n (mask_here ∙ e))) in
      sym (duty_here ∙ rw v refl)

  pub walls_off : m ≡ 0 → action.Wall ≡ action_of r t
  walls_off n =
      let v : has_vacant r (ahead t) ≡ false = not-true (has_vacant r (ahead t)) (sym (mask_zero (cells r (ahead t))) ∙ eq-eqb (mask_of (cells r (ahead t))) 0 (sym mask_here ∙ n)) in
      sym (duty_here ∙ rw v refl)
