-- What one look finds: the mask ahead, and whether the ticket is blocked and by whom.
use Rattle.std.proofs.Common.{◌≡◌, ℕ, ◌+◌, ◌<◌, ◌≤◌, Bool, true, false, not, ◌&&◌, ltb, Some, None, Option, sym, refl, ap, ◌∙◌, arith}
use Rattle.std.proofs.lemmas.Bool.{and_parts, ltb-true, ltb-false, not-true, not-false, eq-eqb, ne_eqb, le-leb, lt-leb}
use Rattle.rules.specs.declared.ticket.Ticket.{Ticket}
use Rattle.rules.specs.Lists.{or_else}
use Rattle.rules.specs.Rack.{Rack, soft, cells, has_vacant, is_wall}
use Rattle.rules.specs.Step.{is_forward, ahead, past, blocked}
use Rattle.rules.specs.Choosers.{mask_of}
use Rattle.rules.specs.Sound.{Sound, marks_in, booked_in}
use Rattle.rules.proofs.Listing.{some_none}
use Rattle.rules.proofs.Masks.{mask_zero}
use Rattle.rules.proofs.Looks.{sees_wall, sees_holder}
use Rattle.rules.proofs.Walks.{blocked_holder}
use Rattle.board.specs.Reading.{Placed, looks, Passes}

-- the window ahead lies within the board
pub looks_inside : (r : Rack) (t : Ticket) → looks r t ≡ true → ahead t < r.sizes.columns
looks_inside r t e =
    let a = (and_parts (is_forward t.phase) (ltb t.marks t.request.length && not (past r.sizes t)) e).1 in
    let b = and_parts (ltb t.marks t.request.length) (not (past r.sizes t)) a in
    let m = ltb-true t.marks t.request.length b.0 in
    let p = ltb-false r.sizes.columns (t.first + t.request.length) (not-true (past r.sizes t) b.1) in
    omega arith

-- a ticket is blocked if the step looks ahead of it, and there is neither a vacant slot nor a wall
blocked_split : (r : Rack) (t : Ticket) → blocked r t ≡ (looks r t && (not (has_vacant r (ahead t)) && not (is_wall r (ahead t))))
blocked_split r t = at (is_forward t.phase) (ltb t.marks t.request.length) (not (past r.sizes t)) (not (has_vacant r (ahead t)) && not (is_wall r (ahead t)))
  where
    at : (a b c d : Bool) → (a && (b && (c && d))) ≡ ((a && (b && c)) && d)
    at true true c d = refl
    at true false c d = refl
    at false b c d = refl

free_by : (a v w : Bool) → (v ≡ true) → (a && (not v && not w)) ≡ false
free_by true true w e = refl
free_by false true w e = refl
free_by a false w e = cc

free_at_wall : (a v w : Bool) → (w ≡ true) → (a && (not v && not w)) ≡ false
free_at_wall true true true e = refl
free_at_wall true false true e = refl
free_at_wall false v true e = refl
free_at_wall a v false e = cc

pub free_vacant : (r : Rack) (t : Ticket) (m : ℕ) → m ≡ mask_of (cells r (ahead t)) → (m ≡ 0 → ⊥) → blocked r t ≡ false
free_vacant r t m k n =
    let z : not (has_vacant r (ahead t)) ≡ false = sym (mask_zero (cells r (ahead t))) ∙ ne_eqb (mask_of (cells r (ahead t))) 0 (λ e. n (k ∙ e)) in
    blocked_split r t ∙ free_by (looks r t) (has_vacant r (ahead t)) (is_wall r (ahead t)) (not-false (has_vacant r (ahead t)) z)

pub free_wall : (r : Rack) → Sound r → (t : Ticket) (b : ℕ) → looks r t ≡ true → b ≡ booked_in (ahead t) r.tickets → r.sizes.rows ≤ b → blocked r t ≡ false
free_wall r s t b e k l =
    let w = sees_wall r s (ahead t) (looks_inside r t e) ∙ le-leb r.sizes.rows (booked_in (ahead t) r.tickets) (omega arith) in
    blocked_split r t ∙ free_at_wall (looks r t) (has_vacant r (ahead t)) (is_wall r (ahead t)) w

passes_at : (r : Rack) → Sound r → (t : Ticket) → looks r t ≡ true → blocked r t ≡ true → (o : Option ℕ) → Placed (λ u. soft u.phase && marks_in (ahead t) u) r.tickets o → Passes r t o
passes_at r s t e b None p =
    let h = blocked_holder r s t b in
    absurd (some_none h.0 (sym h.1 ∙ (sees_holder r s (ahead t) (looks_inside r t e) ∙ p)))
passes_at r s t e b (Some i) p =
    (p.0, b, sym (ap (λ (o : Option Ticket). or_else o t) (sees_holder r s (ahead t) (looks_inside r t e) ∙ p.1)))

pub passes_on : (r : Rack) → Sound r → (t : Ticket) (m b : ℕ) (o : Option ℕ) → looks r t ≡ true → m ≡ mask_of (cells r (ahead t)) → m ≡ 0
    → b ≡ booked_in (ahead t) r.tickets → b < r.sizes.rows → Placed (λ u. soft u.phase && marks_in (ahead t) u) r.tickets o → Passes r t o
passes_on r s t m b o e k z q l p =
    let v : not (has_vacant r (ahead t)) ≡ true = sym (mask_zero (cells r (ahead t))) ∙ eq-eqb (mask_of (cells r (ahead t))) 0 (sym k ∙ z) in
    let w : is_wall r (ahead t) ≡ false = sees_wall r s (ahead t) (looks_inside r t e) ∙ lt-leb r.sizes.rows (booked_in (ahead t) r.tickets) (omega arith) in
    passes_at r s t e (blocked_split r t ∙ rw (e, v, w) refl) o p
