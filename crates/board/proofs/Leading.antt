-- The foremost ticket is the oldest soft one, if any is soft.
use Rattle.std.proofs.Common.{◌≡◌, ℕ, ◌-◌, ◌<◌, ◌≤◌, true, cond, ltb, length, Some, sym, refl, ap, ◌∙◌, subst, arith}
use Rattle.std.proofs.lemmas.Bool.Decides.{nat_tests}
use Rattle.std.proofs.lemmas.Bool.{lt-ltb, le-ltb}
use Rattle.lists.specs.Order.{LeadsAt}
use Rattle.rules.specs.declared.ticket.Ticket.{Ticket}
use Rattle.rules.specs.Lists.{find}
use Rattle.rules.specs.Rack.{Rack, soft, oldest}
use Rattle.rules.specs.Order.{ticket_before}
use Rattle.rules.specs.Step.{led}
use Rattle.rules.specs.Sound.{Sound}
use Rattle.rules.proofs.Listing.{find_in, find_some, some_inj}
use Rattle.rules.proofs.Tickets.{find_own, first_lowest}
use Rattle.board.specs.Reading.{no_ticket, ticket_at}
use Rattle.board.proofs.Places.{at_in, in_at}

-- before a soft ticket stands only a soft one, with no higher number
before_soft : (t u : Ticket) → ticket_before t u ≡ true → soft u.phase ≡ true → (soft t.phase ≡ true) × (t.number ≤ u.number)
before_soft t u e f = grind (arith, nat_tests)

pub oldest_at : (r : Rack) → Sound r → (i o : ℕ) → i < length r.tickets → soft (ticket_at r i).phase ≡ true → LeadsAt ticket_before r.tickets o → oldest r ≡ Some (ticket_at r o)
oldest_at r s i o h e l =
    let ts = r.tickets in
    let a = before_soft (ticket_at r o) (ticket_at r i) (l.all i no_ticket h) e in
    let io = at_in ts o l.within in
    let f = find_some (λ t. soft t.phase) ts (ticket_at r o) io a.0 in
    let u = f.0 in
    let g = find_in (λ t. soft t.phase) ts u f.1 in
    let low = first_lowest r.first r.next (λ t. soft t.phase) ts u (ticket_at r o) s.rising f.1 io a.0 in
    let p = in_at ts u g.0 in
    let b = before_soft (ticket_at r o) u (subst (λ (v : Ticket). ticket_before (ticket_at r o) v ≡ true) p.2 (l.all p.0 no_ticket p.1)) g.1 in
    let n : u.number ≡ (ticket_at r o).number = let k = b.1 in omega arith in
    let x = find_own r.first r.next ts u s.rising g.0 in
    let y = find_own r.first r.next ts (ticket_at r o) s.rising io in
    let z : u ≡ ticket_at r o = some_inj u (ticket_at r o) (sym x ∙ (ap (λ (k : ℕ). find (λ t. lib.Dec.eqb t.number k) ts) n ∙ y)) in
    f.1 ∙ ap Some z

led_cond : (r : Rack) (s o : Ticket) → oldest r ≡ Some o → led r s ≡ cond (ltb r.sizes.lead (s.number - o.number)) o s
led_cond r s o e = rw e refl

pub led_oldest : (r : Rack) (s o : Ticket) → oldest r ≡ Some o → r.sizes.lead < s.number - o.number → o ≡ led r s
led_oldest r s o e l = sym (led_cond r s o e ∙ rw (lt-ltb r.sizes.lead (s.number - o.number) l) refl)

pub led_named : (r : Rack) (s o : Ticket) → oldest r ≡ Some o → s.number - o.number ≤ r.sizes.lead → s ≡ led r s
led_named r s o e l = sym (led_cond r s o e ∙ rw (le-ltb r.sizes.lead (s.number - o.number) l) refl)
