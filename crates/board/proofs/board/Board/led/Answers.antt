use Rattle.std.proofs.Common.{◌-◌, sym, ap, arith}
use Rattle.std.proofs.lemmas.Bool.{ltb-true, ltb-false}
use Rattle.rules.specs.declared.ticket.Ticket.{Ticket}
use Rattle.lists.specs.Order.{LeadsAt}
use Rattle.rules.specs.Order.{ticket_before}
use Rattle.rules.proofs.Settled.{reached_sound}
use Rattle.board.specs.Face.{rack_in}
use Rattle.board.specs.Reading.{ticket_at}
use Rattle.board.proofs.Leading.{oldest_at, led_oldest, led_named}
use Rattle.board.proofs.board.Board.led.Goals as goal

pub returns-then-runs_ahead-clause-is : goal.returns-then-runs_ahead-clause-is
returns-then-runs_ahead-clause-is c =
    let r = rack_in c.args.self.now in
    let sd = reached_sound r c.args.self.now.reached in
    let v = c.args.self.now.tables.tickets.ok.0 in
    let l : LeadsAt ticket_before r.tickets c.in-Some.oldest = rw c.deref.ensures.value at c.in-Some.ensures.leads in
    let w = l.within in
    let o = oldest_at r sd c.args.i c.in-Some.oldest (omega arith) c.requires.is_soft l in
    let a = ap (λ (t : Ticket). t.number) c.ticket.ensures in
    let b = ap (λ (t : Ticket). t.number) c.ticket-2.ensures in
    let k = ltb-true c.args.self.now.tables.sizes.lead (c.ticket.result.number - c.ticket-2.result.number) (sym c.if-runs_ahead.ensures) in
    led_oldest r (ticket_at r c.args.i) (ticket_at r c.in-Some.oldest) o (omega arith)

pub returns-else-runs_ahead-clause-is : goal.returns-else-runs_ahead-clause-is
returns-else-runs_ahead-clause-is c =
    let r = rack_in c.args.self.now in
    let sd = reached_sound r c.args.self.now.reached in
    let v = c.args.self.now.tables.tickets.ok.0 in
    let l : LeadsAt ticket_before r.tickets c.in-Some.oldest = rw c.deref.ensures.value at c.in-Some.ensures.leads in
    let o = oldest_at r sd c.args.i c.in-Some.oldest (omega arith) c.requires.is_soft l in
    let a = ap (λ (t : Ticket). t.number) c.ticket.ensures in
    let b = ap (λ (t : Ticket). t.number) c.ticket-2.ensures in
    let k = ltb-false c.args.self.now.tables.sizes.lead (c.ticket.result.number - c.ticket-2.result.number) (sym c.if-runs_ahead.ensures) in
    led_named r (ticket_at r c.args.i) (ticket_at r c.in-Some.oldest) o (omega arith)
