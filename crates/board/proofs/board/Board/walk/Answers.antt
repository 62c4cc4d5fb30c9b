use Rattle.std.proofs.Common.{◌≡◌, ℕ, suc, ◌+◌, ◌-◌, subst, arith}
use Rattle.board.specs.Face.{rack_in}
use Rattle.board.specs.Reading.{ticket_at, walk_end}
use Rattle.board.proofs.Walking.{walk_ends, walk_goes}
use Rattle.board.proofs.board.Board.walk.Goals as goal

pub returns-in-None-clause-is : goal.returns-in-None-clause-is
returns-in-None-clause-is c = walk_ends (rack_in c.args.self.now) _ _ _ _ _ c.ticket.ensures c.look-look.ensures.passes c.loop-turn.invariant.0 c.in-None.is

pub loop-turn-preserved : goal.loop-turn-preserved
loop-turn-preserved c =
    let r = rack_in c.args.self.now in
    let n = c.loop-turn._turn in
    let t = c.loop-turn-test.true in
    let g = walk_goes r _ _ _ _ _ c.ticket.ensures c.look-look.ensures.passes c.loop-turn.invariant.0
    (suc c.args.self.now.tables.sizes.columns - (suc n)) c.in-Some.next (omega arith) c.in-Some.is in
    let z : suc c.args.self.now.tables.sizes.columns - suc n ≡ suc c.args.self.now.tables.sizes.columns - (n + 1) = omega arith in
    let l = g.1 in let v = c.args.self.now.tables.tickets.ok.0 in
    (subst (λ (k : ℕ). walk_end k r (ticket_at r c.in-Some.next) ≡ walk_end (suc c.args.self.now.tables.sizes.columns) r (ticket_at r c.args.from)) z g.0, omega arith)
