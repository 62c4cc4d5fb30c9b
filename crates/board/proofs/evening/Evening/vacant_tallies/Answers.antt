use Rattle.std.proofs.Common.{◌≡◌, ◌+◌, ◌-◌, sym, ap, arith}
use Rattle.std.specs.Prelude.{slice_index}
use Rattle.board.specs.declared.tally.RowTally.{RowTally}
use Rattle.board.specs.Tallies.{tallied}
use Rattle.board.proofs.Filling.{filled_vacant, filled_taken, filled_all}
use Rattle.board.proofs.evening.Evening.vacant_tallies.Goals as goal
use Rattle.board.proofs.evening.Evening.vacant_tallies.Goals.{then-vacant_in, else-vacant_in}

pub loop-i-preserved : goal.loop-i-preserved
loop-i-preserved c =
    let ts = c.args.self.now.tallies in let i = c.loop-i.i in let l = c.loop-i-test.true in
    elim c.if-vacant_in.branch [
      | then-vacant_in w ↦
          let at : i ≡ i + 1 - 1 = omega arith in
          let entry : ◌≡◌ {A = RowTally} (record { count = slice_index ts i; row = i + 1 }) (tallied ts (i + 1)) = ap {B = RowTally} (λ n. record { count = slice_index ts n; row = i + 1 }) at in
          rw (w.entries-is, w.push.ensures.items) (filled_vacant ts c.args.mask _ i c.loop-i.invariant l _ entry (sym w.if-vacant_in.ensures.is))
      | else-vacant_in w ↦ rw w.entries-is (filled_taken ts c.args.mask _ i c.loop-i.invariant l (sym w.if-vacant_in.ensures.is))
    ]

pub returns : goal.returns
returns c = filled_all c.args.self.now.tallies c.args.mask _ c.loop-i.i c.loop-i.invariant c.loop-i-test.false
