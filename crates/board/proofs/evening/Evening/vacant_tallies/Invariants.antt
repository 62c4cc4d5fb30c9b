use Rattle.board.proofs.Filling.{Filled}
use Rattle.board.proofs.evening.Evening.vacant_tallies.Given as goal

abbrev pub invariant-loop-i : goal.invariant-loop-i
invariant-loop-i l = Filled l.self.tallies l.mask l.entries.items l.i
