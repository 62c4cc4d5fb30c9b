use Rattle.std.proofs.Common.{length}
use Rattle.desk.proofs.Desk.answer_block.Given as goal

abbrev pub decreases-loop-after : goal.decreases-loop-after
decreases-loop-after g l = length l.rest
