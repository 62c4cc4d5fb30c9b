use Rattle.std.proofs.Common.{take}
use Rattle.std.specs.Io.KnownBytes.{Appends}
use Rattle.desk.specs.Closing.{fault_lines}
use Rattle.desk.proofs.write_faults.Given as goal

-- the lines of the faults so far were written
abbrev pub invariant-loop-noted : goal.invariant-loop-noted
invariant-loop-noted g l = Appends (g.W.Write.contents l.initial.out) (g.W.Write.contents l.out) (fault_lines (take l.noted-index l.faults))
