-- How long the words of stages are at most.
use Rattle.std.proofs.Common.{◌≤◌, length, arith}
use Rattle.rules.specs.declared.ticket.Stage.{Stage}
use Rattle.rules.specs.Words.{stage_word}

pub stage_short : (s : Stage) → length (stage_word s) ≤ 7
stage_short s = grind arith
