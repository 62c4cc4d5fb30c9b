use Rattle.std.proofs.Common.{length, ap, arith}
use Rattle.std.proofs.lemmas.List.{length-append}
use Rattle.console_next.proofs.Replying.{stage_short}
use Rattle.console_next.proofs.reply.Reply.put.Goals as goal

pub put_line-requires-in-Number : goal.put_line-requires-in-Number
put_line-requires-in-Number c = simp length-append (omega (arith))

pub put_line-requires-in-Stepped : goal.put_line-requires-in-Stepped
put_line-requires-in-Stepped c = simp length-append (omega (arith))

pub put_line-requires-in-Driven : goal.put_line-requires-in-Driven
put_line-requires-in-Driven c = simp length-append (omega (arith, stage_short c.in-Driven.stage, ap length c.word.ensures))

pub put_line-requires-in-Collected-default-None : goal.put_line-requires-in-Collected-default-None
put_line-requires-in-Collected-default-None c = simp length-append (omega (arith))

pub put_line-requires-in-Collected-default-Some : goal.put_line-requires-in-Collected-default-Some
put_line-requires-in-Collected-default-Some c = simp length-append (omega (arith))
