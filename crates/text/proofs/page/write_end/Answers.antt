use Rattle.std.proofs.Common.{arith}
use Rattle.std.proofs.lemmas.List.{length-append}
use Rattle.text.proofs.Paging.{figure_short}
use Rattle.text.proofs.page.write_end.Goals as goal

pub write_line-requires : goal.write_line-requires
write_line-requires c = simp length-append (omega (arith, figure_short c.args.lines (omega arith), figure_short c.args.refusals (omega arith)))
