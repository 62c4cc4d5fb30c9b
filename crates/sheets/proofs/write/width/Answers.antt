use Rattle.std.proofs.Common.{length, sym, ap, arith}
use Rattle.std.proofs.lemmas.Fmt.{decimal_digit}
use Rattle.text.proofs.Paging.{two_digits}
use Rattle.sheets.proofs.write.width.Goals as goal

pub returns-then-n-lt10 : goal.returns-then-n-lt10
returns-then-n-lt10 c = record { is = sym (ap length (decimal_digit c.args.n c.if-n-lt10.true)); few = omega arith }

pub returns-then-n-lt100 : goal.returns-then-n-lt100
returns-then-n-lt100 c = record { is = sym (ap length (two_digits c.args.n c.if-n-lt10.false c.if-n-lt100.true)); few = omega arith }
