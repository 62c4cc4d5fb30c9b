use Rattle.std.proofs.Common.{length, sym, ap, subst, arith}
use Rattle.text.specs.Pages.{Puts}
use Rattle.text.proofs.Paging.{puts_then, two_digits}
use Rattle.text.proofs.page.Writer.put_long.Goals as goal

pub put_byte-requires : goal.put_byte-requires
put_byte-requires c = omega (arith, ap length (two_digits c.args.n c.requires.long c.if-n-lt100.true))

pub put_byte-requires-then-n-lt100 : goal.put_byte-requires-then-n-lt100
put_byte-requires-then-n-lt100 c = omega (arith, ap length (two_digits c.args.n c.requires.long c.if-n-lt100.true), c.put_byte.ensures.text.ends)

pub returns-then-n-lt100-clause-text : goal.returns-then-n-lt100-clause-text
returns-then-n-lt100-clause-text c =
    subst (λ ds. Puts c.args.self.now.page.now c.args.self.now.at ds c.put_byte-then-n-lt100.new.self.page.now c.put_byte-then-n-lt100.new.self.at)
    (sym (two_digits c.args.n c.requires.long c.if-n-lt100.true))
    (puts_then c.put_byte.ensures.text c.put_byte-then-n-lt100.ensures.text)
