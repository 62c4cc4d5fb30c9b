use Rattle.std.proofs.Common.{length, sym, ap, subst, arith}
use Rattle.std.proofs.lemmas.Fmt.{decimal_digit}
use Rattle.text.specs.Pages.{Puts}
use Rattle.text.proofs.page.Writer.put_digits.Goals as goal

pub put_byte-requires : goal.put_byte-requires
put_byte-requires c = omega (arith, ap length (decimal_digit c.args.n c.if-n-lt10.true))

pub returns-then-n-lt10-clause-text : goal.returns-then-n-lt10-clause-text
returns-then-n-lt10-clause-text c =
    subst (λ ds. Puts c.args.self.now.page.now c.args.self.now.at ds c.put_byte.new.self.page.now c.put_byte.new.self.at)
    (sym (decimal_digit c.args.n c.if-n-lt10.true))
    c.put_byte.ensures.text
