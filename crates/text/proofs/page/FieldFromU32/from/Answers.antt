use Rattle.std.proofs.Common.{ap, arith}
use Rattle.std.proofs.lemmas.Fmt.{length-decimal-le}
use Rattle.text.specs.declared.page.Field.TheVariants.{Figure}
use Rattle.text.proofs.page.FieldFromU32.from.Goals as goal

pub returns : goal.returns
returns c = (ap Figure c.from.ensures, length-decimal-le 10 c.from.result (omega arith) (omega arith) (omega arith))
