use Rattle.std.proofs.Common.{refl, rules}
use Rattle.std.proofs.lemmas.Slice.{overwrites}
use Rattle.text.proofs.page.Writer.put.Goals as goal

pub returns-clause-text : goal.returns-clause-text
returns-clause-text c = record { ends = refl; front = search (rules, overwrites); rest = search (rules, overwrites) }
