use Rattle.text.proofs.Naming.{names_is}
use Rattle.text.proofs.verb.VerbHead.named.Goals as goal

pub returns-clause-verb : goal.returns-clause-verb
returns-clause-verb c = names_is c.args.text.now c.verb_of.result c.verb_of.ensures
