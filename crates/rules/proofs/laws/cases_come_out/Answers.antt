use Rattle.rules.proofs.Worked.{cases_come_out}
use Rattle.rules.proofs.Failing.{wrong_rules}
use Rattle.rules.proofs.laws.cases_come_out.Goals as goal

pub returns : goal.returns
returns c = record { right = cases_come_out; wrong = wrong_rules }
