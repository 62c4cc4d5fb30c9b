use Rattle.rules.proofs.Searching.{one_answer, search_answers}
use Rattle.rules.proofs.laws.ledger_answers.Goals as goal

pub returns : goal.returns
returns c = record { one = one_answer; found = search_answers }
