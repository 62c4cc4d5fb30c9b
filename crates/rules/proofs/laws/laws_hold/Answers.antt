use Rattle.rules.proofs.Whole.{laws, every_list_of_calls_holds}
use Rattle.rules.proofs.laws.laws_hold.Goals as goal

pub returns : goal.returns
returns c = record { every_history = laws; every_list_of_calls = every_list_of_calls_holds }
