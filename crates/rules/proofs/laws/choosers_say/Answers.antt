use Rattle.rules.proofs.Picks.{lowest_says, staying_says, evening_says}
use Rattle.rules.proofs.laws.choosers_say.Goals as goal

pub returns : goal.returns
returns c = record { lowest = lowest_says; staying = staying_says; evening = evening_says }
