-- The worked cases come out by computing.
use Rattle.std.proofs.Common.{refl}
use Rattle.rules.specs.Cases.{CasesComeOut}

pub cases_come_out : CasesComeOut
cases_come_out = (refl, (refl, (refl, (refl, (refl, (refl, (refl, (refl, ((refl, refl, refl), (refl, (refl, tt)))))))))))
