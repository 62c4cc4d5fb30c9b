-- A line on too short a page.
use Rattle.std.proofs.Common.{◌≡◌, ℕ, ◌<◌, ltb, List, [], length, Err, Option}
use Rattle.std.proofs.lemmas.Bool.{lt-ltb, cond-true}
use Rattle.rules.specs.declared.refusal.Refusal.TheVariants as refusal
use Rattle.rules.specs.Choosers.{Meaning}
use Rattle.text.specs.Faults.{fault_of}
use Rattle.console_next.specs.Calls.{Telling}
use Rattle.console_next.specs.Sessions.{Desk, handled}

pub unhandled : {S : Type 0} (m : Meaning S) (line : Option (List ℕ)) (page : List ℕ) (d : Desk S) → length page < 64
    → handled m line page d ≡ record { answer = Err (fault_of refusal.Page 0 0); page = page; desk = d; tells = Telling.adds [] }
unhandled m line page d h = cond-true (ltb (length page) 64) _ _ (lt-ltb _ _ h)
