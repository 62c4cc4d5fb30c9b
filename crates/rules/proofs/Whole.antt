-- All laws together, and every list of calls.
use Rattle.rules.specs.Laws.{LawsHold}
use Rattle.rules.specs.Play.{EveryListOfCallsHolds}
use Rattle.rules.proofs.Balance.{books_balance, tickets_match_history, no_grant_goes_back_twice}
use Rattle.rules.proofs.Windows.{windows}
use Rattle.rules.proofs.Ledgers.{decisions}
use Rattle.rules.proofs.Waits.{waiting}
use Rattle.rules.proofs.Serves.{always_served, nothing_wraps}
use Rattle.rules.proofs.Plays.{every_list}

pub laws : LawsHold
laws h x r =
    record {
      books_balance = books_balance h x r;
      tickets_match_history = tickets_match_history h x r;
      booked_slots_are_standing_windows = windows h x r;
      no_grant_goes_back_twice = no_grant_goes_back_twice h x r;
      every_decision_is_the_ledgers_next_entry = decisions h x r;
      waiting_ends = waiting h x r;
      a_step_is_always_served = always_served h x r;
      nothing_wraps = nothing_wraps h x r;
    }

pub every_list_of_calls_holds : EveryListOfCallsHolds
every_list_of_calls_holds = every_list laws
