-- What becomes of a slip or a grant at a call, told by what the numbered call answers.
use Rattle.std.specs.Prelude.{ℕ, Bool, true, false, cond, Some, None, Ok, Err, Option, Result}
use Rattle.rules.specs.declared.span.Span.{Span}
use Rattle.rules.specs.declared.ticket.Stage.{Stage}
use Rattle.rules.specs.declared.ticket.Stage.TheVariants as stage
use Rattle.rules.specs.declared.refusal.Refusal.{Refusal}
use Rattle.handles.specs.declared.slip.Slip.{Slip}
use Rattle.handles.specs.declared.slip.Refused.{Refused}
use Rattle.handles.specs.declared.slip.Refused.TheVariants.{Kept, Ended}
use Rattle.handles.specs.declared.grant.Grant.{Grant}

-- the slip and the grant that carry a number
abbrev pub slip_of : ℕ → Slip
slip_of n = record { number = n }

abbrev pub grant_of : ℕ → Grant
grant_of n = record { number = n }

-- a booking in this stage still waits for the holder of its slip
abbrev pub waits : Stage → Bool
waits stage.Seeking = true
waits stage.Without = true
waits stage.Granted = true
waits stage.Out = false
waits stage.Closing = false
waits stage.Idle = false

-- a refused slip comes back if its booking was in a stage that waits for it, and else ends
abbrev pub refused_in : Stage → ℕ → Refusal → Refused
refused_in s n e = cond (waits s) (Kept (slip_of n) e) (Ended e)

-- book answers the slip of the number given out
abbrev pub slip_for : Result ℕ Refusal → Result Slip Refusal
slip_for (Ok n) = Ok (slip_of n)
slip_for (Err e) = Err e

-- collect turns the slip, whose booking was in stage s, into the grant of the span or into nothing
abbrev pub grant_for : Stage → ℕ → Result (Option Span) Refusal → Result (Option (Grant × Span)) Refused
grant_for s n (Ok (Some span)) = Ok (Some (grant_of n, span))
grant_for s n (Ok None) = Ok None
grant_for s n (Err e) = Err (refused_in s n e)

-- withdraw ends the slip, whose booking was in stage s
abbrev pub end_for : Stage → ℕ → Result Unit Refusal → Result Unit Refused
end_for s n (Ok done) = Ok done
end_for s n (Err e) = Err (refused_in s n e)
