-- The numbers and words of every closed list of answers: one definition each, which the promises speak through.
use Rattle.std.specs.Prelude.{ℕ, Bool, true, false, List, codes}
use Rattle.rules.specs.declared.ticket.Stage.{Stage}
use Rattle.rules.specs.declared.ticket.Stage.TheVariants as stage
use Rattle.rules.specs.declared.ticket.Phase.{Phase}
use Rattle.rules.specs.declared.ticket.Phase.TheVariants as phase
use Rattle.rules.specs.declared.report.Action.{Action}
use Rattle.rules.specs.declared.report.Action.TheVariants as action
use Rattle.rules.specs.declared.refusal.Refusal.{Refusal}
use Rattle.rules.specs.declared.refusal.Refusal.TheVariants as refusal

-- the word for a stage
abbrev pub stage_word : Stage → List ℕ
stage_word stage.Seeking = codes "seeking"
stage_word stage.Without = codes "without"
stage_word stage.Granted = codes "granted"
stage_word stage.Out = codes "out"
stage_word stage.Closing = codes "closing"
stage_word stage.Idle = codes "idle"

-- the stage of a ticket: going forward and backing out are both seeking
abbrev pub stage_of : Phase → Stage
stage_of phase.Forward = stage.Seeking
stage_of (phase.Backing next) = stage.Seeking
stage_of phase.Without = stage.Without
stage_of phase.Granted = stage.Granted
stage_of phase.Out = stage.Out
stage_of phase.Closing = stage.Closing

-- the number of an action
abbrev pub action_number : Action → ℕ
action_number action.Wipe = 1
action_number action.Over = 2
action_number action.Without = 3
action_number action.Grant = 4
action_number action.Mark = 5
action_number action.Wall = 6

-- the number of a refusal
abbrev pub refusal_number : Refusal → ℕ
refusal_number refusal.Limits = 1
refusal_number refusal.Columns = 2
refusal_number refusal.Numbers = 3
refusal_number refusal.Places = 4
refusal_number refusal.Unknown = 5
refusal_number refusal.Stage = 6
refusal_number refusal.Full = 7
refusal_number refusal.Verb = 8
refusal_number refusal.Fields = 9
refusal_number refusal.Figure = 10
refusal_number refusal.Line = 11
refusal_number refusal.Page = 12
refusal_number refusal.Grant = 13

-- which action it is
abbrev pub is_mark : Action → Bool
is_mark action.Wipe = false
is_mark action.Over = false
is_mark action.Without = false
is_mark action.Grant = false
is_mark action.Mark = true
is_mark action.Wall = false

abbrev pub is_grant : Action → Bool
is_grant action.Wipe = false
is_grant action.Over = false
is_grant action.Without = false
is_grant action.Grant = true
is_grant action.Mark = false
is_grant action.Wall = false

abbrev pub is_without : Action → Bool
is_without action.Wipe = false
is_without action.Over = false
is_without action.Without = true
is_without action.Grant = false
is_without action.Mark = false
is_without action.Wall = false
