-- Why a line is refused.
use Rattle.std.specs.Prelude.{◌≡◌, ℕ, cond, List, Some, None, Option}
use Rattle.rules.specs.declared.refusal.Refusal.TheVariants as refusal
use Rattle.text.specs.declared.fault.Fault.{Fault}
use Rattle.text.specs.Faults.{fault_of}
use Rattle.text.specs.Frames.{kept}
use Rattle.text.specs.Lines.{is_line}

-- the fault of a line, of which none is kept if it is too long; no verb is known yet
abbrev pub line_fault : Option (List ℕ) → Fault
line_fault None = fault_of refusal.Line 0 0
line_fault (Some bytes) = cond (is_line bytes) (fault_of refusal.Verb 1 1) (fault_of refusal.Line 0 0)

-- what is not kept of a line makes no difference to its fault
abbrev pub Unaffected : Type 0
Unaffected = (bytes : List ℕ) → line_fault (kept bytes) ≡ line_fault (Some bytes)
