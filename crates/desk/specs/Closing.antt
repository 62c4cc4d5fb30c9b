-- The closing lines of a program.
use Rattle.std.specs.Prelude.{ℕ, List, ◌++◌}
use Rattle.std.specs.List.{flat_map}
use Rattle.text.specs.declared.fault.LineFault.{LineFault}
use Rattle.text.specs.Pages.{fault_line, end_line}

-- a line for each fault, in their order
abbrev pub fault_lines : List LineFault → List ℕ
fault_lines faults = flat_map (λ f. fault_line f.line f.fault) faults

-- and then how many lines were read, and how many of them were refused
abbrev pub closing : List LineFault → ℕ → ℕ → List ℕ
closing faults lines refusals = fault_lines faults ++ end_line lines refusals
