use Rattle.std.proofs.Common.{◌≡◌, take}
use Rattle.rules.specs.Choosers.{mask_of}
use Rattle.board.proofs.column.Column.vacant_rows.Given as goal

-- the slots before i are in the mask
abbrev pub invariant-loop-i : goal.invariant-loop-i
invariant-loop-i l = l.mask ≡ mask_of (take l.i l.self.slots.now)
