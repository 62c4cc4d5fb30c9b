use Rattle.std.proofs.Common.{◌≡◌, drop}
use Rattle.rules.specs.Rack.{row_of}
use Rattle.board.proofs.Columns.{shifted}
use Rattle.board.proofs.column.Column.row_of.Given as goal

-- what is left of the cells gives the answer
abbrev pub invariant-loop-i : goal.invariant-loop-i
invariant-loop-i l = shifted l.i (row_of l.number (drop l.i l.self.slots.now)) ≡ row_of l.number l.self.slots.now
