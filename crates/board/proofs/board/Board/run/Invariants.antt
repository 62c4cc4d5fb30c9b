use Rattle.std.proofs.Common.{◌≡◌, ◌+◌, ◌-◌, min, length}
use Rattle.lists.specs.Contents.{room_of, entered}
use Rattle.lists.specs.Reading.{contents_of}
use Rattle.rules.specs.Calls.{steps}
use Rattle.board.specs.Face.{rack_in}
use Rattle.board.proofs.board.Board.run.Given as goal

-- what is left to do from here gives what was to be done from the start
abbrev pub invariant-loop-made : goal.invariant-loop-made
invariant-loop-made g l =
    let all = steps g.C.Chooser.meaning (min l.budget (room_of (contents_of l.initial.journal))) (rack_in l.initial.self) l.number l.initial.chooser in
    let left = steps g.C.Chooser.meaning (min (l.budget - l.made) (room_of (contents_of l.journal))) (rack_in l.self) l.number l.chooser in
    (l.made + length left.reports ≡ length all.reports)
    × (left.rack ≡ all.rack)
    × (left.held ≡ all.held)
    × (entered (contents_of l.journal) left.reports ≡ entered (contents_of l.initial.journal) all.reports)
    × (l.journal.slots.ghost_name ≡ l.initial.journal.slots.ghost_name)
