use Rattle.std.proofs.Common.{◌≡◌, take, drop}
use Rattle.lists.specs.Reading.{contents_of}
use Rattle.board.specs.Face.{rack_in}
use Rattle.board.specs.Audit.{opening, played, all_used}
use Rattle.board.proofs.Auditing.{Leaves}
use Rattle.board.proofs.audit.audit.Given as goal

-- some history leads to the rack, it tells the withdrawals counted, and the turns left on it give what all turns give from the start
abbrev pub invariant-loop-turn : goal.invariant-loop-turn
invariant-loop-turn g l =
    let m = g.C.Chooser.meaning in
    let start = opening m l.fn.sizes l.first (contents_of l.initial.journal) in
    Leaves m (rack_in l.board) (contents_of l.journal) l.withdrawn (take l.turn-index l.turns) (drop l.turn-index l.turns)
    (played m start l.initial.turns) (all_used m start l.initial.turns)
    × (l.journal.slots.ghost_name ≡ l.initial.journal.slots.ghost_name)
