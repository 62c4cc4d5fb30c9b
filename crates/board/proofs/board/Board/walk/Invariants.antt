use Rattle.std.proofs.Common.{◌≡◌, suc, ◌-◌, ◌<◌, vec_len}
use Rattle.board.specs.Reading.{rack_of, ticket_at, walk_end}
use Rattle.board.proofs.board.Board.walk.Given as goal

-- what is left of the walk ends where the whole does
abbrev pub invariant-loop-turn : goal.invariant-loop-turn
invariant-loop-turn l =
    (walk_end (suc l.self.tables.sizes.columns - l._turn) (rack_of l.self.tables) (ticket_at (rack_of l.self.tables) l.place)
    ≡ walk_end (suc l.self.tables.sizes.columns) (rack_of l.self.tables) (ticket_at (rack_of l.self.tables) l.from))
    × (l.place < vec_len l.self.tables.tickets)
