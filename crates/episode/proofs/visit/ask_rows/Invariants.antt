use Rattle.std.proofs.Common.{◌≡◌}
use Rattle.lists.specs.Reading.{contents_of}
use Rattle.board.specs.Face.{rack_in}
use Rattle.episode.specs.Visits.{rows_noted}
use Rattle.episode.proofs.visit.ask_rows.Given as goal

-- the grant is the one that came in, and the rows of the columns so far are entered
abbrev pub invariant-loop-offset : goal.invariant-loop-offset
invariant-loop-offset l =
    record {
      same : l.held ≡ l.initial.held;
      entered : contents_of l.rows ≡ rows_noted (rack_in l.board) l.initial.held.number l.offset (contents_of l.initial.rows);
      place : l.rows.slots.ghost_name ≡ l.initial.rows.slots.ghost_name;
    }
