-- The rack that a board stands for.
use Rattle.std.specs.Prelude.{Some, None, Ok, Err, Option, Result}
use Rattle.rules.specs.Rack.{Rack}
use Rattle.board.specs.declared.board.Board.{Board}
use Rattle.board.specs.Reading.{rack_of}

abbrev pub rack_in : Board → Rack
rack_in b = rack_of b.tables

-- accepted, unless there is a reason against it
abbrev pub unless : {E : Type 0} → Option E → Result Unit E
unless None = Ok tt
unless (Some e) = Err e
