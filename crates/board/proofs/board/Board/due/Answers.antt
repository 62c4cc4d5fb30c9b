use Rattle.std.proofs.Common.{arith}
use Rattle.board.specs.Reading.{rack_of}
use Rattle.board.proofs.Walking.{due_ends}
use Rattle.board.proofs.board.Board.due.Goals as goal

pub returns : goal.returns
returns c =
    let v = c.args.self.now.tables.tickets.ok.0 in
    let w = c.walk.ensures.within in (
      omega arith,
      due_ends (rack_of c.args.self.now.tables) c.args.number c.in_ok-i.i c.led.result c.walk.result.place c.in_ok-i.ensures.2 c.led.ensures.is c.walk.ensures.is,
      c.walk.ensures.mask,
    )
