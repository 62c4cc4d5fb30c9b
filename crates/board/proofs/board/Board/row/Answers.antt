use Rattle.std.proofs.Common.{arith}
use Rattle.rules.proofs.Settled.{reached_sound}
use Rattle.board.specs.Face.{rack_in}
use Rattle.board.proofs.Deeds.{out_inside}
use Rattle.board.proofs.board.Board.row.Goals as goal

pub overflow_add-t : goal.overflow_add-t
overflow_add-t c =
    let d = c.in_ok-_i.ensures in
    let k = out_inside (rack_in c.args.self.now) (reached_sound (rack_in c.args.self.now) c.args.self.now.reached) c.in_ok-_i._i c.in_ok-_i.t d.0 d.1 c.in-Out.is in
    let w = c.args.self.now.tables.wide.1 in
    omega arith

pub column-requires : goal.column-requires
column-requires c =
    let d = c.in_ok-_i.ensures in
    let k = out_inside (rack_in c.args.self.now) (reached_sound (rack_in c.args.self.now) c.args.self.now.reached) c.in_ok-_i._i c.in_ok-_i.t d.0 d.1 c.in-Out.is in
    omega arith
