use Rattle.std.proofs.Common.{sym, ◌∙◌}
use Rattle.rules.proofs.Settled.{reached_sound}
use Rattle.board.specs.Face.{rack_in}
use Rattle.board.proofs.Picking.{picked_within}
use Rattle.board.proofs.board.Board.pick.Goals as goal

pub returns-clause-within : goal.returns-clause-within
returns-clause-within g c =
    let r = rack_in c.args.self.now in
    picked_within g.C.Chooser.meaning g.met.C.Chooser.lawful r (reached_sound r c.args.self.now.reached) c.args.t c.args.chooser.now c.requires.inside c.args.mask c.requires.mask c.requires.vacant
    c.left_row.result c.left_row.ensures c.unwrap.result (sym c.unwrap.ensures ∙ c.choose.ensures.answer)
