use Rattle.std.proofs.Common.{◌∙◌}
use Rattle.lists.specs.Reading.{contents_of}
use Rattle.board.specs.Face.{rack_in}
use Rattle.board.proofs.Running.{halted, went}
use Rattle.board.proofs.board.Board.run.Goals as goal

pub returns-in-Err : goal.returns-in-Err
returns-in-Err g c =
    let i = c.loop-made.invariant in
    let h = c.in-Err.ensures in
    let e = halted g.C.Chooser.meaning c.args.number (rack_in c.loop-made.self) (rack_in c.step.new.self) _ c.loop-made.chooser c.step.new.chooser _
    (contents_of c.loop-made.journal) _ c.loop-made.made c.args.budget _ c.loop-made-test.true c.if-is_full.ensures h.rack h.chooser c.in-Err._refusal h.answer
    i.0 i.1 i.2 i.3 in
    record { count = e.0; rack = e.1; chooser = e.2; journal = e.3; place = i.4 }

pub loop-made-preserved : goal.loop-made-preserved
loop-made-preserved g c =
    let i = c.loop-made.invariant in
    let h = c.in-Ok.ensures in
    let e = went g.C.Chooser.meaning c.args.number (rack_in c.loop-made.self) (rack_in c.step.new.self) _ c.loop-made.chooser c.step.new.chooser _
    (contents_of c.loop-made.journal) _ c.loop-made.made c.args.budget _ c.loop-made-test.true c.if-is_full.ensures h.rack h.chooser
    (contents_of c.push.new.self) c.in-Ok.report h.answer c.push.ensures.contents i.0 i.1 i.2 i.3 in
    (e.0, e.1, e.2, e.3, c.push.ensures.place ∙ i.4)
