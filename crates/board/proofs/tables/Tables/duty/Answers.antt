use Rattle.std.proofs.Common.{sym}
use Rattle.board.specs.Reading.{rack_of}
use Rattle.board.proofs.Acting.{marks_on, walls_off}
use Rattle.board.proofs.tables.Tables.duty.Goals as goal

pub returns-then-mask-ne0 : goal.returns-then-mask-ne0
returns-then-mask-ne0 c =
    marks_on (rack_of c.args.self.now) c.args.t c.args.mask c.requires.is_soft c.requires.held c.requires.mask (sym c.if-retreats.ensures) (sym c.if-past-2.ensures)
    c.if-complete-2.false c.if-mask-ne0.true

pub returns-else-mask-ne0 : goal.returns-else-mask-ne0
returns-else-mask-ne0 c =
    walls_off (rack_of c.args.self.now) c.args.t c.args.mask c.requires.is_soft c.requires.held c.requires.mask (sym c.if-retreats.ensures) (sym c.if-past-2.ensures)
    c.if-complete-2.false c.if-mask-ne0.false
