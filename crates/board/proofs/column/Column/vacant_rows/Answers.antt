use Rattle.std.proofs.Common.{◌∙◌, arith}
use Rattle.board.proofs.Columns.{mask_fits, mask_vacant, mask_marked}
use Rattle.board.proofs.column.Column.vacant_rows.Goals as goal
use Rattle.board.proofs.column.Column.vacant_rows.Goals.{then-is_vacant, else-is_vacant}

pub overflow_add-mask : goal.overflow_add-mask
overflow_add-mask c = omega (arith, mask_fits c.args.self.now.slots.now c.loop-i.i c.loop-i.mask c.loop-i-test.true c.args.self.now.short c.loop-i.invariant)

pub loop-i-preserved : goal.loop-i-preserved
loop-i-preserved c =
    let ss = c.args.self.now.slots.now in let l = c.loop-i-test.true in let k = c.args.self.now.short in
    elim c.if-is_vacant.branch [
      | then-is_vacant w ↦ w.mask-is ∙ mask_vacant ss c.loop-i.i _ l k c.loop-i.invariant _ w.if-is_vacant.ensures
      | else-is_vacant w ↦ w.mask-is ∙ mask_marked ss c.loop-i.i _ l k c.loop-i.invariant _ w.if-is_vacant.ensures
    ]
