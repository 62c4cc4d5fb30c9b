use Rattle.std.proofs.Common.{◌≡◌, ◌*◌, true, vec_items, sym, ◌∙◌, arith}
use Rattle.rules.specs.Calls.{openable}
use Rattle.board.specs.Face.{rack_in}
use Rattle.board.proofs.Opening.{limits, area_most, filled, sized, opened_rack}
use Rattle.board.proofs.Promising.{open_reached}
use Rattle.board.proofs.board.Board.open.Goals as goal

pub invariant_of-tables : goal.invariant_of-tables
invariant_of-tables c =
    let z = c.args.sizes in
    let e : openable z c.args.first ≡ true = sym c.openable.ensures ∙ c.if-not-openable.false in
    let l = limits z c.args.first e in
    let m = area_most z c.args.first l in
    let p = c.args.self.now.tables.spare in
    let p0 = p.0 in let p1 = p.1 in
    let a = c.clear.ensures.len in let b = c.clear.ensures.capacity in let d = c.clear-2.ensures.capacity in
    let ok = c.resize.ensures.succeeds (omega arith) in
    let k = c.resize.ensures.capacity in
    record { tall = l.rows; wide = l.columns; placed = (omega arith, l.places.1); cells = sized (z.columns * z.rows) _ _ _ ok c.resize.ensures.len; spare = (omega arith, omega arith) }

pub invariant_of-self : goal.invariant_of-self
invariant_of-self c =
    let z = c.args.sizes in
    let e : openable z c.args.first ≡ true = sym c.openable.ensures ∙ c.if-not-openable.false in
    let l = limits z c.args.first e in
    let m = area_most z c.args.first l in
    let p1 = c.args.self.now.tables.spare.1 in
    let d = c.clear-2.ensures.capacity in
    let ok = c.resize.ensures.succeeds (omega arith) in
    let x = rack_in c.args.self.now in
    record {
      reached = open_reached x _ z c.args.first (opened_rack x x z c.args.first e (vec_items c.clear.new.self) (vec_items c.resize.new.self) c.clear.ensures.items
          (filled (z.columns * z.rows) _ _ _ _ ok c.clear-2.ensures.len c.clear-2.ensures.items c.resize.ensures.items)) c.args.self.now.reached;
    }
