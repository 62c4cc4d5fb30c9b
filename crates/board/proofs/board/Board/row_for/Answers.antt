use Rattle.std.proofs.Common.{◌<◌, length, sym, ap, ◌∙◌, arith}
use Rattle.rules.specs.Rack.{row_of}
use Rattle.rules.proofs.Settled.{reached_sound}
use Rattle.board.specs.Face.{rack_in}
use Rattle.board.proofs.Deeds.{fit_at, wipe_marks, wipe_row, mark_inside, mark_mask, mark_writes, wipe_writes}
use Rattle.board.proofs.board.Board.row_for.Goals as goal

pub pick-requires : goal.pick-requires
pick-requires g c =
    let r = rack_in c.args.self.now in
    let sd = reached_sound r c.args.self.now.reached in
    let h : c.args.i < length r.tickets = let v = c.args.self.now.tables.tickets.ok.0 in let w = c.requires.within in omega arith in
    let q = sym c.requires.action ∙ c.in-Mark.is in
    let m = mark_mask r sd c.args.i c.args.t h c.requires.is c.requires.is_soft c.args.mask c.requires.mask q in
    record { inside = mark_inside r sd c.args.i c.args.t h c.requires.is c.requires.is_soft q; mask = m.0; vacant = m.1 }

pub overflow_add-t : goal.overflow_add-t
overflow_add-t g c =
    let r = rack_in c.args.self.now in
    let sd = reached_sound r c.args.self.now.reached in
    let h : c.args.i < length r.tickets = let v = c.args.self.now.tables.tickets.ok.0 in let w = c.requires.within in omega arith in
    let f = (fit_at r sd c.args.i c.args.t h c.requires.is).reach in
    let w = c.args.self.now.tables.wide.1 in omega arith

pub overflow_sub-t : goal.overflow_sub-t
overflow_sub-t g c =
    let r = rack_in c.args.self.now in
    let sd = reached_sound r c.args.self.now.reached in
    let h : c.args.i < length r.tickets = let v = c.args.self.now.tables.tickets.ok.0 in let w = c.requires.within in omega arith in
    let k = wipe_marks r sd c.args.i c.args.t h c.requires.is c.requires.is_soft (sym c.requires.action ∙ c.in-Wipe.is) in omega arith

pub column-requires : goal.column-requires
column-requires g c =
    let r = rack_in c.args.self.now in
    let sd = reached_sound r c.args.self.now.reached in
    let h : c.args.i < length r.tickets = let v = c.args.self.now.tables.tickets.ok.0 in let w = c.requires.within in omega arith in
    (wipe_row r sd c.args.i c.args.t h c.requires.is c.requires.is_soft (sym c.requires.action ∙ c.in-Wipe.is)).0

pub returns-in-Mark-clause-writes : goal.returns-in-Mark-clause-writes
returns-in-Mark-clause-writes g c =
    let r = rack_in c.args.self.now in
    let sd = reached_sound r c.args.self.now.reached in
    let h : c.args.i < length r.tickets = let v = c.args.self.now.tables.tickets.ok.0 in let w = c.requires.within in omega arith in
    mark_writes g.C.Chooser.meaning r c.args.t c.args.chooser.now c.args.action c.requires.action c.pick.result c.in-Mark.is
    (mark_inside r sd c.args.i c.args.t h c.requires.is c.requires.is_soft (sym c.requires.action ∙ c.in-Mark.is)) c.pick.ensures.within

pub returns-in-Wipe-clause-writes : goal.returns-in-Wipe-clause-writes
returns-in-Wipe-clause-writes g c =
    let r = rack_in c.args.self.now in
    let sd = reached_sound r c.args.self.now.reached in
    let h : c.args.i < length r.tickets = let v = c.args.self.now.tables.tickets.ok.0 in let w = c.requires.within in omega arith in
    wipe_writes g.C.Chooser.meaning r c.args.t c.args.chooser.now c.args.action c.requires.action c.row_of.result c.in-Wipe.is
    (c.row_of.ensures ∙ ap (row_of c.args.t.number) c.column.ensures) (wipe_row r sd c.args.i c.args.t h c.requires.is c.requires.is_soft (sym c.requires.action ∙ c.in-Wipe.is))
