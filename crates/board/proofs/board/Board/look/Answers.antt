use Rattle.std.proofs.Common.{◌≡◌, ◌&&◌, true, sym, ap, ◌∙◌}
use Rattle.rules.specs.Rack.{soft}
use Rattle.rules.specs.Step.{ahead}
use Rattle.rules.specs.Choosers.{mask_of}
use Rattle.rules.specs.Sound.{marks_in}
use Rattle.rules.proofs.Settled.{reached_sound}
use Rattle.board.specs.Face.{rack_in}
use Rattle.board.specs.Reading.{looks}
use Rattle.board.proofs.Places.{placed}
use Rattle.board.proofs.Looking.{free_vacant, free_wall, passes_on}
use Rattle.board.proofs.board.Board.look.Goals as goal

pub returns-then-mask-ne0-clause-passes : goal.returns-then-mask-ne0-clause-passes
returns-then-mask-ne0-clause-passes c =
    let r = rack_in c.args.self.now in
    free_vacant r c.args.t _ (c.vacant_rows-mask.ensures ∙ ap mask_of c.column.ensures) c.if-mask-ne0.true

pub returns-then-booked_in-tables-clause-passes : goal.returns-then-booked_in-tables-clause-passes
returns-then-booked_in-tables-clause-passes c =
    let r = rack_in c.args.self.now in
    let sd = reached_sound r c.args.self.now.reached in
    let e : looks r c.args.t ≡ true = sym c.looks.ensures ∙ c.if-not-looks.false in
    free_wall r sd c.args.t _ e (rw c.deref.ensures.value at c.booked_in.ensures) c.if-booked_in-tables.true

pub returns-clause-passes : goal.returns-clause-passes
returns-clause-passes c =
    let r = rack_in c.args.self.now in
    let sd = reached_sound r c.args.self.now.reached in
    let e : looks r c.args.t ≡ true = sym c.looks.ensures ∙ c.if-not-looks.false in
    passes_on r sd c.args.t _ _ _ e (c.vacant_rows-mask.ensures ∙ ap mask_of c.column.ensures) c.if-mask-ne0.false
    (rw c.deref.ensures.value at c.booked_in.ensures) c.if-booked_in-tables.false (placed (λ u. soft u.phase && marks_in (ahead c.args.t) u) r.tickets _ (rw c.deref-2.ensures.value at c.holder_in.ensures))
