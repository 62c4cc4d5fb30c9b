use Rattle.std.proofs.Common.{sym, ap, ◌∙◌, subst}
use Rattle.lists.specs.Contents.{room_of}
use Rattle.lists.specs.Reading.{contents_of}
use Rattle.rules.specs.Rack.{Rack}
use Rattle.rules.specs.Calls.{drive}
use Rattle.rules.specs.Laws.{reported, Carries}
use Rattle.rules.proofs.Carried.{drive_carries}
use Rattle.rules.proofs.Plays.{drive_counts, drive_ends}
use Rattle.board.specs.Face.{rack_in}
use Rattle.board.proofs.Running.{drive_none, drive_full, drive_runs}
use Rattle.board.proofs.board.Board.drive.Goals as goal

pub returns-in_err-soft_place-clause-counts : goal.returns-in_err-soft_place-clause-counts
returns-in_err-soft_place-clause-counts g c = drive_counts g.C.Chooser.meaning

pub returns-in_err-soft_place-clause-ends : goal.returns-in_err-soft_place-clause-ends
returns-in_err-soft_place-clause-ends g c = drive_ends g.C.Chooser.meaning

pub returns-in_err-soft_place-clause-history : goal.returns-in_err-soft_place-clause-history
returns-in_err-soft_place-clause-history g c =
    let m = g.C.Chooser.meaning in
    let x = rack_in c.args.self.now in
    let room = room_of (contents_of c.args.journal.now) in
    let d = drive_none m x c.args.number c.args.budget room c.args.chooser.now _ c.in_err-soft_place.ensures in
    subst (λ (y : Rack). Carries (reported (drive m x c.args.number c.args.budget room c.args.chooser.now).ran.reports) x y) (ap (λ o. o.ran.rack) d)
    (drive_carries m g.met.C.Chooser.lawful x c.args.number c.args.budget room c.args.chooser.now)

pub returns-then-is_full-clause-counts : goal.returns-then-is_full-clause-counts
returns-then-is_full-clause-counts g c = drive_counts g.C.Chooser.meaning

pub returns-then-is_full-clause-ends : goal.returns-then-is_full-clause-ends
returns-then-is_full-clause-ends g c = drive_ends g.C.Chooser.meaning

pub returns-then-is_full-clause-history : goal.returns-then-is_full-clause-history
returns-then-is_full-clause-history g c =
    let m = g.C.Chooser.meaning in
    let x = rack_in c.args.self.now in
    let room = room_of (contents_of c.args.journal.now) in
    let d = drive_full m x c.args.number c.args.budget room c.args.chooser.now _ c.in_ok-soft_place.ensures.2 (sym c.if-is_full.ensures) in
    subst (λ (y : Rack). Carries (reported (drive m x c.args.number c.args.budget room c.args.chooser.now).ran.reports) x y) (ap (λ o. o.ran.rack) d)
    (drive_carries m g.met.C.Chooser.lawful x c.args.number c.args.budget room c.args.chooser.now)

pub returns-clause-counts : goal.returns-clause-counts
returns-clause-counts g c = drive_counts g.C.Chooser.meaning

pub returns-clause-ends : goal.returns-clause-ends
returns-clause-ends g c = drive_ends g.C.Chooser.meaning

pub returns-clause-history : goal.returns-clause-history
returns-clause-history g c =
    let m = g.C.Chooser.meaning in
    let x = rack_in c.args.self.now in
    let room = room_of (contents_of c.args.journal.now) in
    let d = drive_runs m x c.args.number c.args.budget room c.args.chooser.now _ c.in_ok-soft_place.ensures.2 (sym c.if-is_full.ensures) in
    subst (λ (y : Rack). Carries (reported (drive m x c.args.number c.args.budget room c.args.chooser.now).ran.reports) x y) (ap (λ o. o.ran.rack) d ∙ sym c.run-made.ensures.rack)
    (drive_carries m g.met.C.Chooser.lawful x c.args.number c.args.budget room c.args.chooser.now)
