use Rattle.std.proofs.Common.{◌≡◌, true, Ok, Result, sym, ap, ◌∙◌, subst, rules, arith}
use Rattle.rules.specs.History.{Event}
use Rattle.rules.proofs.Settled.{reached_sound}
use Rattle.rules.proofs.Carried.{step_carries}
use Rattle.board.specs.Face.{rack_in}
use Rattle.rules.specs.declared.refusal.Refusal.{Refusal}
use Rattle.rules.specs.declared.report.Report.{Report}
use Rattle.rules.specs.declared.ticket.Ticket.{Ticket}
use Rattle.rules.specs.Rack.{Rack, soft}
use Rattle.rules.specs.Sound.{Rising}
use Rattle.board.specs.Reading.{rack_of, ticket_at}
use Rattle.board.proofs.Deeds.{fit_at, wipe_marks, act_report, act_rack}
use Rattle.board.proofs.Walking.{due_soft, step_rack, step_answer}
use Rattle.board.proofs.Promising.{carries_told, reached_after}
use Rattle.board.proofs.board.Board.step.Goals as goal

pub returns-in_err-spot-clause-history : goal.returns-in_err-spot-clause-history
returns-in_err-spot-clause-history g c = carries_told (Event.stepped) (rack_in c.args.self.now) _ _ _ _ (step_carries g.C.Chooser.meaning g.met.C.Chooser.lawful (rack_in c.args.self.now) c.args.number c.args.chooser.now) (search rules) (search rules)

pub duty-action-requires-clause-is_soft : goal.duty-action-requires-clause-is_soft
duty-action-requires-clause-is_soft g c =
    let r = rack_in c.args.self.now in
    let sd = reached_sound r c.args.self.now.reached in
    let d = c.in_ok-spot.ensures in
    rw c.ticket-t.ensures (due_soft r sd c.args.number (ticket_at r c.in_ok-spot.spot.place) d.1)

pub duty-action-requires-clause-held : goal.duty-action-requires-clause-held
duty-action-requires-clause-held g c =
    let r = rack_in c.args.self.now in
    let sd = reached_sound r c.args.self.now.reached in
    let d = c.in_ok-spot.ensures in
    (fit_at r sd c.in_ok-spot.spot.place c.ticket-t.result d.0 c.ticket-t.ensures).held

pub column_told-column-requires : goal.column_told-column-requires
column_told-column-requires g c =
    let r = rack_in c.args.self.now in
    let sd = reached_sound r c.args.self.now.reached in
    let d = c.in_ok-spot.ensures in
    let f = (fit_at r sd c.in_ok-spot.spot.place c.ticket-t.result d.0 c.ticket-t.ensures).reach in
    let w = c.args.self.now.tables.wide.1 in omega arith

pub row_for-row-requires-clause-is_soft : goal.row_for-row-requires-clause-is_soft
row_for-row-requires-clause-is_soft g c =
    let r = rack_in c.args.self.now in
    let sd = reached_sound r c.args.self.now.reached in
    let d = c.in_ok-spot.ensures in
    rw c.ticket-t.ensures (due_soft r sd c.args.number (ticket_at r c.in_ok-spot.spot.place) d.1)

pub becomes-by-requires-clause-reach : goal.becomes-by-requires-clause-reach
becomes-by-requires-clause-reach g c =
    let r = rack_in c.args.self.now in
    let sd = reached_sound r c.args.self.now.reached in
    let d = c.in_ok-spot.ensures in
    let f = (fit_at r sd c.in_ok-spot.spot.place c.ticket-t.result d.0 c.ticket-t.ensures).reach in
    let w = c.args.self.now.tables.wide.1 in omega arith

pub becomes-by-requires-clause-marks : goal.becomes-by-requires-clause-marks
becomes-by-requires-clause-marks g c =
    let r = rack_in c.args.self.now in
    let sd = reached_sound r c.args.self.now.reached in
    let d = c.in_ok-spot.ensures in
    let s : soft c.ticket-t.result.phase ≡ true = rw c.ticket-t.ensures (due_soft r sd c.args.number (ticket_at r c.in_ok-spot.spot.place) d.1) in
    λ q. wipe_marks r sd c.in_ok-spot.spot.place c.ticket-t.result d.0 c.ticket-t.ensures s (sym c.duty-action.ensures ∙ q)

pub replace-requires-clause-rising : goal.replace-requires-clause-rising
replace-requires-clause-rising g c =
    subst (λ (y : Rack). Rising y.first y.next y.tickets) (sym c.write.ensures) (reached_sound (rack_in c.args.self.now) c.args.self.now.reached).rising

pub invariant_of-self : goal.invariant_of-self
invariant_of-self g c =
    let r = rack_in c.args.self.now in
    let m = g.C.Chooser.meaning in
    let s = c.args.chooser.now in
    let t = c.ticket-t.result in
    let d = c.in_ok-spot.ensures in
    let e = act_rack m r t s c.duty-action.result c.column_told-column.result c.row_for-row.result c.duty-action.ensures c.column_told-column.ensures c.row_for-row.ensures.row
    (rack_of c.write.new.self) (rack_of c.replace.new.self) c.becomes-by.result c.write.ensures c.becomes-by.ensures c.replace.ensures in
    let k = step_rack m r c.args.number t s (d.1 ∙ ap {B = Result Ticket Refusal} Ok (sym c.ticket-t.ensures)) in
    record { reached = reached_after _ r (rack_of c.replace.new.self) _ (step_carries m g.met.C.Chooser.lawful r c.args.number s) (e ∙ sym k) c.args.self.now.reached }

pub returns-clause-history : goal.returns-clause-history
returns-clause-history g c =
    let r = rack_in c.args.self.now in
    let m = g.C.Chooser.meaning in
    let s = c.args.chooser.now in
    let t = c.ticket-t.result in
    let d = c.in_ok-spot.ensures in
    let e = act_rack m r t s c.duty-action.result c.column_told-column.result c.row_for-row.result c.duty-action.ensures c.column_told-column.ensures c.row_for-row.ensures.row
    (rack_of c.write.new.self) (rack_of c.replace.new.self) c.becomes-by.result c.write.ensures c.becomes-by.ensures c.replace.ensures in
    let w = d.1 ∙ ap {B = Result Ticket Refusal} Ok (sym c.ticket-t.ensures) in
    let a = act_report m r t s c.duty-action.result c.column_told-column.result c.row_for-row.result c.duty-action.ensures c.column_told-column.ensures c.row_for-row.ensures.row in
    carries_told Event.stepped r (rack_of c.replace.new.self) _ _ _ (step_carries m g.met.C.Chooser.lawful r c.args.number s)
    (ap {B = Result Report Refusal} Ok a ∙ sym (step_answer m r c.args.number t s w)) (e ∙ sym (step_rack m r c.args.number t s w))
