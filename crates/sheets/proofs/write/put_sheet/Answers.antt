use Rattle.std.proofs.Common.{sym, ◌∙◌, arith}
use Rattle.sheets.proofs.Texts.{told_room, told_more, puts_none, puts_at}
use Rattle.sheets.proofs.write.put_sheet.Goals as goal
use Rattle.sheets.proofs.write.put_sheet.Goals.{in-Some, in_default}

pub put_grant-end-requires : goal.put_grant-end-requires
put_grant-end-requires c =
    let room = told_room c.args.tickets.now c.loop-ticket.ticket-index c.loop-ticket-test.true _ (sym c.in-Some.is ∙ c.grant_of.ensures) c.loop-ticket.invariant.0 _ c.loop-ticket.invariant.2 in
    omega (arith, c.loop-ticket.invariant.1.ends)

pub loop-ticket-preserved : goal.loop-ticket-preserved
loop-ticket-preserved c =
    elim c.match-grant_of.branch [
      | in-Some w ↦
          told_more c.args.tickets.now c.loop-ticket.ticket-index c.loop-ticket-test.true _ (sym w.in-Some.is ∙ c.grant_of.ensures)
          c.loop-ticket.invariant.1 c.loop-ticket.invariant.2
          (puts_at w.put_grant-end.ensures w.page-is w.end-is)
      | in_default w ↦
          told_more c.args.tickets.now c.loop-ticket.ticket-index c.loop-ticket-test.true _ (sym w.in_default.is ∙ c.grant_of.ensures)
          c.loop-ticket.invariant.1 c.loop-ticket.invariant.2
          (puts_none c.loop-ticket.page _ c.loop-ticket.end _ w.page-is w.end-is)
    ]
