use Rattle.std.proofs.Common.{sym, subst}
use Rattle.std.specs.Option.{option_map}
use Rattle.board.specs.Face.{rack_in}
use Rattle.console_next.specs.Calls.{Continues}
use Rattle.console_next.specs.Sessions.{desk_of, Handled}
use Rattle.console_next.proofs.Obeying.{stays}
use Rattle.console_next.proofs.Settling.{unhandled}
use Rattle.console_next.proofs.session.Session.handle.Goals as goal

pub returns-in_err-check-clause-history : goal.returns-in_err-check-clause-history
returns-in_err-check-clause-history g c =
    let x = rack_in c.args.self.now.board in
    let d = unhandled g.C.Chooser.meaning (option_map (λ x. x.now) c.args.line) c.args.page.now (desk_of c.args.self.now c.args.reports.now c.args.faults.now) c.in_err-check.ensures.room.0 in
    subst (λ (h : Handled _). Continues h.tells x x) (sym d) (stays x)
