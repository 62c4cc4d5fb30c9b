use Rattle.std.proofs.Common.{◌≡◌, None, sym, ap, subst, rules}
use Rattle.std.specs.Option.{option_map}
use Rattle.lists.specs.Reading.{contents_of}
use Rattle.board.specs.Face.{rack_in}
use Rattle.console_next.specs.Calls.{Continues}
use Rattle.console_next.specs.Answers.{Answered}
use Rattle.console_next.specs.Sessions.{line_answered}
use Rattle.console_next.proofs.Obeying.{stays}
use Rattle.console_next.proofs.session.Session.answer_line.Goals as goal

pub returns-in_err-line-clause-history : goal.returns-in_err-line-clause-history
returns-in_err-line-clause-history g c =
    let x = rack_in c.args.self.now.board in
    let none : option_map (λ x. x.now) c.args.line ≡ None = search rules in
    let d = ap (λ l. line_answered g.C.Chooser.meaning l c.args.page.now x (contents_of c.args.reports.now) c.args.self.now.chooser) none in
    subst (λ (a : Answered _). Continues a.tells x x) (sym d) (stays x)
