use Rattle.std.proofs.Common.{◌∙◌}
use Rattle.lists.specs.Reading.{contents_of}
use Rattle.board.specs.Face.{rack_in}
use Rattle.console_next.proofs.Obeying.{opens_on, shows_on}
use Rattle.console_next.proofs.call.call.Goals as goal

pub returns-in_err-open-in-Open-clause-history : goal.returns-in_err-open-in-Open-clause-history
returns-in_err-open-in-Open-clause-history g c =
    opens_on g.C.Chooser.meaning (rack_in c.args.board.now) (contents_of c.args.journal.now) c.args.chooser.now _ c.in-Open.sizes c.in-Open.first _ c.in-Open.is c.«open».ensures.rack (λ e. c.«open».ensures.history (c.«open».ensures.answer ∙ e))

pub returns-in_ok-open-in-Open-clause-history : goal.returns-in_ok-open-in-Open-clause-history
returns-in_ok-open-in-Open-clause-history g c =
    opens_on g.C.Chooser.meaning (rack_in c.args.board.now) (contents_of c.args.journal.now) c.args.chooser.now _ c.in-Open.sizes c.in-Open.first _ c.in-Open.is c.«open».ensures.rack (λ e. c.«open».ensures.history (c.«open».ensures.answer ∙ e))

pub returns-in_err-show-in-Show-clause-history : goal.returns-in_err-show-in-Show-clause-history
returns-in_err-show-in-Show-clause-history g c = shows_on g.C.Chooser.meaning (rack_in c.args.board.now) (contents_of c.args.journal.now) c.args.chooser.now _ _ c.in-Show.is

pub returns-in_ok-show-in-Show-clause-history : goal.returns-in_ok-show-in-Show-clause-history
returns-in_ok-show-in-Show-clause-history g c = shows_on g.C.Chooser.meaning (rack_in c.args.board.now) (contents_of c.args.journal.now) c.args.chooser.now _ _ c.in-Show.is
