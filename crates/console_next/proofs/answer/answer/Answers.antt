use Rattle.std.proofs.Common.{[], Err, sym, ap, ◌∙◌, subst}
use Rattle.std.proofs.lemmas.Result.{err_from_is_err_and, IfOk-from_err}
use Rattle.lists.specs.Reading.{contents_of}
use Rattle.rules.specs.Rack.{Rack}
use Rattle.rules.specs.Laws.{Carries}
use Rattle.board.specs.Face.{rack_in}
use Rattle.text.proofs.Paging.{puts_page}
use Rattle.console_next.specs.Calls.{Continues}
use Rattle.console_next.specs.Replies.{reply_text}
use Rattle.console_next.specs.Answers.{Answered}
use Rattle.console_next.proofs.Obeying.{stays, too_short, misread, denied, granted, refused_order}
use Rattle.console_next.proofs.answer.answer.Goals as goal

pub returns-in_err-check-clause-history : goal.returns-in_err-check-clause-history
returns-in_err-check-clause-history g c =
    let x = rack_in c.args.board.now in
    let d = too_short g.C.Chooser.meaning x (contents_of c.args.journal.now) c.args.chooser.now c.args.line.now c.args.page.now c.in_err-check.ensures.room.0 in
    subst (λ (a : Answered _). Continues a.tells x x) (sym d) (stays x)

pub returns-in_err-order-clause-history : goal.returns-in_err-order-clause-history
returns-in_err-order-clause-history g c =
    let x = rack_in c.args.board.now in
    let d = misread g.C.Chooser.meaning x (contents_of c.args.journal.now) c.args.chooser.now c.args.line.now c.args.page.now c.in_ok-check.ensures.room _ (sym c.read_order.ensures ∙ c.in_err-order.was) in
    subst (λ (a : Answered _). Continues a.tells x x) (sym d) (stays x)

pub returns-in_err-reply : goal.returns-in_err-reply
returns-in_err-reply g c =
    let m = g.C.Chooser.meaning in
    let x = rack_in c.args.board.now in
    let j = contents_of c.args.journal.now in
    let s = c.args.chooser.now in
    let order = c.in_ok-order.order in
    let read = sym c.read_order.ensures ∙ c.in_ok-order.was in
    let no = sym c.call.ensures.reply ∙ c.in_err-reply.was in
    let p = err_from_is_err_and c.from_residual-in_err-reply.result c.from_residual-in_err-reply.ensures.1 in
    let d = denied m x j s c.args.line.now c.args.page.now c.in_ok-check.ensures.room order read _ no in
    let same = refused_order m x j s order _ no in
    let rack = c.call.ensures.rack ∙ same.rack in
    record {
      answer = p.1 ∙ ap Err p.2 ∙ sym (ap (λ a. a.answer) d);
      page = sym (ap (λ a. a.page) d);
      rack = rack ∙ sym (ap (λ a. a.rack) d);
      chooser = c.call.ensures.chooser ∙ same.held ∙ sym (ap (λ a. a.held) d);
      journal = c.call.ensures.journal ∙ same.journal ∙ sym (ap (λ a. a.journal) d);
      place = c.call.ensures.place;
      fits = IfOk-from_err _ _ c.from_residual-in_err-reply.ensures.0;
      history = subst (λ (a : Answered _). Continues a.tells x (rack_in c.call.new.board)) (sym d) (subst (λ (y : Rack). Carries [] x y) (sym rack) (stays x));
    }

pub returns-clause-page : goal.returns-clause-page
returns-clause-page g c =
    let reply = c.in_ok-reply.reply in
    let d = granted g.C.Chooser.meaning (rack_in c.args.board.now) (contents_of c.args.journal.now) c.args.chooser.now c.args.line.now c.args.page.now c.in_ok-check.ensures.room c.in_ok-order.order (sym c.read_order.ensures ∙ c.in_ok-order.was) reply (sym c.call.ensures.reply ∙ c.in_ok-reply.was) in
    puts_page c.args.page.now (reply_text reply) c.put.new.page c.put.result c.put.ensures ∙ sym (ap (λ a. a.page) d)
