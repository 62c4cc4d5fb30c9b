use Rattle.std.proofs.Common.{◌≡◌, Some, Ok, sym, ap, ◌∙◌}
use Rattle.handles.specs.declared.grant.Grant.{Grant}
use Rattle.handles.specs.Holding.{grant_for}
use Rattle.rules.specs.Calls.{collect, stage_at}
use Rattle.board.specs.Face.{rack_in}
use Rattle.episode.proofs.Visiting.{leads_on, slip_next, grant_same, plain_grant, back_served, closing_after}
use Rattle.episode.proofs.visit.visit.Goals as goal

-- a window that was collected can be handed back
pub returns-in_err-back-in-Ok-Some-clause-answer : goal.returns-in_err-back-in-Ok-Some-clause-answer
returns-in_err-back-in-Ok-Some-clause-answer g c =
    let y = rack_in c.drive.new.board in
    let n = c.in_ok-slip.slip.number in
    let window = c.in-Ok-Some.span in
    let grant : Ok (Some (c.in-Ok-Some.grant, window)) ≡ grant_for (stage_at y n) n (collect y n).answer = let t = c.in-Ok-Some.ensures.answer in cc in
    let collected = sym (plain_grant (stage_at y n) n (collect y n).answer (Ok (Some (c.in-Ok-Some.grant, window))) grant) in
    let same = ap (λ (g : Grant). g.number) c.ask_rows-grant.ensures.grant ∙ grant_same (stage_at y n) n (collect y n).answer c.in-Ok-Some.grant window grant in
    back_served y (rack_in c.collect.new.board) n c.ask_rows-grant.result.number window _ collected c.collect.ensures.rack same (sym c.back.ensures.answer ∙ c.in_err-back-in-Ok-Some.was)

pub returns-in_err-back-in-Ok-Some-clause-history : goal.returns-in_err-back-in-Ok-Some-clause-history
returns-in_err-back-in-Ok-Some-clause-history g c =
    leads_on _ _ _ _ (leads_on _ _ _ _ (leads_on _ _ _ _ (_, c.book.ensures.history) c.drive.ensures.history) c.collect.ensures.history) c.back.ensures.history

pub returns-in_ok-back-in-Ok-Some-clause-handed_back : goal.returns-in_ok-back-in-Ok-Some-clause-handed_back
returns-in_ok-back-in-Ok-Some-clause-handed_back g c =
    let y = rack_in c.drive.new.board in
    let n = c.in_ok-slip.slip.number in
    let grant : Ok (Some (c.in-Ok-Some.grant, c.in-Ok-Some.span)) ≡ grant_for (stage_at y n) n (collect y n).answer = let t = c.in-Ok-Some.ensures.answer in cc in
    λ span e.
    closing_after (rack_in c.collect.new.board) (rack_in c.back.new.board) c.ask_rows-grant.result.number _ c.back.ensures.rack
    (sym c.back.ensures.answer ∙ c.in_ok-back-in-Ok-Some.was)
    (ap (λ (g : Grant). g.number) c.ask_rows-grant.ensures.grant
    ∙ (grant_same (stage_at y n) n (collect y n).answer c.in-Ok-Some.grant c.in-Ok-Some.span grant ∙ slip_next (rack_in c.args.board.now) c.args.request c.in_ok-slip.slip c.in_ok-slip.ensures.answer))

pub returns-in_ok-back-in-Ok-Some-clause-history : goal.returns-in_ok-back-in-Ok-Some-clause-history
returns-in_ok-back-in-Ok-Some-clause-history g c =
    leads_on _ _ _ _ (leads_on _ _ _ _ (leads_on _ _ _ _ (_, c.book.ensures.history) c.drive.ensures.history) c.collect.ensures.history) c.back.ensures.history

pub returns-in-Ok-None-clause-history : goal.returns-in-Ok-None-clause-history
returns-in-Ok-None-clause-history g c = leads_on _ _ _ _ (leads_on _ _ _ _ (_, c.book.ensures.history) c.drive.ensures.history) c.collect.ensures.history

pub returns-in-Err-Ended-clause-history : goal.returns-in-Err-Ended-clause-history
returns-in-Err-Ended-clause-history g c = leads_on _ _ _ _ (leads_on _ _ _ _ (_, c.book.ensures.history) c.drive.ensures.history) c.collect.ensures.history

pub returns-in-Ok-clause-history : goal.returns-in-Ok-clause-history
returns-in-Ok-clause-history g c =
    leads_on _ _ _ _ (leads_on _ _ _ _ (leads_on _ _ _ _ (_, c.book.ensures.history) c.drive.ensures.history) c.collect.ensures.history) c.withdraw.ensures.history
