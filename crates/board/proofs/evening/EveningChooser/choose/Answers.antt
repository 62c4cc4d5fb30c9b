use Rattle.std.proofs.Common.{ℕ, Some, sym, ap, ◌∙◌}
use Rattle.std.proofs.lemmas.Bool.{cond-false}
use Rattle.rules.specs.Choosers.{picked}
use Rattle.board.specs.declared.evening.Evening.{Evening}
use Rattle.board.proofs.Rows.{some_vacant}
use Rattle.board.proofs.LeastPicked.{evening_row_lem}
use Rattle.board.proofs.evening.EveningChooser.choose.Goals as goal

pub returns : goal.returns
returns c =
    let tallies = c.args.self.now.tallies in
    let q = c.args.asked in
    let row = c.in_ok-row.row in
    let p = c.in_ok-row.ensures in
    let is = evening_row_lem tallies q row p in
    let some = some_vacant c.args.asked.mask row p.vacant in
    record {
      answer = ap (λ (n : ℕ). Some n) is ∙ sym (cond-false _ _ _ some);
      held = c.add_pick.ensures ∙ (ap {B = Evening} (λ (n : ℕ). record { tallies = picked tallies n }) is ∙ sym (cond-false _ _ _ some));
    }
