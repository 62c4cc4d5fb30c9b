use Rattle.std.proofs.Common.{◌≡◌, not, rules, ◌∙◌}
use Rattle.std.specs.List.{count_by}
use Rattle.rules.specs.Rack.{is_vacant}
use Rattle.board.proofs.Counting.{counted_by}
use Rattle.board.proofs.column.Column.marks.Goals as goal

pub returns : goal.returns
returns c =
    let n : c.count.result ≡ count_by (λ s. not (is_vacant s)) c.args.self.now.slots.now = search rules in
    n ∙ counted_by (λ s. not (is_vacant s)) c.args.self.now.slots.now
