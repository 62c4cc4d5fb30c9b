use Rattle.std.proofs.Common.{◌≡◌, rules, ◌∙◌}
use Rattle.std.specs.List.{count_by}
use Rattle.rules.specs.Rack.{seeking, hard}
use Rattle.board.proofs.Counting.{counted_by}
use Rattle.board.proofs.audit.seeking_and_hard.Goals as goal

pub returns-clause-seeking : goal.returns-clause-seeking
returns-clause-seeking c =
    let n : c.count-seeking.result ≡ count_by (λ t. seeking t.phase) c.args.tickets.now = search rules in
    n ∙ counted_by (λ t. seeking t.phase) c.args.tickets.now

pub returns-clause-hard : goal.returns-clause-hard
returns-clause-hard c =
    let n : c.count-hard.result ≡ count_by (λ t. hard t.phase) c.args.tickets.now = search rules in
    n ∙ counted_by (λ t. hard t.phase) c.args.tickets.now
