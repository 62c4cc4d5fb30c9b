use Rattle.std.proofs.Common.{◌≡◌, ◌&&◌, rules, ◌∙◌}
use Rattle.std.specs.List.{count_by}
use Rattle.rules.specs.Rack.{hard}
use Rattle.rules.specs.Sound.{marks_in}
use Rattle.board.proofs.Counting.{counted_by}
use Rattle.board.proofs.look.booked_in.Goals as goal

pub returns : goal.returns
returns c =
    let n : c.count.result ≡ count_by (λ t. hard t.phase && marks_in c.args.column t) c.args.tickets.now = search rules in
    n ∙ counted_by (λ t. hard t.phase && marks_in c.args.column t) c.args.tickets.now
