use Rattle.std.proofs.Common.{sym, ◌∙◌, rules}
use Rattle.board.proofs.Rows.{vacant_shifted, some_vacant}
use Rattle.board.proofs.mask.vacant_in.Goals as goal

pub returns-then-contains : goal.returns-then-contains
returns-then-contains c =
    let v = vacant_shifted c.args.mask c.args.row (search rules) (search rules) in
    record { is = v; some = λ e. some_vacant c.args.mask c.args.row (sym v ∙ e) }
