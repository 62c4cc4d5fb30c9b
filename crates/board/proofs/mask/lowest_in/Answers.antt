use Rattle.std.proofs.Common.{arith}
use Rattle.board.proofs.Rows.{lowest_row_lem}
use Rattle.board.proofs.mask.lowest_in.Goals as goal

pub returns : goal.returns
returns c = lowest_row_lem c.args.mask _ (λ e. omega arith) (omega arith) (omega arith)
