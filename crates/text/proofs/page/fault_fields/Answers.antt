use Rattle.std.proofs.Common.{arith}
use Rattle.text.proofs.Paging.{fault_short}
use Rattle.text.proofs.page.fault_fields.Goals as goal

pub returns-clause-short : goal.returns-clause-short
returns-clause-short c = fault_short c.args.fault (omega arith)
