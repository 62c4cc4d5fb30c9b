use Rattle.std.proofs.Common.{sym, ◌∙◌, arith}
use Rattle.sheets.specs.Sheets.{sheet_read}
use Rattle.sheets.proofs.Passing.{lays_list}
use Rattle.sheets.proofs.Unique.{one_sheet_for_grants}
use Rattle.sheets.proofs.read.read_sheet.Goals as goal

pub returns-in_err-count-clause-one_sheet : goal.returns-in_err-count-clause-one_sheet
returns-in_err-count-clause-one_sheet c = one_sheet_for_grants

pub returns-then-list-count-clause-one_sheet : goal.returns-then-list-count-clause-one_sheet
returns-then-list-count-clause-one_sheet c = one_sheet_for_grants

pub returns-clause-list : goal.returns-clause-list
returns-clause-list c = lays_list (sheet_read c.args.sheet.now) c.args.list.now _ c.in_ok-count.count (sym c.scan.ensures.answer ∙ c.in_ok-count.was) (omega arith) c.scan-2.ensures.list

pub returns-clause-one_sheet : goal.returns-clause-one_sheet
returns-clause-one_sheet c = one_sheet_for_grants
