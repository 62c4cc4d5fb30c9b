use Rattle.std.proofs.Common.{◌≡◌, ℕ, List, ◌++◌, drop}
use Rattle.text.specs.Pages.{Puts}
use Rattle.sheets.specs.Grants.{out_among, sheet_text}
use Rattle.sheets.proofs.write.put_sheet.Given as goal

-- what was written so far, and what is left to write, make the sheet
abbrev pub invariant-loop-ticket : goal.invariant-loop-ticket
invariant-loop-ticket l =
    (text : List ℕ)
    × Puts l.initial.page 0 text l.page l.end
    × (text ++ sheet_text (out_among (drop l.ticket-index l.tickets)) ≡ sheet_text (out_among l.tickets))
