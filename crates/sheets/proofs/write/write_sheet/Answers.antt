use Rattle.std.proofs.Common.{length, Err, ap, ◌∙◌, arith}
use Rattle.board.specs.Face.{rack_in}
use Rattle.sheets.specs.Grants.{out_among, grants_out, sheet_text}
use Rattle.sheets.proofs.Texts.{sheet_sum, unwritten}
use Rattle.sheets.proofs.Trips.{rack_back, rack_short}
use Rattle.sheets.proofs.write.write_sheet.Goals as goal

pub sheet_len-requires : goal.sheet_len-requires
sheet_len-requires c =
    let long = sheet_sum c.tickets-tickets.result.now ∙ ap (λ ts. length (sheet_text (out_among ts))) c.tickets-tickets.ensures.tickets in
    omega (arith, rack_short (rack_in c.args.board.now) c.tickets-tickets.ensures.reached)

pub put_sheet-requires : goal.put_sheet-requires
put_sheet-requires c = omega (arith, sheet_sum c.tickets-tickets.result.now)

pub returns-then-page-sheet_len : goal.returns-then-page-sheet_len
returns-then-page-sheet_len c =
    let text = sheet_text (grants_out (rack_in c.args.board.now)) in
    let long = sheet_sum c.tickets-tickets.result.now ∙ ap (λ ts. length (sheet_text (out_among ts))) c.tickets-tickets.ensures.tickets in
    let w = unwritten c.args.page.now text (omega (arith, c.sheet_len.ensures, c.if-page-sheet_len.true)) in
    record { answer = ap Err c.into.ensures ∙ w.0; page = w.1; reads_back = rack_back (rack_in c.args.board.now) c.tickets-tickets.ensures.reached }

pub returns-clause-reads_back : goal.returns-clause-reads_back
returns-clause-reads_back c = rack_back (rack_in c.args.board.now) c.tickets-tickets.ensures.reached
