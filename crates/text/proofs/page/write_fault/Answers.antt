use Rattle.std.proofs.Common.{◌≡◌, length, ap, ◌∙◌, arith}
use Rattle.std.proofs.lemmas.List.{length-append}
use Rattle.text.specs.Fields.{line_of}
use Rattle.text.proofs.Paging.{figure_short, blank, of_three}
use Rattle.text.proofs.page.write_fault.Goals as goal

pub write_line-requires : goal.write_line-requires
unfolding blank
write_line-requires c =
    let three : length c.fault_fields.result ≡ 3 = omega (arith, ap length c.fault_fields.ensures.fields) in
    let line = ap length (of_three c.fault_fields.result blank three ∙ ap line_of c.fault_fields.ensures.fields) in
    let figure = figure_short c.args.line (omega arith) in
    let parts = simp length-append at line in
    simp length-append (omega (arith, simp length-append at c.fault_fields.ensures.short))
