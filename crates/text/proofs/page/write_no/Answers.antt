use Rattle.std.proofs.Common.{◌≡◌, length, ap, ◌∙◌, arith}
use Rattle.text.specs.Fields.{line_of}
use Rattle.text.proofs.Paging.{blank, of_three}
use Rattle.text.proofs.page.write_no.Goals as goal

pub write_line-requires : goal.write_line-requires
unfolding blank
write_line-requires c =
    let three : length c.fault_fields.result ≡ 3 = omega (arith, ap length c.fault_fields.ensures.fields) in
    let line = ap length (of_three c.fault_fields.result blank three ∙ ap line_of c.fault_fields.ensures.fields) in
    omega (arith, c.fault_fields.ensures.short)
