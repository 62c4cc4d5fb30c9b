use Rattle.std.proofs.Common.{inl, ap, arith}
use Rattle.std.specs.Prelude.{length}
use Rattle.text.proofs.Cutting.{fields_few, fields_are_the_line_cut_at_tabs}
use Rattle.text.proofs.field.count_fields.Goals as goal

pub count-requires-clause-fits : goal.count-requires-clause-fits
count-requires-clause-fits c = inl (omega (arith, fields_few c.args.line.now, ap length c.left.ensures))

pub returns-clause-fields : goal.returns-clause-fields
returns-clause-fields c = fields_are_the_line_cut_at_tabs
