use Rattle.std.proofs.Common.{◌∙◌}
use Rattle.text.proofs.Paging.{blank, line_again}
use Rattle.text.proofs.page.put_line.Goals as goal

pub loop-i-preserved : goal.loop-i-preserved
unfolding blank
loop-i-preserved c =
    let w = c.loop-i.writer in
    let again =
    line_again c.args.fields.now c.loop-i.i blank c.loop-i-test.true c.loop-i.invariant.puts c.loop-i.invariant.left
    c.put_gap.ensures.text
    c.put_field.ensures.text in
    record {
      text = again.0;
      puts = again.1;
      left = again.2;
      long = c.put_field.ensures.long ∙ c.put_gap.ensures.long ∙ c.loop-i.invariant.long;
      same = c.put_field.ensures.same ∙ c.put_gap.ensures.same ∙ c.loop-i.invariant.same;
    }
