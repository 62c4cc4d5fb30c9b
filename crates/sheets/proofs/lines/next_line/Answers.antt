use Rattle.std.proofs.Common.{◌∷◌, sym, ◌∙◌}
use Rattle.text.specs.Frames.{lines_of}
use Rattle.sheets.proofs.Cuts.{no_feed, feed_at}
use Rattle.sheets.proofs.lines.next_line.Goals as goal

pub returns-in-Some : goal.returns-in-Some
returns-in-Some c = feed_at c.args.rest.now c.in-Some.i (sym c.find_feed.ensures.place ∙ c.in-Some.is) ∙ sym ((λ i. c.split_at.ensures.front i ∷ lines_of (c.split_at.ensures.back i)))

pub returns-in-None : goal.returns-in-None
returns-in-None c = no_feed c.args.rest.now c.requires (sym c.find_feed.ensures.place ∙ c.in-None.is)
