use Rattle.text.proofs.Framing.{frames, whole_lines}
use Rattle.text.proofs.frame.Framer.new.Goals as goal

pub returns-clause-lines : goal.returns-clause-lines
returns-clause-lines c = rw c.new.ensures frames

pub returns-clause-whole : goal.returns-clause-whole
returns-clause-whole c = whole_lines
