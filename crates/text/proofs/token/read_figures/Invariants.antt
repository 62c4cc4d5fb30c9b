use Rattle.std.proofs.Common.{◌≡◌, ◌+◌, ◌^◌, ◌<◌, length, take, drop}
use Rattle.text.specs.Fields.{fields_of, fields_left}
use Rattle.text.specs.Tokens.{figures_from, figures_of}
use Rattle.text.proofs.Filling.{onward}
use Rattle.text.proofs.token.read_figures.Given as goal

-- what was read, and what is read on from here, is what is read of the line
abbrev pub invariant-loop-i : goal.invariant-loop-i
invariant-loop-i l =
    let it = l.i-iterator in
    let n = it.iter.count in
    record {
      can : (goal.iterator-loop-i).can_next it × (goal.iterator-loop-i).is_finite it;
      few : n + length (fields_left it.iter.iter.rest) < 2 ^ 64;
      places : n + it.n ≡ 5;
      length : length l.figures ≡ 5;
      read : onward (take n l.figures) (figures_from (n + 2) (drop n l.figures) (fields_left it.iter.iter.rest)) ≡ figures_of (fields_of l.line);
    }
