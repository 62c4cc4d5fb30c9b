use Rattle.std.proofs.Common.{◌≡◌, ◌+◌, ◌^◌, ◌<◌, List, length}
use Rattle.text.specs.Frames.{lines_of}
use Rattle.sheets.specs.declared.grant.GrantLine.{GrantLine}
use Rattle.sheets.specs.Sheets.{laid}
use Rattle.sheets.proofs.Passing.{Underway}
use Rattle.sheets.proofs.read.scan.Given as goal

-- the grants that were read stand in the list, as far as it has places for them
abbrev pub invariant-loop-i : goal.invariant-loop-i
invariant-loop-i l =
    let it = l.i-iterator in
    record {
      can : (goal.iterator-loop-i).can_next it × (goal.iterator-loop-i).is_finite it;
      few : it.count + length (lines_of it.iter.rest.now) < 2 ^ 64;
      counts : l.count ≡ it.count;
      read : (gs : List GrantLine) × Underway l.sheet gs l.count l.last it.iter.rest.now × (l.list ≡ laid gs l.initial.list);
    }
