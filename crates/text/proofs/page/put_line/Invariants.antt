use Rattle.std.proofs.Common.{◌≡◌, ℕ, List, ◌++◌, map, length, drop}
use Rattle.text.specs.Fields.{line_of}
use Rattle.text.specs.Pages.{Puts, field_text}
use Rattle.text.proofs.Paging.{line_from}
use Rattle.text.proofs.page.put_line.Given as goal

-- what was written so far, and what is left to write, make the line
abbrev pub invariant-loop-i : goal.invariant-loop-i
invariant-loop-i l = record {
  text : List ℕ;
  puts : Puts l.fn.page l.fn.at text l.writer.page.now l.writer.at;
  left : text ++ line_from l.i (map field_text (drop l.i l.fields)) ≡ line_of (map field_text l.fields);
  long : length l.writer.page.now ≡ length l.fn.page;
  same : l.writer.page.ghost_name ≡ l.initial.writer.page.ghost_name;
}
