use Rattle.std.proofs.Common.{◌≡◌, ℕ, ◌≤◌, true, List, length, sym, ◌∙◌, arith}
use Rattle.std.proofs.lemmas.Bool.{and_parts, leb-true}
use Rattle.text.specs.Fields.{fields_of}
use Rattle.text.specs.Lines.{is_line}
use Rattle.text.proofs.Cutting.{fields_few}
use Rattle.text.proofs.head.read_line.Goals as goal

-- a line has few fields
few : (line : List ℕ) → is_line line ≡ true → length (fields_of line) ≤ 81
few line h = let short : length line ≤ 80 = leb-true (length line) 80 (and_parts _ _ h).0 in omega (arith, fields_few line)

pub overflow_cast-found : goal.overflow_cast-found
overflow_cast-found g c = omega (arith, few c.args.line.now (sym c.is_line.ensures ∙ c.if-not-is_line.false), c.count_fields-found.ensures.count)
