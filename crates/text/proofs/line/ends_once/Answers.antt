use Rattle.std.proofs.Common.{◌≡◌, ℕ, ◌+◌, Bool, false, eqb, List, length, Some, None, Option, sym, ◌∙◌, rules}
use Rattle.std.specs.Prelude.{position, MatchOption}
use Rattle.text.specs.Lines.{ends_once}
use Rattle.text.proofs.Framing.{no_feed, feed_at}
use Rattle.text.proofs.line.ends_once.Goals as goal

-- the line feed is the last byte just if the bytes end after it
by_place : (bytes : List ℕ) (r : Option ℕ) (b : Bool) → r ≡ position (λ b. eqb b 10) bytes → MatchOption r (b ≡ false) (λ i. b ≡ eqb (i + 1) (length bytes)) → b ≡ ends_once bytes
by_place bytes None b e m = m ∙ sym (no_feed bytes (sym e)).2
by_place bytes (Some i) b e m = m ∙ sym (feed_at bytes i (sym e)).2

pub returns : goal.returns
returns c = by_place c.args.bytes.now c.find_feed.result c.is_some_and.result c.find_feed.ensures.place (search rules)
