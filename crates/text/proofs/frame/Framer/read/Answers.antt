use Rattle.std.proofs.Common.{◌≡◌, ℕ, ◌+◌, List, Some, fold, Option, sym, ap, ◌∙◌, arith}
use Rattle.std.proofs.lemmas.List.{take_rest, length-take, length-drop}
use Rattle.text.specs.Frames.{more, up_to_feed, after_feed, handed, handed_on, holding, holding_on}
use Rattle.text.proofs.Framing.{no_feed, feed_at, handed_cut, holding_cut}
use Rattle.text.proofs.frame.Framer.read.Goals as goal

-- what is handed out and kept follows from where the line ends
handed_on_lem : (h k : Option (List ℕ)) (bs : List ℕ) (r : Option (List ℕ)) → r ≡ after_feed bs → k ≡ fold more h (up_to_feed bs) → handed h bs ≡ handed_on k r
handed_on_lem h k bs r e f = handed_cut h bs ∙ sym (ap (λ o. handed_on o (after_feed bs)) f) ∙ sym (ap (handed_on k) e)

holding_on_lem : (h k : Option (List ℕ)) (bs : List ℕ) (r : Option (List ℕ)) → r ≡ after_feed bs → k ≡ fold more h (up_to_feed bs) → holding h bs ≡ holding_on k r
holding_on_lem h k bs r e f = holding_cut h bs ∙ sym (ap (λ o. holding_on o (after_feed bs)) f) ∙ sym (ap (holding_on k) e)

pub returns-in_default : goal.returns-in_default
returns-in_default c =
    let n = no_feed c.args.block.now (sym c.find_feed.ensures.place ∙ c.in_default.is) in
    let rest = sym n.1 in
    let line = c.extend.ensures.line ∙ ap (fold more c.args.self.now) (sym n.0) in
    record { rest = rest; less = tt; line = line; fits = c.extend.ensures.fits; hands = handed_on_lem _ _ c.args.block.now _ rest line; holds = holding_on_lem _ _ c.args.block.now _ rest line }

pub returns : goal.returns
returns c =
    let f = feed_at c.args.block.now c.in-Some.i (sym c.find_feed.ensures.place ∙ c.in-Some.is) in
    let rest = ap Some (take_rest c.args.block.now (c.in-Some.i + 1)) ∙ sym f.1 in
    let line = c.extend-2.ensures.line ∙ ap (fold more c.args.self.now) (sym f.0) in
    record {
      rest = rest;
      less = simp (length-take, length-drop) (omega (arith, c.in-Some.ensures));
      line = line;
      fits = c.extend-2.ensures.fits;
      hands = handed_on_lem _ _ c.args.block.now _ rest line;
      holds = holding_on_lem _ _ c.args.block.now _ rest line;
    }
