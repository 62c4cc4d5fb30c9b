use Rattle.std.proofs.Common.{◌≡◌, ◌+◌, ◌<◌, not, length, get_or, sym, subst, ◌∙◌, rules}
use Rattle.std.proofs.lemmas.List.MinMax.{IsStrictWeakOrder-from_at_least, IsFirstBest-keeps, IsFirstBest-takes}
use Rattle.std.specs.List.{IsFirstBest}
use Rattle.lists.proofs.Order.{after_first, foremost_is, leads_from_best}
use Rattle.lists.proofs.foremost.foremost.Goals as goal
use Rattle.lists.proofs.foremost.foremost.Goals.{then-not-stands_before, else-not-stands_before}

pub loop-i-preserved : goal.loop-i-preserved
loop-i-preserved g c =
    let o = IsStrictWeakOrder-from_at_least g.T.Ranked.before g.met.T.Ranked.total g.met.T.Ranked.transitive in
    let within : c.loop-i.i + 1 < length c.args.list.now = search rules in
    let item : c.entry-item.result ≡ get_or c.args.list.now (c.loop-i.i + 1) c.entry-item.result = c.entry-item.is ∙ after_first c.args.list.now c.loop-i.i c.entry-item.result within in
    elim c.if-not-stands_before.branch [
      | then-not-stands_before w ↦
          rw w.best-is (IsFirstBest-takes o _ _ _ _ _ c.loop-i.invariant within item c.index-list-best.is (search rules))
      | else-not-stands_before w ↦
          rw w.best-is (IsFirstBest-keeps o _ _ _ _ _ c.loop-i.invariant within item c.index-list-best.is (search rules))
    ]

pub returns-clause-is : goal.returns-clause-is
returns-clause-is g c =
    let end : c.loop-i.i + 1 ≡ length c.args.list.now = search rules in
    let b = g.T.Ranked.before in
    sym (foremost_is b _ _ (leads_from_best b _ _ (subst (λ n. IsFirstBest (λ x y. not (b y x)) c.args.list.now n c.loop-i.best) end c.loop-i.invariant)))
