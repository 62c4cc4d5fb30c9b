use Rattle.std.proofs.Common.{◌+◌, not}
use Rattle.std.specs.List.{IsFirstBest}
use Rattle.lists.proofs.foremost.foremost.Given as goal

-- `best` is the first of the best among the entries up to i
abbrev pub invariant-loop-i : goal.invariant-loop-i
invariant-loop-i g l = IsFirstBest (λ x y. not (g.T.Ranked.before y x)) l.list (l.i + 1) l.best
