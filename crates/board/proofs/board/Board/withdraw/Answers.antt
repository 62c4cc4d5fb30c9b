use Rattle.std.proofs.Common.{Ok, Err, rules}
use Rattle.rules.specs.declared.refusal.Refusal.TheVariants as refusal
use Rattle.rules.specs.History.{Event}
use Rattle.rules.proofs.Settled.{reached_sound}
use Rattle.rules.proofs.Carried.{drop_carries}
use Rattle.board.specs.Face.{rack_in}
use Rattle.board.proofs.Promising.{carries_told, reached_after}
use Rattle.board.proofs.board.Board.withdraw.Goals as goal

pub returns-in_err-i-clause-history : goal.returns-in_err-i-clause-history
returns-in_err-i-clause-history c = carries_told (λ _. Event.dropped c.args.number) (rack_in c.args.self.now) _ _ _ _ (drop_carries (rack_in c.args.self.now) c.args.number) (search rules) (search rules)

pub replace-requires-clause-rising : goal.replace-requires-clause-rising
replace-requires-clause-rising c = (reached_sound (rack_in c.args.self.now) c.args.self.now.reached).rising

pub invariant_of-self : goal.invariant_of-self
invariant_of-self c = record { reached = reached_after _ (rack_in c.args.self.now) _ _ (drop_carries (rack_in c.args.self.now) c.args.number) (search rules) c.args.self.now.reached }

pub returns-in-Forward-clause-history : goal.returns-in-Forward-clause-history
returns-in-Forward-clause-history c = carries_told (λ _. Event.dropped c.args.number) (rack_in c.args.self.now) _ _ (Ok tt) _ (drop_carries (rack_in c.args.self.now) c.args.number) (search rules) (search rules)

pub returns-in-Without-clause-history : goal.returns-in-Without-clause-history
returns-in-Without-clause-history c = carries_told (λ _. Event.dropped c.args.number) (rack_in c.args.self.now) _ _ (Err refusal.Stage) _ (drop_carries (rack_in c.args.self.now) c.args.number) (search rules) (search rules)
