use Rattle.std.proofs.Common.{Some, None, Ok, Err, rules}
use Rattle.rules.specs.declared.refusal.Refusal.TheVariants as refusal
use Rattle.rules.specs.History.{Event}
use Rattle.rules.proofs.Settled.{reached_sound}
use Rattle.rules.proofs.Carried.{collect_carries}
use Rattle.board.specs.Face.{rack_in}
use Rattle.board.proofs.Promising.{carries_told, reached_after}
use Rattle.board.proofs.board.Board.collect.Goals as goal

pub returns-in_err-i-clause-history : goal.returns-in_err-i-clause-history
returns-in_err-i-clause-history c = carries_told (λ _. Event.collected c.args.number) (rack_in c.args.self.now) _ _ _ _ (collect_carries (rack_in c.args.self.now) c.args.number) (search rules) (search rules)

pub replace-requires-clause-rising : goal.replace-requires-clause-rising
replace-requires-clause-rising c = (reached_sound (rack_in c.args.self.now) c.args.self.now.reached).rising

pub invariant_of-self : goal.invariant_of-self
invariant_of-self c = record { reached = reached_after _ (rack_in c.args.self.now) _ _ (collect_carries (rack_in c.args.self.now) c.args.number) (search rules) c.args.self.now.reached }

pub replace-requires-in-Without-clause-rising : goal.replace-requires-in-Without-clause-rising
replace-requires-in-Without-clause-rising c = (reached_sound (rack_in c.args.self.now) c.args.self.now.reached).rising

pub invariant_of-self-in-Without : goal.invariant_of-self-in-Without
invariant_of-self-in-Without c = record { reached = reached_after _ (rack_in c.args.self.now) _ _ (collect_carries (rack_in c.args.self.now) c.args.number) (search rules) c.args.self.now.reached }

pub returns-in-Granted-clause-history : goal.returns-in-Granted-clause-history
returns-in-Granted-clause-history c = carries_told (λ _. Event.collected c.args.number) (rack_in c.args.self.now) _ _ (Ok (Some (record { first = c.in_ok-i.t.first; length = c.in_ok-i.t.request.length }))) _ (collect_carries (rack_in c.args.self.now) c.args.number) (search rules) (search rules)

pub returns-in-Without-clause-history : goal.returns-in-Without-clause-history
returns-in-Without-clause-history c = carries_told (λ _. Event.collected c.args.number) (rack_in c.args.self.now) _ _ (Ok None) _ (collect_carries (rack_in c.args.self.now) c.args.number) (search rules) (search rules)

pub returns-in-Forward-clause-history : goal.returns-in-Forward-clause-history
returns-in-Forward-clause-history c = carries_told (λ _. Event.collected c.args.number) (rack_in c.args.self.now) _ _ (Err refusal.Stage) _ (collect_carries (rack_in c.args.self.now) c.args.number) (search rules) (search rules)
