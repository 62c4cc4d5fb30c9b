use Rattle.std.proofs.Common.{Some, Ok, Err, rules, arith}
use Rattle.rules.specs.declared.refusal.Refusal.TheVariants as refusal
use Rattle.rules.specs.History.{Event}
use Rattle.rules.proofs.Settled.{reached_sound}
use Rattle.rules.proofs.Carried.{back_carries}
use Rattle.board.specs.Face.{rack_in}
use Rattle.rules.specs.declared.ticket.Phase.TheVariants.{Closing}
use Rattle.rules.specs.Step.{with_phase}
use Rattle.board.specs.Reading.{rack_of}
use Rattle.board.proofs.Replacing.{replaced_handbacks}
use Rattle.board.proofs.Promising.{carries_told, reached_after}
use Rattle.board.proofs.board.Board.back.Goals as goal

pub returns-in_err-i-clause-history : goal.returns-in_err-i-clause-history
returns-in_err-i-clause-history c = carries_told (λ _. Event.returned c.args.number) (rack_in c.args.self.now) _ _ _ _ (back_carries (rack_in c.args.self.now) c.args.number) (search rules) (search rules)

pub replace-requires-clause-rising : goal.replace-requires-clause-rising
replace-requires-clause-rising c = (reached_sound (rack_in c.args.self.now) c.args.self.now.reached).rising

pub overflow_add-self : goal.overflow_add-self
overflow_add-self c =
    let t = c.in_ok-i.t in
    let s = reached_sound (rack_in c.args.self.now) c.args.self.now.reached in
    let e = replaced_handbacks (rack_in c.args.self.now) (rack_of c.replace.new.self) t (Some (with_phase Closing t)) c.replace.ensures in
    let k = s.counted in let n = s.numbers in
    omega arith

pub invariant_of-self-in-Out : goal.invariant_of-self-in-Out
invariant_of-self-in-Out c = record { reached = reached_after _ (rack_in c.args.self.now) _ _ (back_carries (rack_in c.args.self.now) c.args.number) (search rules) c.args.self.now.reached }

pub returns-in-Out-clause-history : goal.returns-in-Out-clause-history
returns-in-Out-clause-history c = carries_told (λ _. Event.returned c.args.number) (rack_in c.args.self.now) _ _ (Ok tt) _ (back_carries (rack_in c.args.self.now) c.args.number) (search rules) (search rules)

pub returns-in-Forward-clause-history : goal.returns-in-Forward-clause-history
returns-in-Forward-clause-history c = carries_told (λ _. Event.returned c.args.number) (rack_in c.args.self.now) _ _ (Err refusal.Stage) _ (back_carries (rack_in c.args.self.now) c.args.number) (search rules) (search rules)
