use Rattle.std.proofs.Common.{Ok, rules}
use Rattle.rules.specs.History.{Event}
use Rattle.rules.proofs.Carried.{book_carries}
use Rattle.board.specs.Face.{rack_in}
use Rattle.board.proofs.Promising.{carries_told, reached_after}
use Rattle.board.proofs.board.Board.book.Goals as goal

pub returns-in_err-admit-clause-history : goal.returns-in_err-admit-clause-history
returns-in_err-admit-clause-history c = carries_told (λ n. Event.taken n c.args.request) (rack_in c.args.self.now) _ _ _ _ (book_carries (rack_in c.args.self.now) c.args.request) (search rules) (search rules)

pub invariant_of-self-3 : goal.invariant_of-self-3
invariant_of-self-3 c = record { reached = reached_after _ (rack_in c.args.self.now) _ _ (book_carries (rack_in c.args.self.now) c.args.request) (search rules) c.args.self.now.reached }

pub returns-clause-history : goal.returns-clause-history
returns-clause-history c = carries_told (λ n. Event.taken n c.args.request) (rack_in c.args.self.now) _ _ (Ok c.args.self.now.tables.next) _ (book_carries (rack_in c.args.self.now) c.args.request) (search rules) (search rules)
