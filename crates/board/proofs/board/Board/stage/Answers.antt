use Rattle.std.proofs.Common.{◌≡◌, Some, None, refl, rules}
use Rattle.std.specs.List.{position}
use Rattle.rules.specs.Rack.{named}
use Rattle.board.specs.Face.{rack_in}
use Rattle.board.proofs.Places.{named_some, named_none}
use Rattle.board.proofs.board.Board.stage.Goals as goal

pub returns : goal.returns
returns c =
    let e : Some c.in-Some.i ≡ position (named c.args.number) (rack_in c.args.self.now).tickets = search rules in
    let n = named_some c.args.number (rack_in c.args.self.now).tickets c.in-Some.i e in
    rw n.1 (search rules)

pub returns-in_default : goal.returns-in_default
returns-in_default c =
    let e : None ≡ position (named c.args.number) (rack_in c.args.self.now).tickets = search rules in
    rw (named_none c.args.number (rack_in c.args.self.now).tickets e) refl
