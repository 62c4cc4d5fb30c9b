use Rattle.std.proofs.Common.{◌≡◌, Some, None, sym, refl, ap, ◌∙◌, rules, vec_items}
use Rattle.std.specs.List.{position}
use Rattle.rules.specs.Rack.{named}
use Rattle.board.proofs.Places.{named_some, named_none}
use Rattle.board.proofs.tables.Tables.named.Goals as goal

pub returns : goal.returns
returns c =
    let e : Some c.in-Some.i ≡ position (named c.args.number) (vec_items c.args.self.now.tickets) = search rules in
    let p = named_some c.args.number (vec_items c.args.self.now.tickets) c.in-Some.i e in
    (p.0, c.ticket.ensures, p.1 ∙ ap Some (sym c.ticket.ensures))

pub returns-in_default : goal.returns-in_default
returns-in_default c =
    let e : None ≡ position (named c.args.number) (vec_items c.args.self.now.tickets) = search rules in
    (refl, named_none c.args.number (vec_items c.args.self.now.tickets) e)
