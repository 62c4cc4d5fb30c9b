use Rattle.std.proofs.Common.{◌<◌, length, refl, rules, arith}
use Rattle.board.specs.Reading.{rack_of}
use Rattle.board.proofs.Replacing.{replaced_by, replaced_none}
use Rattle.board.proofs.tables.Tables.replace.Goals as goal

pub returns-in-Some : goal.returns-in-Some
returns-in-Some c =
    let r = rack_of c.args.self.now in
    let h : c.args.i < length r.tickets = let v = c.args.self.now.tickets.ok.0 in let w = c.requires.within in omega arith in
    replaced_by r _ c.args.i c.args.t c.args.by h c.requires.is c.requires.rising c.in-Some.u c.in-Some.is refl

pub returns-in-None : goal.returns-in-None
returns-in-None c =
    let r = rack_of c.args.self.now in
    let h : c.args.i < length r.tickets = let v = c.args.self.now.tickets.ok.0 in let w = c.requires.within in omega arith in
    replaced_none r _ c.args.i c.args.t c.args.by h c.requires.is c.requires.rising c.in-None.is (search rules)
