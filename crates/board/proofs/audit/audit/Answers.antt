use Rattle.std.proofs.Common.{◌+◌, ◌∙◌, arith}
use Rattle.lists.specs.Reading.{contents_of}
use Rattle.board.specs.Face.{rack_in}
use Rattle.board.proofs.Auditing.{leaves_more, few, enough, audit_ends}
use Rattle.board.proofs.audit.audit.Goals as goal

pub overflow_add-withdrawn : goal.overflow_add-withdrawn
overflow_add-withdrawn g c =
    let h = c.play-withdrawn.ensures in
    let k = leaves_more g.C.Chooser.meaning _ _ g.met.C.Chooser.lawful (rack_in c.loop-turn.board) (rack_in c.play-withdrawn.new.board) (contents_of c.loop-turn.journal)
    (contents_of c.play-withdrawn.new.journal) c.loop-turn.withdrawn c.play-withdrawn.result c.loop-turn.turns c.loop-turn.turn-index c.turn-item.result
    c.play-withdrawn.new.turn (omega arith) h.withdrew h.rack h.turn h.journal c.loop-turn.invariant.0 in
    let l = few k.0 (rack_in c.play-withdrawn.new.board) (c.loop-turn.withdrawn + c.play-withdrawn.result) k.1 k.2 in
    omega arith

pub loop-turn-preserved : goal.loop-turn-preserved
loop-turn-preserved g c =
    let h = c.play-withdrawn.ensures in (
      leaves_more g.C.Chooser.meaning _ _ g.met.C.Chooser.lawful (rack_in c.loop-turn.board) (rack_in c.play-withdrawn.new.board) (contents_of c.loop-turn.journal)
          (contents_of c.play-withdrawn.new.journal) c.loop-turn.withdrawn c.play-withdrawn.result c.loop-turn.turns c.loop-turn.turn-index c.turn-item.result
          c.play-withdrawn.new.turn (omega arith) h.withdrew h.rack h.turn h.journal c.loop-turn.invariant.0,
      h.place ∙ c.loop-turn.invariant.1,
    )

pub accounts_on-requires : goal.accounts_on-requires
accounts_on-requires g c = let k = c.loop-turn.invariant.0 in enough k.0 (rack_in c.loop-turn.board) c.loop-turn.withdrawn k.1 k.2

pub returns-clause-answer : goal.returns-clause-answer
returns-clause-answer g c =
    let h = c.in_ok-open.ensures in
    let e = audit_ends g.C.Chooser.meaning (rack_in c.args.board.now) c.args.sizes c.args.first (contents_of c.args.journal.now) c.args.turns.now
    (rack_in c.loop-turn.board) (contents_of c.loop-turn.journal) c.loop-turn.withdrawn c.loop-turn.turns c.loop-turn.turn-index c.accounts_on.result
    h.answer c.accounts_on.ensures (omega arith) c.loop-turn.invariant.0 in
    e.0

pub returns-clause-history : goal.returns-clause-history
returns-clause-history g c =
    let h = c.in_ok-open.ensures in
    let e = audit_ends g.C.Chooser.meaning (rack_in c.args.board.now) c.args.sizes c.args.first (contents_of c.args.journal.now) c.args.turns.now
    (rack_in c.loop-turn.board) (contents_of c.loop-turn.journal) c.loop-turn.withdrawn c.loop-turn.turns c.loop-turn.turn-index c.accounts_on.result
    h.answer c.accounts_on.ensures (omega arith) c.loop-turn.invariant.0 in
    e.4
