use Rattle.lists.specs.Contents.{room_of}
use Rattle.lists.specs.Reading.{contents_of}
use Rattle.rules.specs.Calls.{drive}
use Rattle.board.specs.Face.{rack_in}
use Rattle.board.proofs.Auditing.{none_reported}
use Rattle.board.proofs.audit.play.Goals as goal

pub returns-in-Drive-clause-withdrew : goal.returns-in-Drive-clause-withdrew
returns-in-Drive-clause-withdrew g c =
    rw c.in-Drive.is (none_reported (drive g.C.Chooser.meaning (rack_in c.args.board.now) c.in-Drive.number c.in-Drive.budget (room_of (contents_of c.args.journal.now)) c.args.turn.now.chooser).ran.reports)
