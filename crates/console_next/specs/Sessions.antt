-- What the handling of one line makes of page, board, chooser, journals and counters.
use Rattle.std.specs.Prelude.{◌≡◌, ℕ, cond, List, [], length, Some, None, Ok, Err, Option, Result, nat_lt}
use Rattle.lists.specs.Contents.{Contents, cleared, pushed}
use Rattle.lists.specs.Reading.{contents_of}
use Rattle.lists.specs.declared.journal.Journal.{Journal}
use Rattle.rules.specs.declared.refusal.Refusal.TheVariants as refusal
use Rattle.rules.specs.declared.report.Report.{Report}
use Rattle.rules.specs.Rack.{Rack}
use Rattle.rules.specs.Choosers.{Meaning}
use Rattle.board.specs.Face.{rack_in}
use Rattle.text.specs.Counts.{counted}
use Rattle.text.specs.declared.fault.Fault.{Fault}
use Rattle.text.specs.declared.fault.LineFault.{LineFault}
use Rattle.text.specs.Faults.{fault_of}
use Rattle.text.specs.Frames.{kept}
use Rattle.text.specs.Pages.{shortest, no_line, over}
use Rattle.console_next.specs.declared.session.Session.{Session}
use Rattle.console_next.specs.Calls.{Telling}
use Rattle.console_next.specs.Answers.{Answered, refused_with, answered}

-- What a session works with: the rack of its board, what its chooser holds, the reports of the last line, the faults noted, how many
-- lines were read, and how many of them were refused.
pub record Desk (S : Type 0) : Type 0 where
  pub rack : Rack
  pub held : S
  pub reports : Contents Report
  pub faults : Contents LineFault
  pub lines : ℕ
  pub refusals : ℕ

abbrev pub desk_of : {S : Type 0} → Session S → Journal Report → Journal LineFault → Desk S
desk_of s reports faults =
    record { rack = rack_in s.board; held = s.chooser; reports = contents_of reports; faults = contents_of faults; lines = s.lines; refusals = s.refusals }

-- the desk after a line was answered, before it is counted
abbrev pub desk_after : {S : Type 0} → Desk S → Answered S → Desk S
desk_after d a = record { rack = a.rack; held = a.held; reports = a.journal; faults = d.faults; lines = d.lines; refusals = d.refusals }

-- the desk with a refused line counted, and its fault noted while there is room
abbrev pub desk_refusing : {S : Type 0} → Desk S → Fault → Desk S
desk_refusing d f =
    record {
      rack = d.rack;
      held = d.held;
      reports = d.reports;
      faults = (pushed d.faults (record { line = d.lines; fault = f })).contents;
      lines = d.lines;
      refusals = counted d.refusals;
    }

-- the desk with one more line, and no reports
abbrev pub desk_reading : {S : Type 0} → Desk S → Desk S
desk_reading d = record { rack = d.rack; held = d.held; reports = cleared d.reports; faults = d.faults; lines = counted d.lines; refusals = d.refusals }

-- all that the handling of a line could touch, and what it tells of histories
pub record Handled (S : Type 0) : Type 0 where
  pub answer : Result ℕ Fault
  pub page : List ℕ
  pub desk : Desk S
  pub tells : Telling

-- An accepted line leaves its answer. A refused one is counted as refused, its fault noted under its number, and its `no` line answered.
abbrev pub settled : {S : Type 0} → Desk S → Answered S → Result ℕ Fault → Handled S
settled d a (Ok n) = record { answer = Ok n; page = a.page; desk = desk_after d a; tells = a.tells }
settled d a (Err f) = record { answer = Ok (length (no_line f)); page = over (no_line f) a.page; desk = desk_refusing (desk_after d a) f; tells = a.tells }

module _ {S : Type 0} (m : Meaning S) where
  -- the answer to a line, of which nothing is kept if it is too long
  abbrev pub line_answered : Option (List ℕ) → List ℕ → Rack → Contents Report → S → Answered S
  line_answered None page x c s = refused_with (fault_of refusal.Line 0 0) page x c s
  line_answered (Some line) page x c s = answered m line page x c s

  -- the reports of the line before are taken out first; all stays as it was if the page is too short
  abbrev pub handled : Option (List ℕ) → List ℕ → Desk S → Handled S
  handled line page d =
      let a = line_answered line page d.rack (cleared d.reports) d.held in
      cond (nat_lt (length page) shortest) (record { answer = Err (fault_of refusal.Page 0 0); page = page; desk = d; tells = Telling.adds [] }) (settled (desk_reading d) a a.answer)

  -- what is not kept of a line makes no difference to its answer
  abbrev pub ALongLineIsNoLine : Type 0
  ALongLineIsNoLine = (line page : List ℕ) (d : Desk S) → handled (kept line) page d ≡ handled (Some line) page d
