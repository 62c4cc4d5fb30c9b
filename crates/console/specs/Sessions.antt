-- What the handling of one line makes of page, counters and faults.
use Rattle.std.specs.Prelude.{ℕ, cond, List, length, Option, Result, nat_lt}
use Rattle.std.specs.Borrow.{Bor}
use Rattle.std.specs.Option.{option_map}
use Rattle.lists.specs.declared.journal.Journal.{Journal}
use Rattle.lists.specs.Reading.{contents_of}
use Rattle.lists.specs.Contents.{Contents, pushed}
use Rattle.text.specs.Counts.{counted}
use Rattle.text.specs.declared.fault.Fault.{Fault}
use Rattle.console.specs.declared.session.Session.{Session}
use Rattle.text.specs.declared.fault.LineFault.{LineFault}
use Rattle.console.specs.Lines.{line_fault}
use Rattle.text.specs.Pages.{shortest, no_line, answered, page_with}

abbrev pub new_session : Session
new_session = record { lines = 0; refusals = 0 }

-- one more line, refused
abbrev pub refused_in : Session → Session
refused_in s = record { lines = counted s.lines; refusals = counted s.refusals }

-- all that the handling of a line could touch
pub record Handled : Type 0 where
  pub answer : Result ℕ Fault
  pub page : List ℕ
  pub session : Session
  pub faults : Contents LineFault

-- The line's fault is answered on the page and noted under the line's number, while there is room. All stays as it was if the page is too short.
abbrev pub handled : Option (List ℕ) → List ℕ → Session → Contents LineFault → Handled
handled line page session faults =
    record {
      answer = answered (no_line (line_fault line)) page;
      page = page_with (no_line (line_fault line)) page;
      session = cond (nat_lt (length page) shortest) session (refused_in session);
      faults = cond (nat_lt (length page) shortest) faults (pushed faults (record { line = counted session.lines; fault = line_fault line })).contents;
    }

-- the same, of the arguments of the call: the line is still behind its reference
abbrev pub handled_at : Option (Bor (List ℕ)) → List ℕ → Session → Journal LineFault → Handled
handled_at line page session faults = handled (option_map (λ x. x.now) line) page session (contents_of faults)
