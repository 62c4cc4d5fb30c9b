-- What a routine of several calls answers and leaves, and what it promises over histories.
use Rattle.std.specs.Prelude.{ℕ, zero, suc, cond, List, Some, None, Ok, Err, Option, Result}
use Rattle.lists.specs.Contents.{Contents, room_of, pushed, entered}
use Rattle.handles.specs.Holding.{waits}
use Rattle.rules.specs.declared.report.Report.{Report}
use Rattle.rules.specs.declared.ticket.Stage.{Stage}
use Rattle.rules.specs.declared.refusal.Refusal.{Refusal}
use Rattle.rules.specs.declared.span.Span.{Span}
use Rattle.rules.specs.declared.ticket.Request.{Request}
use Rattle.rules.specs.Rack.{Rack}
use Rattle.rules.specs.Choosers.{Meaning}
use Rattle.rules.specs.Calls.{Ran, book, drive, collect, drop', back, row, stage_at}
use Rattle.rules.specs.History.{Event}
use Rattle.rules.specs.Laws.{Carries}

-- some calls lead from rack x to rack y: what they told carries every history on
abbrev pub Leads : Rack → Rack → Type 0
Leads x y = (es : List Event) × Carries es x y

-- the most steps that a visit makes
abbrev pub most_steps : ℕ
most_steps = 1000

-- all that a visit could touch: what it answers, and what it leaves of rack, chooser and both journals
pub record Visited (S : Type 0) : Type 0 where
  pub answer : Result (Option Span) Refusal
  pub rack : Rack
  pub held : S
  pub reports : Contents Report
  pub rows : Contents ℕ

-- a row that was told is entered
abbrev pub row_noted : Contents ℕ → Result ℕ Refusal → Contents ℕ
row_noted c (Ok row) = (pushed c row).contents
row_noted c (Err e) = c

-- the rows told of so many columns of a window, from its first one on
abbrev pub rows_noted : Rack → ℕ → ℕ → Contents ℕ → Contents ℕ
rows_noted x n zero c = c
rows_noted x n (suc k) c = row_noted (rows_noted x n k c) (row x n k)

-- of a window that was collected, and of nothing else, the rows of all columns are told
abbrev pub rows_after : Rack → ℕ → Result (Option Span) Refusal → Contents ℕ → Contents ℕ
rows_after x n (Ok (Some span)) c = rows_noted x n span.length c
rows_after x n (Ok None) c = c
rows_after x n (Err e) c = c

-- how a visit ends, by what collecting answered: a window is handed back, a booking that still waits is withdrawn
abbrev pub rack_after : Rack → ℕ → Stage → Result (Option Span) Refusal → Rack
rack_after x n s (Ok (Some span)) = (back x n).rack
rack_after x n s (Ok None) = x
rack_after x n s (Err e) = cond (waits s) (drop' x n).rack x

-- the rest of a visit, on the rack that the drive left: booking n is collected, and then let go
abbrev pub collected_on : {S : Type 0} → ℕ → Ran S → Contents Report → Contents ℕ → Visited S
collected_on n d reports rows =
    record {
      answer = (collect d.rack n).answer;
      rack = rack_after (collect d.rack n).rack n (stage_at d.rack n) (collect d.rack n).answer;
      held = d.held;
      reports = entered reports d.reports;
      rows = rows_after (collect d.rack n).rack n (collect d.rack n).answer rows;
    }

module _ {S : Type 0} (m : Meaning S) (x : Rack) (q : Request) (s : S) (reports : Contents Report) (rows : Contents ℕ) where
  abbrev pub visited_after : Result ℕ Refusal → Visited S
  visited_after (Err e) = record { answer = Err e; rack = (book x q).rack; held = s; reports = reports; rows = rows }
  visited_after (Ok n) = collected_on n (drive m (book x q).rack n most_steps (room_of reports) s).ran reports rows

  -- a visit: a booking that is refused ends it; one that is taken is driven on, collected and let go
  abbrev pub visited : Visited S
  visited = visited_after (book x q).answer
