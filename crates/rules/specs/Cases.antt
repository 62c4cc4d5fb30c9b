-- The worked cases: short lists of calls from a rack never opened, each with its answer, and picks of the three choosers.
use Rattle.std.specs.Prelude.{◌≡◌, ℕ, List, [], ◌∷◌, map, Some, None, Ok, Err, Option, Result}
use Rattle.std.specs.List.{AllByRecursion}
use Rattle.rules.specs.declared.span.Span.{Span}
use Rattle.rules.specs.declared.ticket.Stage.{Stage}
use Rattle.rules.specs.declared.ticket.Stage.TheVariants as stage
use Rattle.rules.specs.declared.report.Action.{Action}
use Rattle.rules.specs.declared.report.Action.TheVariants as action
use Rattle.rules.specs.declared.report.Report.{Report}
use Rattle.rules.specs.declared.refusal.Refusal.{Refusal}
use Rattle.rules.specs.declared.refusal.Refusal.TheVariants as refusal
use Rattle.rules.specs.declared.rack.Sizes.{Sizes}
use Rattle.rules.specs.Rack.{Rack, never_opened}
use Rattle.rules.specs.declared.asked.Asked.{Asked}
use Rattle.rules.specs.Choosers.{lowest, staying, evening}
use Rattle.rules.specs.Calls as calls
use Rattle.rules.specs.Calls.{Outcome}
use Rattle.rules.specs.Play.{Call}

-- what a case asks of a rack: an opening, a call of a list of calls, or a question
pub data Asking : Type 0 where
  opening : Sizes → ℕ → Asking
  calling : Call → Asking
  row_of : ℕ → ℕ → Asking
  showing : ℕ → Asking

-- what it hears: that it is done; the number of a booking; a report; a drive's reports, with their count and the stage; what was
-- collected; a row or a count of marks; or why not
pub data Said : Type 0 where
  done : Said
  number : ℕ → Said
  report : Report → Said
  drove : List Report → ℕ → Stage → Said
  collected : Option Span → Said
  figure : ℕ → Said
  refused : Refusal → Said

-- an answer, and the rack that it comes from
pub record Reply : Type 0 where
  pub said : Said
  pub rack : Rack

abbrev pub said_by : {A : Type 0} → (A → Said) → Result A Refusal → Said
said_by f (Ok a) = f a
said_by f (Err e) = Said.refused e

abbrev pub reply_by : {A : Type 0} → (A → Said) → Outcome A → Reply
reply_by f o = record { said = said_by f o.answer; rack = o.rack }

-- every mark takes the lowest vacant row
abbrev pub reply_to : Rack → Call → Reply
reply_to x (Call.booking q) = reply_by Said.number (calls.book x q)
reply_to x (Call.stepping n) = let m = calls.step (lowest {S = Unit}) x n tt in record { said = said_by Said.report m.answer; rack = m.ran.rack }
reply_to x (Call.driving n budget room) =
    let m = calls.drive (lowest {S = Unit}) x n budget room tt in
    record { said = said_by (λ p. Said.drove m.ran.reports p.0 p.1) m.answer; rack = m.ran.rack }
reply_to x (Call.collecting n) = reply_by Said.collected (calls.collect x n)
reply_to x (Call.dropping n) = reply_by (λ _. Said.done) (calls.drop' x n)
reply_to x (Call.returning n) = reply_by (λ _. Said.done) (calls.back x n)

abbrev pub reply : Rack → Asking → Reply
reply x (Asking.opening z first) = reply_by (λ _. Said.done) (calls.open' x z first)
reply x (Asking.calling call) = reply_to x call
reply x (Asking.row_of n j) = record { said = said_by Said.figure (calls.row x n j); rack = x }
reply x (Asking.showing c) = record { said = said_by Said.figure (calls.show x c); rack = x }

-- what one after the other hears, beginning at this rack
abbrev pub says : Rack → List Asking → List Said
says x [] = []
says x (a ∷ rest) = let r = reply x a in r.said ∷ says r.rack rest

-- what is asked, and what it should hear
pub record Line : Type 0 where
  pub asking : Asking
  pub answer : Said

infix 68 ◌⇒◌
abbrev pub ◌⇒◌ : Asking → Said → Line
a ⇒ s = record { asking = a; answer = s }

-- a case: a run from a rack never opened; or a question to a chooser, the tallies that evening holds, and the picks of lowest,
-- staying and evening
pub data Case : Type 0 where
  run : List Line → Case
  picks : Asked → List ℕ → ℕ → ℕ → ℕ → Case

abbrev pub ComesOut : Case → Type 0
ComesOut (Case.run ls) = says never_opened (map (λ l. l.asking) ls) ≡ map (λ l. l.answer) ls
ComesOut (Case.picks q tallies l s e) =
    ((lowest {S = Unit}).row tt q ≡ l) × ((staying {S = Unit}).row tt q ≡ s) × (evening.row tallies q ≡ e)

-- the calls in short. An opening names rows, columns, places, lead and first number
abbrev pub open' : ℕ → ℕ → ℕ → ℕ → ℕ → Asking
open' rows columns places lead first = Asking.opening (record { rows = rows; columns = columns; places = places; lead = lead }) first

abbrev pub book : ℕ → ℕ → Asking
book start length = Asking.calling (Call.booking (record { start = start; length = length }))

abbrev pub step : ℕ → Asking
step n = Asking.calling (Call.stepping n)

-- with room for all the reports of its budget
abbrev pub drive : ℕ → ℕ → Asking
drive n budget = Asking.calling (Call.driving n budget budget)

abbrev pub collect : ℕ → Asking
collect n = Asking.calling (Call.collecting n)

abbrev pub drop : ℕ → Asking
drop n = Asking.calling (Call.dropping n)

abbrev pub back : ℕ → Asking
back n = Asking.calling (Call.returning n)

-- the reports in short: number, column, and row where there is one
abbrev pub tell : Action → ℕ → ℕ → ℕ → Report
tell a n c row = record { number = n; action = a; column = c; row = row }

abbrev pub wipe : ℕ → ℕ → ℕ → Report
wipe n c row = tell action.Wipe n c row

abbrev pub over : ℕ → ℕ → Report
over n c = tell action.Over n c 0

abbrev pub without : ℕ → ℕ → Report
without n c = tell action.Without n c 0

abbrev pub grant : ℕ → ℕ → Report
grant n c = tell action.Grant n c 0

abbrev pub mark : ℕ → ℕ → ℕ → Report
mark n c row = tell action.Mark n c row

abbrev pub wall : ℕ → ℕ → Report
wall n c = tell action.Wall n c 0

abbrev pub span : ℕ → ℕ → Said
span first length = Said.collected (Some (record { first = first; length = length }))

-- a step that names ticket 2 helps ticket 1 to its window first; then ticket 2 passes that window, wall by wall
abbrev pub helping : Case
helping = Case.run
    (open' 1 6 3 2 1 ⇒ Said.done
    ∷ book 0 3 ⇒ Said.number 1
    ∷ book 0 3 ⇒ Said.number 2
    ∷ step 1 ⇒ Said.report (mark 1 0 1)
    ∷ step 2 ⇒ Said.report (mark 1 1 1)
    ∷ step 2 ⇒ Said.report (mark 1 2 1)
    ∷ step 2 ⇒ Said.report (grant 1 0)
    ∷ step 2 ⇒ Said.report (wall 2 0)
    ∷ step 2 ⇒ Said.report (wall 2 1)
    ∷ step 2 ⇒ Said.report (wall 2 2)
    ∷ step 2 ⇒ Said.report (mark 2 3 1)
    ∷ step 2 ⇒ Said.report (mark 2 4 1)
    ∷ step 2 ⇒ Said.report (mark 2 5 1)
    ∷ step 2 ⇒ Said.report (grant 2 3)
    ∷ [])

-- ticket 1 is handed back while ticket 2 searches, which therefore starts over and gets the columns that were handed back
abbrev pub starting_over : Case
starting_over = Case.run
    (open' 1 4 3 3 1 ⇒ Said.done
    ∷ book 0 2 ⇒ Said.number 1
    ∷ drive 1 9 ⇒ Said.drove (mark 1 0 1 ∷ mark 1 1 1 ∷ grant 1 0 ∷ []) 3 stage.Granted
    ∷ collect 1 ⇒ span 0 2
    ∷ book 0 2 ⇒ Said.number 2
    ∷ step 2 ⇒ Said.report (wall 2 0)
    ∷ step 2 ⇒ Said.report (wall 2 1)
    ∷ step 2 ⇒ Said.report (mark 2 2 1)
    ∷ back 1 ⇒ Said.done
    ∷ step 2 ⇒ Said.report (mark 2 3 1)
    ∷ step 2 ⇒ Said.report (over 2 0)
    ∷ step 2 ⇒ Said.report (wipe 2 3 1)
    ∷ step 2 ⇒ Said.report (wipe 2 2 1)
    ∷ step 2 ⇒ Said.report (wipe 1 1 1)
    ∷ step 2 ⇒ Said.report (wipe 1 0 1)
    ∷ step 2 ⇒ Said.report (mark 2 0 1)
    ∷ step 2 ⇒ Said.report (mark 2 1 1)
    ∷ step 2 ⇒ Said.report (grant 2 0)
    ∷ [])

-- slot 2 is booked, so three columns from 0 on are not to be had
abbrev pub no_window : Case
no_window = Case.run
    (open' 1 5 2 0 1 ⇒ Said.done
    ∷ book 2 1 ⇒ Said.number 1
    ∷ drive 1 9 ⇒ Said.drove (mark 1 2 1 ∷ grant 1 2 ∷ []) 2 stage.Granted
    ∷ book 0 3 ⇒ Said.number 2
    ∷ drive 2 9 ⇒ Said.drove (mark 2 0 1 ∷ mark 2 1 1 ∷ wall 2 2 ∷ wipe 2 1 1 ∷ wipe 2 0 1 ∷ without 2 0 ∷ []) 6 stage.Without
    ∷ collect 2 ⇒ Said.collected None
    ∷ collect 2 ⇒ Said.refused refusal.Unknown
    ∷ [])

-- a window may end in the last column, and not past it
abbrev pub last_column : Case
last_column = Case.run
    (open' 1 4 1 0 1 ⇒ Said.done
    ∷ book 3 2 ⇒ Said.refused refusal.Columns
    ∷ book 2 2 ⇒ Said.number 1
    ∷ [])

-- a place is idle again once its unmarked ticket is dropped
abbrev pub one_place : Case
one_place = Case.run
    (open' 1 4 1 0 1 ⇒ Said.done
    ∷ book 0 1 ⇒ Said.number 1
    ∷ book 0 1 ⇒ Said.refused refusal.Places
    ∷ drop 1 ⇒ Said.done
    ∷ book 0 1 ⇒ Said.number 2
    ∷ [])

-- a step naming ticket 2 works on ticket 1 at lead 0, and on ticket 2 at lead 1
abbrev pub lead_0 : Case
lead_0 = Case.run
    (open' 1 2 2 0 1 ⇒ Said.done
    ∷ book 0 1 ⇒ Said.number 1
    ∷ book 1 1 ⇒ Said.number 2
    ∷ step 2 ⇒ Said.report (mark 1 0 1)
    ∷ [])

abbrev pub lead_1 : Case
lead_1 = Case.run
    (open' 1 2 2 1 1 ⇒ Said.done
    ∷ book 0 1 ⇒ Said.number 1
    ∷ book 1 1 ⇒ Said.number 2
    ∷ step 2 ⇒ Said.report (mark 2 1 1)
    ∷ [])

-- a grant goes back once
abbrev pub back_twice : Case
back_twice = Case.run
    (open' 1 2 1 0 1 ⇒ Said.done
    ∷ book 0 2 ⇒ Said.number 1
    ∷ drive 1 9 ⇒ Said.drove (mark 1 0 1 ∷ mark 1 1 1 ∷ grant 1 0 ∷ []) 3 stage.Granted
    ∷ collect 1 ⇒ span 0 2
    ∷ back 1 ⇒ Said.done
    ∷ back 1 ⇒ Said.refused refusal.Stage
    ∷ step 1 ⇒ Said.report (wipe 1 1 1)
    ∷ back 1 ⇒ Said.refused refusal.Stage
    ∷ step 1 ⇒ Said.report (wipe 1 0 1)
    ∷ back 1 ⇒ Said.refused refusal.Unknown
    ∷ [])

-- rows 2 and 3 are vacant, the row to the left is 3, the tallies are 4, 5 and 5
abbrev pub choosers : Case
choosers = Case.picks (record { mask = 6; column = 1; left = Some 3 }) (4 ∷ 5 ∷ 5 ∷ []) 2 3 2

-- each limit of an opening is kept, and one past it is refused and leaves the rack
abbrev pub opening_limits : Case
opening_limits = Case.run
    (open' 16 256 64 64 1000000000 ⇒ Said.done
    ∷ open' 17 256 64 64 1000000000 ⇒ Said.refused refusal.Limits
    ∷ open' 16 257 64 64 1000000000 ⇒ Said.refused refusal.Limits
    ∷ open' 16 256 65 64 1000000000 ⇒ Said.refused refusal.Limits
    ∷ open' 16 256 64 65 1000000000 ⇒ Said.refused refusal.Limits
    ∷ open' 16 256 64 64 1000000001 ⇒ Said.refused refusal.Limits
    ∷ open' 0 1 1 0 1 ⇒ Said.refused refusal.Limits
    ∷ open' 1 0 1 0 1 ⇒ Said.refused refusal.Limits
    ∷ open' 1 1 0 0 1 ⇒ Said.refused refusal.Limits
    ∷ open' 1 1 1 0 0 ⇒ Said.refused refusal.Limits
    ∷ book 192 64 ⇒ Said.number 1000000000
    ∷ book 193 64 ⇒ Said.refused refusal.Columns
    ∷ book 0 65 ⇒ Said.refused refusal.Columns
    ∷ book 0 0 ⇒ Said.refused refusal.Columns
    ∷ book 255 1 ⇒ Said.number 1000000001
    ∷ open' 1 1 1 0 1 ⇒ Said.done
    ∷ book 0 1 ⇒ Said.number 1
    ∷ [])

-- a rack never opened has 1 row, 1 column, 1 place and first number 1; the calls that name a number, in and out of their stages
abbrev pub stages : Case
stages = Case.run
    (book 0 2 ⇒ Said.refused refusal.Columns
    ∷ step 1 ⇒ Said.refused refusal.Unknown
    ∷ drive 1 0 ⇒ Said.refused refusal.Unknown
    ∷ book 0 1 ⇒ Said.number 1
    ∷ book 0 1 ⇒ Said.refused refusal.Places
    ∷ collect 1 ⇒ Said.refused refusal.Stage
    ∷ back 1 ⇒ Said.refused refusal.Stage
    ∷ Asking.row_of 1 1 ⇒ Said.refused refusal.Stage
    ∷ Asking.calling (Call.driving 1 0 1) ⇒ Said.drove [] 0 stage.Seeking
    ∷ Asking.calling (Call.driving 1 9 0) ⇒ Said.refused refusal.Full
    ∷ Asking.calling (Call.driving 1 9 1) ⇒ Said.drove (mark 1 0 1 ∷ []) 1 stage.Seeking
    ∷ Asking.showing 0 ⇒ Said.figure 1
    ∷ Asking.showing 1 ⇒ Said.refused refusal.Columns
    ∷ step 1 ⇒ Said.report (grant 1 0)
    ∷ step 1 ⇒ Said.refused refusal.Stage
    ∷ Asking.calling (Call.driving 1 9 0) ⇒ Said.refused refusal.Stage
    ∷ drop 1 ⇒ Said.refused refusal.Stage
    ∷ collect 1 ⇒ span 0 1
    ∷ collect 1 ⇒ Said.refused refusal.Stage
    ∷ Asking.row_of 1 0 ⇒ Said.figure 1
    ∷ Asking.row_of 1 1 ⇒ Said.refused refusal.Columns
    ∷ Asking.row_of 2 1 ⇒ Said.refused refusal.Unknown
    ∷ back 1 ⇒ Said.done
    ∷ Asking.row_of 1 0 ⇒ Said.refused refusal.Stage
    ∷ drive 1 9 ⇒ Said.drove (wipe 1 0 1 ∷ []) 1 stage.Idle
    ∷ drop 1 ⇒ Said.refused refusal.Unknown
    ∷ Asking.showing 0 ⇒ Said.figure 0
    ∷ [])

abbrev pub cases : List Case
cases =
    helping ∷ starting_over ∷ no_window ∷ last_column ∷ one_place ∷ lead_0 ∷ lead_1 ∷ back_twice ∷ choosers ∷ opening_limits ∷ stages ∷ []

-- all of them come out
abbrev pub CasesComeOut : Type 0
CasesComeOut = AllByRecursion ComesOut cases
