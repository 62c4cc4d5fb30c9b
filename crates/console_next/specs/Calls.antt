-- What an order does: the board's call by its own definition, and what the call tells of histories.
use Rattle.std.specs.Prelude.{List, [], Ok, Err, Result}
use Rattle.lists.specs.Contents.{Contents, room_of, entered}
use Rattle.rules.specs.declared.refusal.Refusal.{Refusal}
use Rattle.rules.specs.declared.report.Report.{Report}
use Rattle.rules.specs.Rack.{Rack}
use Rattle.rules.specs.Choosers.{Meaning}
use Rattle.rules.specs.Calls.{Outcome, open', book, step, drive, collect, drop', back, show}
use Rattle.rules.specs.History.{Event, Reaches}
use Rattle.rules.specs.Laws.{told, reported, Carries, Holds}
use Rattle.console_next.specs.declared.order.Order.{Order}
use Rattle.console_next.specs.declared.order.Order.TheVariants as order
use Rattle.console_next.specs.declared.reply.Reply.{Reply}
use Rattle.console_next.specs.declared.reply.Reply.TheVariants as reply

-- what becomes of the history: events are added, the latest first; or a new one begins
pub data Telling : Type 0 where
  adds : List Event → Telling
  anew : Telling

-- The promise over histories from rack x to rack y. Events added: every history that leads to x, with the events added, leads to y,
-- and all laws hold of it. A new history: the empty one leads to y, and all laws hold of it.
abbrev pub Continues : Telling → Rack → Rack → Type 0
Continues (Telling.adds es) x y = Carries es x y
Continues Telling.anew x y = Reaches [] y × Holds [] y

-- all that an order could touch, and what it tells
pub record Called (S : Type 0) : Type 0 where
  pub reply : Result Reply Refusal
  pub rack : Rack
  pub held : S
  pub journal : Contents Report
  pub tells : Telling

-- the answer of a call as a reply
abbrev pub replied : {A : Type 0} → (A → Reply) → Result A Refusal → Result Reply Refusal
replied f (Ok a) = Ok (f a)
replied f (Err e) = Err e

-- an accepted opening begins a new history; a refused one tells nothing
abbrev pub opening : {A : Type 0} → Result A Refusal → Telling
opening (Ok a) = Telling.anew
opening (Err e) = Telling.adds []

-- a call that consults no chooser and enters nothing
abbrev pub alone : {A S : Type 0} → (A → Reply) → (A → Event) → Outcome A → Contents Report → S → Called S
alone f g o c s = record { reply = replied f o.answer; rack = o.rack; held = s; journal = c; tells = Telling.adds (told g o.answer) }

module _ {S : Type 0} (m : Meaning S) where
  abbrev pub called : Rack → Contents Report → S → Order → Called S
  called x c s (order.Open sizes first) =
      let o = open' x sizes first in
      record { reply = replied (λ _. reply.Done) o.answer; rack = o.rack; held = s; journal = c; tells = opening o.answer }
  called x c s (order.Book q) = alone reply.Number (λ n. Event.taken n q) (book x q) c s
  called x c s (order.Step n) =
      let o = step m x n s in
      record { reply = replied reply.Stepped o.answer; rack = o.ran.rack; held = o.ran.held; journal = c; tells = Telling.adds (told Event.stepped o.answer) }
  called x c s (order.Drive n budget) =
      let o = drive m x n budget (room_of c) s in
      record {
        reply = replied (λ p. reply.Driven p.0 p.1) o.answer;
        rack = o.ran.rack;
        held = o.ran.held;
        journal = entered c o.ran.reports;
        tells = Telling.adds (reported o.ran.reports);
      }
  called x c s (order.Collect n) = alone (reply.Collected n) (λ _. Event.collected n) (collect x n) c s
  called x c s (order.Drop n) = alone (λ _. reply.Done) (λ _. Event.dropped n) (drop' x n) c s
  called x c s (order.Back n) = alone (λ _. reply.Done) (λ _. Event.returned n) (back x n) c s
  called x c s (order.Show column) = record { reply = replied reply.Marks (show x column); rack = x; held = s; journal = c; tells = Telling.adds [] }
