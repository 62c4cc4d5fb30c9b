-- An audit: turns played one after another on a board just opened, and the accounts of the history that they tell.
use Rattle.std.specs.Prelude.{◌≡◌, ℕ, ◌-◌, Bool, true, false, cond, List, [], ◌∷◌, ◌++◌, length, Ok, Err, Result}
use Rattle.lists.specs.Contents.{Contents, room_of, entered}
use Rattle.rules.specs.declared.report.Report.{Report}
use Rattle.rules.specs.declared.refusal.Refusal.{Refusal}
use Rattle.rules.specs.declared.refusal.Refusal.TheVariants as refusal
use Rattle.rules.specs.Lists.{count_of}
use Rattle.rules.specs.declared.rack.Sizes.{Sizes}
use Rattle.rules.specs.Rack.{Rack, opened, seeking, hard}
use Rattle.rules.specs.Choosers.{Meaning}
use Rattle.rules.specs.Calls.{Outcome, openable, book, step, drive, collect, drop', back}
use Rattle.rules.specs.History.{Event, Reaches}
use Rattle.rules.specs.Accounts.{is_undecided, is_withdrawn, is_denied, is_standing, is_returned, numbers, tally}
use Rattle.rules.specs.Laws.{told, reported, Holds}
use Rattle.board.specs.declared.audit.Accounts.{Accounts}
use Rattle.board.specs.declared.audit.Turn.{Turn}
use Rattle.board.specs.declared.audit.Call.{Call}
use Rattle.board.specs.declared.audit.Call.TheVariants as call

-- the accounts of a history
abbrev pub accounts_of : List Event → Accounts
accounts_of h =
    record {
      taken = length (numbers h);
      undecided = tally is_undecided h;
      withdrawn = tally is_withdrawn h;
      without = tally is_denied h;
      standing = tally is_standing h;
      returned = tally is_returned h;
    }

-- the same from a rack, given how many bookings were withdrawn: the bookings without a window are those of no other kind
abbrev pub counted_on : Rack → ℕ → Accounts
counted_on x withdrawn =
    let taken = x.next - x.first in
    let undecided = count_of (λ t. seeking t.phase) x.tickets in
    let standing = count_of (λ t. hard t.phase) x.tickets in
    record {
      taken = taken;
      undecided = undecided;
      withdrawn = withdrawn;
      without = taken - undecided - withdrawn - standing - x.handbacks;
      standing = standing;
      returned = x.handbacks;
    }

-- the event withdraws a booking
abbrev pub is_drop : Event → Bool
is_drop (Event.taken m q) = false
is_drop (Event.stepped r) = false
is_drop (Event.collected m) = false
is_drop (Event.dropped m) = true
is_drop (Event.returned m) = false

-- what a call leaves: the events that it told, the latest first, the rack, what the journal holds, and what the chooser holds
pub record Left (S : Type 0) : Type 0 where
  pub events : List Event
  pub rack : Rack
  pub journal : Contents Report
  pub held : S

-- a call that enters nothing and consults no chooser
abbrev pub alone : {A S : Type 0} → (A → Event) → Outcome A → Contents Report → S → Left S
alone f o c s = record { events = told f o.answer; rack = o.rack; journal = c; held = s }

-- the history so far, the latest event first, the rack and what the journal holds
pub record Scene : Type 0 where
  pub history : List Event
  pub rack : Rack
  pub journal : Contents Report

-- what an audit answers, and the board, the turns and the journal that it leaves
pub record Audited (S : Type 0) : Type 0 where
  pub answer : Result Accounts Refusal
  pub rack : Rack
  pub turns : List (Turn S)
  pub journal : Contents Report

module _ {S : Type 0} (m : Meaning S) where
  -- each call by its own definition; a refused one tells nothing and leaves all as it was
  abbrev pub called : Rack → Contents Report → S → Call → Left S
  called x c s (call.Book q) = alone (λ n. Event.taken n q) (book x q) c s
  called x c s (call.Step n) = let o = step m x n s in record { events = told Event.stepped o.answer; rack = o.ran.rack; journal = c; held = o.ran.held }
  called x c s (call.Drive n budget) =
      let o = drive m x n budget (room_of c) s in
      record { events = reported o.ran.reports; rack = o.ran.rack; journal = entered c o.ran.reports; held = o.ran.held }
  called x c s (call.Collect n) = alone (λ _. Event.collected n) (collect x n) c s
  called x c s (call.Withdraw n) = alone (λ _. Event.dropped n) (drop' x n) c s
  called x c s (call.Back n) = alone (λ _. Event.returned n) (back x n) c s

  abbrev pub turned : Rack → Contents Report → Turn S → Left S
  turned x c t = called x c t.chooser t.call

  -- the turn with its chooser after it
  abbrev pub used : Rack → Contents Report → Turn S → Turn S
  used x c t = record { call = t.call; chooser = (turned x c t).held }

  abbrev pub after : Scene → Turn S → Scene
  after p t = let o = turned p.rack p.journal t in record { history = o.events ++ p.history; rack = o.rack; journal = o.journal }

  -- turn after turn
  abbrev pub played : Scene → List (Turn S) → Scene
  played p [] = p
  played p (t ∷ ts) = played (after p t) ts

  abbrev pub all_used : Scene → List (Turn S) → List (Turn S)
  all_used p [] = []
  all_used p (t ∷ ts) = used p.rack p.journal t ∷ all_used (after p t) ts

  -- an accepted opening, and the turns on it; a refused one leaves all as it was
  abbrev pub opening : Sizes → ℕ → Contents Report → Scene
  opening z first c = record { history = []; rack = opened z first; journal = c }

  -- the history that the turns on it tell
  abbrev pub history_of : Sizes → ℕ → Contents Report → List (Turn S) → List Event
  history_of z first c ts = (played (opening z first c) ts).history

  abbrev pub audited : Rack → Sizes → ℕ → Contents Report → List (Turn S) → Audited S
  audited x z first c ts =
      let p = played (opening z first c) ts in
      cond (openable z first)
      (record { answer = Ok (accounts_of p.history); rack = p.rack; turns = all_used (opening z first c) ts; journal = p.journal })
      (record { answer = Err refusal.Limits; rack = x; turns = ts; journal = c })

-- the history leads to the rack, all laws hold of it, and the figures are the history's
pub record Accounted (h : List Event) (x : Rack) (a : Accounts) : Type 0 where
  pub leads : Reaches h x
  pub holds : Holds h x
  pub taken : a.taken ≡ length (numbers h)
  pub undecided : a.undecided ≡ tally is_undecided h
  pub withdrawn : a.withdrawn ≡ tally is_withdrawn h
  pub without : a.without ≡ tally is_denied h
  pub standing : a.standing ≡ tally is_standing h
  pub returned : a.returned ≡ tally is_returned h
