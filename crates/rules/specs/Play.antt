-- Lists of calls, each with a chooser of its own: what they tell, and the rack that they leave.
use Rattle.std.specs.Prelude.{◌≡◌, ℕ, ◌≤◌, ◌⊎◌, List, [], ◌∷◌, ◌++◌, length, Ok, Err, Result, ◌≢◌}
use Rattle.std.specs.List.{AllByRecursion}
use Rattle.rules.specs.declared.ticket.Request.{Request}
use Rattle.rules.specs.declared.ticket.Stage.{Stage}
use Rattle.rules.specs.declared.ticket.Stage.TheVariants as stage
use Rattle.rules.specs.declared.refusal.Refusal.{Refusal}
use Rattle.rules.specs.Rack.{Rack}
use Rattle.rules.specs.declared.asked.Asked.{Asked}
use Rattle.rules.specs.Choosers.{Meaning, Lawful}
use Rattle.rules.specs.Calls.{Outcome, Moved, book, step, drive, collect, drop', back}
use Rattle.rules.specs.History.{Event, New, Reaches}
use Rattle.rules.specs.Laws.{reported, Holds}

-- the calls that go into a list; a drive names a number, a budget and the room of its journal
pub data Call : Type 0 where
  booking : Request → Call
  stepping : ℕ → Call
  driving : ℕ → ℕ → ℕ → Call
  collecting : ℕ → Call
  dropping : ℕ → Call
  returning : ℕ → Call

-- a chooser of the most general kind: its pick goes by all that it was asked so far
abbrev pub recalling : (List Asked → Asked → ℕ) → Meaning (List Asked)
recalling choose = record { row = choose; then = λ past q. q ∷ past }

-- a call with its chooser
pub record Turn : Type 0 where
  pub call : Call
  pub choose : List Asked → Asked → ℕ

-- a history, the latest event first, and a rack
pub record Told : Type 0 where
  pub history : List Event
  pub rack : Rack

-- an accepted call tells its event, a refused one nothing; the rack is what the call leaves
abbrev pub tells_of : {A : Type 0} → Told → (A → Event) → Rack → Result A Refusal → Told
tells_of p f y (Err e) = record { history = p.history; rack = y }
tells_of p f y (Ok a) = record { history = f a ∷ p.history; rack = y }

abbrev pub tells : {A : Type 0} → Told → (A → Event) → Outcome A → Told
tells p f o = tells_of p f o.rack o.answer

-- each report of a step or a drive is an event
abbrev pub reporting : {A S : Type 0} → Told → Moved A S → Told
reporting p m = record { history = reported m.ran.reports ++ p.history; rack = m.ran.rack }

abbrev pub turned : Told → (List Asked → Asked → ℕ) → Call → Told
turned p choose (Call.booking q) = tells p (λ n. Event.taken n q) (book p.rack q)
turned p choose (Call.stepping n) = reporting p (step (recalling choose) p.rack n [])
turned p choose (Call.driving n budget room) = reporting p (drive (recalling choose) p.rack n budget room [])
turned p choose (Call.collecting n) = tells p (λ _. Event.collected n) (collect p.rack n)
turned p choose (Call.dropping n) = tells p (λ _. Event.dropped n) (drop' p.rack n)
turned p choose (Call.returning n) = tells p (λ _. Event.returned n) (back p.rack n)

abbrev pub played : Told → List Turn → Told
played p [] = p
played p (t ∷ ts) = played (turned p t.choose t.call) ts

-- whatever list of calls is made on a new rack, with another chooser at each: its history leads to the rack that it leaves, and all laws hold
abbrev pub EveryListOfCallsHolds : Type 0
EveryListOfCallsHolds =
    (x : Rack) → New x → (ts : List Turn) → AllByRecursion (λ t. Lawful (recalling t.choose)) ts
    → let p = played (record { history = []; rack = x }) ts in Reaches p.history p.rack × Holds p.history p.rack

-- a drive counts its reports: at most the budget, and at most the room
abbrev pub DriveCounts : {S : Type 0} → Meaning S → Type 0
DriveCounts {S} m =
    (x : Rack) (n budget room : ℕ) (s : S) (count : ℕ) (last : Stage) → (drive m x n budget room s).answer ≡ Ok (count, last)
    → (count ≡ length (drive m x n budget room s).ran.reports) × (count ≤ budget) × (count ≤ room)

-- a drive ends when its ticket is not soft, that is neither seeking nor closing, when the budget is made, or when the room is filled
abbrev pub DriveEnds : {S : Type 0} → Meaning S → Type 0
DriveEnds {S} m =
    (x : Rack) (n budget room : ℕ) (s : S) (count : ℕ) (last : Stage) → (drive m x n budget room s).answer ≡ Ok (count, last)
    → ((last ≢ stage.Seeking) × (last ≢ stage.Closing)) ⊎ ((count ≡ budget) ⊎ (count ≡ room))
