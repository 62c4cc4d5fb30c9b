-- The end of the numbers. No run gets there, so it is told of the definition of the call.
use Rattle.std.specs.Prelude.{◌≡◌, ℕ, List, [], ◌∷◌, Ok, Err}
use Rattle.rules.specs.declared.slot.Slot.{Slot}
use Rattle.rules.specs.declared.ticket.Request.{Request}
use Rattle.rules.specs.declared.ticket.Ticket.{Ticket}
use Rattle.rules.specs.declared.refusal.Refusal.TheVariants as refusal
use Rattle.rules.specs.Rack.{Rack}
use Rattle.rules.specs.Calls.{book, open', ticket_for, accepted, refused}

-- a request for so many columns from the first column on
abbrev pub asking : ℕ → Request
asking length = record { start = 0; length = length }

-- a rack of 2 rows, 4 columns and 1 place whose next booking gets this number, whatever happened on it before
abbrev pub reaching : ℕ → ℕ → ℕ → List Ticket → List Slot → Rack
reaching next first handbacks tickets slots =
    record { sizes = record { rows = 2; columns = 4; places = 1; lead = 0 }; first = first; next = next; handbacks = handbacks; tickets = tickets; slots = slots }

-- the last number is given out: it is the answer and the new ticket's number, and nothing but the tickets and the next number changes
abbrev pub TheLastNumberIsGiven : Type 0
TheLastNumberIsGiven =
    (first handbacks : ℕ) (slots : List Slot) →
    book (reaching 2000000000 first handbacks [] slots) (asking 2)
    ≡ accepted 2000000000
    (reaching 2000000001 first handbacks (ticket_for (reaching 2000000000 first handbacks [] slots) (asking 2) ∷ []) slots)

-- the booking after it is refused, and leaves the rack as it was
abbrev pub NoneComesAfterIt : Type 0
NoneComesAfterIt =
    (first handbacks : ℕ) (slots : List Slot) →
    book (reaching 2000000001 first handbacks [] slots) (asking 2)
    ≡ refused (reaching 2000000001 first handbacks [] slots) refusal.Numbers

-- the length is tried before the numbers, and the numbers before the places
abbrev pub NumbersAreTriedSecond : Type 0
NumbersAreTriedSecond =
    (first handbacks : ℕ) (ticket : Ticket) (slots : List Slot) →
    ((book (reaching 2000000001 first handbacks (ticket ∷ []) slots) (asking 5)).answer ≡ Err refusal.Columns)
    × ((book (reaching 2000000001 first handbacks (ticket ∷ []) slots) (asking 4)).answer ≡ Err refusal.Numbers)
    × ((book (reaching 2000000000 first handbacks (ticket ∷ []) slots) (asking 4)).answer ≡ Err refusal.Places)

-- an opening brings the numbers back
abbrev pub AnOpeningStartsOver : Type 0
AnOpeningStartsOver =
    (first handbacks : ℕ) (slots : List Slot) →
    (book (open' (reaching 2000000001 first handbacks [] slots) (record { rows = 2; columns = 4; places = 1; lead = 0 }) 7).rack (asking 4)).answer ≡ Ok 7
