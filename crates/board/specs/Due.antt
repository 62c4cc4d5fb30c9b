-- What the search for the ticket of a step finds.
use Rattle.std.specs.Prelude.{◌≡◌, ℕ, ◌<◌, true, length, Ok, Err, Result}
use Rattle.rules.specs.declared.refusal.Refusal.{Refusal}
use Rattle.rules.specs.Rack.{Rack, soft}
use Rattle.rules.specs.Step.{due, worked}
use Rattle.board.specs.declared.walk.Spot.{Spot}
use Rattle.board.specs.Reading.{ticket_at, mask_seen}

-- the place of the soft ticket that a number names; or the refusal
abbrev pub SoftPlace : Rack → ℕ → Result ℕ Refusal → Type 0
SoftPlace r n (Err e) = due r n ≡ Err e
SoftPlace r n (Ok i) = (i < length r.tickets) × (soft (ticket_at r i).phase ≡ true) × (due r n ≡ Ok (worked r (ticket_at r i)))

-- the place of the ticket that is due, and the mask seen ahead of it; or the refusal
abbrev pub Due : Rack → ℕ → Result Spot Refusal → Type 0
Due r n (Err e) = due r n ≡ Err e
Due r n (Ok spot) = (spot.place < length r.tickets) × (due r n ≡ Ok (ticket_at r spot.place)) × (spot.mask ≡ mask_seen r (ticket_at r spot.place))
