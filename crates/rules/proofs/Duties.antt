-- What each action says of the ticket that does it.
use Rattle.std.proofs.Common.{◌≡◌, ℕ, ◌+◌, ◌<◌, ◌≤◌, Bool, true, false, ◌⊎◌, refl, inl, inr, arith}
use Rattle.std.proofs.lemmas.Bool.Decides.{nat_tests}
use Rattle.rules.specs.declared.ticket.Ticket.{Ticket}
use Rattle.rules.specs.declared.ticket.Phase.{Phase}
use Rattle.rules.specs.declared.ticket.Phase.TheVariants.{Forward, Backing, Without, Granted, Out, Closing}
use Rattle.rules.specs.declared.report.Action.{Action}
use Rattle.rules.specs.declared.report.Action.TheVariants as action
use Rattle.rules.specs.declared.rack.Sizes.{Sizes}
use Rattle.rules.specs.Rack.{soft}
use Rattle.rules.specs.Step.{retreats, duty}

-- of a soft ticket
abbrev pub Says : Sizes → ℕ → Bool → Ticket → Action → Type 0
Says z n vacant t action.Wipe = retreats t.phase ≡ true
Says z n vacant t action.Over = (t.phase ≡ Forward) × (t.seen ≡ n → ⊥) × ((z.columns < t.first + t.request.length) ⊎ (t.marks ≡ t.request.length))
Says z n vacant t action.Without = (t.phase ≡ Forward) × (t.seen ≡ n) × (z.columns < t.first + t.request.length)
Says z n vacant t action.Grant = (t.phase ≡ Forward) × (t.seen ≡ n) × (t.first + t.request.length ≤ z.columns) × (t.marks ≡ t.request.length)
Says z n vacant t action.Mark = (t.phase ≡ Forward) × (t.first + t.request.length ≤ z.columns) × (t.marks ≡ t.request.length → ⊥) × (vacant ≡ true)
Says z n vacant t action.Wall = (t.phase ≡ Forward) × (t.first + t.request.length ≤ z.columns) × (t.marks ≡ t.request.length → ⊥) × (vacant ≡ false)

forward_or : (p : Phase) → soft p ≡ true → (p ≡ Forward) ⊎ (retreats p ≡ true)
forward_or Forward e = inl refl
forward_or (Backing g) e = inr refl
forward_or Without e = inr e
forward_or Granted e = inr e
forward_or Out e = inr e
forward_or Closing e = inr refl

says_at : (z : Sizes) (n : ℕ) (vacant : Bool) (t : Ticket) → (t.phase ≡ Forward) ⊎ (retreats t.phase ≡ true) → Says z n vacant t (duty z n vacant t)
says_at z n vacant t (inr e) = rw e e
says_at z n vacant t (inl e) = grind (arith, nat_tests)

pub says : (z : Sizes) (n : ℕ) (vacant : Bool) (t : Ticket) → soft t.phase ≡ true → Says z n vacant t (duty z n vacant t)
says z n vacant t e = says_at z n vacant t (forward_or t.phase e)
