-- The work left of one ticket while booking b waits: a step of the ticket lowers it.
use Rattle.std.proofs.Common.{◌≡◌, ℕ, ◌+◌, ◌-◌, ◌*◌, ◌≤◌, Bool, true, cond, eqb, leb, arith}
use Rattle.std.proofs.lemmas.Bool.Decides.{nat_tests}
use Rattle.rules.specs.declared.ticket.Ticket.{Ticket}
use Rattle.rules.specs.declared.ticket.Phase.{Phase}
use Rattle.rules.specs.declared.ticket.Phase.TheVariants.{Forward, Backing, Without, Granted, Out, Closing}
use Rattle.rules.specs.declared.report.Action.{Action}
use Rattle.rules.specs.declared.report.Action.TheVariants as action
use Rattle.rules.specs.Lists.{total}
use Rattle.rules.specs.declared.rack.Sizes.{Sizes}
use Rattle.rules.specs.Rack.{soft}
use Rattle.rules.specs.Step.{duty, after}
use Rattle.rules.proofs.Duties.{Says, says}
use Rattle.rules.specs.Sound.{Shape, Fit}

-- the most steps of one pass over C columns: a mark and its wipe in each of them, and what ends the pass
abbrev pub pass : ℕ → ℕ
pass C = 2 * C + 1

-- 1 for a booking other than b
abbrev pub other : ℕ → ℕ → ℕ
other b n = cond (eqb n b) 0 1

-- a ticket that has not seen the last hand-back owes one more pass
abbrev pub owes : ℕ → ℕ → ℕ → ℕ
owes C seen handbacks = cond (eqb seen handbacks) 0 (pass C)

-- the steps left of a ticket, if A tickets other than b may still be handed back: each of these, but for itself, can cost it one
-- more pass. One that backs out to its start owes none, since it will set out with the count of that moment
abbrev pub work : ℕ → ℕ → ℕ → ℕ → Phase → Ticket → ℕ
work C b A handbacks Forward t = owes C t.seen handbacks + (A - other b t.number) * pass C + (2 * (C - (t.first + t.marks)) + t.marks + 1)
work C b A handbacks (Backing g) t =
    cond (eqb g t.request.start) 0 (owes C t.seen handbacks) + (A - other b t.number) * pass C + (2 * (C - g) + t.marks + 1)
work C b A handbacks Without t = 0
work C b A handbacks Granted t = t.marks
work C b A handbacks Out t = t.marks
work C b A handbacks Closing t = t.marks

-- 1 if the ticket is not b's and may still be handed back
abbrev pub returnable : ℕ → Phase → Ticket → ℕ
returnable b Forward t = other b t.number
returnable b (Backing g) t = other b t.number
returnable b Without t = 0
returnable b Granted t = other b t.number
returnable b Out t = other b t.number
returnable b Closing t = 0

-- while b waits no step works on a ticket more than the lead ahead of it: such a ticket counts nothing
abbrev pub up_to : ℕ → (Ticket → ℕ) → Ticket → ℕ
up_to last g t = cond (leb t.number last) (g t) 0

abbrev pub cost : Sizes → ℕ → ℕ → ℕ → Ticket → ℕ
cost z b A handbacks = up_to (b + z.lead) (λ t. work z.columns b A handbacks t.phase t)

abbrev pub backer : Sizes → ℕ → Ticket → ℕ
backer z b = up_to (b + z.lead) (λ t. returnable b t.phase t)

-- a ticket that retreats has marks
abbrev MarksToWipe : Phase → ℕ → Type 0
MarksToWipe Forward k = Unit
MarksToWipe (Backing g) k = 1 ≤ k
MarksToWipe Without k = Unit
MarksToWipe Granted k = Unit
MarksToWipe Out k = Unit
MarksToWipe Closing k = 1 ≤ k

marks_to_wipe : (z : Sizes) (t : Ticket) (p : Phase) → Shape z p t → MarksToWipe p t.marks
marks_to_wipe z t Forward h = tt
marks_to_wipe z t (Backing g) h = h.0
marks_to_wipe z t Without h = tt
marks_to_wipe z t Granted h = tt
marks_to_wipe z t Out h = tt
marks_to_wipe z t Closing h = h.0

lowers : (z : Sizes) (vacant : Bool) (b A handbacks : ℕ) (t : Ticket) (a : Action) → soft t.phase ≡ true → t.marks ≤ t.request.length
    → MarksToWipe t.phase t.marks → t.number ≤ b + z.lead → Says z handbacks vacant t a
    → total (cost z b A handbacks) (after handbacks a t) + 1 ≤ cost z b A handbacks t
lowers z vacant b A handbacks t action.Wipe e k h l says = grind (arith, nat_tests)
lowers z vacant b A handbacks t action.Over e k h l says = grind (arith, nat_tests)
lowers z vacant b A handbacks t action.Without e k h l says = grind (arith, nat_tests)
lowers z vacant b A handbacks t action.Grant e k h l says = grind (arith, nat_tests)
lowers z vacant b A handbacks t action.Mark e k h l says = grind (arith, nat_tests)
lowers z vacant b A handbacks t action.Wall e k h l says = grind (arith, nat_tests)

-- each action of a soft ticket lowers its work
pub step_lowers : (z : Sizes) (vacant : Bool) (b A handbacks : ℕ) (t : Ticket) → soft t.phase ≡ true → Fit z handbacks t → t.number ≤ b + z.lead
    → total (cost z b A handbacks) (after handbacks (duty z handbacks vacant t) t) + 1 ≤ cost z b A handbacks t
step_lowers z vacant b A handbacks t e h l =
    lowers z vacant b A handbacks t (duty z handbacks vacant t) e h.held (marks_to_wipe z t t.phase h.shape) l (says z handbacks vacant t e)

-- and no more can be handed back after it
pub step_returns : (z : Sizes) (vacant : Bool) (b handbacks : ℕ) (t : Ticket) → soft t.phase ≡ true
    → total (backer z b) (after handbacks (duty z handbacks vacant t) t) ≤ backer z b t
step_returns z vacant b handbacks t e = grind (arith, nat_tests)
