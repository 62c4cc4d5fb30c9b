-- What has become of each number: the history says each thing of it at most once, and the ticket found under it fits.
use Rattle.std.proofs.Common.{◌≡◌, ℕ, suc, ◌≤◌, Bool, true, false, ◌&&◌, ltb, leb, ◌⊎◌, List, [], ◌∷◌, Some, None, Option, sym, refl, ◌∙◌, subst, inl, inr, arith}
use Rattle.std.proofs.lemmas.Bool.{cases_eq}
use Rattle.std.proofs.lemmas.Bool.Decides.{nat_tests}
use Rattle.rules.specs.declared.ticket.Request.{Request}
use Rattle.rules.specs.declared.ticket.Ticket.{Ticket}
use Rattle.rules.specs.declared.ticket.Phase.TheVariants.{Without, Granted, Out, Closing}
use Rattle.rules.specs.declared.report.Action.{Action}
use Rattle.rules.specs.declared.report.Action.TheVariants as action
use Rattle.rules.specs.declared.report.Report.{Report}
use Rattle.rules.specs.Lists.{unit, count_of, find}
use Rattle.rules.specs.declared.rack.Sizes.{Sizes}
use Rattle.rules.specs.Rack.{Rack, seeking, soft, hard, named, has_vacant}
use Rattle.rules.specs.Step.{ahead, duty, action_of, after, with_phase, worked, report_of}
use Rattle.rules.specs.Calls.{ticket_for, booked, withdrawn as after_drop}
use Rattle.rules.specs.History.{Event, New, Reaches}
use Rattle.rules.specs.Accounts.{takes, grants, denies, withdraws, returns}
use Rattle.rules.proofs.Tickets.{rising_top, find_last, find_before}
use Rattle.rules.proofs.Effects.{Effect, effect}
use Rattle.rules.specs.Sound.{Sound}
use Rattle.rules.proofs.Walks.{works}
use Rattle.rules.proofs.Kept.{sound}
use Rattle.rules.proofs.Changes.{subject, head_of, Change, step_change, fetch_change, leave_change, drop_change, back_change}

-- what has become of a number
pub data Status : Type 0 where
  never : Status
  undecided : Status
  withdrawn : Status
  denied : Status
  standing : Status
  returned : Status

-- what was told of it on the way
abbrev pub was_taken : Status → Bool
was_taken Status.never = false
was_taken Status.undecided = true
was_taken Status.withdrawn = true
was_taken Status.denied = true
was_taken Status.standing = true
was_taken Status.returned = true

abbrev pub was_withdrawn : Status → Bool
was_withdrawn Status.never = false
was_withdrawn Status.undecided = false
was_withdrawn Status.withdrawn = true
was_withdrawn Status.denied = false
was_withdrawn Status.standing = false
was_withdrawn Status.returned = false

abbrev pub was_denied : Status → Bool
was_denied Status.never = false
was_denied Status.undecided = false
was_denied Status.withdrawn = false
was_denied Status.denied = true
was_denied Status.standing = false
was_denied Status.returned = false

abbrev pub was_granted : Status → Bool
was_granted Status.never = false
was_granted Status.undecided = false
was_granted Status.withdrawn = false
was_granted Status.denied = false
was_granted Status.standing = true
was_granted Status.returned = true

abbrev pub was_returned : Status → Bool
was_returned Status.never = false
was_returned Status.undecided = false
was_returned Status.withdrawn = false
was_returned Status.denied = false
was_returned Status.standing = false
was_returned Status.returned = true

-- the history says just that of n, and each of it once
pub record Tells (h : List Event) (n : ℕ) (s : Status) : Type 0 where
  pub taken : count_of (takes n) h ≡ unit (was_taken s)
  pub withdrawn : count_of (withdraws n) h ≡ unit (was_withdrawn s)
  pub denied : count_of (denies n) h ≡ unit (was_denied s)
  pub granted : count_of (grants n) h ≡ unit (was_granted s)
  pub returned : count_of (returns n) h ≡ unit (was_returned s)

-- what is found under the number fits
abbrev pub Shows : Status → Option Ticket → Type 0
Shows Status.never None = Unit
Shows Status.never (Some t) = ⊥
Shows Status.undecided None = ⊥
Shows Status.undecided (Some t) = seeking t.phase ≡ true
Shows Status.withdrawn None = Unit
Shows Status.withdrawn (Some t) = t.phase ≡ Closing
Shows Status.denied None = Unit
Shows Status.denied (Some t) = t.phase ≡ Without
Shows Status.standing None = ⊥
Shows Status.standing (Some t) = hard t.phase ≡ true
Shows Status.returned None = Unit
Shows Status.returned (Some t) = t.phase ≡ Closing

-- a history and its rack, at number n. The numbers taken are those from the first to below the next
pub record Kind (h : List Event) (x : Rack) (n : ℕ) : Type 0 where
  pub status : Status
  pub told : Tells h n status
  pub shown : Shows status (find (named n) x.tickets)
  pub given_out : was_taken status ≡ (leb x.first n && ltb n x.next)

-- the status that an action leads to
abbrev turned : Action → Status → Status
turned action.Wipe s = s
turned action.Over s = s
turned action.Without s = Status.denied
turned action.Grant s = Status.standing
turned action.Mark s = s
turned action.Wall s = s

stepped_shows : (z : Sizes) (handbacks : ℕ) (vacant : Bool) (t : Ticket) (s : Status) → soft t.phase ≡ true → Shows s (Some t)
    → Shows (turned (duty z handbacks vacant t) s) (head_of (after handbacks (duty z handbacks vacant t) t))
stepped_shows z handbacks vacant t s e k = grind (arith, nat_tests)

-- the event says nothing of n
abbrev Silent : ℕ → Event → Type 0
Silent n e = (takes n e ≡ false) × (withdraws n e ≡ false) × (denies n e ≡ false) × (grants n e ≡ false) × (returns n e ≡ false)

silent_stays : (h : List Event) (n : ℕ) (e : Event) (s : Status) → Silent n e → Tells h n s → Tells (e ∷ h) n s
silent_stays h n e s q k = grind arith

other_silent : (n : ℕ) (e : Event) → (n ≡ subject e → ⊥) → Silent n e
other_silent n e d = grind (arith, nat_tests)

step_tells : (z : Sizes) (handbacks : ℕ) (vacant : Bool) (t : Ticket) (s : Status) (h : List Event) (r : Report) → soft t.phase ≡ true → Shows s (Some t)
    → r.number ≡ t.number → r.action ≡ duty z handbacks vacant t → Tells h t.number s
    → Tells (Event.stepped r ∷ h) t.number (turned (duty z handbacks vacant t) s)
step_tells z handbacks vacant t s h r e k i j l = grind (arith, nat_tests)

taking_tells : (h : List Event) (n : ℕ) (q : Request) → Tells h n Status.never → Tells (Event.taken n q ∷ h) n Status.undecided
taking_tells h n q l = grind (arith, nat_tests)

turned_taken : (a : Action) (s : Status) (t : Ticket) → Shows s (Some t) → was_taken (turned a s) ≡ was_taken s
turned_taken a s t k = grind arith

-- an event that tells of ticket t, which becomes us, turns its status into one that fits
abbrev Turns : List Event → Event → Ticket → List Ticket → Type 0
Turns h e t us =
    (s : Status) → Shows s (Some t) → Tells h t.number s
    → (u : Status) × Tells (e ∷ h) t.number u × Shows u (head_of us) × (was_taken u ≡ was_taken s)

step_turns : (x : Rack) (h : List Event) (t : Ticket) (row : ℕ) → soft t.phase ≡ true
    → Turns h (Event.stepped (report_of x t row)) t (after x.handbacks (action_of x t) t)
step_turns x h t row e s k l =
    let z = x.sizes in let b = x.handbacks in let v = has_vacant x (ahead t) in (
      turned (action_of x t) s,
      step_tells z b v t s h (report_of x t row) e k refl refl l,
      stepped_shows z b v t s e k,
      turned_taken (action_of x t) s t k,
    )

fetch_turns : (h : List Event) (t : Ticket) → t.phase ≡ Granted → Turns h (Event.collected t.number) t (with_phase Out t ∷ [])
fetch_turns h t e s k l = (s, grind arith, grind arith, refl)

leave_turns : (h : List Event) (t : Ticket) → t.phase ≡ Without → Turns h (Event.collected t.number) t []
leave_turns h t e s k l = (s, grind arith, grind arith, refl)

drop_turns : (h : List Event) (t : Ticket) → seeking t.phase ≡ true → Turns h (Event.dropped t.number) t (after_drop t)
drop_turns h t e s k l = (Status.withdrawn, grind (arith, nat_tests), grind (arith, nat_tests), grind arith)

back_turns : (h : List Event) (t : Ticket) → t.phase ≡ Out → Turns h (Event.returned t.number) t (with_phase Closing t ∷ [])
back_turns h t e s k l = (Status.returned, grind (arith, nat_tests), refl, grind arith)

module _ (h : List Event) (x : Rack) (sd : Sound x) (kinds : (n : ℕ) → Kind h x n) where
  -- at another number the status stays
  elsewhere : (e : Event) (y : Rack) (n : ℕ) → (n ≡ subject e → ⊥) → find (named n) y.tickets ≡ find (named n) x.tickets
      → (leb y.first n && ltb n y.next) ≡ (leb x.first n && ltb n x.next) → Kind (e ∷ h) y n
  elsewhere e y n d i j =
      let k = kinds n in
      record {
        status = k.status;
        told = silent_stays h n e k.status (other_silent n e d) k.told;
        shown = rw i k.shown;
        given_out = k.given_out ∙ sym j;
      }

  -- at the number of the ticket that changes it turns
  changed_kind : (e : Event) (y : Rack) (t : Ticket) (us : List Ticket) → subject e ≡ t.number → find (named t.number) x.tickets ≡ Some t
      → Change x y t us → Turns h e t us → (n : ℕ) → (n ≡ t.number) ⊎ (n ≡ t.number → ⊥) → Kind (e ∷ h) y n
  changed_kind e y t us i f c turns n (inl j) =
      let k = kinds t.number in
      let u = turns k.status (rw f at k.shown) k.told in
      subst (λ (m : ℕ). Kind (e ∷ h) y m) (sym j)
      (record { status = u.0; told = u.1; shown = rw c.own u.2; given_out = u.3 ∙ rw (c.first, c.next) k.given_out })
  changed_kind e y t us i f c turns n (inr d) = elsewhere e y n (λ j. d (j ∙ i)) (c.others n d) (rw (c.first, c.next) refl)

  next_never : (s : Status) (lo hi : ℕ) → was_taken s ≡ (leb lo hi && ltb hi hi) → s ≡ Status.never
  next_never s lo hi e = grind (arith, nat_tests)

  next_taken : (lo hi : ℕ) → lo ≤ hi → true ≡ (leb lo hi && ltb hi (suc hi))
  next_taken lo hi l = grind (arith, nat_tests)

  next_other : (lo hi n : ℕ) → (n ≡ hi → ⊥) → (leb lo n && ltb n (suc hi)) ≡ (leb lo n && ltb n hi)
  next_other lo hi n d = grind (arith, nat_tests)

  booked_kind : (q : Request) (n : ℕ) → (n ≡ x.next) ⊎ (n ≡ x.next → ⊥) → Kind (Event.taken x.next q ∷ h) (booked x q) n
  booked_kind q n (inl i) = subst (λ (m : ℕ). Kind (Event.taken x.next q ∷ h) (booked x q) m) (sym i) (new (kinds x.next))
    where
      new : Kind h x x.next → Kind (Event.taken x.next q ∷ h) (booked x q) x.next
      new k =
          let o : find (named x.next) (booked x q).tickets ≡ Some (ticket_for x q) =
          find_last x.next x.first x.next x.tickets (ticket_for x q) sd.rising (omega arith) refl in
          record {
            status = Status.undecided;
            told = taking_tells h x.next q (subst (Tells h x.next) (next_never k.status x.first x.next k.given_out) k.told);
            shown = rw o refl;
            given_out = next_taken x.first x.next (rising_top x.first x.next x.tickets sd.rising);
          }
  booked_kind q n (inr d) =
      elsewhere (Event.taken x.next q) (booked x q) n d (find_before n x.tickets (ticket_for x q) (λ j. d (sym j))) (next_other x.first x.next n d)

  kind_step : (e : Event) (y : Rack) → Effect x e y → (n : ℕ) → Kind (e ∷ h) y n
  kind_step _ _ (Effect.books q b) n = booked_kind q n (cases_eq n x.next)
  kind_step e y (Effect.steps s f i row fair) n =
      let w = worked x s in let k = works x sd s f i in
      changed_kind e y w (after x.handbacks (action_of x w) w) refl k.found (step_change x sd w k.found row) (step_turns x h w row k.is_soft) n
      (cases_eq n w.number)
  kind_step e y (Effect.fetches t f i) n =
      changed_kind e y t (with_phase Out t ∷ []) refl f (fetch_change x sd t f) (fetch_turns h t i) n (cases_eq n t.number)
  kind_step e y (Effect.leaves t f i) n = changed_kind e y t [] refl f (leave_change x sd t f) (leave_turns h t i) n (cases_eq n t.number)
  kind_step e y (Effect.drops t f i) n = changed_kind e y t (after_drop t) refl f (drop_change x sd t f) (drop_turns h t i) n (cases_eq n t.number)
  kind_step e y (Effect.backs t f i) n =
      changed_kind e y t (with_phase Closing t ∷ []) refl f (back_change x sd t f) (back_turns h t i) n (cases_eq n t.number)

kind_new : (x : Rack) (n : ℕ) → New x → Kind [] x n
kind_new x n (z, first, o, e) = subst (λ (y : Rack). Kind [] y n) (sym e)
    (record {
      status = Status.never;
      told = record { taken = refl; withdrawn = refl; denied = refl; granted = refl; returned = refl };
      shown = tt;
      given_out = none first n;
    })
  where
    none : (lo m : ℕ) → false ≡ (leb lo m && ltb m lo)
    none lo m = grind (arith, nat_tests)

pub kind : (h : List Event) (x : Rack) → Reaches h x → (n : ℕ) → Kind h x n
kind [] x r n = kind_new x n r
kind (e ∷ h) y r n = kind_step h r.0 (sound h r.0 r.1) (kind h r.0 r.1) e y (effect r.0 e y r.2) n
