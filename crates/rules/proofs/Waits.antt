-- Waiting ends: over the history, the reports since an undecided booking was taken and its budget are at most the longest wait.
use Rattle.std.proofs.Common.{◌≡◌, ℕ, suc, ◌+◌, ◌-◌, ◌<◌, ◌≤◌, Bool, true, false, cond, not, ◌&&◌, ◌||◌, eqb, leb, ◌⊎◌, List, [], ◌∷◌, ◌++◌, Some, sym, refl, ap, ◌∙◌, subst, inl, inr, arith}
use Rattle.std.specs.List.{AllByRecursion}
use Rattle.std.proofs.ByRecursion.{All-append}
use Rattle.std.proofs.lemmas.Bool.{both_ways, eqb-true, eqb-false, eq-eqb, cases_lt, cases_eq, cases_Bool, false≢true}
use Rattle.std.proofs.lemmas.Bool.Decides.{nat_tests}
use Rattle.rules.specs.declared.slot.Slot.{Slot}
use Rattle.rules.specs.declared.ticket.Ticket.{Ticket}
use Rattle.rules.specs.declared.ticket.Phase.{Phase}
use Rattle.rules.specs.declared.ticket.Phase.TheVariants.{Forward, Backing, Without, Granted, Out, Closing}
use Rattle.rules.specs.declared.report.Action.{Action}
use Rattle.rules.specs.declared.report.Action.TheVariants as action
use Rattle.rules.specs.Words.{is_grant, is_without}
use Rattle.rules.specs.Lists.{find, edit}
use Rattle.rules.specs.declared.rack.Sizes.{Sizes}
use Rattle.rules.specs.Rack.{Rack, seeking, soft, named, has_vacant}
use Rattle.rules.specs.Step.{ahead, worked, action_of, with_phase, with_marks, sets_out, redirect, wiped, after, acted}
use Rattle.rules.specs.Calls.{ticket_for, booked, withdrawn}
use Rattle.rules.specs.History.{Event, Reaches}
use Rattle.rules.specs.Accounts.{takes, grants, denies, withdraws, is_taken, is_withdrawn, is_denied, is_granted, is_undecided, waited}
use Rattle.rules.specs.Laws.{longest_wait, WaitingEnds}
use Rattle.rules.proofs.Listing.{In, Few, some_inj, find_in, find_push, all_in, all_edit}
use Rattle.rules.proofs.Tickets.{Same, Between, after_same, after_few, withdrawn_same, withdrawn_few, rising_between, find_other, find_same, find_last}
use Rattle.rules.proofs.Effects.{Effect, effect}
use Rattle.rules.specs.Sound.{Shape, Fit, Sound}
use Rattle.rules.proofs.Walks.{works, worked_near}
use Rattle.rules.proofs.Kept.{sound, sizes_stay}
use Rattle.rules.proofs.Budget.{budget, budget_step, budget_fetch, budget_leave, budget_drop, budget_back}
use Rattle.rules.proofs.Start.{budget_book, budget_start, budget_some}

-- a ticket more than the lead ahead of booking n has no mark
abbrev pub Calm : Sizes → ℕ → Ticket → Type 0
Calm z n t = n + z.lead < t.number → t.marks ≡ 0

-- booking n waits on the board
pub record Waits (x : Rack) (n : ℕ) : Type 0 where
  pub who : Ticket
  pub found : find (named n) x.tickets ≡ Some who
  pub seeks : seeking who.phase ≡ true
  pub calm : AllByRecursion (Calm x.sizes n) x.tickets
  pub under : n < x.next

-- how many numbers up to the lead ahead of n are not yet given out
abbrev pub ungiven : ℕ → Rack → ℕ
ungiven n x = suc (n + x.sizes.lead) - x.next

-- its budget
abbrev pub left : ℕ → Rack → ℕ
left n x = budget x.sizes n (ungiven n x) x.handbacks x.tickets

-- an action of a seeking ticket that does not decide it leaves it seeking
redirect_seeks : (n g : ℕ) (t : Ticket) → seeking (redirect n g t).phase ≡ true
redirect_seeks n g t = at (eqb t.marks 0)
  where
    at : (c : Bool) → seeking (cond c (sets_out n g t) (with_phase (Backing g) t)).phase ≡ true
    at true = refl
    at false = refl

wiped_seeks : (n : ℕ) (t : Ticket) (p : Phase) → t.phase ≡ p → seeking p ≡ true → (v : Ticket) × (wiped n p t ≡ v ∷ []) × (seeking v.phase ≡ true)
wiped_seeks n t Forward e s = (t, refl, ap seeking e)
wiped_seeks n t (Backing g) e s = (cond (leb t.marks 1) (sets_out n g t) (with_marks (t.marks - 1) t), refl, at (leb t.marks 1))
  where
    at : (c : Bool) → seeking (cond c (sets_out n g t) (with_marks (t.marks - 1) t)).phase ≡ true
    at true = refl
    at false = ap seeking e
wiped_seeks n t Without e s = absurd (false≢true s)
wiped_seeks n t Granted e s = absurd (false≢true s)
wiped_seeks n t Out e s = absurd (false≢true s)
wiped_seeks n t Closing e s = absurd (false≢true s)

stays : (n : ℕ) (t : Ticket) (a : Action) → seeking t.phase ≡ true → is_grant a ≡ false → is_without a ≡ false
    → (v : Ticket) × (after n a t ≡ v ∷ []) × (seeking v.phase ≡ true)
stays n t action.Wipe s g w = wiped_seeks n t t.phase refl s
stays n t action.Over s g w = (redirect n t.request.start t, refl, redirect_seeks n t.request.start t)
stays n t action.Without s g w = absurd (false≢true (sym w))
stays n t action.Grant s g w = absurd (false≢true (sym g))
stays n t action.Mark s g w = (with_marks (t.marks + 1) t, refl, s)
stays n t action.Wall s g w = (redirect n (ahead t + 1) t, refl, redirect_seeks n (ahead t + 1) t)

pub seeking_soft : (p : Phase) → seeking p ≡ true → soft p ≡ true
seeking_soft Forward e = refl
seeking_soft (Backing g) e = refl
seeking_soft Without e = e
seeking_soft Granted e = e
seeking_soft Out e = e
seeking_soft Closing e = refl

-- a rack after a call on a ticket: the numbers given out are the same
abbrev changes : Rack → ℕ → List Ticket → List Slot → Rack
changes x handbacks ts ss = record { sizes = x.sizes; first = x.first; next = x.next; handbacks = handbacks; tickets = ts; slots = ss }

module _ (x : Rack) (n : ℕ) where
  pub who_number : (k : Waits x n) → k.who.number ≡ n
  who_number k = eqb-true k.who.number n (find_in (named n) x.tickets k.who k.found).1

  pub who_in : (k : Waits x n) → In k.who x.tickets
  who_in k = (find_in (named n) x.tickets k.who k.found).0

  -- a call on another ticket
  calls_other : (handbacks : ℕ) (ss : List Slot) (t : Ticket) (f : Ticket → List Ticket) → Waits x n → (t.number ≡ n → ⊥)
      → find (named t.number) x.tickets ≡ Some t → ((u : Ticket) → Few (f u)) → ((u : Ticket) → AllByRecursion (Same u) (f u)) → AllByRecursion (Calm x.sizes n) (f t)
      → Waits (changes x handbacks (edit (named t.number) f x.tickets) ss) n
  calls_other handbacks ss t f k d e few same c =
      record {
        who = k.who;
        found = find_other n t.number f x.tickets (λ q. d (sym q)) few same ∙ k.found;
        seeks = k.seeks;
        calm = all_edit (Calm x.sizes n) (named t.number) f x.tickets t e c k.calm;
        under = k.under;
      }

  -- the ticket found under n is the one that waits
  is_who : (t : Ticket) (k : Waits x n) → find (named t.number) x.tickets ≡ Some t → t.number ≡ n → k.who ≡ t
  is_who t k f e = some_inj k.who t (sym k.found ∙ subst (λ (j : ℕ). find (named j) x.tickets ≡ Some t) e f)

  -- a ticket in another stage is another
  pub not_who : (t : Ticket) (p : Phase) → Waits x n → find (named t.number) x.tickets ≡ Some t → t.phase ≡ p → seeking p ≡ false
      → t.number ≡ n → ⊥
  not_who t p k f e s o = both_ways (seeking t.phase) (ap seeking e ∙ s) (subst (λ (u : Ticket). seeking u.phase ≡ true) (is_who t k f o) k.seeks)

  -- a ticket that is out has marks, so it is no more than the lead ahead
  pub out_near : (t : Ticket) → Sound x → Waits x n → In t x.tickets → t.phase ≡ Out → t.number ≤ n + x.sizes.lead
  out_near t sd k i e =
      let ft = all_in (Fit x.sizes x.handbacks) x.tickets t sd.fits i in
      let sh : Shape x.sizes Out t = subst (λ (p : Phase). Shape x.sizes p t) e ft.shape in
      let some = ft.some in
      let c = all_in (Calm x.sizes n) x.tickets t k.calm i in
      elim (cases_lt (n + x.sizes.lead) t.number) [ inl l ↦ absurd (omega (arith, c l, sh.0)) | inr l ↦ l ]

  -- what becomes of a ticket that is not so far ahead may have marks
  near_calm : (w : Ticket) (us : List Ticket) → w.number ≤ n + x.sizes.lead → AllByRecursion (Same w) us → AllByRecursion (Calm x.sizes n) us
  near_calm w [] h a = tt
  near_calm w (u ∷ us) h a = ((λ l. let q = a.0.0 in absurd (omega arith)), near_calm w us h a.1)

  withdrawn_calm : (t : Ticket) → Calm x.sizes n t → AllByRecursion (Calm x.sizes n) (withdrawn t)
  withdrawn_calm t h = at (eqb t.marks 0)
    where
      at : (c : Bool) → AllByRecursion (Calm x.sizes n) (cond c [] (with_phase Closing t ∷ []))
      at true = tt
      at false = (h, tt)

  -- while n waits, a step works on no ticket more than the lead ahead of it
  pub near : (s : Ticket) → Sound x → Waits x n → find (named s.number) x.tickets ≡ Some s → soft s.phase ≡ true
      → (worked x s).number ≤ n + x.sizes.lead
  near s sd k f e =
      let q = who_number k in
      let c = worked_near x sd s k.who f e (who_in k) (seeking_soft k.who.phase k.seeks)
      (subst (λ (j : ℕ). AllByRecursion (Calm x.sizes j) x.tickets) (sym q) k.calm) in
      omega arith

  -- an action of ticket w that does not decide n
  acts : (handbacks : ℕ) (ss : List Slot) (w : Ticket) (a : Action) → Waits x n → find (named w.number) x.tickets ≡ Some w
      → w.number ≤ n + x.sizes.lead → (eqb w.number n && is_grant a) ≡ false → (eqb w.number n && is_without a) ≡ false
      → (w.number ≡ n) ⊎ (w.number ≡ n → ⊥) → Waits (changes x handbacks (edit (named w.number) (after handbacks a) x.tickets) ss) n
  acts handbacks ss w a k f l g d (inr o) =
      calls_other handbacks ss w (after handbacks a) k o f (after_few handbacks a) (after_same handbacks a)
      (near_calm w (after handbacks a w) l (after_same handbacks a w))
  acts handbacks ss w a k f l g d (inl o) =
      let own = eq-eqb w.number n o in
      let s : seeking w.phase ≡ true = subst (λ (u : Ticket). seeking u.phase ≡ true) (is_who w k f o) k.seeks in
      let v = stays handbacks w a s (rw own at g) (rw own at d) in
      let same : AllByRecursion (Same w) (v.0 ∷ []) = subst (λ (us : List Ticket). AllByRecursion (Same w) us) v.1 (after_same handbacks a w) in
      record {
        who = v.0;
        found = subst (λ (j : ℕ). find (named n) (edit (named j) (after handbacks a) x.tickets) ≡ Some v.0) (sym o)
            (find_same n (after handbacks a) x.tickets w v.0 (subst (λ (j : ℕ). find (named j) x.tickets ≡ Some w) o f) v.1
            (same.0.0 ∙ o));
        seeks = v.2;
        calm = all_edit (Calm x.sizes n) (named w.number) (after handbacks a) x.tickets w f
            (near_calm w (after handbacks a w) l (after_same handbacks a w)) k.calm;
        under = k.under;
      }

-- how many reports an event is
abbrev pub reports : Event → ℕ
reports (Event.taken m q) = 0
reports (Event.stepped r) = 1
reports (Event.collected m) = 0
reports (Event.dropped m) = 0
reports (Event.returned m) = 0

-- an event that does not decide n leaves it waiting; a report pays one of its budget, and no other event raises it
waits_on : (x : Rack) (e : Event) (y : Rack) (n : ℕ) → Sound x → Waits x n → grants n e ≡ false → denies n e ≡ false → withdraws n e ≡ false
    → Effect x e y → Waits y n × (reports e + left n y ≤ left n x)
waits_on x _ _ n sd k g d w (Effect.books q b) = (
  record {
    who = k.who;
    found = find_push (named n) x.tickets k.who (ticket_for x q) k.found;
    seeks = k.seeks;
    calm = All-append (Calm x.sizes n) x.tickets (ticket_for x q ∷ []) k.calm ((λ _. refl), tt);
    under = let u = k.under in omega arith;
  },
  let u = budget_book x.sizes n x q k.under in omega arith,
)
waits_on x _ _ n sd k g d w (Effect.steps s f e row fair) =
    let t = worked x s in
    let c = works x sd s f e in
    let l = near x n s sd k f e in
    let h = all_in (Fit x.sizes x.handbacks) x.tickets t sd.fits c.inside in (
      acts x n x.handbacks (acted x t row).slots t (action_of x t) k c.found l g d (cases_eq t.number n),
      let u = budget_step x.sizes n (has_vacant x (ahead t)) (ungiven n x) x.handbacks x.tickets t c.found c.is_soft h l in omega arith,
    )
waits_on x _ _ n sd k g d w (Effect.fetches t f e) = (
  calls_other x n x.handbacks x.slots t (λ u. with_phase Out u ∷ []) k (not_who x n t Granted k f e refl) f
      (λ u. Few.one (with_phase Out u)) (λ u. ((refl, refl), tt))
      (all_in (Calm x.sizes n) x.tickets t k.calm (find_in (named t.number) x.tickets t f).0, tt),
  let u = budget_fetch x.sizes n (ungiven n x) x.handbacks x.tickets t f e in omega arith,
)
waits_on x _ _ n sd k g d w (Effect.leaves t f e) = (
  calls_other x n x.handbacks x.slots t (λ u. []) k (not_who x n t Without k f e refl) f (λ u. Few.none) (λ u. tt) tt,
  let u = budget_leave x.sizes n (ungiven n x) x.handbacks x.tickets t f in omega arith,
)
waits_on x _ _ n sd k g d w (Effect.drops t f e) = (
  calls_other x n x.handbacks x.slots t withdrawn k (eqb-false t.number n w) f withdrawn_few withdrawn_same
      (withdrawn_calm x n t (all_in (Calm x.sizes n) x.tickets t k.calm (find_in (named t.number) x.tickets t f).0)),
  let u = budget_drop x.sizes n (ungiven n x) x.handbacks x.tickets t f e in omega arith,
)
waits_on x _ _ n sd k g d w (Effect.backs t f e) =
    let i = (find_in (named t.number) x.tickets t f).0 in
    let o = not_who x n t Out k f e refl in (
      calls_other x n (suc x.handbacks) x.slots t (λ u. with_phase Closing u ∷ []) k o f (λ u. Few.one (with_phase Closing u)) (λ u. ((refl, refl), tt))
          (all_in (Calm x.sizes n) x.tickets t k.calm i, tt),
      let u = budget_back x.sizes n (ungiven n x) x.handbacks x.tickets t f e (out_near x n t sd k i e) o in omega arith,
    )

-- a booking that is taken waits, and no ticket is ahead of it
none_ahead : (z : Sizes) (lo n : ℕ) (ts : List Ticket) → AllByRecursion (Between lo n) ts → AllByRecursion (Calm z n) ts
none_ahead z lo n [] a = tt
none_ahead z lo n (t ∷ ts) a = ((λ l. let k = a.0.1 in absurd (omega arith)), none_ahead z lo n ts a.1)

waits_from : (x : Rack) (e : Event) (y : Rack) (n : ℕ) → Sound x → takes n e ≡ true → Effect x e y → Waits y n × (left n y ≤ longest_wait x.sizes)
waits_from x _ _ n sd q (Effect.books r b) =
    let u = rising_between x.first x.next x.tickets sd.rising in
    subst (λ (j : ℕ). Waits (booked x r) j × (left j (booked x r) ≤ longest_wait x.sizes)) (eqb-true x.next n q) (
      record {
        who = ticket_for x r;
        seeks = refl;
        under = omega arith;
        found = find_last x.next x.first x.next x.tickets (ticket_for x r) sd.rising (omega arith) refl;
        calm = All-append (Calm x.sizes x.next) x.tickets (ticket_for x r ∷ [])
            (none_ahead x.sizes x.first x.next x.tickets u) ((λ _. refl), tt);
      },
      budget_start x.sizes x.first x r sd.fits u b.place,
    )
waits_from x _ _ n sd q (Effect.steps s f e row fair) = absurd (false≢true q)
waits_from x _ _ n sd q (Effect.fetches t f e) = absurd (false≢true q)
waits_from x _ _ n sd q (Effect.leaves t f e) = absurd (false≢true q)
waits_from x _ _ n sd q (Effect.drops t f e) = absurd (false≢true q)
waits_from x _ _ n sd q (Effect.backs t f e) = absurd (false≢true q)

-- what an event adds to the wait
pub waited_on : (e : Event) (h : List Event) (n : ℕ) → takes n e ≡ false → waited n (e ∷ h) ≡ reports e + waited n h
waited_on (Event.taken m q) h n t = rw t (omega arith)
waited_on (Event.stepped r) h n t = omega arith
waited_on (Event.collected m) h n t = omega arith
waited_on (Event.dropped m) h n t = omega arith
waited_on (Event.returned m) h n t = omega arith

pub waited_from : (e : Event) (h : List Event) (n : ℕ) → takes n e ≡ true → waited n (e ∷ h) ≡ 0
waited_from (Event.taken m q) h n t = rw t refl
waited_from (Event.stepped r) h n t = absurd (false≢true t)
waited_from (Event.collected m) h n t = absurd (false≢true t)
waited_from (Event.dropped m) h n t = absurd (false≢true t)
waited_from (Event.returned m) h n t = absurd (false≢true t)

-- a booking undecided after an event was taken by it, or was undecided before; and the event did not decide it
pub record StillUndecided (e : Event) (h : List Event) (n : ℕ) : Type 0 where
  pub not_granted : grants n e ≡ false
  pub not_denied : denies n e ≡ false
  pub not_withdrawn : withdraws n e ≡ false
  pub before : takes n e ≡ false → is_undecided h n ≡ true

undecided_at : (t T w W d D g G : Bool) → ((t || T) && not ((w || W) || ((d || D) || (g || G)))) ≡ true
    → (g ≡ false) × (d ≡ false) × (w ≡ false) × (t ≡ false → (T && not (W || (D || G))) ≡ true)
undecided_at t T w W d D g G e = (grind (arith, nat_tests), grind (arith, nat_tests), grind (arith, nat_tests), λ k. grind (arith, nat_tests))

pub still_undecided : (e : Event) (h : List Event) (n : ℕ) → is_undecided (e ∷ h) n ≡ true → StillUndecided e h n
still_undecided e h n u =
    let k = undecided_at (takes n e) (is_taken h n) (withdraws n e) (is_withdrawn h n) (denies n e) (is_denied h n) (grants n e) (is_granted h n) u in
    record { not_granted = k.0; not_denied = k.1; not_withdrawn = k.2; before = k.3 }

waits_at : (x : Rack) (e : Event) (y : Rack) (h : List Event) (n : ℕ) → Sound x → StillUndecided e h n
    → (is_undecided h n ≡ true → Waits x n × (waited n h + left n x ≤ longest_wait x.sizes)) → Effect x e y
    → (takes n e ≡ true) ⊎ (takes n e ≡ false) → Waits y n × (waited n (e ∷ h) + left n y ≤ longest_wait x.sizes)
waits_at x e y h n sd k ih f (inl t) = let w = waits_from x e y n sd t f in (w.0, let i = waited_from e h n t in let l = w.1 in omega arith)
waits_at x e y h n sd k ih f (inr t) =
    let b = ih (k.before t) in
    let w = waits_on x e y n sd b.0 k.not_granted k.not_denied k.not_withdrawn f in
    (w.0, let i = waited_on e h n t in let l = b.1 in let m = w.1 in omega arith)

-- the induction over the history
pub waits : (h : List Event) (x : Rack) → Reaches h x → (n : ℕ) → is_undecided h n ≡ true
    → Waits x n × (waited n h + left n x ≤ longest_wait x.sizes)
waits [] x r n u = absurd (false≢true u)
waits (e ∷ h) y r n u =
    let x = r.0 in
    let f = effect x e y r.2 in
    let w = waits_at x e y h n (sound h x r.1) (still_undecided e h n u) (λ v. waits h x r.1 n v) f (cases_Bool (takes n e)) in
    (w.0, subst (λ (z : Sizes). waited n (e ∷ h) + left n y ≤ longest_wait z) (sym (sizes_stay x e y f).0) w.1)

-- what a history told before led to a rack with the same sizes
pub reaches_before : (later earlier : List Event) (x : Rack) → Reaches (later ++ earlier) x → (w : Rack) × Reaches earlier w × (w.sizes ≡ x.sizes)
reaches_before [] earlier x r = (x, r, refl)
reaches_before (e ∷ later) earlier y r =
    let k = reaches_before later earlier r.0 r.1 in
    (k.0, k.1, k.2 ∙ sym (sizes_stay r.0 e y (effect r.0 e y r.2)).0)

pub waits_less : (h : List Event) (x : Rack) → Reaches h x → (n : ℕ) → is_undecided h n ≡ true → waited n h < longest_wait x.sizes
waits_less h x r n u =
    let w = waits h x r n u in
    let k = w.0 in
    let q = who_number x n k in
    let one = budget_some x.sizes n (ungiven n x) x.handbacks x.tickets k.who (who_in x n k) (omega arith) k.seeks in
    let l = w.1 in
    omega arith

pub waiting : (h : List Event) (x : Rack) → Reaches h x → WaitingEnds x.sizes h
waiting h x r later earlier e n u =
    let k = reaches_before later earlier x (subst (λ (j : List Event). Reaches j x) e r) in
    subst (λ (z : Sizes). waited n earlier < longest_wait z) k.2 (waits_less earlier k.0 k.1 n u)
