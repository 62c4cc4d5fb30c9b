-- A seeking ticket that has seen the last hand-back has passed by columns that hold a wall each: what is booked stays until a hand-back.
use Rattle.std.proofs.Common.{◌≡◌, ℕ, suc, ◌+◌, ◌<◌, ◌≤◌, Bool, true, false, cond, ◌&&◌, eqb, ◌⊎◌, List, [], ◌∷◌, Some, sym, refl, ◌∙◌, subst, inl, inr, arith}
use Rattle.std.specs.List.{AllByRecursion}
use Rattle.std.proofs.ByRecursion.{All-push, All-weaker}
use Rattle.std.proofs.lemmas.Bool.{ltb-false, cases_lt}
use Rattle.std.proofs.lemmas.Bool.Decides.{nat_tests}
use Rattle.rules.specs.declared.ticket.Request.{Request}
use Rattle.rules.specs.declared.ticket.Ticket.{Ticket}
use Rattle.rules.specs.declared.ticket.Phase.{Phase}
use Rattle.rules.specs.declared.ticket.Phase.TheVariants.{Forward, Backing, Without, Granted, Out, Closing}
use Rattle.rules.specs.declared.report.Action.{Action}
use Rattle.rules.specs.declared.report.Action.TheVariants as action
use Rattle.rules.specs.Lists.{unit, total, find, edit}
use Rattle.rules.specs.declared.rack.Sizes.{Sizes}
use Rattle.rules.specs.Rack.{Rack, soft, hard, seeking, named, has_vacant}
use Rattle.rules.specs.Step.{ahead, worked, duty, action_of, after, acted, with_phase}
use Rattle.rules.specs.Calls.{ticket_for, booked, changed, withdrawn, returned}
use Rattle.rules.specs.History.{Event, Reaches}
use Rattle.rules.proofs.Listing.{all_in, all_edit, total_append, total_edit}
use Rattle.rules.proofs.Duties.{Says, says}
use Rattle.rules.proofs.Effects.{Effect, effect}
use Rattle.rules.specs.Sound.{Fit, Sound, marks_in, load, booked_in}
use Rattle.rules.proofs.Looks.{sees_vacant}
use Rattle.rules.proofs.Walks.{Works, works, meets_wall}
use Rattle.rules.proofs.Kept.{sound}

-- 1 if the ticket is granted or out and has a mark in column c
abbrev pub books_in : ℕ → Ticket → ℕ
books_in c t = unit (hard t.phase && marks_in c t)

-- what an action adds to the booked slots of column c: a grant the ticket's marks
abbrev pub gains : Action → Ticket → ℕ → ℕ
gains action.Wipe t c = 0
gains action.Over t c = 0
gains action.Without t c = 0
gains action.Grant t c = unit (marks_in c t)
gains action.Mark t c = 0
gains action.Wall t c = 0

books_after : (z : Sizes) (n : ℕ) (vacant : Bool) (c : ℕ) (t : Ticket) → soft t.phase ≡ true
    → total (books_in c) (after n (duty z n vacant t) t) ≡ gains (duty z n vacant t) t c
books_after z n vacant c t e = grind (arith, nat_tests)

pub soft_books : (c : ℕ) (t : Ticket) → soft t.phase ≡ true → books_in c t ≡ 0
soft_books c t e = grind (arith, nat_tests)

-- what is booked after a step
pub booked_acted : (x : Rack) (w : Ticket) (row c : ℕ) → find (named w.number) x.tickets ≡ Some w → soft w.phase ≡ true
    → booked_in c (acted x w row).tickets ≡ booked_in c x.tickets + gains (action_of x w) w c
booked_acted x w row c f e =
    omega (
      arith,
      total_edit (books_in c) (named w.number) (after x.handbacks (action_of x w)) x.tickets w f,
      books_after x.sizes x.handbacks (has_vacant x (ahead w)) c w e,
      soft_books c w e,
    )

-- neither a step nor a hand-back
abbrev pub Aside : Event → Type 0
Aside (Event.taken n q) = Unit
Aside (Event.stepped r) = ⊥
Aside (Event.collected n) = Unit
Aside (Event.dropped n) = Unit
Aside (Event.returned n) = ⊥

booked_edit : (c : ℕ) (f : Ticket → List Ticket) (ts : List Ticket) (t : Ticket) → find (named t.number) ts ≡ Some t → total (books_in c) (f t) ≡ books_in c t
    → booked_in c (edit (named t.number) f ts) ≡ booked_in c ts
booked_edit c f ts t p e = omega (arith, total_edit (books_in c) (named t.number) f ts t p)

books_withdrawn : (c : ℕ) (t : Ticket) → seeking t.phase ≡ true → total (books_in c) (withdrawn t) ≡ books_in c t
books_withdrawn c t e = grind (arith, nat_tests)

-- any other call leaves what is booked
pub booked_aside : (x : Rack) (e : Event) (y : Rack) → Effect x e y → Aside e → (c : ℕ) → booked_in c y.tickets ≡ booked_in c x.tickets
booked_aside x _ _ (Effect.books q b) a c = omega (arith, total_append (books_in c) x.tickets (ticket_for x q ∷ []))
booked_aside x _ _ (Effect.steps s f e row fair) a c = absurd a
booked_aside x _ _ (Effect.fetches t f e) a c = booked_edit c (λ u. with_phase Out u ∷ []) x.tickets t f (rw e (omega arith))
booked_aside x _ _ (Effect.leaves t f e) a c = booked_edit c (λ u. []) x.tickets t f (rw e refl)
booked_aside x _ _ (Effect.drops t f e) a c = booked_edit c withdrawn x.tickets t f (books_withdrawn c t e)
booked_aside x _ _ (Effect.backs t f e) a c = absurd a

-- each window of the request that starts below hi has a wall
abbrev pub Walled : Sizes → List Ticket → Request → ℕ → Type 0
Walled z ts q hi = (g : ℕ) → q.start ≤ g → g < hi → (c : ℕ) × (g ≤ c) × (c < g + q.length) × (z.rows ≤ booked_in c ts)

-- a seeking ticket has passed by the columns below this one
abbrev pub up_to : Phase → Ticket → ℕ
up_to Forward t = t.first
up_to (Backing g) t = g
up_to Without t = 0
up_to Granted t = 0
up_to Out t = 0
up_to Closing t = 0

-- if no slot was handed back since it set out, it passed by walls
abbrev pub Passed : Sizes → ℕ → List Ticket → Ticket → Type 0
Passed z n ts t = t.seen ≡ n → Walled z ts t.request (up_to t.phase t)

passed_more : (z : Sizes) (n : ℕ) (ts us : List Ticket) (t : Ticket) → ((c : ℕ) → booked_in c ts ≤ booked_in c us) → Passed z n ts t → Passed z n us t
passed_more z n ts us t m p = λ e g a b. let r = p e g a b in (r.0, r.1, r.2, let k = m r.0 in let j = r.3 in omega arith)

-- after a hand-back nobody has seen the count
passed_later : (z : Sizes) (n : ℕ) (ts : List Ticket) (t : Ticket) → t.seen ≤ n → Passed z (suc n) ts t
passed_later z n ts t l = λ e. absurd (omega arith)

-- where an action takes the ticket: no further than it was, behind a wall, or back to its start
abbrev limit : Action → Ticket → ℕ
limit action.Wipe t = up_to t.phase t
limit action.Over t = up_to t.phase t
limit action.Without t = up_to t.phase t
limit action.Grant t = up_to t.phase t
limit action.Mark t = up_to t.phase t
limit action.Wall t = ahead t + 1

abbrev Onward : Ticket → ℕ → Ticket → Type 0
Onward t hi u = (u.request ≡ t.request) × ((up_to u.phase u ≤ t.request.start) ⊎ ((u.seen ≡ t.seen) × (up_to u.phase u ≤ hi)))

onward : (z : Sizes) (n : ℕ) (vacant : Bool) (t : Ticket) → soft t.phase ≡ true
    → AllByRecursion (Onward t (limit (duty z n vacant t) t)) (after n (duty z n vacant t) t)
onward z n vacant t e = grind (arith, nat_tests)

passed_onward : (z : Sizes) (n : ℕ) (ts : List Ticket) (t : Ticket) (hi : ℕ) (u : Ticket)
    → (t.seen ≡ n → Walled z ts t.request hi) → Onward t hi u → Passed z n ts u
passed_onward z n ts t hi u w o e = subst (λ (q : Request). Walled z ts q (up_to u.phase u)) (sym o.0) (at o.1)
  where
    at : (up_to u.phase u ≤ t.request.start) ⊎ ((u.seen ≡ t.seen) × (up_to u.phase u ≤ hi)) → Walled z ts t.request (up_to u.phase u)
    at (inl l) = λ g a b. absurd (omega arith)
    at (inr r) = λ g a b. let k = r.1 in w (sym r.0 ∙ e) g a (omega arith)

-- a wall in column f + k rules out each window that starts from f up to there
walled_behind : (z : Sizes) (ts : List Ticket) (q : Request) (f k : ℕ) → k < q.length
    → z.rows ≤ booked_in (f + k) ts → Walled z ts q f → Walled z ts q (f + k + 1)
walled_behind z ts q f k l b w g a h = at (cases_lt g f)
  where
    at : (g < f) ⊎ (f ≤ g) → (c : ℕ) × (g ≤ c) × (c < g + q.length) × (z.rows ≤ booked_in c ts)
    at (inl p) = w g a p
    at (inr p) = (f + k, omega arith, omega arith, b)

module _ (x : Rack) (sd : Sound x) (w : Ticket) (k : Works x w) where
  -- the worked ticket is at a wall if it finds no vacant slot
  at_wall : Says x.sizes x.handbacks (has_vacant x (ahead w)) w action.Wall
      → (w.marks < w.request.length) × (x.sizes.rows ≤ booked_in (ahead w) x.tickets)
  at_wall y =
      let ft = all_in (Fit x.sizes x.handbacks) x.tickets w sd.fits k.inside in
      let held = ft.held in
      let inside = y.1 in
      let short = ne_lt w.marks w.request.length y.2 held in
      let full = ltb-false (load (ahead w) x.tickets) x.sizes.rows (sym (sees_vacant x sd (ahead w) (omega arith)) ∙ y.3) in
      (short, meets_wall x sd w k y.0 inside short full)
    where
      ne_lt : (m n : ℕ) → (m ≡ n → ⊥) → m ≤ n → m < n
      ne_lt m n d l = at (cases_lt m n)
        where
          at : (m < n) ⊎ (n ≤ m) → m < n
          at (inl p) = p
          at (inr p) = absurd (d (omega arith))

  walled_limit : (a : Action) → Says x.sizes x.handbacks (has_vacant x (ahead w)) w a → Passed x.sizes x.handbacks x.tickets w
      → w.seen ≡ x.handbacks → Walled x.sizes x.tickets w.request (limit a w)
  walled_limit action.Wipe y p e = p e
  walled_limit action.Over y p e = p e
  walled_limit action.Without y p e = p e
  walled_limit action.Grant y p e = p e
  walled_limit action.Mark y p e = p e
  walled_limit action.Wall y p e =
      let a = at_wall y in
      walled_behind x.sizes x.tickets w.request w.first w.marks a.0 a.1
      (subst (λ (s : Phase). Walled x.sizes x.tickets w.request (up_to s w)) y.0 (p e))

  passed_after : Passed x.sizes x.handbacks x.tickets w
      → AllByRecursion (Passed x.sizes x.handbacks x.tickets) (after x.handbacks (action_of x w) w)
  passed_after p =
      let vacant = has_vacant x (ahead w) in
      let y = says x.sizes x.handbacks vacant w k.is_soft in
      All-weaker (Onward w (limit (action_of x w) w)) (Passed x.sizes x.handbacks x.tickets) (λ u o. passed_onward x.sizes x.handbacks x.tickets w (limit (action_of x w) w) u (walled_limit (action_of x w) y p) o)
      (after x.handbacks (action_of x w) w)
      (onward x.sizes x.handbacks vacant w k.is_soft)

-- of all tickets of a rack
abbrev pub AllPassed : Rack → Type 0
AllPassed x = AllByRecursion (Passed x.sizes x.handbacks x.tickets) x.tickets

passed_grown : (z : Sizes) (n : ℕ) (ts us : List Ticket) → ((c : ℕ) → booked_in c ts ≤ booked_in c us) → AllByRecursion (Passed z n ts) us → AllByRecursion (Passed z n us) us
passed_grown z n ts us m a = All-weaker (Passed z n ts) (Passed z n us) (λ t p. passed_more z n ts us t m p) us a

none_passed : (z : Sizes) (ts : List Ticket) (q : Request) → Walled z ts q 0
none_passed z ts q g a b = absurd (omega arith)

withdrawn_passed : (z : Sizes) (n : ℕ) (ts : List Ticket) (t : Ticket) (b : Bool) → AllByRecursion (Passed z n ts) (cond b [] (with_phase Closing t ∷ []))
withdrawn_passed z n ts t true = tt
withdrawn_passed z n ts t false = ((λ _. none_passed z ts t.request), tt)

-- a call that changes ticket t, and leaves what is booked
walls_changed : (x : Rack) (t : Ticket) (f : Ticket → List Ticket) → find (named t.number) x.tickets ≡ Some t
    → ((c : ℕ) → booked_in c (changed x t f).tickets ≡ booked_in c x.tickets) → AllByRecursion (Passed x.sizes x.handbacks x.tickets) (f t)
    → AllPassed x → AllPassed (changed x t f)
walls_changed x t f i same a p =
    passed_grown x.sizes x.handbacks x.tickets (changed x t f).tickets (λ c. let k = same c in omega arith)
    (all_edit (Passed x.sizes x.handbacks x.tickets) (named t.number) f x.tickets t i a p)

walls_step : (x : Rack) (e : Event) (y : Rack) → Sound x → AllPassed x → Effect x e y → AllPassed y
walls_step x _ _ sd p (Effect.books q b) =
    passed_grown x.sizes x.handbacks x.tickets (booked x q).tickets
    (λ c. let k = booked_aside x (Event.taken x.next q) (booked x q) (Effect.books q b) tt c in omega arith)
    (All-push (Passed x.sizes x.handbacks x.tickets) x.tickets (ticket_for x q) p (λ e g a l. absurd (omega arith)))
walls_step x _ _ sd p (Effect.steps s f e row fair) =
    let w = worked x s in
    let k = works x sd s f e in
    passed_grown x.sizes x.handbacks x.tickets (acted x w row).tickets (λ c. let b = booked_acted x w row c k.found k.is_soft in omega arith)
    (all_edit (Passed x.sizes x.handbacks x.tickets) (named w.number) (after x.handbacks (action_of x w)) x.tickets w k.found
    (passed_after x sd w k (all_in (Passed x.sizes x.handbacks x.tickets) x.tickets w p k.inside)) p)
walls_step x _ _ sd p (Effect.fetches t f e) =
    let g : Ticket → List Ticket = λ u. with_phase Out u ∷ [] in
    walls_changed x t g f (booked_aside x (Event.collected t.number) (changed x t g) (Effect.fetches t f e) tt)
    ((λ _. none_passed x.sizes x.tickets t.request), tt) p
walls_step x _ _ sd p (Effect.leaves t f e) =
    let g : Ticket → List Ticket = λ u. [] in
    walls_changed x t g f (booked_aside x (Event.collected t.number) (changed x t g) (Effect.leaves t f e) tt) tt p
walls_step x _ _ sd p (Effect.drops t f e) =
    walls_changed x t withdrawn f (booked_aside x (Event.dropped t.number) (changed x t withdrawn) (Effect.drops t f e) tt)
    (withdrawn_passed x.sizes x.handbacks x.tickets t (eqb t.marks 0)) p
walls_step x _ _ sd p (Effect.backs t f e) =
    let y = returned x t in
    all_edit (Passed x.sizes (suc x.handbacks) y.tickets) (named t.number) (λ u. with_phase Closing u ∷ []) x.tickets t f
    ((λ _. none_passed x.sizes y.tickets t.request), tt)
    (All-weaker (Fit x.sizes x.handbacks) (Passed x.sizes (suc x.handbacks) y.tickets) (λ u k. passed_later x.sizes x.handbacks y.tickets u k.noted)
    x.tickets sd.fits)

-- a ticket that has seen the last hand-back has a wall in each window that it has passed by
pub walls : (h : List Event) (x : Rack) → Reaches h x → AllPassed x
walls [] x r = subst AllPassed (sym r.3) tt
walls (e ∷ h) y r = let x = r.0 in walls_step x e y (sound h x r.1) (walls h x r.1) (effect x e y r.2)
