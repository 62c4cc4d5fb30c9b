-- Every turn of a lawful chooser extends the history that leads to the rack: so what holds of histories holds of lists of calls.
use Rattle.std.proofs.Common.{◌≡◌, ℕ, zero, suc, ◌*◌, ◌≤◌, min, Bool, true, false, cond, eqb, leb, ◌⊎◌, List, [], ◌∷◌, ◌++◌, map, reverse, length, drop, Some, None, Ok, Err, Option, Result, sym, refl, ap, ◌∙◌, subst, inl, inr, arith}
use mathlib.Core.List.{reverse_aux-eq}
use Rattle.std.specs.List.{AllByRecursion}
use Rattle.std.proofs.lemmas.List.{length-take}
use Rattle.std.proofs.lemmas.Bool.{and_parts, leb-true}
use Rattle.std.proofs.lemmas.Bool.Decides.{nat_tests}
use Rattle.rules.specs.declared.ticket.Request.{Request}
use Rattle.rules.specs.declared.ticket.Ticket.{Ticket}
use Rattle.rules.specs.declared.ticket.Phase.{Phase}
use Rattle.rules.specs.declared.ticket.Phase.TheVariants.{Forward, Backing, Without, Granted, Out, Closing}
use Rattle.rules.specs.declared.ticket.Stage.{Stage}
use Rattle.rules.specs.declared.ticket.Stage.TheVariants as stage
use Rattle.rules.specs.declared.report.Action.TheVariants as action
use Rattle.rules.specs.declared.refusal.Refusal.{Refusal}
use Rattle.rules.specs.declared.refusal.Refusal.TheVariants as refusal
use Rattle.rules.specs.Words.{stage_of}
use Rattle.rules.specs.Lists.{find}
use Rattle.rules.specs.declared.rack.Sizes.{Sizes}
use Rattle.rules.specs.Rack.{Rack, soft, named, cells, has_vacant}
use Rattle.rules.specs.Step.{ahead, duty, worked, due_for, due, report_of, acted}
use Rattle.rules.specs.declared.asked.Asked.{Asked}
use Rattle.rules.specs.Choosers.{Meaning, Lawful, asked}
use Rattle.rules.specs.Calls.{Outcome, Ran, Moved, within, admission, book_with, book, at_ticket, collect_at, collect, drop_at, drop', back_at, back, stage_found, stage_at, still, row_for, held_after, step_with, step, onward, steps, drive_with, drive}
use Rattle.rules.specs.History.{Event, Fair, Accepts, New, Reaches}
use Rattle.rules.specs.Laws.{LawsHold}
use Rattle.rules.specs.Play.{Call, recalling, Turn, Told, tells_of, turned, played, EveryListOfCallsHolds, DriveCounts, DriveEnds}
use Rattle.rules.proofs.Effects.{effect}
use Rattle.rules.proofs.Kept.{sizes_stay}
use Rattle.rules.proofs.Masks.{some_vacant}

-- two constructors are never equal
-- a rack has at most 16 rows
rows_new : (x : Rack) → New x → x.sizes.rows ≤ 16
rows_new x (z, first, o, e) =
    let p = and_parts (within 1 16 z.rows) _ o in
    let q = and_parts (leb 1 z.rows) (leb z.rows 16) p.0 in
    let k = leb-true z.rows 16 q.1 in
    let s : x.sizes.rows ≡ z.rows = ap (λ (y : Rack). y.sizes.rows) e in
    omega arith

pub rows_most : (h : List Event) (x : Rack) → Reaches h x → x.sizes.rows ≤ 16
rows_most [] x r = rows_new x r
rows_most (e ∷ h) y (x, r, a) =
    let k = rows_most h x r in
    let s = ap (λ (z : Sizes). z.rows) (sizes_stay x e y (effect x e y a)).0 in
    omega arith

pub cells_most : (x : Rack) (c : ℕ) → length (cells x c) ≤ x.sizes.rows
cells_most x c = let k = length-take x.sizes.rows (drop (c * x.sizes.rows) x.slots) in omega arith

-- a ticket marks only where the column ahead has a vacant slot
mark_vacant : (z : Sizes) (handbacks : ℕ) (vacant : Bool) (t : Ticket) → duty z handbacks vacant t ≡ action.Mark → vacant ≡ true
mark_vacant z handbacks vacant t e = grind (arith, nat_tests)

-- then a lawful chooser picks a vacant row
pub picks_fair : {S : Type 0} (m : Meaning S) → Lawful m → (h : List Event) (x : Rack) → Reaches h x → (t : Ticket) (s : S) → Fair x t (row_for m x t s)
picks_fair m lawful h x r t s e =
    let v = mark_vacant x.sizes x.handbacks (has_vacant x (ahead t)) t e in
    let k : length (cells x (ahead t)) ≤ 16 = omega (arith, cells_most x (ahead t), rows_most h x r) in
    let p = some_vacant (cells x (ahead t)) k v in
    lawful s (asked x t) p.0 p.1

-- the history, with the reports of steps that ran, leads to the rack that they left
abbrev pub Leads : {S : Type 0} → List Event → Ran S → Type 0
Leads h ran = Reaches (reverse (map Event.stepped ran.reports) ++ h) ran.rack

-- the report of a step is older than those of the steps that follow it
told_first : (e : Event) (es h : List Event) → reverse es ++ (e ∷ h) ≡ reverse (e ∷ es) ++ h
told_first e es h = sym (reverse_aux-eq es (e ∷ h)) ∙ reverse_aux-eq (e ∷ es) h

either_leads : {A S : Type 0} (h : List Event) (b : Bool) (p q : Moved A S) → Leads h p.ran → Leads h q.ran → Leads h (cond b p q).ran
either_leads h true p q l r = l
either_leads h false p q l r = r

module _ {S : Type 0} (m : Meaning S) where
  -- where no step is due, none is made; where one is, the others follow it
  pub steps_none : (k : ℕ) (x : Rack) (n : ℕ) (s : S) (e : Refusal) → due x n ≡ Err e → steps m (suc k) x n s ≡ still x s
  steps_none k x n s e d = rw (d, steps) refl

  pub steps_more : (k : ℕ) (x : Rack) (n : ℕ) (s : S) (t : Ticket) → due x n ≡ Ok t
      → steps m (suc k) x n s ≡ onward m x t s (steps m k (acted x t (row_for m x t s)) n (held_after m x t s))
  steps_more k x n s t d = rw (d, steps) refl

module _ {S : Type 0} (m : Meaning S) (lawful : Lawful m) where
  -- the ticket that is due makes one step
  due_reaches : (h : List Event) (x : Rack) → Reaches h x → (n : ℕ) (t : Ticket) (s : S) → due x n ≡ Ok t
      → Reaches (Event.stepped (report_of x t (row_for m x t s)) ∷ h) (acted x t (row_for m x t s))
  due_reaches h x r n t s d = (x, r, Accepts.steps n (row_for m x t s) t d (picks_fair m lawful h x r t s))

  step_at : (h : List Event) (x : Rack) → Reaches h x → (n : ℕ) (s : S) (o : Result Ticket Refusal) → due x n ≡ o → Leads h (step_with m x s o).ran
  step_at h x r n s (Err e) d = r
  step_at h x r n s (Ok t) d = due_reaches h x r n t s d

  -- the history with the step's report leads to the rack after it; a refused step tells nothing and leaves the rack
  pub step_reaches : (h : List Event) (x : Rack) → Reaches h x → (n : ℕ) (s : S)
      → Reaches (reverse (map Event.stepped (step m x n s).ran.reports) ++ h) (step m x n s).ran.rack
  step_reaches h x r n s = step_at h x r n s (due x n) refl

  steps_at : (k : ℕ) (h : List Event) (x : Rack) → Reaches h x → (n : ℕ) (s : S) (o : Result Ticket Refusal) → due x n ≡ o
      → ((h : List Event) (x : Rack) → Reaches h x → (s : S) → Leads h (steps m k x n s)) → Leads h (steps m (suc k) x n s)
  steps_at k h x r n s (Err e) d ih = subst (Leads h) (sym (steps_none m k x n s e d)) r
  steps_at k h x r n s (Ok t) d ih =
      let row = row_for m x t s in
      let e = Event.stepped (report_of x t row) in
      let rest = steps m k (acted x t row) n (held_after m x t s) in
      subst (Leads h) (sym (steps_more m k x n s t d))
      (subst (λ (es : List Event). Reaches es rest.rack) (told_first e (map Event.stepped rest.reports) h)
      (ih (e ∷ h) (acted x t row) (due_reaches h x r n t s d) (held_after m x t s)))

  -- so with the reports of several
  pub steps_reaches : (k : ℕ) (h : List Event) (x : Rack) → Reaches h x → (n : ℕ) (s : S)
      → Reaches (reverse (map Event.stepped (steps m k x n s).reports) ++ h) (steps m k x n s).rack
  steps_reaches zero h x r n s = r
  steps_reaches (suc k) h x r n s = steps_at k h x r n s (due x n) refl (λ h x r s. steps_reaches k h x r n s)

  drive_at : (h : List Event) (x : Rack) → Reaches h x → (n budget room : ℕ) (s : S) (o : Result Ticket Refusal)
      → Leads h (drive_with m x n budget room s o).ran
  drive_at h x r n budget room s (Err e) = r
  drive_at h x r n budget room s (Ok t) = either_leads h (eqb room 0) _ _ r (steps_reaches (min budget room) h x r n s)

  -- and with those of a drive
  pub drive_reaches : (h : List Event) (x : Rack) → Reaches h x → (n budget room : ℕ) (s : S)
      → Reaches (reverse (map Event.stepped (drive m x n budget room s).ran.reports) ++ h) (drive m x n budget room s).ran.rack
  drive_reaches h x r n budget room s = drive_at h x r n budget room s (due x n)

module _ {S : Type 0} (m : Meaning S) where
  step_refused_at : (x : Rack) (s : S) (e : Refusal) (o : Result Ticket Refusal) → (step_with m x s o).answer ≡ Err e → (step_with m x s o).ran ≡ still x s
  step_refused_at x s e (Err f) k = refl
  step_refused_at x s e (Ok t) k = cc

  -- a refused step or drive changes nothing
  pub step_refused : (x : Rack) (n : ℕ) (s : S) (e : Refusal) → (step m x n s).answer ≡ Err e → (step m x n s).ran ≡ still x s
  step_refused x n s e k = step_refused_at x s e (due x n) k

  full_at : (none all : Ran S) (a : ℕ × Stage) (e : Refusal) (b : Bool)
      → let o : Moved (ℕ × Stage) S = cond b (record { answer = Err refusal.Full; ran = none }) (record { answer = Ok a; ran = all }) in
      o.answer ≡ Err e → o.ran ≡ none
  full_at none all a e true k = refl
  full_at none all a e false k = cc

  drive_refused_at : (x : Rack) (n budget room : ℕ) (s : S) (e : Refusal) (o : Result Ticket Refusal) → (drive_with m x n budget room s o).answer ≡ Err e
      → (drive_with m x n budget room s o).ran ≡ still x s
  drive_refused_at x n budget room s e (Err f) k = refl
  drive_refused_at x n budget room s e (Ok t) k = full_at (still x s) (steps m (min budget room) x n s) _ e (eqb room 0) k

  pub drive_refused : (x : Rack) (n budget room : ℕ) (s : S) (e : Refusal) → (drive m x n budget room s).answer ≡ Err e → (drive m x n budget room s).ran ≡ still x s
  drive_refused x n budget room s e k = drive_refused_at x n budget room s e (due x n) k

-- an accepted book, collect, drop or back tells its event
book_at : (x : Rack) (q : Request) (n : ℕ) (o : Option Refusal) → admission x q ≡ o → (book_with x q o).answer ≡ Ok n → Accepts x (Event.taken n q) (book_with x q o).rack
book_at x q n (Some e) a k = cc
book_at x q n None a k = let e : x.next ≡ n = cc in subst (λ (i : ℕ). Accepts x (Event.taken i q) (book_with x q None).rack) e (Accepts.books q a)

pub book_accepts : (x : Rack) (q : Request) (n : ℕ) → (book x q).answer ≡ Ok n → Accepts x (Event.taken n q) (book x q).rack
book_accepts x q n k = book_at x q n (admission x q) refl k

-- a refused one changes nothing
refused_at : {A : Type 0} (x : Rack) (g : Ticket → Outcome A) (e : Refusal) (o : Option Ticket) → ((t : Ticket) → (g t).answer ≡ Err e → (g t).rack ≡ x)
    → (at_ticket x g o).answer ≡ Err e → (at_ticket x g o).rack ≡ x
refused_at x g e None k r = refl
refused_at x g e (Some t) k r = k t r

book_refused_at : (x : Rack) (q : Request) (e : Refusal) (o : Option Refusal) → (book_with x q o).answer ≡ Err e → (book_with x q o).rack ≡ x
book_refused_at x q e (Some f) r = refl
book_refused_at x q e None r = cc

pub book_refused : (x : Rack) (q : Request) (e : Refusal) → (book x q).answer ≡ Err e → (book x q).rack ≡ x
book_refused x q e r = book_refused_at x q e (admission x q) r

collect_refused_at : (x : Rack) (t : Ticket) (e : Refusal) (p : Phase) → (collect_at x t p).answer ≡ Err e → (collect_at x t p).rack ≡ x
collect_refused_at x t e Granted r = cc
collect_refused_at x t e Without r = cc
collect_refused_at x t e Forward r = refl
collect_refused_at x t e (Backing g) r = refl
collect_refused_at x t e Out r = refl
collect_refused_at x t e Closing r = refl

pub collect_refused : (x : Rack) (n : ℕ) (e : Refusal) → (collect x n).answer ≡ Err e → (collect x n).rack ≡ x
collect_refused x n e r = refused_at x (λ t. collect_at x t t.phase) e (find (named n) x.tickets) (λ t k. collect_refused_at x t e t.phase k) r

drop_refused_at : (x : Rack) (t : Ticket) (e : Refusal) (p : Phase) → (drop_at x t p).answer ≡ Err e → (drop_at x t p).rack ≡ x
drop_refused_at x t e Forward r = cc
drop_refused_at x t e (Backing g) r = cc
drop_refused_at x t e Without r = refl
drop_refused_at x t e Granted r = refl
drop_refused_at x t e Out r = refl
drop_refused_at x t e Closing r = refl

pub drop_refused : (x : Rack) (n : ℕ) (e : Refusal) → (drop' x n).answer ≡ Err e → (drop' x n).rack ≡ x
drop_refused x n e r = refused_at x (λ t. drop_at x t t.phase) e (find (named n) x.tickets) (λ t k. drop_refused_at x t e t.phase k) r

back_refused_at : (x : Rack) (t : Ticket) (e : Refusal) (p : Phase) → (back_at x t p).answer ≡ Err e → (back_at x t p).rack ≡ x
back_refused_at x t e Out r = cc
back_refused_at x t e Forward r = refl
back_refused_at x t e (Backing g) r = refl
back_refused_at x t e Without r = refl
back_refused_at x t e Granted r = refl
back_refused_at x t e Closing r = refl

pub back_refused : (x : Rack) (n : ℕ) (e : Refusal) → (back x n).answer ≡ Err e → (back x n).rack ≡ x
back_refused x n e r = refused_at x (λ t. back_at x t t.phase) e (find (named n) x.tickets) (λ t k. back_refused_at x t e t.phase k) r

-- what was told leads to the rack
abbrev pub Reached : Told → Type 0
Reached p = Reaches p.history p.rack

pub tells_reaches : {A : Type 0} (p : Told) → Reached p → (f : A → Event) (y : Rack) (o : Result A Refusal)
    → ((a : A) → o ≡ Ok a → Accepts p.rack (f a) y) → ((e : Refusal) → o ≡ Err e → y ≡ p.rack) → Reached (tells_of p f y o)
tells_reaches p r f y (Err e) k l = subst (Reaches p.history) (sym (l e refl)) r
tells_reaches p r f y (Ok a) k l = (p.rack, r, k a refl)

-- a turn leads on
pub turn_reaches : (p : Told) → Reached p → (choose : List Asked → Asked → ℕ) → Lawful (recalling choose) → (c : Call) → Reached (turned p choose c)
turn_reaches p r choose lawful (Call.booking q) =
    let x = p.rack in
    tells_reaches p r (λ n. Event.taken n q) (book x q).rack (book x q).answer (λ n k. book_accepts x q n k) (λ e k. book_refused x q e k)
turn_reaches p r choose lawful (Call.stepping n) = step_reaches (recalling choose) lawful p.history p.rack r n []
turn_reaches p r choose lawful (Call.driving n budget room) = drive_reaches (recalling choose) lawful p.history p.rack r n budget room []
turn_reaches p r choose lawful (Call.collecting n) =
    let x = p.rack in
    tells_reaches p r (λ _. Event.collected n) (collect x n).rack (collect x n).answer (λ o k. Accepts.collects n o k) (λ e k. collect_refused x n e k)
turn_reaches p r choose lawful (Call.dropping n) =
    let x = p.rack in
    tells_reaches p r (λ _. Event.dropped n) (drop' x n).rack (drop' x n).answer (λ _ k. Accepts.drops n k) (λ e k. drop_refused x n e k)
turn_reaches p r choose lawful (Call.returning n) =
    let x = p.rack in
    tells_reaches p r (λ _. Event.returned n) (back x n).rack (back x n).answer (λ _ k. Accepts.backs n k) (λ e k. back_refused x n e k)

-- and so does a list of turns
pub play_reaches : (p : Told) → Reached p → (ts : List Turn) → AllByRecursion (λ t. Lawful (recalling t.choose)) ts → Reached (played p ts)
play_reaches p r [] a = r
play_reaches p r (t ∷ ts) (l, a) = play_reaches (turned p t.choose t.call) (turn_reaches p r t.choose l t.call) ts a

pub every_list : LawsHold → EveryListOfCallsHolds
every_list laws x new ts a =
    let p = played (record { history = []; rack = x }) ts in
    let r = play_reaches (record { history = []; rack = x }) new ts a in
    (r, laws p.history p.rack r)

-- a ticket that makes no step is neither seeking nor closing
abbrev Settled : Stage → Type 0
Settled last = (last ≡ stage.Seeking → ⊥) × (last ≡ stage.Closing → ⊥)

settled_phase : (w : Ticket) (p : Phase) (e : Refusal) → cond (soft p) (Ok w) (Err refusal.Stage) ≡ Err e → Settled (stage_of p)
settled_phase w Forward e d = cc
settled_phase w (Backing g) e d = cc
settled_phase w Without e d = (λ k. cc, λ k. cc)
settled_phase w Granted e d = (λ k. cc, λ k. cc)
settled_phase w Out e d = (λ k. cc, λ k. cc)
settled_phase w Closing e d = cc

settled_at : (x : Rack) (o : Option Ticket) (e : Refusal) → due_for x o ≡ Err e → Settled (stage_found o)
settled_at x None e d = (λ k. cc, λ k. cc)
settled_at x (Some t) e d = settled_phase (worked x t) t.phase e d

settled : (x : Rack) (n : ℕ) (e : Refusal) → due x n ≡ Err e → Settled (stage_at x n)
settled x n e d = settled_at x (find (named n) x.tickets) e d

module _ {S : Type 0} (m : Meaning S) where
  -- steps end when none is due, or all are made
  abbrev Ends : ℕ → ℕ → Ran S → Type 0
  Ends k n ran = (length ran.reports ≤ k) × (Settled (stage_at ran.rack n) ⊎ (length ran.reports ≡ k))

  one_more : (k n : ℕ) (x : Rack) (t : Ticket) (s : S) (rest : Ran S) → Ends k n rest → Ends (suc k) n (onward m x t s rest)
  one_more k n x t s rest (l, inl z) = (omega arith, inl z)
  one_more k n x t s rest (l, inr e) = (omega arith, inr (omega arith))

  ends_at : (k : ℕ) (x : Rack) (n : ℕ) (s : S) (o : Result Ticket Refusal) → due x n ≡ o → ((x : Rack) (s : S) → Ends k n (steps m k x n s))
      → Ends (suc k) n (steps m (suc k) x n s)
  ends_at k x n s (Err e) d ih = subst (Ends (suc k) n) (sym (steps_none m k x n s e d)) (omega arith, inl (settled x n e d))
  ends_at k x n s (Ok t) d ih =
      let rest = steps m k (acted x t (row_for m x t s)) n (held_after m x t s) in
      subst (Ends (suc k) n) (sym (steps_more m k x n s t d)) (one_more k n x t s rest (ih (acted x t (row_for m x t s)) (held_after m x t s)))

  steps_end : (k : ℕ) (x : Rack) (n : ℕ) (s : S) → Ends k n (steps m k x n s)
  steps_end zero x n s = (omega arith, inr refl)
  steps_end (suc k) x n s = ends_at k x n s (due x n) refl (λ x s. steps_end k x n s)

  -- what an accepted drive did
  record Drove (ran all : Ran S) (n count : ℕ) (last : Stage) : Type 0 where
    is_all : ran ≡ all
    count_is : count ≡ length all.reports
    last_is : last ≡ stage_at all.rack n

  ok_pair : (a c : ℕ) (b d : Stage) → ◌≡◌ {A = Result (ℕ × Stage) Refusal} (Ok (a, b)) (Ok (c, d)) → (c ≡ a) × (d ≡ b)
  ok_pair a c b d e =
      let p : ◌≡◌ {A = ℕ × Stage} (c, d) (a, b) = cc in
      (ap (λ (q : ℕ × Stage). q.0) p, ap (λ (q : ℕ × Stage). q.1) p)

  drove_at : (none all : Ran S) (n count : ℕ) (last : Stage) (b : Bool)
      → let o : Moved (ℕ × Stage) S =
      cond b (record { answer = Err refusal.Full; ran = none }) (record { answer = Ok (length all.reports, stage_at all.rack n); ran = all }) in
      o.answer ≡ Ok (count, last) → Drove o.ran all n count last
  drove_at none all n count last true e = cc
  drove_at none all n count last false e =
      let k = ok_pair (length all.reports) count (stage_at all.rack n) last e in
      record { is_all = refl; count_is = k.0; last_is = k.1 }

  drove_with : (x : Rack) (n budget room : ℕ) (s : S) (count : ℕ) (last : Stage) (o : Result Ticket Refusal) → (drive_with m x n budget room s o).answer ≡ Ok (count, last)
      → Drove (drive_with m x n budget room s o).ran (steps m (min budget room) x n s) n count last
  drove_with x n budget room s count last (Err e) k = cc
  drove_with x n budget room s count last (Ok t) k = drove_at (still x s) (steps m (min budget room) x n s) n count last (eqb room 0) k

  counts_at : (ran all : Ran S) (n count budget room : ℕ) (last : Stage) → Drove ran all n count last → Ends (min budget room) n all
      → (count ≡ length ran.reports) × (count ≤ budget) × (count ≤ room)
  counts_at ran all n count budget room last d (l, e) =
      let k = d.count_is in
      (k ∙ sym (ap (λ (r : Ran S). length r.reports) d.is_all), omega arith, omega arith)

  ends_by : (ran all : Ran S) (n count budget room : ℕ) (last : Stage) → Drove ran all n count last → Ends (min budget room) n all
      → Settled last ⊎ ((count ≡ budget) ⊎ (count ≡ room))
  ends_by ran all n count budget room last d (l, inl z) = inl (subst Settled (sym d.last_is) z)
  ends_by ran all n count budget room last d (l, inr e) =
      let k : count ≡ min budget room = d.count_is ∙ e in
      inr (grind arith)

  -- a drive counts its reports, within the budget and the room
  pub drive_counts : DriveCounts m
  drive_counts x n budget room s count last k =
      let all = steps m (min budget room) x n s in
      counts_at (drive m x n budget room s).ran all n count budget room last (drove_with x n budget room s count last (due x n) k)
      (steps_end (min budget room) x n s)

  -- and ends when its ticket is not soft, the budget is made or the room is filled
  pub drive_ends : DriveEnds m
  drive_ends x n budget room s count last k =
      let all = steps m (min budget room) x n s in
      ends_by (drive m x n budget room s).ran all n count budget room last (drove_with x n budget room s count last (due x n) k)
      (steps_end (min budget room) x n s)
