-- Booked slots are the windows of standing grants: each mark of a ticket stands in the row of its last mark report in that column.
use Rattle.std.proofs.Common.{◌≡◌, ℕ, zero, suc, ◌+◌, ◌-◌, ◌<◌, ◌≤◌, Bool, true, false, cond, ◌&&◌, eqb, ltb, leb, ◌⊎◌, List, [], ◌∷◌, length, get_or, Some, None, Option, sym, refl, ap, ◌∙◌, subst, inl, inr, arith}
use Rattle.std.proofs.lemmas.List.{get_or-set_same, get_or-set_other}
use Rattle.std.proofs.lemmas.Bool.{false≢true, eqb-true, eq-eqb, ne_eqb, and_parts, cases_eq, ltb-true}
use Rattle.std.proofs.lemmas.Bool.Decides.{nat_tests}
use Rattle.rules.specs.declared.slot.Slot.{Slot}
use Rattle.rules.specs.declared.slot.Slot.TheVariants.{Vacant, Marked}
use Rattle.rules.specs.declared.ticket.Request.{Request}
use Rattle.rules.specs.declared.ticket.Ticket.{Ticket}
use Rattle.rules.specs.declared.ticket.Phase.{Phase}
use Rattle.rules.specs.declared.ticket.Phase.TheVariants.{Granted, Out, Closing}
use Rattle.rules.specs.declared.report.Action.{Action}
use Rattle.rules.specs.declared.report.Action.TheVariants as action
use Rattle.rules.specs.Words.{is_mark}
use Rattle.rules.specs.Lists.{unit, any_of, count_of, find}
use Rattle.rules.specs.declared.rack.Sizes.{Sizes}
use Rattle.rules.specs.Rack.{Rack, soft, hard, named, is_vacant, holds, is_booked, cells_of, cells, has_vacant, row_of, put}
use Rattle.rules.specs.Step.{ahead, duty, action_of, after, with_phase, column_of, row_told, slots_after, worked, report_of, acted}
use Rattle.rules.specs.Calls.{ticket_for, booked, withdrawn}
use Rattle.rules.specs.History.{Event, Fair, Reaches}
use Rattle.rules.specs.Ledger.{covers, request_of}
use Rattle.rules.specs.Accounts.{grant_column, mark_row, window_of, is_standing, in_window}
use Rattle.rules.specs.Laws.{OnBoard, BookedSlotsAreStandingWindows}
use Rattle.rules.proofs.Listing.{In, some_inj, some_none, find_in, all_in}
use Rattle.rules.proofs.Tickets.{find_last, find_before}
use Rattle.rules.proofs.Effects.{Effect, effect}
use Rattle.rules.specs.Sound.{marks_in, Fit, Sound}
use Rattle.rules.proofs.Cells.{cells_here, cells_there}
use Rattle.rules.proofs.Masks.{vacant_cell}
use Rattle.rules.proofs.Looks.{cells_tall, one_named}
use Rattle.rules.proofs.Agreement.{no_marks, reach, own_mark, fair_cell}
use Rattle.rules.proofs.Walks.{Works, works}
use Rattle.rules.proofs.Kept.{sound}
use Rattle.rules.proofs.Ledgers.{Asked, books}
use Rattle.rules.proofs.Changes.{subject, head_of, Change, step_change, fetch_change, leave_change, drop_change, back_change}
use Rattle.rules.proofs.Balance.{passes, any_found, tickets_match_history}

-- the cell in column c and row holds n's mark
abbrev Stands : ℕ → List Slot → ℕ → ℕ → ℕ → Type 0
Stands rows ss n c row = (1 ≤ row) × (row ≤ rows) × (get_or (cells_of rows ss c) (row - 1) Vacant ≡ Marked n)

-- what the history tells of t, the ticket under number n: its first column if it is hard, and the rows of its marks
pub record Recorded (h : List Event) (x : Rack) (n : ℕ) (t : Ticket) : Type 0 where
  pub first : hard t.phase ≡ true → grant_column n h ≡ t.first
  pub rows : (c : ℕ) → marks_in c t ≡ true → Stands x.sizes.rows x.slots n c (mark_row n c h)

-- the event tells nothing of that
record Quiet (h : List Event) (e : Event) (n : ℕ) : Type 0 where
  column : grant_column n (e ∷ h) ≡ grant_column n h
  row : (c : ℕ) → mark_row n c (e ∷ h) ≡ mark_row n c h

other_quiet : (h : List Event) (e : Event) (n : ℕ) → (n ≡ subject e → ⊥) → Quiet h e n
other_quiet h (Event.taken m q) n d = record { column = refl; row = λ c. refl }
other_quiet h (Event.stepped r) n d =
    let z = ne_eqb r.number n (λ j. d (sym j)) in record { column = rw z refl; row = λ c. rw z refl }
other_quiet h (Event.collected m) n d = record { column = refl; row = λ c. refl }
other_quiet h (Event.dropped m) n d = record { column = refl; row = λ c. refl }
other_quiet h (Event.returned m) n d = record { column = refl; row = λ c. refl }

-- a mark stays where another cell is written
stays_at : (rows : ℕ) (ss : List Slot) (c d row r m : ℕ) (old new : Slot) → 1 ≤ r → r ≤ rows → get_or (cells_of rows ss c) (r - 1) Vacant ≡ old
    → ((Marked m ≡ old → ⊥) ⊎ (d ≡ c → ⊥)) → (d ≡ c) ⊎ (d ≡ c → ⊥)
    → Stands rows ss m d row → Stands rows (put rows ss c r new) m d row
stays_at rows ss c d row r m old new a b e (inr k) (inl i) s = absurd (k i)
stays_at rows ss c d row r m old new a b e (inl k) (inl i) s =
    let u : get_or (cells_of rows ss c) (row - 1) Vacant ≡ Marked m = rw i at s.2 in
    let o : (row - 1 ≡ r - 1 → ⊥) = λ j. k (sym u ∙ (ap (λ (n : ℕ). get_or (cells_of rows ss c) n Vacant) j ∙ e)) in
    let v : get_or (cells_of rows (put rows ss c r new) d) (row - 1) Vacant ≡ Marked m =
    rw i (rw (cells_here rows ss c r new a b) (get_or-set_other (cells_of rows ss c) (r - 1) (row - 1) new Vacant o ∙ u)) in
    (s.0, s.1, v)
stays_at rows ss c d row r m old new a b e k (inr i) s = (s.0, s.1, rw (cells_there rows ss c d r new a b i) s.2)

mark_vacant : (m : ℕ) → Marked m ≡ Vacant → ⊥
mark_vacant m e = false≢true (ap is_vacant e)

mark_inj : (m n : ℕ) → Marked m ≡ Marked n → m ≡ n
mark_inj m n e = cc

-- where a mark or a wipe is
mark_inside : (z : Sizes) (n : ℕ) (vacant : Bool) (t : Ticket) → soft t.phase ≡ true → Fit z n t → duty z n vacant t ≡ action.Mark → ahead t < z.columns
mark_inside z n vacant t e f d = rw d at (reach z n vacant t e f)

wipe_inside : (z : Sizes) (n : ℕ) (vacant : Bool) (t : Ticket) → soft t.phase ≡ true → Fit z n t → duty z n vacant t ≡ action.Wipe
    → (ahead t - 1 < z.columns) × (1 ≤ t.marks)
wipe_inside z n vacant t e f d = rw d at (reach z n vacant t e f)

-- where a mark that a ticket has after an action comes from
abbrev Source : Action → Ticket → ℕ → Type 0
Source action.Mark t c = (c ≡ ahead t) ⊎ ((c ≡ ahead t → ⊥) × (marks_in c t ≡ true))
Source action.Wipe t c = (c ≡ ahead t - 1 → ⊥) × (marks_in c t ≡ true)
Source action.Over t c = marks_in c t ≡ true
Source action.Without t c = marks_in c t ≡ true
Source action.Grant t c = marks_in c t ≡ true
Source action.Wall t c = marks_in c t ≡ true

source : (z : Sizes) (n : ℕ) (vacant : Bool) (t u : Ticket) (c : ℕ) → soft t.phase ≡ true → Fit z n t
    → head_of (after n (duty z n vacant t) t) ≡ Some u → marks_in c u ≡ true → Source (duty z n vacant t) t c
source z n vacant t u c e f k m = grind (arith, nat_tests)

hard_after : (z : Sizes) (n : ℕ) (vacant : Bool) (t u : Ticket) → soft t.phase ≡ true
    → head_of (after n (duty z n vacant t) t) ≡ Some u → hard u.phase ≡ true → (duty z n vacant t ≡ action.Grant) × (u.first ≡ t.first)
hard_after z n vacant t u e k m = grind (arith, nat_tests)

-- the action does not wipe m's mark in column c
abbrev Untouched : Action → Ticket → ℕ → ℕ → Type 0
Untouched action.Wipe t m c = (m ≡ t.number → ⊥) ⊎ (c ≡ ahead t - 1 → ⊥)
Untouched action.Mark t m c = Unit
Untouched action.Over t m c = Unit
Untouched action.Without t m c = Unit
Untouched action.Grant t m c = Unit
Untouched action.Wall t m c = Unit

others_untouched : (a : Action) (t : Ticket) (m c : ℕ) → (m ≡ t.number → ⊥) → Untouched a t m c
others_untouched action.Wipe t m c d = inl d
others_untouched action.Mark t m c d = tt
others_untouched action.Over t m c d = tt
others_untouched action.Without t m c d = tt
others_untouched action.Grant t m c d = tt
others_untouched action.Wall t m c d = tt

-- the slots after a step of w
module _ (x : Rack) (sd : Sound x) (w : Ticket) (k : Works x w) (row : ℕ) (fair : Fair x w row) where
  abbrev then : Action → List Slot
  then a = slots_after x w (column_of a w) (row_told x w row a) a

  fit : Fit x.sizes x.handbacks w
  fit = all_in (Fit x.sizes x.handbacks) x.tickets w sd.fits k.inside

  -- the row that a mark takes
  picked : action_of x w ≡ action.Mark
      → (ahead w < x.sizes.columns) × (1 ≤ row) × (row ≤ x.sizes.rows) × (get_or (cells x (ahead w)) (row - 1) Vacant ≡ Vacant)
  picked e =
      let i = mark_inside x.sizes x.handbacks (has_vacant x (ahead w)) w k.is_soft fit e in
      let v = fair_cell x sd (ahead w) row i (vacant_cell (cells x (ahead w)) row (fair e)) in
      (i, v.0, v.1, v.2)

  -- a mark that is not wiped stays
  mark_stays : (a : Action) → action_of x w ≡ a → (m c r : ℕ) → Untouched a w m c → Stands x.sizes.rows x.slots m c r
      → Stands x.sizes.rows (then a) m c r
  mark_stays action.Mark e m c r d s =
      let v = picked e in
      stays_at x.sizes.rows x.slots (ahead w) c r row m Vacant (Marked w.number) v.1 v.2 v.3 (inl (mark_vacant m)) (cases_eq c (ahead w)) s
  mark_stays action.Wipe e m c r d s =
      let i = wipe_inside x.sizes x.handbacks (has_vacant x (ahead w)) w k.is_soft fit e in
      let j = i.1 in
      let v = own_mark x sd w k.inside (ahead w - 1) i.0 (omega arith) (omega arith) in
      stays_at x.sizes.rows x.slots (ahead w - 1) c r (row_of w.number (cells x (ahead w - 1))) m (Marked w.number) Vacant v.0 v.1 v.2
      (either d) (cases_eq c (ahead w - 1)) s
    where
      either : (m ≡ w.number → ⊥) ⊎ (c ≡ ahead w - 1 → ⊥) → (Marked m ≡ Marked w.number → ⊥) ⊎ (c ≡ ahead w - 1 → ⊥)
      either (inl n) = inl (λ q. n (mark_inj m w.number q))
      either (inr n) = inr n
  mark_stays action.Over e m c r d s = s
  mark_stays action.Without e m c r d s = s
  mark_stays action.Grant e m c r d s = s
  mark_stays action.Wall e m c r d s = s

  -- a new mark stands in the row picked
  mark_made : action_of x w ≡ action.Mark → Stands x.sizes.rows (then action.Mark) w.number (ahead w) row
  mark_made e =
      let v = picked e in
      let low = v.1 in let high = v.2 in
      let l = cells_tall x sd (ahead w) v.0 in (
        low,
        high,
        rw (cells_here x.sizes.rows x.slots (ahead w) row (Marked w.number) low high)
            (get_or-set_same (cells x (ahead w)) (row - 1) (Marked w.number) Vacant (omega arith)),
      )

  -- the row of n's last mark report in column c, after the step
  abbrev row_then : Action → ℕ → ℕ → List Event → ℕ
  row_then a n c h = cond (eqb w.number n && (is_mark a && eqb (column_of a w) c)) (row_told x w row a) (mark_row n c h)

  own_row : (h : List Event) → Recorded h x w.number w → (a : Action) → action_of x w ≡ a → (c : ℕ) → Source a w c
      → Stands x.sizes.rows (then a) w.number c (row_then a w.number c h)
  own_row h q action.Mark e c (inl i) =
      let a = eq-eqb w.number w.number refl in let b = eq-eqb (ahead w) c (sym i) in
      rw (a, b) (rw i (mark_made e))
  own_row h q action.Mark e c (inr s) =
      let a = eq-eqb w.number w.number refl in let b = ne_eqb (ahead w) c (λ j. s.0 (sym j)) in
      rw (a, b) (mark_stays action.Mark e w.number c (mark_row w.number c h) tt (q.rows c s.1))
  own_row h q action.Wipe e c s =
      let a = eq-eqb w.number w.number refl in
      rw a (mark_stays action.Wipe e w.number c (mark_row w.number c h) (inr s.0) (q.rows c s.1))
  own_row h q action.Over e c s = let a = eq-eqb w.number w.number refl in rw a (q.rows c s)
  own_row h q action.Without e c s = let a = eq-eqb w.number w.number refl in rw a (q.rows c s)
  own_row h q action.Grant e c s = let a = eq-eqb w.number w.number refl in rw a (q.rows c s)
  own_row h q action.Wall e c s = let a = eq-eqb w.number w.number refl in rw a (q.rows c s)

  -- the ticket itself, after the step
  own_after : (h : List Event) → Recorded h x w.number w → (u : Ticket) → head_of (after x.handbacks (action_of x w) w) ≡ Some u
      → Recorded (Event.stepped (report_of x w row) ∷ h) (acted x w row) w.number u
  own_after h q u e =
      let z = x.sizes in let n = x.handbacks in let v = has_vacant x (ahead w) in
      record {
        first = λ i. let g = hard_after z n v w u k.is_soft e i in granted g.0 ∙ sym g.1;
        rows = λ c m. own_row h q (action_of x w) refl c (source z n v w u c k.is_soft fit e m);
      }
    where
      granted : action_of x w ≡ action.Grant → grant_column w.number (Event.stepped (report_of x w row) ∷ h) ≡ w.first
      granted i = let a = eq-eqb w.number w.number refl in rw (a, i) refl

-- u is t with no new mark, and hard only if t is
record Like (t u : Ticket) : Type 0 where
  first : hard u.phase ≡ true → (hard t.phase ≡ true) × (u.first ≡ t.first)
  marks : (c : ℕ) → marks_in c u ≡ true → marks_in c t ≡ true

like_itself : (t : Ticket) → Like t t
like_itself t = record { first = λ e. (e, refl); marks = λ c e. e }

like_fetched : (t u : Ticket) → t.phase ≡ Granted → head_of (with_phase Out t ∷ []) ≡ Some u → Like t u
like_fetched t u e k = grind arith

like_gone : (t u : Ticket) → head_of [] ≡ Some u → Like t u
like_gone t u k = absurd (some_none u (sym k))

like_withdrawn : (t u : Ticket) → head_of (withdrawn t) ≡ Some u → Like t u
like_withdrawn t u k = grind arith

like_closed : (t u : Ticket) → head_of (with_phase Closing t ∷ []) ≡ Some u → Like t u
like_closed t u k = grind arith

-- the marks of n stand in y where they stood in x
abbrev MarksStay : Rack → Rack → ℕ → Type 0
MarksStay x y n = (c row : ℕ) → Stands x.sizes.rows x.slots n c row → Stands y.sizes.rows y.slots n c row

module _ (h : List Event) (x : Rack) (sd : Sound x) (recorded : (n : ℕ) (t : Ticket) → find (named n) x.tickets ≡ Some t → Recorded h x n t) where
  carried : (e : Event) (y : Rack) (n : ℕ) (t u : Ticket) → Quiet h e n → MarksStay x y n → Like t u → Recorded h x n t → Recorded (e ∷ h) y n u
  carried e y n t u q kept l k =
      record {
        first = λ i. q.column ∙ (k.first (l.first i).0 ∙ sym (l.first i).1);
        rows = λ c i. rw (q.row c) (kept c (mark_row n c h) (k.rows c (l.marks c i)));
      }

  -- under another number than the event's
  elsewhere : (e : Event) (y : Rack) (n : ℕ) (u : Ticket) → (n ≡ subject e → ⊥) → MarksStay x y n → find (named n) y.tickets ≡ find (named n) x.tickets
      → find (named n) y.tickets ≡ Some u → Recorded (e ∷ h) y n u
  elsewhere e y n u d kept o f = carried e y n u u (other_quiet h e n d) kept (like_itself u) (recorded n u (sym o ∙ f))

  changed_recorded : (e : Event) (y : Rack) (t : Ticket) (us : List Ticket) → subject e ≡ t.number → Change x y t us
      → ((n : ℕ) → (n ≡ t.number → ⊥) → MarksStay x y n) → ((u : Ticket) → head_of us ≡ Some u → Recorded (e ∷ h) y t.number u)
      → (n : ℕ) (u : Ticket) → (n ≡ t.number) ⊎ (n ≡ t.number → ⊥) → find (named n) y.tickets ≡ Some u → Recorded (e ∷ h) y n u
  changed_recorded e y t us i c kept own n u (inl j) f =
      subst (λ (m : ℕ). Recorded (e ∷ h) y m u) (sym j) (own u (sym c.own ∙ subst (λ (m : ℕ). find (named m) y.tickets ≡ Some u) j f))
  changed_recorded e y t us i c kept own n u (inr d) f = elsewhere e y n u (λ j. d (j ∙ i)) (kept n d) (c.others n d) f

  -- a call that reports no step
  quiet_recorded : (e : Event) (y : Rack) (t : Ticket) (us : List Ticket) → subject e ≡ t.number → find (named t.number) x.tickets ≡ Some t
      → Change x y t us → Quiet h e t.number → ((n : ℕ) → MarksStay x y n) → ((u : Ticket) → head_of us ≡ Some u → Like t u)
      → (n : ℕ) (u : Ticket) → find (named n) y.tickets ≡ Some u → Recorded (e ∷ h) y n u
  quiet_recorded e y t us i f c q kept like n u k =
      changed_recorded e y t us i c (λ m d. kept m) (λ v j. carried e y t.number t v q (kept t.number) (like v j) (recorded t.number t f))
      n u (cases_eq n t.number) k

  booked_recorded : (q : Request) (n : ℕ) (u : Ticket) → (n ≡ x.next) ⊎ (n ≡ x.next → ⊥) → find (named n) (booked x q).tickets ≡ Some u
      → Recorded (Event.taken x.next q ∷ h) (booked x q) n u
  booked_recorded q n u (inl i) f =
      let o = find_last x.next x.first x.next x.tickets (ticket_for x q) sd.rising (omega arith) refl in
      let j : ticket_for x q ≡ u = some_inj (ticket_for x q) u (sym o ∙ subst (λ (m : ℕ). find (named m) (booked x q).tickets ≡ Some u) i f) in
      subst (λ (m : ℕ). Recorded (Event.taken x.next q ∷ h) (booked x q) m u) (sym i)
      (subst (λ (v : Ticket). Recorded (Event.taken x.next q ∷ h) (booked x q) x.next v) j
      (record {
        first = λ e. absurd (false≢true e);
        rows = λ c e. absurd (let a = no_marks q.start c in let b = ap unit e in omega arith);
      }))
  booked_recorded q n u (inr d) f =
      elsewhere (Event.taken x.next q) (booked x q) n u d (λ c row s. s) (find_before n x.tickets (ticket_for x q) (λ j. d (sym j))) f

  recorded_step : (e : Event) (y : Rack) → Effect x e y → (n : ℕ) (u : Ticket) → find (named n) y.tickets ≡ Some u → Recorded (e ∷ h) y n u
  recorded_step _ _ (Effect.books q b) n u k = booked_recorded q n u (cases_eq n x.next) k
  recorded_step e y (Effect.steps s f i row fair) n u k =
      let w = worked x s in let p = works x sd s f i in let a = action_of x w in
      changed_recorded e y w (after x.handbacks a w) refl (step_change x sd w p.found row)
      (λ m d c r. mark_stays x sd w p row fair a refl m c r (others_untouched a w m c d))
      (own_after x sd w p row fair h (recorded w.number w p.found)) n u (cases_eq n w.number) k
  recorded_step e y (Effect.fetches t f i) n u k =
      quiet_recorded e y t (with_phase Out t ∷ []) refl f (fetch_change x sd t f) (record { column = refl; row = λ c. refl }) (λ m c row s. s)
      (λ v. like_fetched t v i) n u k
  recorded_step e y (Effect.leaves t f i) n u k =
      quiet_recorded e y t [] refl f (leave_change x sd t f) (record { column = refl; row = λ c. refl }) (λ m c row s. s) (like_gone t) n u k
  recorded_step e y (Effect.drops t f i) n u k =
      quiet_recorded e y t (withdrawn t) refl f (drop_change x sd t f) (record { column = refl; row = λ c. refl }) (λ m c row s. s)
      (like_withdrawn t) n u k
  recorded_step e y (Effect.backs t f i) n u k =
      quiet_recorded e y t (with_phase Closing t ∷ []) refl f (back_change x sd t f) (record { column = refl; row = λ c. refl }) (λ m c row s. s)
      (like_closed t) n u k

pub recorded : (h : List Event) (x : Rack) → Reaches h x → (n : ℕ) (t : Ticket) → find (named n) x.tickets ≡ Some t → Recorded h x n t
recorded [] x (z, first, o, e) n t k = absurd (some_none t (sym k ∙ ap (λ (y : Rack). find (named n) y.tickets) e))
recorded (e ∷ h) y r n t k =
    recorded_step h r.0 (sound h r.0 r.1) (recorded h r.0 r.1) e y (effect r.0 e y r.2) n t k

-- a cell that passes is counted, and where one is counted there is no other
counted : (p : Slot → Bool) (ss : List Slot) (i : ℕ) → i < length ss → p (get_or ss i Vacant) ≡ true → 1 ≤ count_of p ss
counted p [] i h e = absurd (omega arith)
counted p (s ∷ ss) zero h e = rw e (omega arith)
counted p (s ∷ ss) (suc i) h e = omega (arith, counted p ss i (omega arith) e)

one_cell : (p : Slot → Bool) (ss : List Slot) (i j : ℕ) → count_of p ss ≤ 1 → i < length ss → j < length ss
    → p (get_or ss i Vacant) ≡ true → p (get_or ss j Vacant) ≡ true → i ≡ j
one_cell p [] i j k h l e f = absurd (omega arith)
one_cell p (s ∷ ss) zero zero k h l e f = refl
one_cell p (s ∷ ss) zero (suc j) k h l e f =
    let a = counted p ss j (omega arith) f in let b : unit (p s) ≡ 1 = ap unit e in absurd (omega arith)
one_cell p (s ∷ ss) (suc i) zero k h l e f =
    let a = counted p ss i (omega arith) e in let b : unit (p s) ≡ 1 = ap unit f in absurd (omega arith)
one_cell p (s ∷ ss) (suc i) (suc j) k h l e f = ap suc (one_cell p ss i j (omega arith) (omega arith) (omega arith) e f)

-- a booked slot holds the mark of a number under which a hard ticket is found
booked_number : (ts : List Ticket) (s : Slot) → is_booked ts s ≡ true → (n : ℕ) × (s ≡ Marked n) × (any_of (λ t. named n t && hard t.phase) ts ≡ true)
booked_number ts Vacant e = absurd (false≢true e)
booked_number ts (Marked n) e = (n, refl, e)

passing : (p : Phase → Bool) (o : Option Ticket) → passes p o ≡ true → (t : Ticket) × (o ≡ Some t) × (p t.phase ≡ true)
passing p None e = absurd (false≢true e)
passing p (Some t) e = (t, refl, e)

-- a hard ticket has all its marks
all_marks : (z : Sizes) (n : ℕ) (t : Ticket) → hard t.phase ≡ true → Fit z n t → t.marks ≡ t.request.length
all_marks z n t e f = grind arith

module _ (h : List Event) (x : Rack) (r : Reaches h x) where
  -- a standing grant has a hard ticket, whose marks are its window
  record Standing (n : ℕ) : Type 0 where
    ticket : Ticket
    inside : In ticket x.tickets
    number : ticket.number ≡ n
    window : (c : ℕ) → covers (window_of n h) c ≡ marks_in c ticket
    told : Recorded h x n ticket

  standing : (n : ℕ) → is_standing h n ≡ true → Standing n
  standing n e =
      let sd = sound h x r in
      let f = passing hard (find (named n) x.tickets)
      (sym (any_found hard n x.first x.next x.tickets sd.rising) ∙ ((tickets_match_history h x r).standing n ∙ e)) in
      let t = f.0 in
      let i = find_in (named n) x.tickets t f.1 in
      let q = recorded h x r n t f.1 in
      let j = eqb-true t.number n i.1 in
      let asked : request_of n h ≡ t.request = subst (λ (m : ℕ). request_of m h ≡ t.request) j (all_in (Asked h) x.tickets t (books h x r).asked i.0) in
      let m = all_marks x.sizes x.handbacks t f.2 (all_in (Fit x.sizes x.handbacks) x.tickets t sd.fits i.0) in
      record {
        ticket = t;
        inside = i.0;
        number = j;
        window = λ c. rw (q.first f.2, asked, ← m) refl;
        told = q;
      }

  -- the slots of a window are on the board and hold its mark
  window_cell : (n c row : ℕ) → in_window h n c row ≡ true → OnBoard x c row × (get_or (cells x c) (row - 1) Vacant ≡ Marked n) × (is_standing h n ≡ true)
  window_cell n c row e =
      let a = and_parts (is_standing h n) (covers (window_of n h) c && eqb row (mark_row n c h)) e in
      let b = and_parts (covers (window_of n h) c) (eqb row (mark_row n c h)) a.1 in
      let s = standing n a.0 in
      let m : marks_in c s.ticket ≡ true = sym (s.window c) ∙ b.0 in
      let j = eqb-true row (mark_row n c h) b.1 in
      let k : Stands x.sizes.rows x.slots n c row = rw j (s.told.rows c m) in
      ((inside_board s.ticket s.inside m, k.0, k.1), k.2, a.0)
    where
      inside_board : (t : Ticket) → In t x.tickets → marks_in c t ≡ true → c < x.sizes.columns
      inside_board t i m =
          let f = all_in (Fit x.sizes x.handbacks) x.tickets t (sound h x r).fits i in
          let l = ltb-true c (t.first + t.marks) (and_parts (leb t.first c) (ltb c (t.first + t.marks)) m).1 in
          let k = f.reach in omega arith

  -- a slot that holds the mark of a standing grant is in its window
  cell_window : (n c row : ℕ) → OnBoard x c row → get_or (cells x c) (row - 1) Vacant ≡ Marked n → is_standing h n ≡ true → in_window h n c row ≡ true
  cell_window n c row (i, low, high) e g =
      let sd = sound h x r in
      let s = standing n g in
      let t = s.ticket in
      let l = cells_tall x sd c i in
      let marks : count_of (holds n) (cells x c) ≡ unit (marks_in c t) =
      subst (λ (k : ℕ). count_of (holds k) (cells x c) ≡ unit (marks_in c t)) s.number
      (sd.agree.held c t.number i ∙ one_named (marks_in c) x.first x.next x.tickets t sd.rising s.inside) in
      let here : holds n (get_or (cells x c) (row - 1) Vacant) ≡ true = rw e (eq-eqb n n refl) in
      let m = unit_true (marks_in c t) (let k = counted (holds n) (cells x c) (row - 1) (omega arith) here in omega arith) in
      let q = s.told.rows c m in
      let there : holds n (get_or (cells x c) (mark_row n c h - 1) Vacant) ≡ true = rw q.2 (eq-eqb n n refl) in
      let k = q.0 in let j = q.1 in
      let u : unit (marks_in c t) ≡ 1 = ap unit m in
      let same = one_cell (holds n) (cells x c) (row - 1) (mark_row n c h - 1) (omega arith) (omega arith) (omega arith) here there in
      rw (g, s.window c ∙ m) (eq-eqb row (mark_row n c h) (omega arith))
    where
      unit_true : (b : Bool) → 1 ≤ unit b → b ≡ true
      unit_true true l = refl
      unit_true false l = absurd (omega arith)

  pub windows : BookedSlotsAreStandingWindows h x
  windows =
      record {
        booked = λ c row o e.
            let b = booked_number x.tickets (get_or (cells x c) (row - 1) Vacant) e in
            (b.0, cell_window b.0 c row o b.1 (sym ((tickets_match_history h x r).standing b.0) ∙ b.2));
        windows = λ n c row e.
            let w = window_cell n c row e in
            (w.0, rw w.1 ((tickets_match_history h x r).standing n ∙ w.2));
        one_owner = λ n m c row e f. mark_inj n m (sym (window_cell n c row e).1 ∙ (window_cell m c row f).1);
      }
