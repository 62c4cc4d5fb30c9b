-- The slots agree with the tickets after every call, whatever vacant rows are taken.
use Rattle.std.proofs.Common.{◌≡◌, ℕ, ◌+◌, ◌-◌, ◌*◌, ◌<◌, ◌≤◌, Bool, true, false, cond, ◌&&◌, eqb, leb, ◌⊎◌, List, [], ◌∷◌, ◌++◌, length, get_or, set, Some, sym, refl, ap, ◌∙◌, subst, inl, inr, arith}
use Rattle.std.specs.List.{AllByRecursion}
use Rattle.std.proofs.lemmas.List.{length-set, get_or_default}
use Rattle.std.proofs.lemmas.Bool.{cases_eq, eq-eqb, ne_eqb, le-leb, lt-ltb, eqb-true, leb-true}
use Rattle.std.proofs.lemmas.Bool.Decides.{nat_tests}
use Rattle.rules.specs.declared.slot.Slot.{Slot}
use Rattle.rules.specs.declared.slot.Slot.TheVariants.{Vacant, Marked}
use Rattle.rules.specs.declared.ticket.Ticket.{Ticket}
use Rattle.rules.specs.declared.ticket.Phase.{Phase}
use Rattle.rules.specs.declared.ticket.Phase.TheVariants.{Forward, Backing, Without, Granted, Out, Closing}
use Rattle.rules.specs.declared.report.Action.{Action}
use Rattle.rules.specs.declared.report.Action.TheVariants as action
use Rattle.rules.specs.Lists.{unit, total, count_of, find, edit}
use Rattle.rules.specs.declared.rack.Sizes.{Sizes}
use Rattle.rules.specs.Rack.{Rack, soft, named, is_vacant, holds, cells_of, cells, row_of, put, has_vacant}
use Rattle.rules.specs.Step.{ahead, duty, action_of, retreats, with_phase, with_marks, sets_out, wiped, after, column_of, row_told, slots_after, acted}
use Rattle.rules.specs.History.{Fair}
use Rattle.rules.specs.Ledger.{covers}
use Rattle.rules.proofs.Listing.{In, total_append, total_edit, all_in}
use Rattle.rules.proofs.Tickets.{Same, after_same}
use Rattle.rules.proofs.Duties.{Says, says}
use Rattle.rules.proofs.Cells.{cells_here, cells_there, count_set, row_held, holds_mark}
use Rattle.rules.proofs.Masks.{vacant_cell}
use Rattle.rules.specs.Sound.{marks_in, load, marks_of, Shape, Fit, Agree, Sound}
use Rattle.rules.proofs.Looks.{cells_tall, one_named}
use Rattle.rules.proofs.Walks.{Works}

pub no_marks : (f c : ℕ) → unit (covers (record { first = f; length = 0 }) c) ≡ 0
no_marks f c = grind (arith, nat_tests)

-- the mark that an action makes in column c, and the one that it wipes
abbrev pub makes : Action → Ticket → ℕ → ℕ
makes action.Mark t c = unit (eqb c (ahead t))
makes action.Wipe t c = 0
makes action.Over t c = 0
makes action.Without t c = 0
makes action.Grant t c = 0
makes action.Wall t c = 0

abbrev pub clears : Action → Ticket → ℕ → ℕ
clears action.Wipe t c = unit (eqb c (ahead t - 1))
clears action.Mark t c = 0
clears action.Over t c = 0
clears action.Without t c = 0
clears action.Grant t c = 0
clears action.Wall t c = 0

abbrev one : ℕ → Ticket → ℕ
one c t = unit (marks_in c t)

-- what an action does to a ticket's marks
cond_marks : (c : ℕ) (u v : Ticket) (b : Bool) → one c u ≡ one c v → one c (cond b u v) ≡ one c v
cond_marks c u v true e = e
cond_marks c u v false e = refl

last_mark : (f k c : ℕ) → 1 ≤ k → unit (covers (record { first = f; length = k - 1 }) c) + unit (eqb c (f + k - 1)) ≡ unit (covers (record { first = f; length = k }) c)
last_mark f k c h = grind (arith, nat_tests)

next_mark : (f k c : ℕ) → unit (covers (record { first = f; length = k + 1 }) c) ≡ unit (covers (record { first = f; length = k }) c) + unit (eqb c (f + k))
next_mark f k c = grind (arith, nat_tests)

wiped_at : (n c : ℕ) (t : Ticket) (g : ℕ) (b : Bool) → leb t.marks 1 ≡ b → 1 ≤ t.marks
    → one c (cond b (sets_out n g t) (with_marks (t.marks - 1) t)) + unit (eqb c (ahead t - 1)) ≡ one c t
wiped_at n c t g true e h =
    let k = leb-true t.marks 1 e in let m : t.marks - 1 ≡ 0 = omega arith in
    let l = last_mark t.first t.marks c h in
    let z = no_marks g c in
    let y : unit (covers (record { first = t.first; length = t.marks - 1 }) c) ≡ 0 = rw m (no_marks t.first c) in
    omega arith
wiped_at n c t g false e h = last_mark t.first t.marks c h

gone_at : (c : ℕ) (t : Ticket) (b : Bool) → leb t.marks 1 ≡ b → 1 ≤ t.marks
    → total (one c) (cond b [] (with_marks (t.marks - 1) t ∷ [])) + unit (eqb c (ahead t - 1)) ≡ one c t
gone_at c t true e h =
    let k = leb-true t.marks 1 e in let m : t.marks - 1 ≡ 0 = omega arith in
    let l = last_mark t.first t.marks c h in
    let y : unit (covers (record { first = t.first; length = t.marks - 1 }) c) ≡ 0 = rw m (no_marks t.first c) in
    omega arith
gone_at c t false e h = omega (arith, last_mark t.first t.marks c h)

wipe_marks : (z : Sizes) (n c : ℕ) (t : Ticket) (p : Phase) → retreats p ≡ true → Shape z p t → total (one c) (wiped n p t) + unit (eqb c (ahead t - 1)) ≡ one c t + 0
wipe_marks z n c t Forward e s = cc
wipe_marks z n c t (Backing g) e s = omega (arith, wiped_at n c t g (leb t.marks 1) refl s.0)
wipe_marks z n c t Without e s = cc
wipe_marks z n c t Granted e s = cc
wipe_marks z n c t Out e s = cc
wipe_marks z n c t Closing e s = omega (arith, gone_at c t (leb t.marks 1) refl s.0)

redirect_marks : (n c g : ℕ) (t : Ticket) (b : Bool) → eqb t.marks 0 ≡ b → one c (cond b (sets_out n g t) (with_phase (Backing g) t)) ≡ one c t
redirect_marks n c g t true e = no_marks g c ∙ sym (rw (eqb-true t.marks 0 e) (no_marks t.first c))
redirect_marks n c g t false e = refl

marks_at : (z : Sizes) (n c : ℕ) (vacant : Bool) (t : Ticket) (a : Action) → Fit z n t → Says z n vacant t a → total (one c) (after n a t) + clears a t c ≡ one c t + makes a t c
marks_at z n c vacant t action.Wipe f s = wipe_marks z n c t t.phase s f.shape
marks_at z n c vacant t action.Over f s = omega (arith, redirect_marks n c t.request.start t (eqb t.marks 0) refl)
marks_at z n c vacant t action.Without f s = omega arith
marks_at z n c vacant t action.Grant f s = omega arith
marks_at z n c vacant t action.Mark f s = omega (arith, next_mark t.first t.marks c)
marks_at z n c vacant t action.Wall f s = omega (arith, redirect_marks n c (ahead t + 1) t (eqb t.marks 0) refl)

pub marks_after : (z : Sizes) (n c : ℕ) (vacant : Bool) (t : Ticket) → soft t.phase ≡ true → Fit z n t
    → total (one c) (after n (duty z n vacant t) t) + clears (duty z n vacant t) t c ≡ one c t + makes (duty z n vacant t) t c
marks_after z n c vacant t e f = marks_at z n c vacant t (duty z n vacant t) f (says z n vacant t e)

-- what counts under number m of tickets that all have t's number
mine_one : (m c : ℕ) (t u : Ticket) → u.number ≡ t.number → unit (named m u && marks_in c u) ≡ cond (eqb t.number m) (one c u) 0
mine_one m c t u e = rw e (at (eqb t.number m) (marks_in c u))
  where
    at : (a b : Bool) → unit (a && b) ≡ cond a (unit b) 0
    at true b = refl
    at false b = refl

mine_all : (m c : ℕ) (t : Ticket) (us : List Ticket) → AllByRecursion (Same t) us → marks_of m c us ≡ cond (eqb t.number m) (total (one c) us) 0
mine_all m c t [] a = at (eqb t.number m)
  where
    at : (b : Bool) → ◌≡◌ {A = ℕ} 0 (cond b 0 0)
    at true = refl
    at false = refl
mine_all m c t (u ∷ us) a = at (eqb t.number m) (mine_one m c t u a.0.0) (mine_all m c t us a.1)
  where
    at : (b : Bool) → unit (named m u && marks_in c u) ≡ cond b (one c u) 0 → marks_of m c us ≡ cond b (total (one c) us) 0
        → unit (named m u && marks_in c u) + marks_of m c us ≡ cond b (one c u + total (one c) us) 0
    at true p q = omega arith
    at false p q = omega arith

-- what a change of one ticket does to a column: of all tickets, and of those with number m
pub edit_marks : (c m less more : ℕ) (f : Ticket → List Ticket) (ts : List Ticket) (t : Ticket) → find (named t.number) ts ≡ Some t → AllByRecursion (Same t) (f t)
    → total (one c) (f t) + less ≡ one c t + more
    → (load c (edit (named t.number) f ts) + less ≡ load c ts + more)
    × (marks_of m c (edit (named t.number) f ts) + cond (eqb t.number m) less 0 ≡ marks_of m c ts + cond (eqb t.number m) more 0)
edit_marks c m less more f ts t e same h =
    let a = total_edit (one c) (named t.number) f ts t e in
    let b = total_edit (λ u. unit (named m u && marks_in c u)) (named t.number) f ts t e in
    (omega arith, at (eqb t.number m) (mine_all m c t (f t) same) (mine_one m c t t refl) b)
  where
    at : (z : Bool) → marks_of m c (f t) ≡ cond z (total (one c) (f t)) 0 → unit (named m t && marks_in c t) ≡ cond z (one c t) 0
        → marks_of m c (edit (named t.number) f ts) + unit (named m t && marks_in c t) ≡ marks_of m c ts + marks_of m c (f t)
        → marks_of m c (edit (named t.number) f ts) + cond z less 0 ≡ marks_of m c ts + cond z more 0
    at true p q b = omega arith
    at false p q b = omega arith

-- the count in column d after the slot in column c and row, which held old, becomes new
written : (p : Slot → Bool) (rows : ℕ) (ss : List Slot) (c row d : ℕ) (old new : Slot) → 1 ≤ row → row ≤ rows → length (cells_of rows ss c) ≡ rows
    → get_or (cells_of rows ss c) (row - 1) Vacant ≡ old → (d ≡ c) ⊎ (d ≡ c → ⊥)
    → count_of p (cells_of rows (put rows ss c row new) d) + cond (eqb d c) (unit (p old)) 0 ≡ count_of p (cells_of rows ss d) + cond (eqb d c) (unit (p new)) 0
written p rows ss c row d old new h k l e (inl q) =
    let z = eq-eqb d c q in
    let i : cells_of rows (put rows ss c row new) d ≡ set (cells_of rows ss c) (row - 1) new = ap (cells_of rows (put rows ss c row new)) q ∙ cells_here rows ss c row new h k in
    let j : cells_of rows ss d ≡ cells_of rows ss c = ap (cells_of rows ss) q in
    let m : count_of p (set (cells_of rows ss c) (row - 1) new) + unit (p old) ≡ count_of p (cells_of rows ss c) + unit (p new) =
    subst (λ (o : Slot). count_of p (set (cells_of rows ss c) (row - 1) new) + unit (p o) ≡ count_of p (cells_of rows ss c) + unit (p new)) e
    (count_set p (cells_of rows ss c) (row - 1) new Vacant (omega arith)) in
    rw (z, i, j) m
written p rows ss c row d old new h k l e (inr q) =
    let z = ne_eqb d c q in
    let i = cells_there rows ss c d row new h k q in
    rw (z, i) refl

-- the mark in column ahead t - 1 of a ticket that has marks
pub own_mark : (x : Rack) → Sound x → (t : Ticket) → In t x.tickets → (c : ℕ) → c < x.sizes.columns → t.first ≤ c → c < t.first + t.marks
    → let r = row_of t.number (cells x c) in (1 ≤ r) × (r ≤ x.sizes.rows) × (get_or (cells x c) (r - 1) Vacant ≡ Marked t.number)
own_mark x sd t i c h lo hi =
    let m : marks_in c t ≡ true = rw (le-leb t.first c lo, lt-ltb c (t.first + t.marks) hi) refl in
    let k : count_of (holds t.number) (cells x c) ≡ 1 =
    sd.agree.held c t.number h ∙ (one_named (marks_in c) x.first x.next x.tickets t sd.rising i ∙ ap unit m) in
    let r = row_held t.number (cells x c) (omega arith) in
    let l = cells_tall x sd c h in
    (r.0, (let j = r.1 in omega arith), holds_mark t.number (get_or (cells x c) (row_of t.number (cells x c) - 1) Vacant) r.2)

-- the cells after an action: what is counted in column d
pub record Shifted (x : Rack) (w : Ticket) (a : Action) (ss : List Slot) : Type 0 where
  pub size : length ss ≡ x.sizes.columns * x.sizes.rows
  pub vacant : (d : ℕ) → d < x.sizes.columns
      → count_of is_vacant (cells_of x.sizes.rows ss d) + makes a w d ≡ count_of is_vacant (cells x d) + clears a w d
  pub held : (d m : ℕ) → d < x.sizes.columns
      → count_of (holds m) (cells_of x.sizes.rows ss d) + cond (eqb w.number m) (clears a w d) 0 ≡ count_of (holds m) (cells x d) + cond (eqb w.number m) (makes a w d) 0

-- where an action writes
abbrev Reach : Sizes → Ticket → Action → Type 0
Reach z t action.Mark = ahead t < z.columns
Reach z t action.Wipe = (ahead t - 1 < z.columns) × (1 ≤ t.marks)
Reach z t action.Over = Unit
Reach z t action.Without = Unit
Reach z t action.Grant = Unit
Reach z t action.Wall = Unit

pub reach : (z : Sizes) (n : ℕ) (vacant : Bool) (t : Ticket) → soft t.phase ≡ true → Fit z n t → Reach z t (duty z n vacant t)
reach z n vacant t e f = grind (arith, nat_tests)

-- a fair row is a row of a vacant cell
pub fair_cell : (x : Rack) → Sound x → (c row : ℕ) → c < x.sizes.columns → (1 ≤ row) × (row ≤ length (cells x c)) × (get_or (cells x c) (row - 1) (Marked 0) ≡ Vacant)
    → (1 ≤ row) × (row ≤ x.sizes.rows) × (get_or (cells x c) (row - 1) Vacant ≡ Vacant)
fair_cell x sd c row h v =
    let l = cells_tall x sd c h in
    let a = v.0 in let b = v.1 in
    (a, omega arith, get_or_default (cells x c) (row - 1) Vacant (Marked 0) (omega arith) ∙ v.2)

module _ (x : Rack) (sd : Sound x) (w : Ticket) (i : In w x.tickets) where
  same_slots : (a : Action) → ((d : ℕ) → makes a w d ≡ 0) → ((d : ℕ) → clears a w d ≡ 0) → Shifted x w a x.slots
  same_slots a p q =
      record { size = sd.agree.size; vacant = λ d h. rw (p d, q d) refl; held = λ d m h. rw (p d, q d) refl }

  mark_shifts : (row : ℕ) → ahead w < x.sizes.columns → (1 ≤ row) × (row ≤ x.sizes.rows) × (get_or (cells x (ahead w)) (row - 1) Vacant ≡ Vacant)
      → Shifted x w action.Mark (put x.sizes.rows x.slots (ahead w) row (Marked w.number))
  mark_shifts row h v =
      let rows = x.sizes.rows in
      let c = ahead w in
      let l = cells_tall x sd c h in
      record {
        size = length-set x.slots (c * rows + (row - 1)) (Marked w.number) ∙ sd.agree.size;
        vacant = λ d k. vac (count_of is_vacant (cells_of rows (put rows x.slots c row (Marked w.number)) d)) (count_of is_vacant (cells x d)) (eqb d c)
            (written is_vacant rows x.slots c row d Vacant (Marked w.number) v.0 v.1 l v.2 (cases_eq d c));
        held = λ d m k. hld (count_of (holds m) (cells_of rows (put rows x.slots c row (Marked w.number)) d)) (count_of (holds m) (cells x d)) (eqb d c) (eqb w.number m)
            (written (holds m) rows x.slots c row d Vacant (Marked w.number) v.0 v.1 l v.2 (cases_eq d c));
      }
    where
      vac : (p q : ℕ) (b : Bool) → p + cond b 1 0 ≡ q + cond b 0 0 → p + unit b ≡ q + 0
      vac p q true k = k
      vac p q false k = k

      hld : (p q : ℕ) (b o : Bool) → p + cond b 0 0 ≡ q + cond b (unit o) 0 → p + cond o 0 0 ≡ q + cond o (unit b) 0
      hld p q true true k = k
      hld p q true false k = k
      hld p q false true k = k
      hld p q false false k = k

  wipe_shifts : ahead w - 1 < x.sizes.columns → 1 ≤ w.marks
      → Shifted x w action.Wipe (put x.sizes.rows x.slots (ahead w - 1) (row_of w.number (cells x (ahead w - 1))) Vacant)
  wipe_shifts h one =
      let rows = x.sizes.rows in
      let c = ahead w - 1 in
      let row = row_of w.number (cells x c) in
      let l = cells_tall x sd c h in
      let v = own_mark x sd w i c h (omega arith) (omega arith) in
      record {
        size = length-set x.slots (c * rows + (row - 1)) Vacant ∙ sd.agree.size;
        vacant = λ d k. vac (count_of is_vacant (cells_of rows (put rows x.slots c row Vacant) d)) (count_of is_vacant (cells x d)) (eqb d c)
            (written is_vacant rows x.slots c row d (Marked w.number) Vacant v.0 v.1 l v.2 (cases_eq d c));
        held = λ d m k. hld (count_of (holds m) (cells_of rows (put rows x.slots c row Vacant) d)) (count_of (holds m) (cells x d)) (eqb d c) (eqb w.number m)
            (written (holds m) rows x.slots c row d (Marked w.number) Vacant v.0 v.1 l v.2 (cases_eq d c));
      }
    where
      vac : (p q : ℕ) (b : Bool) → p + cond b 0 0 ≡ q + cond b 1 0 → p + 0 ≡ q + unit b
      vac p q true k = k
      vac p q false k = k

      hld : (p q : ℕ) (b o : Bool) → p + cond b (unit o) 0 ≡ q + cond b 0 0 → p + cond o (unit b) 0 ≡ q + cond o 0 0
      hld p q true true k = k
      hld p q true false k = k
      hld p q false true k = k
      hld p q false false k = k

  -- the row that a mark takes is a row of a vacant cell
  abbrev Picked : Action → ℕ → Type 0
  Picked action.Mark row = (1 ≤ row) × (row ≤ x.sizes.rows) × (get_or (cells x (ahead w)) (row - 1) Vacant ≡ Vacant)
  Picked action.Wipe row = Unit
  Picked action.Over row = Unit
  Picked action.Without row = Unit
  Picked action.Grant row = Unit
  Picked action.Wall row = Unit

  shifts : (a : Action) (row : ℕ) → Reach x.sizes w a → Picked a row → Shifted x w a (slots_after x w (column_of a w) (row_told x w row a) a)
  shifts action.Mark row r p = mark_shifts row r p
  shifts action.Wipe row r p = wipe_shifts r.0 r.1
  shifts action.Over row r p = same_slots action.Over (λ d. refl) (λ d. refl)
  shifts action.Without row r p = same_slots action.Without (λ d. refl) (λ d. refl)
  shifts action.Grant row r p = same_slots action.Grant (λ d. refl) (λ d. refl)
  shifts action.Wall row r p = same_slots action.Wall (λ d. refl) (λ d. refl)

  picked_at : (a : Action) (row : ℕ) → action_of x w ≡ a → Reach x.sizes w a → Fair x w row → Picked a row
  picked_at action.Mark row e r f = fair_cell x sd (ahead w) row r (vacant_cell (cells x (ahead w)) row (f e))
  picked_at action.Wipe row e r f = tt
  picked_at action.Over row e r f = tt
  picked_at action.Without row e r f = tt
  picked_at action.Grant row e r f = tt
  picked_at action.Wall row e r f = tt

  -- the cells after a step
  pub step_shifts : soft w.phase ≡ true → (row : ℕ) → Fair x w row → Shifted x w (action_of x w) (acted x w row).slots
  step_shifts e row fair =
      let f = all_in (Fit x.sizes x.handbacks) x.tickets w sd.fits i in
      let r = reach x.sizes x.handbacks (has_vacant x (ahead w)) w e f in
      shifts (action_of x w) row r (picked_at (action_of x w) row refl r fair)

-- after a step
pub agree_step : (x : Rack) → Sound x → (w : Ticket) → Works x w → (row : ℕ) → Fair x w row → Agree (acted x w row)
agree_step x sd w k row fair =
    let n = x.handbacks in
    let a = action_of x w in
    let f = all_in (Fit x.sizes n) x.tickets w sd.fits k.inside in
    let s = step_shifts x sd w k.inside k.is_soft row fair in
    let m : (d : ℕ) → total (one d) (after n a w) + clears a w d ≡ one d w + makes a w d =
    λ d. marks_after x.sizes n d (has_vacant x (ahead w)) w k.is_soft f in
    record {
      size = s.size;
      vacant = λ d h.
          let e = (edit_marks d 0 (clears a w d) (makes a w d) (after n a) x.tickets w k.found (after_same n a w) (m d)).0 in
          let i = s.vacant d h in let j = sd.agree.vacant d h in omega arith;
      held = λ d v h.
          let e = (edit_marks d v (clears a w d) (makes a w d) (after n a) x.tickets w k.found (after_same n a w) (m d)).1 in
          let i = s.held d v h in let j = sd.agree.held d v h in omega arith;
    }

-- after a call that moves no mark
pub agree_still : (x y : Rack) → Agree x → y.sizes ≡ x.sizes → y.slots ≡ x.slots → ((c : ℕ) → load c y.tickets ≡ load c x.tickets)
    → ((c m : ℕ) → marks_of m c y.tickets ≡ marks_of m c x.tickets) → Agree y
agree_still x y a z s l m =
    record {
      size = rw (z, s) a.size;
      vacant = λ c h. let k = l c in rw (z, s, k) (a.vacant c (rw z at h));
      held = λ c n h. let k = m c n in rw (z, s, k) (a.held c n (rw z at h));
    }

-- a change of one ticket that keeps its marks
pub keeps_marks : (ts : List Ticket) (t : Ticket) (f : Ticket → List Ticket) → find (named t.number) ts ≡ Some t → AllByRecursion (Same t) (f t) → ((c : ℕ) → total (one c) (f t) ≡ one c t)
    → ((c : ℕ) → load c (edit (named t.number) f ts) ≡ load c ts) × ((c m : ℕ) → marks_of m c (edit (named t.number) f ts) ≡ marks_of m c ts)
keeps_marks ts t f e same h = (
  (λ c. let k = (edit_marks c 0 0 0 f ts t e same (let i = h c in omega arith)).0 in omega arith),
  λ c m. fin (eqb t.number m) (marks_of m c (edit (named t.number) f ts)) (marks_of m c ts) (edit_marks c m 0 0 f ts t e same (let i = h c in omega arith)).1,
)
  where
    fin : (b : Bool) (p q : ℕ) → p + cond b 0 0 ≡ q + cond b 0 0 → p ≡ q
    fin true p q k = omega arith
    fin false p q k = omega arith

-- a ticket without a mark at the end of the list
pub push_marks : (ts : List Ticket) (t : Ticket) → t.marks ≡ 0
    → ((c : ℕ) → load c (ts ++ (t ∷ [])) ≡ load c ts) × ((c m : ℕ) → marks_of m c (ts ++ (t ∷ [])) ≡ marks_of m c ts)
push_marks ts t e =
    let z : (c : ℕ) → one c t ≡ 0 = λ c. rw e (no_marks t.first c) in (
      (λ c. let k = z c in omega (arith, total_append (one c) ts (t ∷ []))),
      λ c m.
          let k : unit (named m t && marks_in c t) ≡ 0 = fin (eqb t.number m) (one c t) (z c) (mine_one m c t t refl) in
          omega (arith, total_append (λ u. unit (named m u && marks_in c u)) ts (t ∷ [])),
    )
  where
    fin : (b : Bool) (p : ℕ) {q : ℕ} → p ≡ 0 → q ≡ cond b p 0 → q ≡ 0
    fin true p h k = k ∙ h
    fin false p h k = k
