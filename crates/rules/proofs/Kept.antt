-- Every call keeps the rack sound.
use Rattle.std.proofs.Common.{◌≡◌, ℕ, suc, ◌+◌, ◌-◌, ◌*◌, ◌<◌, ◌≤◌, Bool, true, false, cond, ◌&&◌, eqb, leb, ◌⊎◌, List, [], ◌∷◌, Some, sym, refl, ap, ◌∙◌, subst, inl, inr, arith}
use Rattle.std.specs.List.{AllByRecursion}
use Rattle.std.proofs.ByRecursion.{All-append, All-weaker}
use Rattle.std.proofs.lemmas.List.{length_push, length-replicate}
use Rattle.std.proofs.lemmas.Bool.{and_parts, eqb-true, eqb-false, leb-true, leb-false}
use Rattle.rules.specs.declared.slot.Slot.TheVariants.{Vacant}
use Rattle.rules.specs.declared.ticket.Ticket.{Ticket}
use Rattle.rules.specs.declared.ticket.Phase.{Phase}
use Rattle.rules.specs.declared.ticket.Phase.TheVariants.{Forward, Backing, Without, Granted, Out, Closing}
use Rattle.rules.specs.declared.report.Action.{Action}
use Rattle.rules.specs.declared.report.Action.TheVariants as action
use Rattle.rules.specs.Lists.{unit, total, count_of, find, edit}
use Rattle.rules.specs.declared.rack.Sizes.{Sizes}
use Rattle.rules.specs.Rack.{Rack, opened, soft, seeking, named, is_vacant, holds, has_vacant}
use Rattle.rules.specs.Step.{ahead, retreats, duty, action_of, with_phase, with_marks, sets_out, redirect, wiped, after, worked, acted}
use Rattle.rules.specs.Calls.{within, openable, booked, ticket_for, changed, withdrawn, returned}
use Rattle.rules.specs.History.{Event, Reaches, New}
use Rattle.rules.proofs.Listing.{Few, total_append, total_edit, find_in, all_in, all_edit, length_edit}
use Rattle.rules.proofs.Tickets.{Same, after_same, after_few, withdrawn_same, withdrawn_few, rising_edit, rising_push}
use Rattle.rules.proofs.Duties.{Says, says}
use Rattle.rules.proofs.Effects.{Effect, effect}
use Rattle.rules.proofs.Cells.{cells_new, all_vacant, none_held}
use Rattle.rules.specs.Sound.{marks_in, Shape, Fit, live, Agree, Sound}
use Rattle.rules.proofs.Walks.{works}
use Rattle.rules.proofs.Agreement.{agree_step, agree_still, keeps_marks, push_marks, no_marks}

-- what an action leaves fits
fit_phase : (z : Sizes) (n : ℕ) (t : Ticket) (p : Phase) → Fit z n t → Shape z p (with_phase p t) → Fit z n (with_phase p t)
fit_phase z n t p f s =
    record { some = f.some; most = f.most; inside = f.inside; begun = f.begun; held = f.held; reach = f.reach; noted = f.noted; shape = s }

fit_out : (z : Sizes) (n g : ℕ) (t : Ticket) → Fit z n t → t.request.start ≤ g → g ≤ z.columns → Fit z n (sets_out n g t)
fit_out z n g t f lo hi =
    record {
      some = f.some;
      most = f.most;
      inside = f.inside;
      begun = lo;
      held = omega arith;
      reach = omega arith;
      noted = noted (eqb g t.request.start) f.noted;
      shape = inl refl;
    }
  where
    noted : (b : Bool) → t.seen ≤ n → cond b n t.seen ≤ n
    noted true h = omega arith
    noted false h = h

fit_marks : (z : Sizes) (n k : ℕ) (t : Ticket) → Fit z n t → k ≤ t.request.length → t.first + k ≤ z.columns → Shape z t.phase (with_marks k t) → Fit z n (with_marks k t)
fit_marks z n k t f a b s =
    record { some = f.some; most = f.most; inside = f.inside; begun = f.begun; held = a; reach = b; noted = f.noted; shape = s }

-- to another column: the start, or one above
fit_redirect : (z : Sizes) (n g : ℕ) (t : Ticket) (b : Bool) → eqb t.marks 0 ≡ b → Fit z n t → t.request.start ≤ g → g ≤ z.columns
    → (g ≡ t.request.start) ⊎ (t.first + t.marks < g) → (t.marks ≡ 0) ⊎ (t.first + t.request.length ≤ z.columns)
    → Fit z n (cond b (sets_out n g t) (with_phase (Backing g) t))
fit_redirect z n g t true e f lo hi w i = fit_out z n g t f lo hi
fit_redirect z n g t false e f lo hi w (inl i) = absurd (eqb-false t.marks 0 e i)
fit_redirect z n g t false e f lo hi w (inr i) = let k = eqb-false t.marks 0 e in fit_phase z n t (Backing g) f (omega arith, i, lo, w, hi)

fit_wiped_back : (z : Sizes) (n g : ℕ) (t : Ticket) (b : Bool) → leb t.marks 1 ≡ b → t.phase ≡ Backing g → Fit z n t → Shape z (Backing g) t
    → Fit z n (cond b (sets_out n g t) (with_marks (t.marks - 1) t))
fit_wiped_back z n g t true e p f s = fit_out z n g t f s.2 s.4
fit_wiped_back z n g t false e p f s =
    let k = leb-false t.marks 1 e in
    let h = f.held in let r = f.reach in
    fit_marks z n (t.marks - 1) t f (omega arith) (omega arith)
    (subst (λ (q : Phase). Shape z q (with_marks (t.marks - 1) t)) (sym p) (omega arith, s.1, s.2, lower s.3, s.4))
  where
    lower : (g ≡ t.request.start) ⊎ (t.first + t.marks < g) → (g ≡ t.request.start) ⊎ (t.first + (t.marks - 1) < g)
    lower (inl i) = inl i
    lower (inr i) = inr (omega arith)

fit_wiped_close : (z : Sizes) (n : ℕ) (t : Ticket) (b : Bool) → leb t.marks 1 ≡ b → t.phase ≡ Closing → Fit z n t → Shape z Closing t
    → AllByRecursion (Fit z n) (cond b [] (with_marks (t.marks - 1) t ∷ []))
fit_wiped_close z n t true e p f s = tt
fit_wiped_close z n t false e p f s =
    let k = leb-false t.marks 1 e in
    let h = f.held in let r = f.reach in
    (fit_marks z n (t.marks - 1) t f (omega arith) (omega arith) (subst (λ (q : Phase). Shape z q (with_marks (t.marks - 1) t)) (sym p) (omega arith, s.1)), tt)

fit_wiped : (z : Sizes) (n : ℕ) (t : Ticket) (p : Phase) → t.phase ≡ p → retreats p ≡ true → Fit z n t → Shape z p t → AllByRecursion (Fit z n) (wiped n p t)
fit_wiped z n t Forward q e f s = cc
fit_wiped z n t (Backing g) q e f s = (fit_wiped_back z n g t (leb t.marks 1) refl q f s, tt)
fit_wiped z n t Without q e f s = cc
fit_wiped z n t Granted q e f s = cc
fit_wiped z n t Out q e f s = cc
fit_wiped z n t Closing q e f s = fit_wiped_close z n t (leb t.marks 1) refl q f s

shape_at : (z : Sizes) (n : ℕ) (t : Ticket) (p : Phase) → t.phase ≡ p → Fit z n t → Shape z p t
shape_at z n t p e f = subst (λ (q : Phase). Shape z q t) e f.shape

inside_at : (z : Sizes) (t : Ticket) (p : Phase) → Shape z p t → seeking p ≡ true → (t.marks ≡ 0) ⊎ (t.first + t.request.length ≤ z.columns)
inside_at z t Forward (inl s) e = inl s
inside_at z t Forward (inr s) e = inr s.1
inside_at z t (Backing g) s e = inr s.1
inside_at z t Without s e = inl s
inside_at z t Granted s e = inr s.1
inside_at z t Out s e = inr s.1
inside_at z t Closing s e = inr s.1

fit_at : (z : Sizes) (n : ℕ) (vacant : Bool) (t : Ticket) (a : Action) → Fit z n t → Says z n vacant t a → AllByRecursion (Fit z n) (after n a t)
fit_at z n vacant t action.Wipe f s = fit_wiped z n t t.phase refl s f f.shape
fit_at z n vacant t action.Over f s =
    let i = f.inside in
    (fit_redirect z n t.request.start t (eqb t.marks 0) refl f (omega arith) (omega arith) (inl refl) (inside_at z t Forward (shape_at z n t Forward s.0 f) refl), tt)
fit_at z n vacant t action.Without f s =
    let e : t.marks ≡ 0 = none (inside_at z t Forward (shape_at z n t Forward s.0 f) refl) in (fit_phase z n t Without f e, tt)
  where
    none : (t.marks ≡ 0) ⊎ (t.first + t.request.length ≤ z.columns) → t.marks ≡ 0
    none (inl e) = e
    none (inr e) = let k = s.2 in absurd (omega arith)
fit_at z n vacant t action.Grant f s = (fit_phase z n t Granted f (s.3, s.2), tt)
fit_at z n vacant t action.Mark f s =
    let h = f.held in let i = s.1 in let d = s.2 in
    (fit_marks z n (t.marks + 1) t f (omega arith) (omega arith) (subst (λ (q : Phase). Shape z q (with_marks (t.marks + 1) t)) (sym s.0) (inr (omega arith, s.1))), tt)
fit_at z n vacant t action.Wall f s =
    let h = f.held in let i = s.1 in let d = s.2 in let b = f.begun in
    (fit_redirect z n (ahead t + 1) t (eqb t.marks 0) refl f (omega arith) (omega arith) (inr (omega arith)) (inr s.1), tt)

fit_after : (z : Sizes) (n : ℕ) (vacant : Bool) (t : Ticket) → soft t.phase ≡ true → Fit z n t → AllByRecursion (Fit z n) (after n (duty z n vacant t) t)
fit_after z n vacant t e f = fit_at z n vacant t (duty z n vacant t) f (says z n vacant t e)

fit_later : (z : Sizes) (n : ℕ) (t : Ticket) → Fit z n t → Fit z (suc n) t
fit_later z n t f =
    record { some = f.some; most = f.most; inside = f.inside; begun = f.begun; held = f.held; reach = f.reach; noted = let k = f.noted in omega arith; shape = f.shape }

fit_withdrawn : (z : Sizes) (n : ℕ) (t : Ticket) (b : Bool) → eqb t.marks 0 ≡ b → Fit z n t → (t.marks ≡ 0) ⊎ (t.first + t.request.length ≤ z.columns)
    → AllByRecursion (Fit z n) (cond b [] (with_phase Closing t ∷ []))
fit_withdrawn z n t true e f i = tt
fit_withdrawn z n t false e f (inl i) = absurd (eqb-false t.marks 0 e i)
fit_withdrawn z n t false e f (inr i) = let k = eqb-false t.marks 0 e in (fit_phase z n t Closing f (omega arith, i), tt)

-- no more tickets are live after an action
abbrev alive : Ticket → ℕ
alive t = unit (live t.phase)

one_at_most : (b : Bool) → unit b ≤ 1
one_at_most true = omega arith
one_at_most false = omega arith

soft_live : (t : Ticket) (p : Phase) → t.phase ≡ p → retreats p ≡ true → (n : ℕ) → total alive (wiped n p t) ≤ unit (live p)
soft_live t Forward q e n = cc
soft_live t (Backing g) q e n = let k = one_at_most (live (cond (leb t.marks 1) (sets_out n g t) (with_marks (t.marks - 1) t)).phase) in omega arith
soft_live t Without q e n = cc
soft_live t Granted q e n = cc
soft_live t Out q e n = cc
soft_live t Closing q e n = at (leb t.marks 1)
  where
    at : (b : Bool) → total alive (cond b [] (with_marks (t.marks - 1) t ∷ [])) ≤ 0
    at true = omega arith
    at false = let k : alive (with_marks (t.marks - 1) t) ≡ 0 = ap (λ (p : Phase). unit (live p)) q in omega arith

alive_after : (z : Sizes) (n : ℕ) (vacant : Bool) (t : Ticket) (a : Action) → Says z n vacant t a → total alive (after n a t) ≤ alive t
alive_after z n vacant t action.Wipe s = soft_live t t.phase refl s n
alive_after z n vacant t action.Over s = let k = one_at_most (live (redirect n t.request.start t).phase) in rw s.0 (omega arith)
alive_after z n vacant t action.Without s = rw s.0 (omega arith)
alive_after z n vacant t action.Grant s = rw s.0 (omega arith)
alive_after z n vacant t action.Mark s = rw s.0 (omega arith)
alive_after z n vacant t action.Wall s = let k = one_at_most (live (redirect n (ahead t + 1) t).phase) in rw s.0 (omega arith)

-- a change of one ticket, with the count that may rise by one
sound_edit : (x : Rack) (t : Ticket) (f : Ticket → List Ticket) (y : Rack) → Sound x → find (named t.number) x.tickets ≡ Some t
    → ((u : Ticket) → Few (f u)) → ((u : Ticket) → AllByRecursion (Same u) (f u)) → AllByRecursion (Fit x.sizes x.handbacks) (f t)
    → y.sizes ≡ x.sizes → y.first ≡ x.first → y.next ≡ x.next → y.tickets ≡ edit (named t.number) f x.tickets
    → (y.handbacks ≡ x.handbacks) ⊎ (y.handbacks ≡ suc x.handbacks) → y.handbacks + total alive (f t) ≤ x.handbacks + alive t → Agree y → Sound y
sound_edit x t f y s e few same fit z i n q h l a =
    record {
      limits = rw (z, i) s.limits;
      rows_some = rw z s.rows_some;
      rows_most = rw z s.rows_most;
      first_some = rw i s.first_some;
      numbers = rw n s.numbers;
      rising = rw (i, n, q) (rising_edit x.first x.next (named t.number) f x.tickets few same s.rising);
      fits = rw (z, q) (later h (all_edit (Fit x.sizes x.handbacks) (named t.number) f x.tickets t e fit s.fits));
      few = rw (z, q) (let k = length_edit (named t.number) f x.tickets few in let j = s.few in omega arith);
      counted = rw (i, n, q) (let k = total_edit alive (named t.number) f x.tickets t e in let j = s.counted in omega arith);
      agree = a;
    }
  where
    us : List Ticket
    us = edit (named t.number) f x.tickets

    later : (y.handbacks ≡ x.handbacks) ⊎ (y.handbacks ≡ suc x.handbacks) → AllByRecursion (Fit x.sizes x.handbacks) (edit (named t.number) f x.tickets)
        → AllByRecursion (Fit x.sizes y.handbacks) (edit (named t.number) f x.tickets)
    later (inl k) b = rw k b
    later (inr k) b = rw k (All-weaker (Fit x.sizes x.handbacks) (Fit x.sizes (suc x.handbacks)) (fit_later x.sizes x.handbacks) (edit (named t.number) f x.tickets) b)

fit_of : (x : Rack) → Sound x → (t : Ticket) → find (named t.number) x.tickets ≡ Some t → Fit x.sizes x.handbacks t
fit_of x s t f = all_in (Fit x.sizes x.handbacks) x.tickets t s.fits (find_in (named t.number) x.tickets t f).0

live_at : (t : Ticket) (p : Phase) → t.phase ≡ p → alive t ≡ unit (live p)
live_at t p e = ap (λ (q : Phase). unit (live q)) e

withdrawn_alive : (t : Ticket) (b : Bool) → total alive (cond b [] (with_phase Closing t ∷ [])) ≡ 0
withdrawn_alive t true = refl
withdrawn_alive t false = refl

withdrawn_marks : (c : ℕ) (t : Ticket) (b : Bool) → eqb t.marks 0 ≡ b → total (λ u. unit (marks_in c u)) (cond b [] (with_phase Closing t ∷ [])) ≡ unit (marks_in c t)
withdrawn_marks c t true e = sym (rw (eqb-true t.marks 0 e) (no_marks t.first c))
withdrawn_marks c t false e = omega arith

pub sound_step : (x : Rack) (e : Event) (y : Rack) → Sound x → Effect x e y → Sound y
sound_step x _ _ s (Effect.books q b) =
    let t = ticket_for x q in
    let p = push_marks x.tickets t refl in
    record {
      limits = s.limits;
      rows_some = s.rows_some;
      rows_most = s.rows_most;
      first_some = s.first_some;
      numbers = let k = b.number in omega arith;
      rising = rising_push x.first x.next x.tickets t refl s.rising;
      fits = All-append (Fit x.sizes x.handbacks) x.tickets (t ∷ []) s.fits
          (record { some = b.some; most = b.most; inside = b.inside; begun = omega arith; held = omega arith; reach = let i = b.inside in omega arith; noted = omega arith; shape = inl refl }, tt);
      few = rw length_push (let k = b.place in omega arith);
      counted = let k = total_append alive x.tickets (t ∷ []) in let j = s.counted in omega arith;
      agree = agree_still x (booked x q) s.agree refl refl p.0 p.1;
    }
sound_step x _ _ s (Effect.steps v f e row fair) =
    let w = worked x v in
    let k = works x s v f e in
    let n = x.handbacks in
    let a = action_of x w in
    let sy = says x.sizes n (has_vacant x (ahead w)) w k.is_soft in
    sound_edit x w (after n a) (acted x w row) s k.found (after_few n a) (after_same n a)
    (fit_after x.sizes n (has_vacant x (ahead w)) w k.is_soft (fit_of x s w k.found))
    refl refl refl refl (inl refl) (let j = alive_after x.sizes n (has_vacant x (ahead w)) w a sy in omega arith) (agree_step x s w k row fair)
sound_step x _ _ s (Effect.fetches t f e) =
    let p = keeps_marks x.tickets t (λ u. with_phase Out u ∷ []) f ((refl, refl), tt) (λ c. omega arith) in
    let ft = fit_of x s t f in
    sound_edit x t (λ u. with_phase Out u ∷ []) (changed x t (λ u. with_phase Out u ∷ [])) s f (λ u. Few.one (with_phase Out u)) (λ u. ((refl, refl), tt))
    (fit_phase x.sizes x.handbacks t Out ft (shape_at x.sizes x.handbacks t Granted e ft), tt)
    refl refl refl refl (inl refl) (let j = live_at t Granted e in omega arith) (agree_still x (changed x t (λ u. with_phase Out u ∷ [])) s.agree refl refl p.0 p.1)
sound_step x _ _ s (Effect.leaves t f e) =
    let m : t.marks ≡ 0 = shape_at x.sizes x.handbacks t Without e (fit_of x s t f) in
    let p = keeps_marks x.tickets t (λ u. []) f tt (λ c. sym (rw m (no_marks t.first c))) in
    sound_edit x t (λ u. []) (changed x t (λ u. [])) s f (λ u. Few.none) (λ u. tt) tt
    refl refl refl refl (inl refl) (omega arith) (agree_still x (changed x t (λ u. [])) s.agree refl refl p.0 p.1)
sound_step x _ _ s (Effect.drops t f e) =
    let ft = fit_of x s t f in
    let p = keeps_marks x.tickets t withdrawn f (withdrawn_same t) (λ c. withdrawn_marks c t (eqb t.marks 0) refl) in
    sound_edit x t withdrawn (changed x t withdrawn) s f withdrawn_few withdrawn_same
    (fit_withdrawn x.sizes x.handbacks t (eqb t.marks 0) refl ft (inside_at x.sizes t t.phase ft.shape e))
    refl refl refl refl (inl refl) (let j = withdrawn_alive t (eqb t.marks 0) in omega arith) (agree_still x (changed x t withdrawn) s.agree refl refl p.0 p.1)
sound_step x _ _ s (Effect.backs t f e) =
    let p = keeps_marks x.tickets t (λ u. with_phase Closing u ∷ []) f ((refl, refl), tt) (λ c. omega arith) in
    let ft = fit_of x s t f in
    let sh = shape_at x.sizes x.handbacks t Out e ft in
    let one = ft.some in let eq = sh.0 in
    sound_edit x t (λ u. with_phase Closing u ∷ []) (returned x t) s f (λ u. Few.one (with_phase Closing u)) (λ u. ((refl, refl), tt))
    (fit_phase x.sizes x.handbacks t Closing ft (omega arith, sh.1), tt)
    refl refl refl refl (inr refl) (let j = live_at t Out e in omega arith) (agree_still x (returned x t) s.agree refl refl p.0 p.1)

-- a rack just opened
opened_limits : (z : Sizes) (first : ℕ) → openable z first ≡ true → (1 ≤ z.rows) × (z.rows ≤ 16) × (1 ≤ first) × (first ≤ 1000000000)
opened_limits z first e =
    let a = and_parts (within 1 16 z.rows) (within 1 256 z.columns && (within 1 64 z.places && (within 0 64 z.lead && within 1 1000000000 first))) e in
    let b = and_parts (within 1 256 z.columns) (within 1 64 z.places && (within 0 64 z.lead && within 1 1000000000 first)) a.1 in
    let c = and_parts (within 1 64 z.places) (within 0 64 z.lead && within 1 1000000000 first) b.1 in
    let d = and_parts (within 0 64 z.lead) (within 1 1000000000 first) c.1 in
    let r = and_parts (leb 1 z.rows) (leb z.rows 16) a.0 in
    let g = and_parts (leb 1 first) (leb first 1000000000) d.1 in
    (leb-true 1 z.rows r.0, leb-true z.rows 16 r.1, leb-true 1 first g.0, leb-true first 1000000000 g.1)

sound_opened : (z : Sizes) (first : ℕ) → openable z first ≡ true → Sound (opened z first)
sound_opened z first e =
    let l = opened_limits z first e in
    let top = l.3 in
    record {
      limits = e;
      rows_some = l.0;
      rows_most = l.1;
      first_some = l.2;
      numbers = omega arith;
      rising = omega arith;
      fits = tt;
      few = omega arith;
      counted = omega arith;
      agree = record {
        size = length-replicate (z.columns * z.rows) Vacant;
        vacant = λ c h. let k = ap (count_of is_vacant) (cells_new z.rows z.columns c h) ∙ all_vacant z.rows in omega arith;
        held = λ c n h. ap (count_of (holds n)) (cells_new z.rows z.columns c h) ∙ none_held n z.rows;
      };
    }

pub sound_new : (x : Rack) → New x → Sound x
sound_new x n = subst (λ (y : Rack). Sound y) (sym n.3) (sound_opened n.0 n.1 n.2)

pub sound : (h : List Event) (x : Rack) → Reaches h x → Sound x
sound [] x r = sound_new x r
sound (e ∷ h) y r = sound_step r.0 e y (sound h r.0 r.1) (effect r.0 e y r.2)

-- the sizes and the first number stay
pub sizes_stay : (x : Rack) (e : Event) (y : Rack) → Effect x e y → (y.sizes ≡ x.sizes) × (y.first ≡ x.first)
sizes_stay x _ _ (Effect.books q b) = (refl, refl)
sizes_stay x _ _ (Effect.steps s f e row fair) = (refl, refl)
sizes_stay x _ _ (Effect.fetches t f e) = (refl, refl)
sizes_stay x _ _ (Effect.leaves t f e) = (refl, refl)
sizes_stay x _ _ (Effect.drops t f e) = (refl, refl)
sizes_stay x _ _ (Effect.backs t f e) = (refl, refl)
