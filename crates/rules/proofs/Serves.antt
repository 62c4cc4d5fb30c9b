-- A step that names a soft ticket is always served, and changes one ticket; and nothing wraps.
use Rattle.std.proofs.Common.{◌≡◌, ℕ, ◌+◌, ◌-◌, ◌≤◌, Bool, true, false, cond, eqb, leb, List, [], ◌∷◌, Some, sym, refl, ap, ◌∙◌, arith}
use Rattle.std.specs.List.{AllByRecursion}
use Rattle.std.proofs.lemmas.Bool.{eq-eqb, eqb-true}
use Rattle.rules.specs.declared.ticket.Ticket.{Ticket}
use Rattle.rules.specs.declared.ticket.Phase.{Phase}
use Rattle.rules.specs.declared.ticket.Phase.TheVariants.{Forward, Backing, Without, Granted, Out, Closing}
use Rattle.rules.specs.declared.report.Action.{Action}
use Rattle.rules.specs.declared.report.Action.TheVariants as action
use Rattle.rules.specs.Lists.{find, edit}
use Rattle.rules.specs.declared.rack.Sizes.{Sizes}
use Rattle.rules.specs.Rack.{Rack, soft, named, cells, has_vacant}
use Rattle.rules.specs.Step.{ahead, retreats, action_of, with_phase, with_marks, sets_out, wiped, after, worked}
use Rattle.rules.specs.History.{Event, Fair, Reaches}
use Rattle.rules.specs.Laws.{Served, AStepIsAlwaysServed, NothingWraps}
use Rattle.rules.proofs.Listing.{Few, all_in, some_none, some_inj}
use Rattle.rules.proofs.Tickets.{Same, after_same, after_few, find_other, find_same, find_gone}
use Rattle.rules.proofs.Duties.{Says, says}
use Rattle.rules.proofs.Effects.{found_own}
use Rattle.rules.proofs.Masks.{some_vacant}
use Rattle.rules.specs.Sound.{Shape, Fit, Sound}
use Rattle.rules.proofs.Looks.{cells_tall}
use Rattle.rules.proofs.Walks.{works, met_once}
use Rattle.rules.proofs.Kept.{sound}

-- another phase, other marks, another first column or another count seen make another ticket
abbrev Other : Ticket → Ticket → Type 0
Other t u = u ≡ t → ⊥

other_phase : (t u : Ticket) (p : Phase) → t.phase ≡ p → (u.phase ≡ p → ⊥) → Other t u
other_phase t u p e d q = d (ap (λ (v : Ticket). v.phase) q ∙ e)

forward_backing : (g : ℕ) → Backing g ≡ Forward → ⊥
forward_backing g e = cc

other_redirect : (n g : ℕ) (t : Ticket) (b : Bool) → eqb t.marks 0 ≡ b → t.phase ≡ Forward
    → (t.marks ≡ 0 → Other t (sets_out n g t)) → Other t (cond b (sets_out n g t) (with_phase (Backing g) t))
other_redirect n g t true e f k = k (eqb-true t.marks 0 e)
other_redirect n g t false e f k = other_phase t (with_phase (Backing g) t) Forward f (forward_backing g)

fewer_marks : (t : Ticket) → 1 ≤ t.marks → Other t (with_marks (t.marks - 1) t)
fewer_marks t h q = let k = ap (λ (v : Ticket). v.marks) q in omega arith

other_wiped_back : (n g : ℕ) (t : Ticket) (b : Bool) → t.phase ≡ Backing g → 1 ≤ t.marks → Other t (cond b (sets_out n g t) (with_marks (t.marks - 1) t))
other_wiped_back n g t true e h = other_phase t (sets_out n g t) (Backing g) e (λ q. forward_backing g (sym q))
other_wiped_back n g t false e h = fewer_marks t h

other_wiped_close : (t : Ticket) (b : Bool) → 1 ≤ t.marks → AllByRecursion (Other t) (cond b [] (with_marks (t.marks - 1) t ∷ []))
other_wiped_close t true h = tt
other_wiped_close t false h = (fewer_marks t h, tt)

other_wiped : (z : Sizes) (n : ℕ) (t : Ticket) (p : Phase) → t.phase ≡ p → retreats p ≡ true → Shape z p t → AllByRecursion (Other t) (wiped n p t)
other_wiped z n t Forward q e s = cc
other_wiped z n t (Backing g) q e s = (other_wiped_back n g t (leb t.marks 1) q s.0, tt)
other_wiped z n t Without q e s = cc
other_wiped z n t Granted q e s = cc
other_wiped z n t Out q e s = cc
other_wiped z n t Closing q e s = other_wiped_close t (leb t.marks 1) s.0

-- no action leaves the ticket as it was
other_after : (z : Sizes) (n : ℕ) (vacant : Bool) (t : Ticket) (a : Action) → Fit z n t → Says z n vacant t a → AllByRecursion (Other t) (after n a t)
other_after z n vacant t action.Wipe f s = other_wiped z n t t.phase refl s f.shape
other_after z n vacant t action.Over f s =
    (other_redirect n t.request.start t (eqb t.marks 0) refl s.0 (λ m q. s.1 (sym (ap (λ (v : Ticket). v.seen) q) ∙ now_seen)), tt)
  where
    now_seen : (sets_out n t.request.start t).seen ≡ n
    now_seen = rw (eq-eqb t.request.start t.request.start refl) refl
other_after z n vacant t action.Without f s = (other_phase t (with_phase Without t) Forward s.0 (λ e. cc), tt)
other_after z n vacant t action.Grant f s = (other_phase t (with_phase Granted t) Forward s.0 (λ e. cc), tt)
other_after z n vacant t action.Mark f s = ((λ q. let k = ap (λ (v : Ticket). v.marks) q in omega arith), tt)
other_after z n vacant t action.Wall f s =
    (other_redirect n (ahead t + 1) t (eqb t.marks 0) refl s.0 (λ m q. let k = ap (λ (v : Ticket). v.first) q in omega arith), tt)

changes_at : (x : Rack) → Sound x → (w : Ticket) → find (named w.number) x.tickets ≡ Some w → (f : Ticket → List Ticket) (us : List Ticket) → f w ≡ us → Few us
    → AllByRecursion (Same w) us → AllByRecursion (Other w) us → find (named w.number) (edit (named w.number) f x.tickets) ≡ Some w → ⊥
changes_at x s w e f _ q Few.none a o p = some_none w (sym p ∙ find_gone w.number x.first x.next f x.tickets w s.rising e q)
changes_at x s w e f _ q (Few.one v) a o p = o.0 (some_inj v w (sym (find_same w.number f x.tickets w v e q a.0.0) ∙ p))

-- a row to take, where the ticket marks
some_row_at : (x : Rack) → Sound x → (w : Ticket) → Fit x.sizes x.handbacks w → (a : Action) → action_of x w ≡ a → Says x.sizes x.handbacks (has_vacant x (ahead w)) w a
    → (row : ℕ) × Fair x w row
some_row_at x sd w f action.Mark e s =
    let i = s.1 in let d = s.2 in let h = f.held in let m = sd.rows_most in
    let l = cells_tall x sd (ahead w) (omega arith) in
    let v = some_vacant (cells x (ahead w)) (omega arith) s.3 in
    (v.0, λ _. v.1)
some_row_at x sd w f action.Wipe e s = (0, λ q. cc)
some_row_at x sd w f action.Over e s = (0, λ q. cc)
some_row_at x sd w f action.Without e s = (0, λ q. cc)
some_row_at x sd w f action.Grant e s = (0, λ q. cc)
some_row_at x sd w f action.Wall e s = (0, λ q. cc)

pub served : (x : Rack) → Sound x → (s : Ticket) → find (named s.number) x.tickets ≡ Some s → soft s.phase ≡ true → Served x s
served x sd s f e =
    let w = worked x s in
    let k = works x sd s f e in
    let n = x.handbacks in
    let a = action_of x w in
    let ft = all_in (Fit x.sizes n) x.tickets w sd.fits k.inside in
    let sy = says x.sizes n (has_vacant x (ahead w)) w k.is_soft in
    record {
      is_due = rw (f, e) refl;
      on_board = k.found;
      is_soft = k.is_soft;
      not_blocked = k.free;
      met_once = λ m. met_once x sd s f e m;
      some_row = some_row_at x sd w ft a refl sy;
      moves = λ row p. changes_at x sd w k.found (after n a) (after n a w) refl (after_few n a w) (after_same n a w) (other_after x.sizes n (has_vacant x (ahead w)) w a ft sy) p;
      no_other = λ row m d. find_other m w.number (after n a) x.tickets d (after_few n a) (after_same n a);
    }

pub always_served : (h : List Event) (x : Rack) → Reaches h x → AStepIsAlwaysServed x
always_served h x r n s f e = served x (sound h x r) s (found_own x.tickets n s f).1 e

pub nothing_wraps : (h : List Event) (x : Rack) → Reaches h x → NothingWraps x
nothing_wraps h x r = let s = sound h x r in record { handbacks_few = let k = s.counted in omega arith; numbers_end = s.numbers }
