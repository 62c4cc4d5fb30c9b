-- The ledger of a history lists what the tickets have booked, so that every decision is its next entry.
use Rattle.std.proofs.Common.{◌≡◌, ℕ, suc, ◌+◌, ◌<◌, ◌≤◌, Bool, true, false, cond, eqb, List, [], ◌∷◌, ◌++◌, Some, Option, sym, refl, ap, ◌∙◌, subst, inl, inr, arith}
use Rattle.std.specs.List.{AllByRecursion}
use Rattle.std.proofs.ByRecursion.{All-append, All-push, All-weaker}
use Rattle.std.proofs.lemmas.Bool.{eqb-true, eqb-false, eq-eqb, ne_eqb, le-leb, lt-ltb, false≢true}
use Rattle.std.proofs.lemmas.Bool.Decides.{nat_tests}
use Rattle.rules.specs.declared.ticket.Request.{Request}
use Rattle.rules.specs.declared.ticket.Ticket.{Ticket}
use Rattle.rules.specs.declared.ticket.Phase.{Phase}
use Rattle.rules.specs.declared.ticket.Phase.TheVariants.{Forward, Out, Closing}
use Rattle.rules.specs.declared.report.Action.{Action}
use Rattle.rules.specs.declared.report.Action.TheVariants as action
use Rattle.rules.specs.declared.report.Report.{Report}
use Rattle.rules.specs.Words.{is_grant}
use Rattle.rules.specs.Lists.{unit, total, find, edit}
use Rattle.rules.specs.Rack.{Rack, soft, hard, named, has_vacant}
use Rattle.rules.specs.Step.{ahead, worked, action_of, after, column_of, row_told, report_of, acted, with_phase}
use Rattle.rules.specs.Calls.{ticket_for, booked, changed, withdrawn, returned}
use Rattle.rules.specs.History.{Event, Reaches}
use Rattle.rules.specs.Ledger.{Entry, covers, load_of, struck, request_of, entered, ledger, Full, Gives, GivesNone}
use Rattle.rules.specs.Laws.{DecidedRightly, EveryDecisionIsTheLedgersNextEntry}
use Rattle.rules.proofs.Listing.{In, some_inj, find_in, all_in, all_edit, total_le, total_edit}
use Rattle.rules.proofs.Tickets.{Same, Between, rising_between, after_same, withdrawn_same}
use Rattle.rules.proofs.Duties.{Says, says}
use Rattle.rules.proofs.Effects.{Bookable, Effect, effect}
use Rattle.rules.specs.Sound.{Rising, Fit, Sound, Shape, marks_in, booked_in}
use Rattle.rules.proofs.Looks.{load_most}
use Rattle.rules.proofs.Walks.{Works, works}
use Rattle.rules.proofs.Kept.{sound}
use Rattle.rules.proofs.Walls.{books_in, gains, soft_books, booked_acted, booked_aside, Walled, up_to, Passed, AllPassed, walls}

-- the entry of booking n
abbrev pub under : ℕ → Entry → Bool
under n e = eqb e.number n

-- what it should be, by the ticket
abbrev pub entry_for : Ticket → Entry
entry_for t = record { number = t.number; span = record { first = t.first; length = t.request.length } }

-- the history has the ticket's request
abbrev pub Asked : List Event → Ticket → Type 0
Asked h t = request_of t.number h ≡ t.request

-- the ledger has the span of a ticket granted or out
abbrev pub Listed : List Entry → Ticket → Type 0
Listed es t = hard t.phase ≡ true → find (under t.number) es ≡ Some (entry_for t)

-- the history agrees with the tickets: requests, entries, and loads
pub record Booked (h : List Event) (x : Rack) : Type 0 where
  pub asked : AllByRecursion (Asked h) x.tickets
  pub listed : AllByRecursion (Listed (ledger h)) x.tickets
  pub agrees : (c : ℕ) → load_of (ledger h) c ≡ booked_in c x.tickets

-- an entry struck: the loads, and the other entries
removed_edit : (n : ℕ) (es : List Entry) → struck n es ≡ edit (under n) (λ _. []) es
removed_edit n [] = refl
removed_edit n (e ∷ es) = ap (λ (k : List Entry). cond (eqb e.number n) es (e ∷ k)) (removed_edit n es)

removed_load : (n c : ℕ) (es : List Entry) (e : Entry) → find (under n) es ≡ Some e → load_of (struck n es) c + unit (covers e.span c) ≡ load_of es c
removed_load n c es e f =
    rw (removed_edit n es) (omega (arith, total_edit (λ k. unit (covers k.span c)) (under n) (λ _. []) es e f))

other_at : (n m : ℕ) (e : Entry) (es : List Entry) (b : Bool) → eqb e.number m ≡ b → (n ≡ m → ⊥) → find (under n) (struck m es) ≡ find (under n) es
    → find (under n) (cond b es (e ∷ struck m es)) ≡ find (under n) (e ∷ es)
other_at n m e es true p d ih = sym (rw (ne_eqb e.number n (λ k. d (sym k ∙ eqb-true e.number m p))) refl)
other_at n m e es false p d ih = ap (λ (o : Option Entry). cond (eqb e.number n) (Some e) o) ih

removed_other : (n m : ℕ) (es : List Entry) → (n ≡ m → ⊥) → find (under n) (struck m es) ≡ find (under n) es
removed_other n m [] d = refl
removed_other n m (e ∷ es) d = other_at n m e es (eqb e.number m) refl d (removed_other n m es d)

-- a change of ticket w, where the others are known to have other numbers
rest_other : (P Q : Ticket → Type 0) (n lo hi : ℕ) (ts : List Ticket) → Rising lo hi ts → n < lo
    → ((t : Ticket) → (t.number ≡ n → ⊥) → P t → Q t) → AllByRecursion P ts → AllByRecursion Q ts
rest_other P Q n lo hi [] r l k a = tt
rest_other P Q n lo hi (t ∷ ts) r l k a =
    let j = r.0 in
    (k t (λ e. omega arith) a.0, rest_other P Q n (suc t.number) hi ts r.1 (omega arith) k a.1)

edit_rest_at : (P Q : Ticket → Type 0) (n lo hi : ℕ) (f : Ticket → List Ticket) (u : Ticket) (ts : List Ticket) (w : Ticket) (b : Bool) → eqb u.number n ≡ b
    → Rising lo hi (u ∷ ts) → ((t : Ticket) → (t.number ≡ n → ⊥) → P t → Q t) → AllByRecursion Q (f w) → P u → AllByRecursion P ts
    → (find (named n) ts ≡ Some w → AllByRecursion Q (edit (named n) f ts))
    → cond b (Some u) (find (named n) ts) ≡ Some w → AllByRecursion Q (cond b (f u ++ ts) (u ∷ edit (named n) f ts))
edit_rest_at P Q n lo hi f u ts w true e r k d a rest ih p =
    let j = eqb-true u.number n e in
    All-append Q (f u) ts (subst (λ (t : Ticket). AllByRecursion Q (f t)) (sym (some_inj u w p)) d) (rest_other P Q n (suc u.number) hi ts r.1 (omega arith) k rest)
edit_rest_at P Q n lo hi f u ts w false e r k d a rest ih p = (k u (eqb-false u.number n e) a, ih p)

edit_rest : (P Q : Ticket → Type 0) (n lo hi : ℕ) (f : Ticket → List Ticket) (ts : List Ticket) (w : Ticket) → Rising lo hi ts → find (named n) ts ≡ Some w
    → ((t : Ticket) → (t.number ≡ n → ⊥) → P t → Q t) → AllByRecursion Q (f w) → AllByRecursion P ts → AllByRecursion Q (edit (named n) f ts)
edit_rest P Q n lo hi f [] w r p k d a = tt
edit_rest P Q n lo hi f (u ∷ ts) w r p k d a =
    edit_rest_at P Q n lo hi f u ts w (eqb u.number n) refl r k d a.0 a.1 (λ q. edit_rest P Q n (suc u.number) hi f ts w r.1 q k d a.1) p

-- only a grant makes a soft ticket hard
not_hard : (n : ℕ) (a : Action) (t : Ticket) → soft t.phase ≡ true → is_grant a ≡ false → AllByRecursion (λ u. hard u.phase ≡ false) (after n a t)
not_hard n a t e d = grind (arith, nat_tests)

withdrawn_not_hard : (t : Ticket) → AllByRecursion (λ u. hard u.phase ≡ false) (withdrawn t)
withdrawn_not_hard t = grind (arith, nat_tests)

-- a ticket that is not hard needs no entry
not_listed : (es : List Entry) (us : List Ticket) → AllByRecursion (λ u. hard u.phase ≡ false) us → AllByRecursion (Listed es) us
not_listed es us a = All-weaker (λ u. hard u.phase ≡ false) (Listed es) (λ u p q. absurd (false≢true (sym p ∙ q))) us a

module _ (x : Rack) (w : Ticket) (row : ℕ) (h : List Event) (es : List Entry) where
  -- what a step tells if it does this action
  abbrev told : Action → Report
  told a = record { number = w.number; action = a; column = column_of a w; row = row_told x w row a }

  -- what its report does to the ledger: the loads, the entry of the ticket, and the other entries
  entered_load : (vacant : Bool) (a : Action) → Says x.sizes x.handbacks vacant w a → Asked h w → (c : ℕ)
      → load_of (entered (told a) a h es) c ≡ load_of es c + gains a w c
  entered_load vacant action.Wipe y k c = omega arith
  entered_load vacant action.Over y k c = omega arith
  entered_load vacant action.Without y k c = omega arith
  entered_load vacant action.Grant y k c = rw (k, sym y.3) (omega arith)
  entered_load vacant action.Mark y k c = omega arith
  entered_load vacant action.Wall y k c = omega arith

  soft_listed : (a : Action) → soft w.phase ≡ true → is_grant a ≡ false → AllByRecursion (Listed es) (after x.handbacks a w)
  soft_listed a e g = not_listed es (after x.handbacks a w) (not_hard x.handbacks a w e g)

  entered_own : (a : Action) → soft w.phase ≡ true → Asked h w → AllByRecursion (Listed (entered (told a) a h es)) (after x.handbacks a w)
  entered_own action.Wipe e k = soft_listed action.Wipe e refl
  entered_own action.Over e k = soft_listed action.Over e refl
  entered_own action.Without e k = soft_listed action.Without e refl
  entered_own action.Grant e k = ((λ _. rw (eq-eqb w.number w.number refl, k) refl), tt)
  entered_own action.Mark e k = soft_listed action.Mark e refl
  entered_own action.Wall e k = soft_listed action.Wall e refl

  entered_other : (a : Action) (n : ℕ) → (n ≡ w.number → ⊥) → find (under n) (entered (told a) a h es) ≡ find (under n) es
  entered_other action.Wipe n d = refl
  entered_other action.Over n d = refl
  entered_other action.Without n d = refl
  entered_other action.Grant n d = rw (ne_eqb w.number n (λ e. d (sym e))) refl
  entered_other action.Mark n d = refl
  entered_other action.Wall n d = refl

asked_same : (h : List Event) (t : Ticket) (us : List Ticket) → Asked h t → AllByRecursion (Same t) us → AllByRecursion (Asked h) us
asked_same h t us k a = All-weaker (Same t) (Asked h) (λ u s. rw s.0 (k ∙ sym s.1)) us a

asked_edit : (h : List Event) (ts : List Ticket) (t : Ticket) (f : Ticket → List Ticket) → find (named t.number) ts ≡ Some t → AllByRecursion (Same t) (f t)
    → AllByRecursion (Asked h) ts → AllByRecursion (Asked h) (edit (named t.number) f ts)
asked_edit h ts t f p s a =
    all_edit (Asked h) (named t.number) f ts t p (asked_same h t (f t) (all_in (Asked h) ts t a (find_in (named t.number) ts t p).0) s) a

booked_report : (h : List Event) (x : Rack) (w : Ticket) (row : ℕ) → Sound x → Works x w → Booked h x
    → Booked (Event.stepped (report_of x w row) ∷ h) (acted x w row)
booked_report h x w row sd k b =
    let a = action_of x w in
    let asks = all_in (Asked h) x.tickets w b.asked k.inside in
    let y = says x.sizes x.handbacks (has_vacant x (ahead w)) w k.is_soft in
    record {
      asked = asked_edit h x.tickets w (after x.handbacks a) k.found (after_same x.handbacks a w) b.asked;
      listed = edit_rest (Listed (ledger h)) (Listed (entered (report_of x w row) a h (ledger h))) w.number x.first x.next (after x.handbacks a)
          x.tickets w sd.rising k.found (λ t d p i. entered_other x w row h (ledger h) a t.number d ∙ p i)
          (entered_own x w row h (ledger h) a k.is_soft asks) b.listed;
      agrees = λ c.
          let p = entered_load x w row h (ledger h) (has_vacant x (ahead w)) a y asks c in
          let q = booked_acted x w row c k.found k.is_soft in
          let r = b.agrees c in omega arith;
    }

-- a new number: what the others asked for stays
asked_taken : (h : List Event) (n : ℕ) (q : Request) (lo : ℕ) (ts : List Ticket) → AllByRecursion (Between lo n) ts → AllByRecursion (Asked h) ts
    → AllByRecursion (Asked (Event.taken n q ∷ h)) ts
asked_taken h n q lo [] r a = tt
asked_taken h n q lo (t ∷ ts) r a =
    let l = r.0.1 in
    (rw (ne_eqb n t.number (λ e. omega arith)) a.0, asked_taken h n q lo ts r.1 a.1)

booked_taken : (h : List Event) (x : Rack) (q : Request) → Sound x → Bookable x q → Booked h x → Booked (Event.taken x.next q ∷ h) (booked x q)
booked_taken h x q sd ok b =
    record {
      asked = All-push (Asked (Event.taken x.next q ∷ h)) x.tickets (ticket_for x q)
          (asked_taken h x.next q x.first x.tickets (rising_between x.first x.next x.tickets sd.rising) b.asked)
          (rw (eq-eqb x.next x.next refl) refl);
      listed = All-push (Listed (ledger h)) x.tickets (ticket_for x q) b.listed (λ e. absurd (false≢true e));
      agrees = λ c. b.agrees c ∙ sym (booked_aside x (Event.taken x.next q) (booked x q) (Effect.books q ok) tt c);
    }

-- a hand-back removes the ticket's entry
booked_returned : (h : List Event) (x : Rack) (t : Ticket) → Sound x → find (named t.number) x.tickets ≡ Some t → t.phase ≡ Out → Booked h x
    → Booked (Event.returned t.number ∷ h) (returned x t)
booked_returned h x t sd f e b =
    let n = t.number in
    let g : Ticket → List Ticket = λ u. with_phase Closing u ∷ [] in
    let i = (find_in (named n) x.tickets t f).0 in
    let sh = subst (λ (s : Phase). Shape x.sizes s t) e (all_in (Fit x.sizes x.handbacks) x.tickets t sd.fits i).shape in
    let own : find (under n) (ledger h) ≡ Some (entry_for t) = all_in (Listed (ledger h)) x.tickets t b.listed i (ap hard e) in
    record {
      asked = asked_edit h x.tickets t g f ((refl, refl), tt) b.asked;
      listed = edit_rest (Listed (ledger h)) (Listed (struck n (ledger h))) n x.first x.next g x.tickets t sd.rising f
          (λ u d p k. removed_other u.number n (ledger h) d ∙ p k) ((λ k. absurd (false≢true k)), tt) b.listed;
      agrees = λ c.
          let p = removed_load n c (ledger h) (entry_for t) own in
          let q : books_in c t ≡ unit (covers (entry_for t).span c) = rw (e, sh.0) refl in
          let r = total_edit (books_in c) (named n) g x.tickets t f in
          let k = b.agrees c in omega arith;
    }

booked_step : (h : List Event) (x : Rack) (e : Event) (y : Rack) → Sound x → Booked h x → Effect x e y → Booked (e ∷ h) y
booked_step h x _ _ sd b (Effect.books q ok) = booked_taken h x q sd ok b
booked_step h x _ _ sd b (Effect.steps s f e row fair) = booked_report h x (worked x s) row sd (works x sd s f e) b
booked_step h x _ _ sd b (Effect.fetches t f e) =
    let g : Ticket → List Ticket = λ u. with_phase Out u ∷ [] in
    let own = all_in (Listed (ledger h)) x.tickets t b.listed (find_in (named t.number) x.tickets t f).0 (ap hard e) in
    record {
      asked = asked_edit h x.tickets t g f ((refl, refl), tt) b.asked;
      listed = all_edit (Listed (ledger h)) (named t.number) g x.tickets t f ((λ _. own), tt) b.listed;
      agrees = λ c. b.agrees c ∙ sym (booked_aside x (Event.collected t.number) (changed x t g) (Effect.fetches t f e) tt c);
    }
booked_step h x _ _ sd b (Effect.leaves t f e) =
    let g : Ticket → List Ticket = λ u. [] in
    record {
      asked = asked_edit h x.tickets t g f tt b.asked;
      listed = all_edit (Listed (ledger h)) (named t.number) g x.tickets t f tt b.listed;
      agrees = λ c. b.agrees c ∙ sym (booked_aside x (Event.collected t.number) (changed x t g) (Effect.leaves t f e) tt c);
    }
booked_step h x _ _ sd b (Effect.drops t f e) =
    record {
      asked = asked_edit h x.tickets t withdrawn f (withdrawn_same t) b.asked;
      listed = all_edit (Listed (ledger h)) (named t.number) withdrawn x.tickets t f
          (not_listed (ledger h) (withdrawn t) (withdrawn_not_hard t)) b.listed;
      agrees = λ c. b.agrees c ∙ sym (booked_aside x (Event.dropped t.number) (changed x t withdrawn) (Effect.drops t f e) tt c);
    }
booked_step h x _ _ sd b (Effect.backs t f e) = booked_returned h x t sd f e b

pub books : (h : List Event) (x : Rack) → Reaches h x → Booked h x
books [] x r = subst (Booked []) (sym r.3) (record { asked = tt; listed = tt; agrees = λ c. refl })
books (e ∷ h) y r = let x = r.0 in booked_step h x e y (sound h x r.1) (books h x r.1) (effect x e y r.2)

total_lt : (g k : Ticket → ℕ) (ts : List Ticket) (w : Ticket) → ((t : Ticket) → g t ≤ k t) → g w < k w → In w ts → total g ts < total k ts
total_lt g k [] w le l i = absurd i
total_lt g k (t ∷ ts) w le l (inl e) = let a : g t < k t = rw e l in omega (arith, total_le g k ts le)
total_lt g k (t ∷ ts) w le l (inr i) = omega (arith, le t, total_lt g k ts w le l i)

booked_marked : (c : ℕ) (t : Ticket) → books_in c t ≤ unit (marks_in c t)
booked_marked c t = grind (arith, nat_tests)

-- a column with the mark of a soft ticket has room in it
soft_room : (x : Rack) (w : Ticket) (c : ℕ) → Sound x → Works x w → c < x.sizes.columns
    → w.first ≤ c → c < w.first + w.marks → booked_in c x.tickets < x.sizes.rows
soft_room x w c sd k l a b =
    let none = soft_books c w k.is_soft in
    let one : unit (marks_in c w) ≡ 1 = rw (le-leb w.first c a, lt-ltb c (w.first + w.marks) b) refl in
    let less = total_lt (books_in c) (λ t. unit (marks_in c t)) x.tickets w (booked_marked c) (omega arith) k.inside in
    let most = load_most x sd c l in omega arith

module _ (h : List Event) (x : Rack) (w : Ticket) (row : ℕ) (sd : Sound x) (k : Works x w) (b : Booked h x) (p : AllPassed x) where
  -- each window that the ticket has passed by is full by the ledger
  full_before : w.phase ≡ Forward → w.seen ≡ x.handbacks → (g : ℕ) → w.request.start ≤ g → g < w.first → Full x.sizes (ledger h) g w.request.length
  full_before e s g l m =
      let walled = all_in (Passed x.sizes x.handbacks x.tickets) x.tickets w p k.inside s in
      let r = subst (λ (f : Phase). Walled x.sizes x.tickets w.request (up_to f w)) e walled g l m in
      (r.0, r.1, r.2, let i = b.agrees r.0 in let j = r.3 in omega arith)

  -- so a report that decides tells what the ledger gives
  decides : (vacant : Bool) (a : Action) → Says x.sizes x.handbacks vacant w a → DecidedRightly x.sizes (told x w row h (ledger h) a) a h
  decides vacant action.Wipe y = tt
  decides vacant action.Over y = tt
  decides vacant action.Without y =
      let past = y.2 in
      let none : GivesNone x.sizes (ledger h) w.request = λ g l m. full_before y.0 y.1 g l (omega arith) in
      subst (GivesNone x.sizes (ledger h)) (sym (all_in (Asked h) x.tickets w b.asked k.inside)) none
  decides vacant action.Grant y =
      let within = y.2 in
      let complete = y.3 in
      let gives : Gives x.sizes (ledger h) w.request w.first =
      record {
        not_before = (all_in (Fit x.sizes x.handbacks) x.tickets w sd.fits k.inside).begun;
        inside = within;
        room = λ c l m. let r = soft_room x w c sd k (omega arith) l (omega arith) in let i = b.agrees c in omega arith;
        earliest = full_before y.0 y.1;
      } in
      subst (λ (q : Request). Gives x.sizes (ledger h) q w.first) (sym (all_in (Asked h) x.tickets w b.asked k.inside)) gives
  decides vacant action.Mark y = tt
  decides vacant action.Wall y = tt

decisions_step : (h : List Event) (x : Rack) (e : Event) (y : Rack) → Sound x → Booked h x → AllPassed x → Effect x e y
    → EveryDecisionIsTheLedgersNextEntry x.sizes h → EveryDecisionIsTheLedgersNextEntry y.sizes (e ∷ h)
decisions_step h x _ _ sd b p (Effect.books q ok) d = d
decisions_step h x _ _ sd b p (Effect.steps s f e row fair) d =
    let w = worked x s in
    let k = works x sd s f e in
    let vacant = has_vacant x (ahead w) in
    (decides h x w row sd k b p vacant (action_of x w) (says x.sizes x.handbacks vacant w k.is_soft), d)
decisions_step h x _ _ sd b p (Effect.fetches t f e) d = d
decisions_step h x _ _ sd b p (Effect.leaves t f e) d = d
decisions_step h x _ _ sd b p (Effect.drops t f e) d = d
decisions_step h x _ _ sd b p (Effect.backs t f e) d = d

pub decisions : (h : List Event) (x : Rack) → Reaches h x → EveryDecisionIsTheLedgersNextEntry x.sizes h
decisions [] x r = tt
decisions (e ∷ h) y r =
    let x = r.0 in
    decisions_step h x e y (sound h x r.1) (books h x r.1) (walls h x r.1) (effect x e y r.2) (decisions h x r.1)
