-- What an accepted call did: one case for each kind. The other proofs know the calls by these cases alone.
use Rattle.std.proofs.Common.{◌≡◌, ℕ, ◌+◌, ◌<◌, ◌≤◌, Bool, true, false, cond, not, ◌&&◌, ltb, leb, List, [], ◌∷◌, length, Some, None, Ok, Err, Option, Result, sym, refl, ap, subst}
use Rattle.std.proofs.lemmas.Bool.{and_parts, ltb-false, leb-true, leb-false, eqb-true}
use Rattle.rules.specs.declared.span.Span.{Span}
use Rattle.rules.specs.declared.ticket.Request.{Request}
use Rattle.rules.specs.declared.ticket.Ticket.{Ticket}
use Rattle.rules.specs.declared.ticket.Phase.{Phase}
use Rattle.rules.specs.declared.ticket.Phase.TheVariants.{Forward, Backing, Without, Granted, Out, Closing}
use Rattle.rules.specs.declared.refusal.Refusal.{Refusal}
use Rattle.rules.specs.declared.refusal.Refusal.TheVariants as refusal
use Rattle.rules.specs.Lists.{find}
use Rattle.rules.specs.Rack.{Rack, named, soft, seeking}
use Rattle.rules.specs.Step.{worked, due_for, due, report_of, acted, with_phase}
use Rattle.rules.specs.Calls.{Outcome, within, last_number, admission, booked, at_ticket, changed, collect_at, withdrawn, drop_at, returned, back_at}
use Rattle.rules.specs.History.{Event, Fair, Accepts}
use Rattle.rules.proofs.Listing.{find_in, some_none}

-- why a booking is taken
pub record Bookable (x : Rack) (q : Request) : Type 0 where
  pub some : 1 ≤ q.length
  pub most : q.length ≤ 64
  pub inside : q.start + q.length ≤ x.sizes.columns
  pub number : x.next ≤ last_number
  pub place : length x.tickets < x.sizes.places

-- the ticket of a call, found under the number that the event tells
pub data Effect (x : Rack) : Event → Rack → Type 0 where
  books : (q : Request) → Bookable x q → Effect x (Event.taken x.next q) (booked x q)
  steps : (s : Ticket) → find (named s.number) x.tickets ≡ Some s → soft s.phase ≡ true → (row : ℕ) → Fair x (worked x s) row
      → Effect x (Event.stepped (report_of x (worked x s) row)) (acted x (worked x s) row)
  fetches : (t : Ticket) → find (named t.number) x.tickets ≡ Some t → t.phase ≡ Granted
      → Effect x (Event.collected t.number) (changed x t (λ u. with_phase Out u ∷ []))
  leaves : (t : Ticket) → find (named t.number) x.tickets ≡ Some t → t.phase ≡ Without
      → Effect x (Event.collected t.number) (changed x t (λ u. []))
  drops : (t : Ticket) → find (named t.number) x.tickets ≡ Some t → seeking t.phase ≡ true
      → Effect x (Event.dropped t.number) (changed x t withdrawn)
  backs : (t : Ticket) → find (named t.number) x.tickets ≡ Some t → t.phase ≡ Out
      → Effect x (Event.returned t.number) (returned x t)

bookable_at : (x : Rack) (q : Request) (a b c : Bool) → (within 1 64 q.length && leb (q.start + q.length) x.sizes.columns) ≡ a
    → ltb last_number x.next ≡ b → leb x.sizes.places (length x.tickets) ≡ c
    → cond (not a) (Some refusal.Columns) (cond b (Some refusal.Numbers) (cond c (Some refusal.Places) None)) ≡ None → Bookable x q
bookable_at x q true false false p r s e =
    let k = and_parts (within 1 64 q.length) (leb (q.start + q.length) x.sizes.columns) p in
    let l = and_parts (leb 1 q.length) (leb q.length 64) k.0 in
    record {
      some = leb-true 1 q.length l.0;
      most = leb-true q.length 64 l.1;
      inside = leb-true (q.start + q.length) x.sizes.columns k.1;
      number = ltb-false last_number x.next r;
      place = leb-false x.sizes.places (length x.tickets) s;
    }
bookable_at x q false b c p r s e = absurd (some_none refusal.Columns e)
bookable_at x q true true c p r s e = absurd (some_none refusal.Numbers e)
bookable_at x q true false true p r s e = absurd (some_none refusal.Places e)

pub bookable : (x : Rack) (q : Request) → admission x q ≡ None → Bookable x q
bookable x q e =
    bookable_at x q (within 1 64 q.length && leb (q.start + q.length) x.sizes.columns) (ltb last_number x.next) (leb x.sizes.places (length x.tickets))
    refl refl refl e

-- what is found under a number is found under its own
pub found_own : (ts : List Ticket) (n : ℕ) (t : Ticket) → find (named n) ts ≡ Some t → (t.number ≡ n) × (find (named t.number) ts ≡ Some t)
found_own ts n t f =
    let e = eqb-true t.number n (find_in (named n) ts t f).1 in
    (e, subst (λ (k : ℕ). find (named k) ts ≡ Some t) (sym e) f)

ok_err : {A : Type 0} (a : A) (e : Refusal) → Err e ≡ Ok a → ⊥
ok_err a e p = cc

ok_inj : {A : Type 0} (a b : A) → ◌≡◌ {A = Result A Refusal} (Ok a) (Ok b) → a ≡ b
ok_inj a b p = cc

module _ (x : Rack) where
  due_soft : (n : ℕ) (s t : Ticket) (b : Bool) → soft s.phase ≡ b → cond b (Ok (worked x s)) (Err refusal.Stage) ≡ Ok t → (soft s.phase ≡ true) × (worked x s ≡ t)
  due_soft n s t true e p = (e, ok_inj (worked x s) t p)
  due_soft n s t false e p = absurd (ok_err t refusal.Stage p)

  due_at : (n : ℕ) (t : Ticket) (o : Option Ticket) → find (named n) x.tickets ≡ o
      → due_for x o ≡ Ok t
      → (s : Ticket) × (find (named n) x.tickets ≡ Some s) × (soft s.phase ≡ true) × (worked x s ≡ t)
  due_at n t None f p = absurd (ok_err t refusal.Unknown p)
  due_at n t (Some s) f p = let k = due_soft n s t (soft s.phase) refl p in (s, f, k.0, k.1)

  -- a step that is due names a soft ticket
  pub due_names : (n : ℕ) (t : Ticket) → due x n ≡ Ok t → (s : Ticket) × (find (named n) x.tickets ≡ Some s) × (soft s.phase ≡ true) × (worked x s ≡ t)
  due_names n t p = due_at n t (find (named n) x.tickets) refl p

  collect_at_lem : (n : ℕ) (o : Option Span) (t : Ticket) (p : Phase) → t.phase ≡ p → find (named t.number) x.tickets ≡ Some t → (collect_at x t p).answer ≡ Ok o
      → Effect x (Event.collected t.number) (collect_at x t p).rack
  collect_at_lem n o t Granted q f e = Effect.fetches t f q
  collect_at_lem n o t Without q f e = Effect.leaves t f q
  collect_at_lem n o t Forward q f e = absurd (ok_err o refusal.Stage e)
  collect_at_lem n o t (Backing g) q f e = absurd (ok_err o refusal.Stage e)
  collect_at_lem n o t Out q f e = absurd (ok_err o refusal.Stage e)
  collect_at_lem n o t Closing q f e = absurd (ok_err o refusal.Stage e)

  drop_at_lem : (t : Ticket) (p : Phase) → t.phase ≡ p → find (named t.number) x.tickets ≡ Some t → (drop_at x t p).answer ≡ Ok tt
      → Effect x (Event.dropped t.number) (drop_at x t p).rack
  drop_at_lem t Forward q f e = Effect.drops t f (ap seeking q)
  drop_at_lem t (Backing g) q f e = Effect.drops t f (ap seeking q)
  drop_at_lem t Without q f e = absurd (ok_err tt refusal.Stage e)
  drop_at_lem t Granted q f e = absurd (ok_err tt refusal.Stage e)
  drop_at_lem t Out q f e = absurd (ok_err tt refusal.Stage e)
  drop_at_lem t Closing q f e = absurd (ok_err tt refusal.Stage e)

  back_at_lem : (t : Ticket) (p : Phase) → t.phase ≡ p → find (named t.number) x.tickets ≡ Some t → (back_at x t p).answer ≡ Ok tt
      → Effect x (Event.returned t.number) (back_at x t p).rack
  back_at_lem t Out q f e = Effect.backs t f q
  back_at_lem t Forward q f e = absurd (ok_err tt refusal.Stage e)
  back_at_lem t (Backing g) q f e = absurd (ok_err tt refusal.Stage e)
  back_at_lem t Without q f e = absurd (ok_err tt refusal.Stage e)
  back_at_lem t Granted q f e = absurd (ok_err tt refusal.Stage e)
  back_at_lem t Closing q f e = absurd (ok_err tt refusal.Stage e)

  -- a call that names a number: what it did to the ticket found there
  named_at : {A : Type 0} (E : ℕ → Event) (g : Ticket → Outcome A) (n : ℕ) (a : A) (o : Option Ticket) → find (named n) x.tickets ≡ o
      → ((t : Ticket) → find (named t.number) x.tickets ≡ Some t → (g t).answer ≡ Ok a → Effect x (E t.number) (g t).rack)
      → (at_ticket x g o).answer ≡ Ok a → Effect x (E n) (at_ticket x g o).rack
  named_at E g n a None f k e = absurd (ok_err a refusal.Unknown e)
  named_at E g n a (Some t) f k e =
      let o = found_own x.tickets n t f in
      subst (λ (m : ℕ). Effect x (E m) (g t).rack) o.0 (k t o.1 e)

pub effect : (x : Rack) (e : Event) (y : Rack) → Accepts x e y → Effect x e y
effect x _ _ (Accepts.books q a) = Effect.books q (bookable x q a)
effect x _ _ (Accepts.steps n row t d fair) =
    let k = due_names x n t d in
    let o = found_own x.tickets n k.0 k.1 in
    subst (λ (u : Ticket). Effect x (Event.stepped (report_of x u row)) (acted x u row)) k.3
    (Effect.steps k.0 o.1 k.2 row (subst (λ (u : Ticket). Fair x u row) (sym k.3) fair))
effect x _ _ (Accepts.collects n o a) =
    named_at x Event.collected (λ t. collect_at x t t.phase) n o (find (named n) x.tickets) refl (λ t f e. collect_at_lem x n o t t.phase refl f e) a
effect x _ _ (Accepts.drops n a) =
    named_at x Event.dropped (λ t. drop_at x t t.phase) n tt (find (named n) x.tickets) refl (λ t f e. drop_at_lem x t t.phase refl f e) a
effect x _ _ (Accepts.backs n a) =
    named_at x Event.returned (λ t. back_at x t t.phase) n tt (find (named n) x.tickets) refl (λ t f e. back_at_lem x t t.phase refl f e) a
