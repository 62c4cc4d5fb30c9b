-- What a call leaves, and what it tells, as the answer to a line.
use Rattle.std.proofs.Common.{◌≡◌, ℕ, ◌<◌, ◌≤◌, Bool, true, false, cond, ltb, List, [], length, Ok, Err, Result, sym, refl, ap, ◌∙◌, subst, arith}
use Rattle.std.proofs.lemmas.Bool.{lt-ltb, le-ltb, cond-true, cond-false}
use Rattle.lists.specs.Contents.{Contents, room_of, entered}
use Rattle.rules.specs.declared.refusal.Refusal.{Refusal}
use Rattle.rules.specs.declared.refusal.Refusal.TheVariants as refusal
use Rattle.rules.specs.declared.report.Report.{Report}
use Rattle.rules.specs.declared.rack.Sizes.{Sizes}
use Rattle.rules.specs.Rack.{Rack, opened}
use Rattle.rules.specs.Choosers.{Meaning}
use Rattle.rules.specs.Calls.{Outcome, openable, open', book, step, drive, collect, drop', back}
use Rattle.rules.specs.History.{Event, Reaches}
use Rattle.rules.specs.Laws.{told, reported, Carries}
use Rattle.rules.proofs.Whole.{laws}
use Rattle.rules.proofs.Plays.{book_refused, collect_refused, drop_refused, back_refused, step_refused, drive_refused}
use Rattle.text.specs.declared.fault.Fault.{Fault}
use Rattle.text.specs.Faults.{fault_of}
use Rattle.console_next.specs.declared.order.Order.{Order}
use Rattle.console_next.specs.declared.order.Order.TheVariants as order
use Rattle.console_next.specs.declared.reply.Reply.{Reply}
use Rattle.console_next.specs.Orders.{order_of}
use Rattle.console_next.specs.Calls.{Telling, Continues, Called, replied, opening, called}
use Rattle.console_next.specs.Answers.{refused_with, written, obeyed, answered}

-- a call that changes nothing and tells nothing
pub stays : (x : Rack) → Carries [] x x
stays x h r = (r, laws h x r)

-- an opening begins a new history, or changes nothing
module _ (x : Rack) (z : Sizes) (first : ℕ) where
  by_opening : (b : Bool) (y : Rack) → let o : Outcome Unit = cond b (record { answer = Ok tt; rack = opened z first }) (record { answer = Err refusal.Limits; rack = x }) in
      y ≡ o.rack → (o.answer ≡ Ok tt → Reaches [] y) → Continues (opening o.answer) x y
  by_opening true y e r = let p = r refl in (p, laws [] y p)
  by_opening false y e r = subst (Carries [] x) (sym e) (stays x)

  pub open_continues : (y : Rack) → y ≡ (open' x z first).rack → ((open' x z first).answer ≡ Ok tt → Reaches [] y) → Continues (opening (open' x z first).answer) x y
  open_continues y e r = by_opening (openable z first) y e r

-- the same of an order that is known to be an opening, and of one that asks to show a column
module _ {S : Type 0} (m : Meaning S) (x : Rack) (c : Contents Report) (s : S) (o : Order) where
  pub opens_on : (z : Sizes) (first : ℕ) (y : Rack) → o ≡ order.Open z first → y ≡ (open' x z first).rack → ((open' x z first).answer ≡ Ok tt → Reaches [] y)
      → Continues (called m x c s o).tells x y
  opens_on z first y e r a = subst (λ p. Continues (called m x c s p).tells x y) (sym e) (open_continues x z first y r a)

  pub shows_on : (column : ℕ) → o ≡ order.Show column → Continues (called m x c s o).tells x x
  shows_on column e = subst (λ p. Continues (called m x c s p).tells x x) (sym e) (stays x)

ok_err : {A E X : Type 0} (a : A) (e : E) → ◌≡◌ {A = Result A E} (Ok a) (Err e) → X
ok_err a e k = let n : ◌≡◌ {A = ℕ} 0 1 = cc in let z : ⊥ = omega arith in absurd z

replied_err : {A : Type 0} (f : A → Reply) (e : Refusal) (a : Result A Refusal) → replied f a ≡ Err e → a ≡ Err e
replied_err f e (Ok a) k = ok_err _ _ k
replied_err f e (Err d) k = let same : d ≡ e = cc in ap Err same

module _ {S : Type 0} (m : Meaning S) (x : Rack) (c : Contents Report) (s : S) where
  -- what a refused order leaves
  pub record Unchanged (o : Called S) : Type 0 where
    pub rack : o.rack ≡ x
    pub held : o.held ≡ s
    pub journal : o.journal ≡ c
    pub tells : o.tells ≡ Telling.adds []

  open_refused : (z : Sizes) (first : ℕ) (e : Refusal) (b : Bool) → let o : Outcome Unit = cond b (record { answer = Ok tt; rack = opened z first }) (record { answer = Err refusal.Limits; rack = x }) in
      o.answer ≡ Err e → (o.rack ≡ x) × (opening o.answer ≡ Telling.adds [])
  open_refused z first e true k = ok_err _ _ k
  open_refused z first e false k = (refl, refl)

  -- a refused order changes nothing, and tells nothing
  pub refused_order : (o : Order) (e : Refusal) → (called m x c s o).reply ≡ Err e → Unchanged (called m x c s o)
  refused_order (order.Open z first) e k =
      let p = open_refused z first e (openable z first) (replied_err _ e (open' x z first).answer k) in
      record { rack = p.0; held = refl; journal = refl; tells = p.1 }
  refused_order (order.Book q) e k =
      let a = replied_err _ e (book x q).answer k in
      record { rack = book_refused x q e a; held = refl; journal = refl; tells = ap (λ r. Telling.adds (told (λ n. Event.taken n q) r)) a }
  refused_order (order.Step n) e k =
      let a = replied_err _ e (step m x n s).answer k in
      let r = step_refused m x n s e a in
      record { rack = ap (λ o. o.rack) r; held = ap (λ o. o.held) r; journal = refl; tells = ap (λ o. Telling.adds (told Event.stepped o)) a }
  refused_order (order.Drive n budget) e k =
      let a = replied_err _ e (drive m x n budget (room_of c) s).answer k in
      let r = drive_refused m x n budget (room_of c) s e a in
      record { rack = ap (λ o. o.rack) r; held = ap (λ o. o.held) r; journal = ap (λ o. entered c o.reports) r; tells = ap (λ o. Telling.adds (reported o.reports)) r }
  refused_order (order.Collect n) e k =
      let a = replied_err _ e (collect x n).answer k in
      record { rack = collect_refused x n e a; held = refl; journal = refl; tells = ap (λ r. Telling.adds (told (λ _. Event.collected n) r)) a }
  refused_order (order.Drop n) e k =
      let a = replied_err _ e (drop' x n).answer k in
      record { rack = drop_refused x n e a; held = refl; journal = refl; tells = ap (λ r. Telling.adds (told (λ _. Event.dropped n) r)) a }
  refused_order (order.Back n) e k =
      let a = replied_err _ e (back x n).answer k in
      record { rack = back_refused x n e a; held = refl; journal = refl; tells = ap (λ r. Telling.adds (told (λ _. Event.returned n) r)) a }
  refused_order (order.Show column) e k = record { rack = refl; held = refl; journal = refl; tells = refl }

  module _ (line page : List ℕ) where
    pub too_short : length page < 64 → answered m line page x c s ≡ refused_with (fault_of refusal.Page 0 0) page x c s
    too_short h = cond-true (ltb (length page) 64) _ _ (lt-ltb _ _ h)

    has_room : 64 ≤ length page → answered m line page x c s ≡ obeyed m page x c s (order_of line)
    has_room h = cond-false (ltb (length page) 64) _ _ (le-ltb _ _ h)

    pub misread : 64 ≤ length page → (f : Fault) → order_of line ≡ Err f → answered m line page x c s ≡ refused_with f page x c s
    misread h f e = has_room h ∙ ap (obeyed m page x c s) e

    module _ (h : 64 ≤ length page) (o : Order) (read : order_of line ≡ Ok o) where
      obeys : (r : Result Reply Refusal) → (called m x c s o).reply ≡ r → answered m line page x c s ≡ written page x c s (called m x c s o) r
      obeys r e = has_room h ∙ ap (obeyed m page x c s) read ∙ ap (written page x c s (called m x c s o)) e

      pub denied : (e : Refusal) → (called m x c s o).reply ≡ Err e → answered m line page x c s ≡ refused_with (fault_of e 0 0) page x c s
      denied e k = obeys (Err e) k

      pub granted : (r : Reply) → (called m x c s o).reply ≡ Ok r → answered m line page x c s ≡ written page x c s (called m x c s o) (Ok r)
      granted r k = obeys (Ok r) k
