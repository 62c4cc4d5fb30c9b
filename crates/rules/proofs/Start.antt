-- The budget when a booking is taken: its own, which is at most the longest wait, and that of another, which does not rise.
use Rattle.std.proofs.Common.{◌≡◌, ℕ, suc, ◌+◌, ◌-◌, ◌*◌, ◌<◌, ◌≤◌, Bool, true, false, cond, eqb, leb, ◌⊎◌, List, [], ◌∷◌, ◌++◌, length, sym, refl, subst, inl, inr, arith}
use Rattle.std.specs.List.{AllByRecursion}
use Rattle.std.proofs.lemmas.Bool.{eqb-false, le-leb, lt-leb, eq-eqb, ne_eqb, cases_lt}
use Rattle.std.proofs.lemmas.Nat.{mul-le}
use Rattle.std.proofs.lemmas.Bool.Decides.{nat_tests}
use Rattle.rules.specs.declared.ticket.Request.{Request}
use Rattle.rules.specs.declared.ticket.Ticket.{Ticket}
use Rattle.rules.specs.declared.ticket.Phase.{Phase}
use Rattle.rules.specs.declared.ticket.Phase.TheVariants.{Forward, Backing, Without, Granted, Out, Closing}
use Rattle.rules.specs.Lists.{total}
use Rattle.rules.specs.declared.rack.Sizes.{Sizes}
use Rattle.rules.specs.Rack.{Rack, seeking}
use Rattle.rules.specs.Calls.{ticket_for}
use Rattle.rules.specs.Laws.{longest_wait}
use Rattle.rules.proofs.Listing.{In, total_append, total_in}
use Rattle.rules.proofs.Tickets.{Between}
use Rattle.rules.specs.Sound.{Shape, Fit}
use Rattle.rules.proofs.Potential.{pass, other, owes, work, returnable, cost, backer}
use Rattle.rules.proofs.Budget.{backers, budget, owes_most, pass_fewer}

pass_one : (A m : ℕ) → 1 ≤ A → (A - 1) * m + m ≡ A * m
pass_one A m h = let e : A - 1 - 0 ≡ A - 1 = omega arith in let f : A - 0 ≡ A = omega arith in (rw (e, f) at (pass_fewer A 0 m h))

module _ (z : Sizes) (b : ℕ) where
  -- a ticket joins at the end, and so many numbers are left
  budget_push : (u v handbacks : ℕ) (ts : List Ticket) (t : Ticket) → backer z b t + u ≡ v
      → ((A : ℕ) → v ≤ A → cost z b A handbacks t + u * (A * pass z.columns) ≤ v * (A * pass z.columns))
      → budget z b u handbacks (ts ++ (t ∷ [])) ≤ budget z b v handbacks ts
  budget_push u v handbacks ts t e pay =
      let W = pass z.columns in
      let A = backers z b v ts in
      let l = total_append (backer z b) ts (t ∷ []) in
      let same : backers z b u (ts ++ (t ∷ [])) ≡ A = omega arith in
      subst (λ (j : ℕ). total (cost z b j handbacks) (ts ++ (t ∷ [])) + u * (j * W) ≤ budget z b v handbacks ts) (sym same)
      (joins (total (cost z b A handbacks) (ts ++ (t ∷ []))) (total (cost z b A handbacks) ts) (cost z b A handbacks t) (u * (A * W)) (v * (A * W))
      (total_append (cost z b A handbacks) ts (t ∷ [])) (pay A (omega arith)))
    where
      joins : (x y c r s : ℕ) → x ≡ y + (c + 0) → c + r ≤ s → x + r ≤ y + s
      joins x y c r s h1 h2 = omega arith

  -- a new ticket near b costs no more than its number did before
  pub near_cost : (A u : ℕ) (x : Rack) (q : Request) → x.next ≤ b + z.lead → b < x.next → 1 ≤ A
      → cost z b A x.handbacks (ticket_for x q) + u * (A * pass z.columns) ≤ suc u * (A * pass z.columns)
  near_cost A u x q h k a =
      let C = z.columns in
      let e : cost z b A x.handbacks (ticket_for x q) ≡ 0 + (A - 1) * pass C + (2 * (C - (q.start + 0)) + 0 + 1) =
      rw (le-leb x.next (b + z.lead) h, ne_eqb x.next b (λ i. omega arith), eq-eqb x.handbacks x.handbacks refl) refl in
      joins (cost z b A x.handbacks (ticket_for x q)) ((A - 1) * pass C) (A * pass C) (C - (q.start + 0)) C (omega arith) e (pass_one A (pass C) a)
    where
      joins : (c p a k C : ℕ) → k ≤ C → c ≡ 0 + p + (2 * k + 0 + 1) → p + (2 * C + 1) ≡ a → c + u * a ≤ suc u * a
      joins c p a k C h1 h2 h3 = omega arith

  -- another booking is taken
  pub budget_book : (x : Rack) (q : Request) → b < x.next
      → budget z b (suc (b + z.lead) - suc x.next) x.handbacks (x.tickets ++ (ticket_for x q ∷ []))
      ≤ budget z b (suc (b + z.lead) - x.next) x.handbacks x.tickets
  budget_book x q h = at (cases_lt (b + z.lead) x.next)
    where
      at : (b + z.lead < x.next) ⊎ (x.next ≤ b + z.lead)
          → budget z b (suc (b + z.lead) - suc x.next) x.handbacks (x.tickets ++ (ticket_for x q ∷ []))
          ≤ budget z b (suc (b + z.lead) - x.next) x.handbacks x.tickets
      at (inl k) =
          let e : suc (b + z.lead) - suc x.next ≡ 0 = omega arith in
          let f : suc (b + z.lead) - x.next ≡ 0 = omega arith in
          let far = lt-leb x.next (b + z.lead) k in
          rw (e, f) (budget_push 0 0 x.handbacks x.tickets (ticket_for x q) (rw far (omega arith)) (λ A v. rw far (omega arith)))
      at (inr k) =
          let u = suc (b + z.lead) - suc x.next in
          let e : suc (b + z.lead) - x.next ≡ suc u = omega arith in
          let one : backer z b (ticket_for x q) ≡ 1 = rw (le-leb x.next (b + z.lead) k, ne_eqb x.next b (λ i. omega arith)) refl in
          rw e (budget_push u (suc u) x.handbacks x.tickets (ticket_for x q) (omega arith) (λ A v. near_cost A u x q k h (omega arith)))

-- what is left of a pass and of one owed
most_backing : (C g start first k seen handbacks : ℕ) (c : Bool) → eqb g start ≡ c → k ≤ C → (g ≡ start) ⊎ (first + k < g)
    → cond c 0 (owes C seen handbacks) + (2 * (C - g) + k + 1) ≤ 2 * pass C
most_backing C g start first k seen handbacks true e h o = omega arith
most_backing C g start first k seen handbacks false e h (inl o) = absurd (eqb-false g start e o)
most_backing C g start first k seen handbacks false e h (inr o) = omega (arith, owes_most C seen handbacks)

most_pass : (W e p a w : ℕ) → p + W ≡ a → e + w ≤ 2 * W → e + p + w ≤ a + W
most_pass W e p a w h k = omega arith

-- the most work of a ticket other than b
most_work : (z : Sizes) (b A handbacks : ℕ) (t : Ticket) (p : Phase) → t.marks ≤ z.columns → Shape z p t → other b t.number ≡ 1
    → returnable b p t ≤ A → work z.columns b A handbacks p t ≤ A * pass z.columns + pass z.columns
most_work z b A handbacks t Forward k h o a =
    let C = z.columns in
    let m = owes_most C t.seen handbacks in
    rw o (most_pass (pass C) (owes C t.seen handbacks) ((A - 1) * pass C) (A * pass C) (2 * (C - (t.first + t.marks)) + t.marks + 1)
    (pass_one A (pass C) (omega arith)) (omega arith))
most_work z b A handbacks t (Backing g) k h o a =
    let C = z.columns in
    let start = t.request.start in
    rw o (most_pass (pass C) (cond (eqb g start) 0 (owes C t.seen handbacks)) ((A - 1) * pass C) (A * pass C) (2 * (C - g) + t.marks + 1)
    (pass_one A (pass C) (omega arith)) (most_backing C g start t.first t.marks t.seen handbacks (eqb g start) refl k h.3))
most_work z b A handbacks t Without k h o a = omega arith
most_work z b A handbacks t Granted k h o a = omega arith
most_work z b A handbacks t Out k h o a = omega arith
most_work z b A handbacks t Closing k h o a = omega arith

pub most_cost : (z : Sizes) (b A handbacks : ℕ) (t : Ticket) → Fit z handbacks t → t.number < b → backer z b t ≤ A
    → cost z b A handbacks t ≤ A * pass z.columns + pass z.columns
most_cost z b A handbacks t h l a = at (leb t.number (b + z.lead)) a
  where
    at : (c : Bool) → cond c (returnable b t.phase t) 0 ≤ A
        → cond c (work z.columns b A handbacks t.phase t) 0 ≤ A * pass z.columns + pass z.columns
    at true k = most_work z b A handbacks t t.phase (let i = h.reach in omega arith) h.shape (rw (ne_eqb t.number b (λ e. omega arith)) refl) k
    at false k = omega arith

most_total : (z : Sizes) (b lo A handbacks : ℕ) (ts : List Ticket) → AllByRecursion (Fit z handbacks) ts → AllByRecursion (Between lo b) ts → total (backer z b) ts ≤ A
    → total (cost z b A handbacks) ts ≤ length ts * (A * pass z.columns + pass z.columns)
most_total z b lo A handbacks [] h l a = omega arith
most_total z b lo A handbacks (t ∷ ts) h l a =
    joins (cost z b A handbacks t) (total (cost z b A handbacks) ts) (length ts) (A * pass z.columns + pass z.columns)
    (most_cost z b A handbacks t h.0 l.0.1 (omega arith)) (most_total z b lo A handbacks ts h.1 l.1 (omega arith))
  where
    joins : (c t n m : ℕ) → c ≤ m → t ≤ n * m → c + t ≤ suc n * m
    joins c t n m h1 h2 = omega arith

-- one ticket is handed back at most once
pub backer_one : (z : Sizes) (b : ℕ) (t : Ticket) → backer z b t ≤ 1
backer_one z b t = grind (arith, nat_tests)

backers_most : (z : Sizes) (b : ℕ) (ts : List Ticket) → total (backer z b) ts ≤ length ts
backers_most z b [] = omega arith
backers_most z b (t ∷ ts) = omega (arith, backer_one z b t, backers_most z b ts)

-- what b costs when it is taken
pub own_cost : (z : Sizes) (A : ℕ) (x : Rack) (q : Request) → cost z x.next A x.handbacks (ticket_for x q) ≤ A * pass z.columns + pass z.columns
own_cost z A x q =
    let C = z.columns in
    let e : cost z x.next A x.handbacks (ticket_for x q) ≡ 0 + (A - 0) * pass C + (2 * (C - (q.start + 0)) + 0 + 1) =
    rw (le-leb x.next (x.next + z.lead) (omega arith), eq-eqb x.next x.next refl, eq-eqb x.handbacks x.handbacks refl) refl in
    let f : A - 0 ≡ A = omega arith in
    rw (e, f) (omega arith)

-- the budget of a booking that is taken now
pub budget_start : (z : Sizes) (lo : ℕ) (x : Rack) (q : Request) → AllByRecursion (Fit z x.handbacks) x.tickets → AllByRecursion (Between lo x.next) x.tickets
    → length x.tickets < z.places
    → budget z x.next (suc (x.next + z.lead) - suc x.next) x.handbacks (x.tickets ++ (ticket_for x q ∷ [])) ≤ longest_wait z
budget_start z lo x q fits under few =
    let W = pass z.columns in
    let H = z.lead in
    let b = x.next in
    let ts = x.tickets in
    let v = ticket_for x q in
    let n = x.handbacks in
    let e : suc (b + H) - suc b ≡ H = omega arith in
    let none : backer z b v ≡ 0 = rw (le-leb b (b + H) (omega arith), eq-eqb b b refl) refl in
    let l = total_append (backer z b) ts (v ∷ []) in
    let A = total (backer z b) ts + H in
    let same : backers z b H (ts ++ (v ∷ [])) ≡ A = omega arith in
    let most = backers_most z b ts in
    rw e (subst (λ (j : ℕ). total (cost z b j n) (ts ++ (v ∷ [])) + H * (j * W) ≤ longest_wait z) (sym same)
    (joins (total (cost z b A n) (ts ++ (v ∷ []))) (total (cost z b A n) ts) (cost z b A n v) (length ts) H A W z.places
    (total_append (cost z b A n) ts (v ∷ [])) (most_total z b lo A n ts fits under (omega arith)) (own_cost z A x q) few (omega arith)))
  where
    joins : (x y c n H A W N : ℕ) → x ≡ y + (c + 0) → y ≤ n * (A * W + W) → c ≤ A * W + W → n < N → suc A ≤ N + H
        → x + H * (A * W) ≤ (N + H) * (N + H) * W
    joins x y c n H A W N h1 h2 h3 h4 h5 =
        let p = mul-le (suc n + H) (suc A * W) (N + H) ((N + H) * W) (omega arith) (mul-le (suc A) W (N + H) W h5 (omega arith)) in
        omega arith

-- while it seeks, a booking costs something
seeking_work : (C b A handbacks : ℕ) (t : Ticket) → seeking t.phase ≡ true → 1 ≤ work C b A handbacks t.phase t
seeking_work C b A handbacks t e = grind (arith, nat_tests)

pub seeking_cost : (z : Sizes) (b A handbacks : ℕ) (t : Ticket) → t.number ≤ b + z.lead → seeking t.phase ≡ true → 1 ≤ cost z b A handbacks t
seeking_cost z b A handbacks t l e = rw (le-leb t.number (b + z.lead) l) (seeking_work z.columns b A handbacks t e)

pub budget_some : (z : Sizes) (b u handbacks : ℕ) (ts : List Ticket) (t : Ticket) → In t ts → t.number ≤ b + z.lead → seeking t.phase ≡ true
    → 1 ≤ budget z b u handbacks ts
budget_some z b u handbacks ts t i l e =
    let A = backers z b u ts in
    omega (arith, total_in (cost z b A handbacks) ts t i, seeking_cost z b A handbacks t l e)
