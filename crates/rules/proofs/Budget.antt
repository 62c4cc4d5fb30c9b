-- The budget of a waiting booking b: the work left of all tickets that a step can come to. A step pays one, and no other call raises it.
use Rattle.std.proofs.Common.{◌≡◌, ℕ, suc, ◌+◌, ◌-◌, ◌*◌, ◌<◌, ◌≤◌, Bool, true, false, cond, eqb, leb, List, [], ◌∷◌, Some, sym, refl, subst, arith}
use Rattle.std.specs.List.{AllByRecursion}
use Rattle.std.proofs.lemmas.Bool.{le-leb, ne_eqb}
use Rattle.std.proofs.lemmas.Nat.{mul-le}
use Rattle.std.proofs.lemmas.Bool.Decides.{nat_tests}
use Rattle.rules.specs.declared.ticket.Ticket.{Ticket}
use Rattle.rules.specs.declared.ticket.Phase.{Phase}
use Rattle.rules.specs.declared.ticket.Phase.TheVariants.{Forward, Backing, Without, Granted, Out, Closing}
use Rattle.rules.specs.Lists.{total, find, edit}
use Rattle.rules.specs.declared.rack.Sizes.{Sizes}
use Rattle.rules.specs.Rack.{soft, seeking, named}
use Rattle.rules.specs.Step.{duty, after, with_phase}
use Rattle.rules.specs.Calls.{withdrawn}
use Rattle.rules.proofs.Listing.{total_edit, total_le}
use Rattle.rules.proofs.Tickets.{Same, withdrawn_same}
use Rattle.rules.specs.Sound.{Fit}
use Rattle.rules.proofs.Potential.{pass, other, owes, work, returnable, up_to, cost, backer, step_lowers, step_returns}

-- a ticket has no more work left where fewer hand-backs can come
work_fewer : (C b A B handbacks : ℕ) (t : Ticket) (p : Phase) → A ≤ B → work C b A handbacks p t ≤ work C b B handbacks p t
work_fewer C b A B handbacks t Forward h =
    let o = other b t.number in omega (arith, mul-le (A - o) (pass C) (B - o) (pass C) (omega arith) (omega arith))
work_fewer C b A B handbacks t (Backing g) h =
    let o = other b t.number in omega (arith, mul-le (A - o) (pass C) (B - o) (pass C) (omega arith) (omega arith))
work_fewer C b A B handbacks t Without h = omega arith
work_fewer C b A B handbacks t Granted h = omega arith
work_fewer C b A B handbacks t Out h = omega arith
work_fewer C b A B handbacks t Closing h = omega arith

-- counting up to a number only keeps what is so of the count
pub up_to_le : (last : ℕ) (g h : Ticket → ℕ) (t : Ticket) → g t ≤ h t → up_to last g t ≤ up_to last h t
up_to_le last g h t k = at (leb t.number last)
  where
    at : (c : Bool) → cond c (g t) 0 ≤ cond c (h t) 0
    at true = k
    at false = omega arith

up_to_at : (last : ℕ) (g : Ticket → ℕ) (t : Ticket) (us : List Ticket) (c : Bool) → leb t.number last ≡ c → AllByRecursion (Same t) us
    → total (up_to last g) us ≡ cond c (total g us) 0
up_to_at last g t [] true e a = refl
up_to_at last g t [] false e a = refl
up_to_at last g t (u ∷ us) true e a =
    let q : leb u.number last ≡ true = rw a.0.0 e in
    let r : up_to last g u ≡ g u = rw q refl in
    omega (arith, up_to_at last g t us true e a.1)
up_to_at last g t (u ∷ us) false e a =
    let q : leb u.number last ≡ false = rw a.0.0 e in
    let r : up_to last g u ≡ 0 = rw q refl in
    omega (arith, up_to_at last g t us false e a.1)

pub up_to_call : (last : ℕ) (g : Ticket → ℕ) (t : Ticket) (us : List Ticket) → AllByRecursion (Same t) us → total g us ≤ g t → total (up_to last g) us ≤ up_to last g t
up_to_call last g t us a h = at (leb t.number last) (up_to_at last g t us (leb t.number last) refl a)
  where
    at : (c : Bool) → total (up_to last g) us ≡ cond c (total g us) 0 → total (up_to last g) us ≤ cond c (g t) 0
    at true e = omega arith
    at false e = omega arith

-- a withdrawal leaves the marks to wipe
pub drop_work : (C b A handbacks : ℕ) (t : Ticket) → seeking t.phase ≡ true
    → total (λ v. work C b A handbacks v.phase v) (withdrawn t) ≤ work C b A handbacks t.phase t
drop_work C b A handbacks t e = grind (arith, nat_tests)

drop_returnable : (b : ℕ) (t : Ticket) → total (λ v. returnable b v.phase v) (withdrawn t) ≤ returnable b t.phase t
drop_returnable b t = grind (arith, nat_tests)

-- at most one pass is owed
pub owes_most : (C seen handbacks : ℕ) → owes C seen handbacks ≤ pass C
owes_most C seen handbacks = grind (arith, nat_tests)

-- one pass fewer
pub pass_fewer : (A o m : ℕ) → o < A → (A - 1 - o) * m + m ≡ (A - o) * m
pass_fewer A o m h = at (A - 1 - o) (A - o) (omega arith)
  where
    at : (x y : ℕ) → y ≡ suc x → x * m + m ≡ y * m
    at x y e = rw e (omega arith)

-- a hand-back: a ticket may owe one more pass, and one fewer can come
work_after_back : (C b A handbacks : ℕ) (t : Ticket) (p : Phase) → returnable b p t < A → work C b (A - 1) (suc handbacks) p t ≤ work C b A handbacks p t
work_after_back C b A handbacks t Forward h = omega (arith, pass_fewer A (other b t.number) (pass C) h, owes_most C t.seen (suc handbacks))
work_after_back C b A handbacks t (Backing g) h =
    at (eqb g t.request.start) (owes_most C t.seen (suc handbacks)) (pass_fewer A (other b t.number) (pass C) h)
  where
    at : (c : Bool) → owes C t.seen (suc handbacks) ≤ pass C → (A - 1 - other b t.number) * pass C + pass C ≡ (A - other b t.number) * pass C
        → cond c 0 (owes C t.seen (suc handbacks)) + (A - 1 - other b t.number) * pass C + (2 * (C - g) + t.marks + 1)
        ≤ cond c 0 (owes C t.seen handbacks) + (A - other b t.number) * pass C + (2 * (C - g) + t.marks + 1)
    at true q r = omega arith
    at false q r = omega arith
work_after_back C b A handbacks t Without h = omega arith
work_after_back C b A handbacks t Granted h = omega arith
work_after_back C b A handbacks t Out h = omega arith
work_after_back C b A handbacks t Closing h = omega arith

module _ (z : Sizes) (b : ℕ) where
  -- those that may still be handed back: tickets, and u numbers not yet given out
  abbrev pub backers : ℕ → List Ticket → ℕ
  backers u ts = total (backer z b) ts + u

  -- each number not yet given out may cost a pass for each of them
  abbrev pub budget : ℕ → ℕ → List Ticket → ℕ
  budget u handbacks ts = total (cost z b (backers u ts) handbacks) ts + u * (backers u ts * pass z.columns)

  cost_fewer : (A B handbacks : ℕ) (t : Ticket) → A ≤ B → cost z b A handbacks t ≤ cost z b B handbacks t
  cost_fewer A B handbacks t h =
      up_to_le (b + z.lead) (λ v. work z.columns b A handbacks v.phase v) (λ v. work z.columns b B handbacks v.phase v) t
      (work_fewer z.columns b A B handbacks t t.phase h)

  -- one ticket changes, which pays d steps
  budget_edit : (u handbacks d : ℕ) (p : Ticket → Bool) (f : Ticket → List Ticket) (ts : List Ticket) (t : Ticket) → find p ts ≡ Some t
      → ((A : ℕ) → total (cost z b A handbacks) (f t) + d ≤ cost z b A handbacks t)
      → total (backer z b) (f t) ≤ backer z b t
      → budget u handbacks (edit p f ts) + d ≤ budget u handbacks ts
  budget_edit u handbacks d p f ts t e pay fewer =
      let W = pass z.columns in
      let A = backers u ts in
      let B = backers u (edit p f ts) in
      let l = total_edit (backer z b) p f ts t e in
      let less : B ≤ A = omega arith in
      joins (total (cost z b B handbacks) (edit p f ts)) (total (cost z b A handbacks) (edit p f ts)) (total (cost z b A handbacks) ts)
      (cost z b A handbacks t) (total (cost z b A handbacks) (f t)) (u * (B * W)) (u * (A * W))
      (total_le (cost z b B handbacks) (cost z b A handbacks) (edit p f ts) (λ v. cost_fewer B A handbacks v less))
      (total_edit (cost z b A handbacks) p f ts t e) (pay A)
      (mul-le u (B * W) u (A * W) (omega arith) (mul-le B W A W less (omega arith)))
    where
      joins : (x y z v w r s : ℕ) → x ≤ y → y + v ≡ z + w → w + d ≤ v → r ≤ s → x + r + d ≤ z + s
      joins x y z v w r s h1 h2 h3 h4 = omega arith

  -- a step pays one
  pub budget_step : (vacant : Bool) (u handbacks : ℕ) (ts : List Ticket) (w : Ticket) → find (named w.number) ts ≡ Some w
      → soft w.phase ≡ true → Fit z handbacks w → w.number ≤ b + z.lead
      → budget u handbacks (edit (named w.number) (after handbacks (duty z handbacks vacant w)) ts) + 1 ≤ budget u handbacks ts
  budget_step vacant u handbacks ts w f e h l =
      budget_edit u handbacks 1 (named w.number) (after handbacks (duty z handbacks vacant w)) ts w f
      (λ A. step_lowers z vacant b A handbacks w e h l) (step_returns z vacant b handbacks w e)

  -- a call on one ticket that leaves it no more work, nor makes it returnable
  budget_call : (u handbacks : ℕ) (f : Ticket → List Ticket) (ts : List Ticket) (t : Ticket) → find (named t.number) ts ≡ Some t → AllByRecursion (Same t) (f t)
      → ((A : ℕ) → total (λ v. work z.columns b A handbacks v.phase v) (f t) ≤ work z.columns b A handbacks t.phase t)
      → total (λ v. returnable b v.phase v) (f t) ≤ returnable b t.phase t
      → budget u handbacks (edit (named t.number) f ts) ≤ budget u handbacks ts
  budget_call u handbacks f ts t e same pay fewer =
      let r = budget_edit u handbacks 0 (named t.number) f ts t e
      (λ A. let k = up_to_call (b + z.lead) (λ v. work z.columns b A handbacks v.phase v) t (f t) same (pay A) in omega arith)
      (up_to_call (b + z.lead) (λ v. returnable b v.phase v) t (f t) same fewer) in
      omega arith

  -- it is collected, granted or without
  pub budget_fetch : (u handbacks : ℕ) (ts : List Ticket) (t : Ticket) → find (named t.number) ts ≡ Some t → t.phase ≡ Granted
      → budget u handbacks (edit (named t.number) (λ v. with_phase Out v ∷ []) ts) ≤ budget u handbacks ts
  budget_fetch u handbacks ts t f e =
      budget_call u handbacks (λ v. with_phase Out v ∷ []) ts t f ((refl, refl), tt) (λ A. rw e (omega arith)) (rw e (omega arith))

  pub budget_leave : (u handbacks : ℕ) (ts : List Ticket) (t : Ticket) → find (named t.number) ts ≡ Some t
      → budget u handbacks (edit (named t.number) (λ v. []) ts) ≤ budget u handbacks ts
  budget_leave u handbacks ts t f = budget_call u handbacks (λ v. []) ts t f tt (λ A. omega arith) (omega arith)

  -- it is withdrawn
  pub budget_drop : (u handbacks : ℕ) (ts : List Ticket) (t : Ticket) → find (named t.number) ts ≡ Some t → seeking t.phase ≡ true
      → budget u handbacks (edit (named t.number) withdrawn ts) ≤ budget u handbacks ts
  budget_drop u handbacks ts t f e =
      budget_call u handbacks withdrawn ts t f (withdrawn_same t) (λ A. drop_work z.columns b A handbacks t e) (drop_returnable b t)

  -- a ticket is handed back
  pub cost_after_back : (A handbacks : ℕ) (t : Ticket) → backer z b t < A → cost z b (A - 1) (suc handbacks) t ≤ cost z b A handbacks t
  cost_after_back A handbacks t h = at (leb t.number (b + z.lead)) h
    where
      at : (c : Bool) → cond c (returnable b t.phase t) 0 < A
          → cond c (work z.columns b (A - 1) (suc handbacks) t.phase t) 0 ≤ cond c (work z.columns b A handbacks t.phase t) 0
      at true k = work_after_back z.columns b A handbacks t t.phase k
      at false k = omega arith

  total_after_back : (A handbacks : ℕ) (ts : List Ticket) → total (backer z b) ts < A
      → total (cost z b (A - 1) (suc handbacks)) ts ≤ total (cost z b A handbacks) ts
  total_after_back A handbacks [] h = omega arith
  total_after_back A handbacks (t ∷ ts) h = omega (arith, cost_after_back A handbacks t (omega arith), total_after_back A handbacks ts (omega arith))

  pub budget_back : (u handbacks : ℕ) (ts : List Ticket) (t : Ticket) → find (named t.number) ts ≡ Some t → t.phase ≡ Out → t.number ≤ b + z.lead
      → (t.number ≡ b → ⊥) → budget u (suc handbacks) (edit (named t.number) (λ v. with_phase Closing v ∷ []) ts) ≤ budget u handbacks ts
  budget_back u handbacks ts t f e l d =
      let W = pass z.columns in
      let A = backers u ts in
      let g : Ticket → List Ticket = λ v. with_phase Closing v ∷ [] in
      let us = edit (named t.number) g ts in
      let near = le-leb t.number (b + z.lead) l in
      let one : backer z b t ≡ 1 = rw (near, e, ne_eqb t.number b d) refl in
      let gone : total (backer z b) (g t) ≡ 0 = rw near refl in
      let k = total_edit (backer z b) (named t.number) g ts t f in
      let same : backers u us ≡ A - 1 = omega arith in
      let before : cost z b A handbacks t ≡ t.marks = rw (near, e) refl in
      let then : total (cost z b A handbacks) (g t) ≡ t.marks + 0 = rw near refl in
      let r = mul-le u ((A - 1) * W) u (A * W) (omega arith) (mul-le (A - 1) W A W (omega arith) (omega arith)) in
      subst (λ (j : ℕ). total (cost z b j (suc handbacks)) us + u * (j * W) ≤ budget u handbacks ts) (sym same)
      (joins (total (cost z b (A - 1) (suc handbacks)) us) (total (cost z b A handbacks) us) (total (cost z b A handbacks) ts)
      (cost z b A handbacks t) (total (cost z b A handbacks) (g t)) (u * ((A - 1) * W)) (u * (A * W)) t.marks
      (total_after_back A handbacks us (omega arith)) (total_edit (cost z b A handbacks) (named t.number) g ts t f) before then r)
    where
      joins : (x y z v w r s k : ℕ) → x ≤ y → y + v ≡ z + w → v ≡ k → w ≡ k + 0 → r ≤ s → x + r ≤ z + s
      joins x y z v w r s k h1 h2 h3 h4 h5 = omega arith
