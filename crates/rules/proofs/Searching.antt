-- The ledger gives a request one answer, and the search computes it.
use Rattle.std.proofs.Common.{◌≡◌, ℕ, zero, suc, ◌+◌, ◌-◌, ◌<◌, ◌≤◌, Bool, true, false, cond, ◌&&◌, ltb, ◌⊎◌, List, Some, None, Option, refl, ap, subst, inl, inr, arith}
use Rattle.std.proofs.lemmas.Bool.{ltb-true, ltb-false, cases_lt, cases_order}
use Rattle.rules.specs.declared.ticket.Request.{Request}
use Rattle.rules.specs.declared.rack.Sizes.{Sizes}
use Rattle.rules.specs.Ledger.{Entry, load_of, Full, Gives, GivesNone, Answers, roomy, first_fit, LedgerGivesOneAnswer, SearchFindsTheLedgersAnswer}

module _ (z : Sizes) (es : List Entry) where
  -- a window with room in each column has no full one
  room_not_full : (g n : ℕ) → ((c : ℕ) → g ≤ c → c < g + n → load_of es c < z.rows) → Full z es g n → ⊥
  room_not_full g n room f = let k = room f.0 f.1 f.2 in let l = f.3 in omega arith

  same_column : (q : Request) (f g : ℕ) → Gives z es q f → Gives z es q g → (f ≡ g) ⊎ ((f < g) ⊎ (g < f)) → f ≡ g
  same_column q f g a b (inl e) = e
  same_column q f g a b (inr (inl l)) = absurd (room_not_full f q.length a.room (b.earliest f a.not_before l))
  same_column q f g a b (inr (inr l)) = absurd (room_not_full g q.length b.room (a.earliest g b.not_before l))

  not_both : (q : Request) (f : ℕ) → Gives z es q f → GivesNone z es q → ⊥
  not_both q f a b = room_not_full f q.length a.room (b f a.not_before a.inside)

pub one_answer : LedgerGivesOneAnswer
one_answer z es q None None a b = refl
one_answer z es q None (Some g) a b = absurd (not_both z es q g b a)
one_answer z es q (Some f) None a b = absurd (not_both z es q f a b)
one_answer z es q (Some f) (Some g) a b = ap Some (same_column z es q f g a b (cases_order f g))

module _ (z : Sizes) (es : List Entry) where
  -- what the test of a window shows
  abbrev Tested : ℕ → ℕ → Bool → Type 0
  Tested c n true = (k : ℕ) → c ≤ k → k < c + n → load_of es k < z.rows
  Tested c n false = Full z es c n

  tested_at : (c n : ℕ) (a b : Bool) → ltb (load_of es c) z.rows ≡ a → Tested (suc c) n b → Tested c (suc n) (a && b)
  tested_at c n false b e t = (c, omega arith, omega arith, ltb-false (load_of es c) z.rows e)
  tested_at c n true false e t = let l = t.2 in let j = t.1 in (t.0, omega arith, omega arith, t.3)
  tested_at c n true true e t = λ k p r. at k p r (cases_lt c k)
    where
      at : (k : ℕ) → c ≤ k → k < c + suc n → (c < k) ⊎ (k ≤ c) → load_of es k < z.rows
      at k p r (inl l) = t k l (omega arith)
      at k p r (inr l) = let q : c ≡ k = omega arith in subst (λ (j : ℕ). load_of es j < z.rows) q (ltb-true (load_of es c) z.rows e)

  tested : (c n : ℕ) → Tested c n (roomy z es c n)
  tested c zero = λ k p r. absurd (omega arith)
  tested c (suc n) = tested_at c n (ltb (load_of es c) z.rows) (roomy z es (suc c) n) refl (tested (suc c) n)

  -- the search from g on: the earlier windows are full, and n columns are left to try
  search_at : (q : Request) (g n : ℕ) (b : Bool) (o : Option ℕ) → q.start ≤ g → g + q.length + suc n ≡ suc z.columns
      → ((k : ℕ) → q.start ≤ k → k < g → Full z es k q.length) → Tested g q.length b
      → (((k : ℕ) → q.start ≤ k → k < suc g → Full z es k q.length) → Answers z es q o) → Answers z es q (cond b (Some g) o)
  search_at q g n true o s e full t ih = record { not_before = s; inside = omega arith; room = t; earliest = full }
  search_at q g n false o s e full t ih = ih (λ k p r. at k p r (cases_lt k g))
    where
      at : (k : ℕ) → q.start ≤ k → k < suc g → (k < g) ⊎ (g ≤ k) → Full z es k q.length
      at k p r (inl l) = full k p l
      at k p r (inr l) = let j : g ≡ k = omega arith in subst (λ (i : ℕ). Full z es i q.length) j t

  searched : (q : Request) (g n : ℕ) → q.start ≤ g → z.columns < g + q.length + n → (1 ≤ n → g + q.length + n ≡ suc z.columns)
      → ((k : ℕ) → q.start ≤ k → k < g → Full z es k q.length) → Answers z es q (first_fit z es q.length g n)
  searched q g zero s l e full = λ k p r. full k p (omega arith)
  searched q g (suc n) s l e full =
      let k = e (omega arith) in
      search_at q g n (roomy z es g q.length) (first_fit z es q.length (suc g) n) s k full (tested g q.length)
      (λ more. searched q (suc g) n (omega arith) (omega arith) (λ _. omega arith) more)

pub search_answers : SearchFindsTheLedgersAnswer
search_answers z es q =
    searched z es q q.start (suc z.columns - (q.start + q.length)) (omega arith) (omega arith) (λ l. omega arith) (λ k p r. absurd (omega arith))
