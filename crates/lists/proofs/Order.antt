-- The search for the foremost entry finds one that leads: where the test is an order there is one, and any that leads is the one found.
use Rattle.std.proofs.Common.{◌≡◌, ℕ, zero, suc, ◌+◌, ◌-◌, ◌<◌, Bool, true, false, not, List, [], ◌∷◌, length, get_or, take, drop, Some, sym, refl, ap, ◌∙◌, subst, ⊎_elim, arith}
use Rattle.std.proofs.lemmas.List.MinMax.{IsStrictWeakOrder-from_at_least, IsFirstBest-from_best_of}
use Rattle.std.proofs.lemmas.Grind.{get_or_after_one}
use Rattle.std.proofs.lemmas.List.{get_or_default, get_or-take}
use Rattle.std.proofs.lemmas.Bool.{and_from, and_parts, not-true, not-false, cases_Bool, both_ways}
use Rattle.std.specs.Option.{option_map}
use Rattle.std.specs.List.{IsFirstBest, list_all}
use Rattle.lists.specs.Order.{first_where, foremost_of, LeadsAt, Foremost}

module _ {X : Type 0} (test : X → Bool) where
  pub all_pass_from : (xs : List X) → ((k : ℕ) (d : X) → k < length xs → test (get_or xs k d) ≡ true) → list_all test xs ≡ true
  all_pass_from [] h = refl
  all_pass_from (x ∷ xs) h = and_from (test x) (list_all test xs) (h 0 x (omega arith)) (all_pass_from xs (λ k d l. h (suc k) d (omega arith)))

  pub all_pass_at : (xs : List X) (k : ℕ) (d : X) → list_all test xs ≡ true → k < length xs → test (get_or xs k d) ≡ true
  all_pass_at [] k d h l = let z : ⊥ = omega arith in elim z [ ]
  all_pass_at (x ∷ xs) zero d h l = (and_parts (test x) (list_all test xs) h).0
  all_pass_at (x ∷ xs) (suc k) d h l = all_pass_at xs k d (and_parts (test x) (list_all test xs) h).1 (omega arith)

  pub not_all_pass : (xs : List X) (k : ℕ) (d : X) → k < length xs → test (get_or xs k d) ≡ false → list_all test xs ≡ false
  not_all_pass xs k d l h = ⊎_elim (λ a. absurd (both_ways _ h (all_pass_at xs k d a l))) (λ a. a) (cases_Bool (list_all test xs))

  pub first_where_is : (xs : List X) (i : ℕ) → i < length xs → ((d : X) → test (get_or xs i d) ≡ true) →
      ((k : ℕ) (d : X) → k < i → test (get_or xs k d) ≡ false) → first_where test xs ≡ Some i
  first_where_is [] i l h f = let z : ⊥ = omega arith in elim z [ ]
  first_where_is (x ∷ xs) zero l h f = rw (h x)
  first_where_is (x ∷ xs) (suc i) l h f =
      rw (f 0 x (omega arith))
      (ap (option_map suc) (first_where_is xs i (omega arith) h (λ k d m. f (suc k) d (omega arith))))

-- the entries behind the first, by place
pub after_first : {X : Type 0} (xs : List X) (i : ℕ) (d : X) → i + 1 < length xs → get_or (take (length xs - 1) (drop 1 xs)) i d ≡ get_or xs (i + 1) d
after_first xs i d l = get_or-take (length xs - 1) (drop 1 xs) i d (omega arith) ∙ (get_or_after_one xs i d ∙ ap (λ n. get_or xs n d) (omega arith))

module _ {X : Type 0} (before : X → X → Bool) where
  -- an entry that leads is the one that is found
  pub foremost_is : (xs : List X) (i : ℕ) → LeadsAt before xs i → foremost_of before xs ≡ Some i
  foremost_is xs i h =
      first_where_is (λ x. list_all (before x) xs) xs i h.within
      (λ d. all_pass_from (before (get_or xs i d)) xs (λ k e l. rw (get_or_default xs k e d l) (h.all k d l)))
      (λ k d l. not_all_pass (before (get_or xs k d)) xs i d h.within (h.first k d l))

  -- the best by the test `not (before y x)`, with the list at its end, leads
  pub leads_from_best : (xs : List X) (i : ℕ) → IsFirstBest (λ x y. not (before y x)) xs (length xs) i → LeadsAt before xs i
  leads_from_best xs i h =
      record {
        within = h.0;
        all = λ k d l. not-false (before (get_or xs i d) (get_or xs k d)) (h.1 k d l);
        first = λ k d l. not-true (before (get_or xs k d) (get_or xs i d)) (h.2 k d l);
      }

  module _ (total : (x y : X) → before x y ≡ false → before y x ≡ true) (transitive : (x y z : X) → before x y ≡ true → before y z ≡ true → before x z ≡ true) where
    -- what is found leads, and of a list with an entry one is found
    pub foremost_leads : (xs : List X) → Foremost before xs (foremost_of before xs)
    foremost_leads [] = refl
    foremost_leads (x ∷ xs) =
        let b = IsFirstBest-from_best_of (IsStrictWeakOrder-from_at_least before total transitive) x xs in
        let h = leads_from_best (x ∷ xs) b.0 b.1 in
        subst (Foremost before (x ∷ xs)) (sym (foremost_is (x ∷ xs) b.0 h)) h
