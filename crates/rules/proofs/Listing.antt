-- Lemmas on lists: sums, the first that passes, and what a change of one entry does to them.
use Rattle.std.proofs.Common.{◌≡◌, ℕ, suc, ◌+◌, ◌≤◌, Bool, true, false, cond, ◌⊎◌, List, [], ◌∷◌, ◌++◌, length, Some, None, Option, sym, refl, ap, ◌∙◌, subst, inl, inr, arith}
use Rattle.std.specs.List.{AllByRecursion}
use Rattle.std.proofs.ByRecursion.{All-append}
use Rattle.rules.specs.Lists.{total, find, edit}

-- x is an entry of the list
abbrev pub In : {X : Type 0} → X → List X → Type 0
In x [] = ⊥
In x (y ∷ ys) = (y ≡ x) ⊎ In x ys

pub some_inj : {X : Type 0} (x y : X) → Some x ≡ Some y → x ≡ y
some_inj x y p = cc

pub some_none : {X : Type 0} (x : X) → Some x ≡ None → ⊥
some_none x p = cc

module _ {X : Type 0} where
  pub total_append : (g : X → ℕ) (xs ys : List X) → total g (xs ++ ys) ≡ total g xs + total g ys
  total_append g [] ys = omega arith
  total_append g (x ∷ xs) ys = omega (arith, total_append g xs ys)

  pub total_le : (g h : X → ℕ) (xs : List X) → ((x : X) → g x ≤ h x) → total g xs ≤ total h xs
  total_le g h [] k = omega arith
  total_le g h (x ∷ xs) k = omega (arith, k x, total_le g h xs k)

  pub total_in : (g : X → ℕ) (xs : List X) (x : X) → In x xs → g x ≤ total g xs
  total_in g [] x i = absurd i
  total_in g (y ∷ ys) x (inl e) = rw e (omega arith)
  total_in g (y ∷ ys) x (inr i) = omega (arith, total_in g ys x i)

  pub total_same : (g h : X → ℕ) (xs : List X) → AllByRecursion (λ x. g x ≡ h x) xs → total g xs ≡ total h xs
  total_same g h [] a = refl
  total_same g h (x ∷ xs) a = omega (arith, a.0, total_same g h xs a.1)

  total_edit_at : (g : X → ℕ) (p : X → Bool) (f : X → List X) (y : X) (ys : List X) (x : X) (b : Bool)
      → (find p ys ≡ Some x → total g (edit p f ys) + g x ≡ total g ys + total g (f x))
      → cond b (Some y) (find p ys) ≡ Some x
      → total g (cond b (f y ++ ys) (y ∷ edit p f ys)) + g x ≡ (g y + total g ys) + total g (f x)
  total_edit_at g p f y ys x true ih e = let q = some_inj y x e in rw q (omega (arith, total_append g (f x) ys))
  total_edit_at g p f y ys x false ih e = omega (arith, ih e)

  -- the sum after one entry is changed
  pub total_edit : (g : X → ℕ) (p : X → Bool) (f : X → List X) (xs : List X) (x : X)
      → find p xs ≡ Some x → total g (edit p f xs) + g x ≡ total g xs + total g (f x)
  total_edit g p f [] x e = absurd (some_none x (sym e))
  total_edit g p f (y ∷ ys) x e = total_edit_at g p f y ys x (p y) (λ k. total_edit g p f ys x k) e

  find_at : (p : X → Bool) (y : X) (ys : List X) (x : X) (b : Bool) → p y ≡ b
      → (find p ys ≡ Some x → In x ys × (p x ≡ true))
      → cond b (Some y) (find p ys) ≡ Some x → In x (y ∷ ys) × (p x ≡ true)
  find_at p y ys x true pb ih e = let q = some_inj y x e in (inl q, rw q at pb)
  find_at p y ys x false pb ih e = let r = ih e in (inr r.0, r.1)

  -- what is found is an entry, and passes
  pub find_in : (p : X → Bool) (xs : List X) (x : X) → find p xs ≡ Some x → In x xs × (p x ≡ true)
  find_in p [] x e = absurd (some_none x (sym e))
  find_in p (y ∷ ys) x e = find_at p y ys x (p y) refl (λ k. find_in p ys x k) e

  found_at : (p : X → Bool) (y : X) (ys : List X) (x : X) (b : Bool) → p y ≡ b → p x ≡ true → In x (y ∷ ys)
      → (In x ys → (o : X) × (find p ys ≡ Some o)) → (o : X) × (cond b (Some y) (find p ys) ≡ Some o)
  found_at p y ys x true e q i ih = (y, refl)
  found_at p y ys x false e q (inl a) ih = let z : false ≡ true = sym e ∙ (ap p a ∙ q) in cc
  found_at p y ys x false e q (inr i) ih = ih i

  -- some entry passes, so one is found
  pub find_some : (p : X → Bool) (xs : List X) (x : X) → In x xs → p x ≡ true → (o : X) × (find p xs ≡ Some o)
  find_some p [] x i q = absurd i
  find_some p (y ∷ ys) x i q = found_at p y ys x (p y) refl q i (λ k. find_some p ys x k q)

  pub all_in : (P : X → Type 0) (xs : List X) (x : X) → AllByRecursion P xs → In x xs → P x
  all_in P [] x a i = absurd i
  all_in P (y ∷ ys) x a (inl e) = rw e at a.0
  all_in P (y ∷ ys) x a (inr i) = all_in P ys x a.1 i

  all_edit_at : (P : X → Type 0) (p : X → Bool) (f : X → List X) (y : X) (ys : List X) (x : X) (b : Bool)
      → (find p ys ≡ Some x → AllByRecursion P (edit p f ys)) → AllByRecursion P (f x) → P y → AllByRecursion P ys
      → cond b (Some y) (find p ys) ≡ Some x → AllByRecursion P (cond b (f y ++ ys) (y ∷ edit p f ys))
  all_edit_at P p f y ys x true ih k a rest e = let q = some_inj y x e in All-append P (f y) ys (subst (λ (t : X). AllByRecursion P (f t)) (sym q) k) rest
  all_edit_at P p f y ys x false ih k a rest e = (a, ih e)

  -- all entries have it, and what the changed one becomes
  pub all_edit : (P : X → Type 0) (p : X → Bool) (f : X → List X) (xs : List X) (x : X)
      → find p xs ≡ Some x → AllByRecursion P (f x) → AllByRecursion P xs → AllByRecursion P (edit p f xs)
  all_edit P p f [] x e k a = tt
  all_edit P p f (y ∷ ys) x e k a = all_edit_at P p f y ys x (p y) (λ q. all_edit P p f ys x q k a.1) k a.0 a.1 e

  push_at : (y x : X) (o m : Option X) (b : Bool) → cond b (Some y) o ≡ Some x → (o ≡ Some x → m ≡ Some x) → cond b (Some y) m ≡ Some x
  push_at y x o m true e k = e
  push_at y x o m false e k = k e

  pub find_push : (p : X → Bool) (xs : List X) (x v : X) → find p xs ≡ Some x → find p (xs ++ (v ∷ [])) ≡ Some x
  find_push p [] x v e = absurd (some_none x (sym e))
  find_push p (y ∷ ys) x v e = push_at y x (find p ys) (find p (ys ++ (v ∷ []))) (p y) e (λ k. find_push p ys x v k)

  -- at most one entry
  pub data Few : List X → Type 0 where
    none : Few []
    one : (x : X) → Few (x ∷ [])

  few_length : (us xs : List X) → Few us → length (us ++ xs) ≤ suc (length xs)
  few_length _ xs Few.none = omega arith
  few_length _ xs (Few.one x) = omega arith

  length_edit_at : (p : X → Bool) (f : X → List X) (y : X) (ys : List X) (b : Bool) → Few (f y) → length (edit p f ys) ≤ length ys
      → length (cond b (f y ++ ys) (y ∷ edit p f ys)) ≤ suc (length ys)
  length_edit_at p f y ys true few ih = few_length (f y) ys few
  length_edit_at p f y ys false few ih = omega arith

  pub length_edit : (p : X → Bool) (f : X → List X) (xs : List X) → ((x : X) → Few (f x)) → length (edit p f xs) ≤ length xs
  length_edit p f [] few = omega arith
  length_edit p f (y ∷ ys) few = length_edit_at p f y ys (p y) (few y) (length_edit p f ys few)
