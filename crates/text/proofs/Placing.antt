-- The place of the first byte that passes a test, and what lies before it.
use Rattle.std.proofs.Common.{◌≡◌, ℕ, suc, ◌+◌, ◌<◌, ◌≤◌, Bool, true, false, cond, not, ltb, List, [], ◌∷◌, ◌++◌, length, get_or, take, drop, Some, None, sym, refl, ap, ◌∙◌, ⊎_elim, arith}
use Rattle.std.specs.Prelude.{position}
use Rattle.std.specs.List.{position_or_len}
use Rattle.std.proofs.lemmas.Bool.{lt-ltb, cond-true, cases_lt}
use Rattle.std.proofs.lemmas.List.{take-append-drop, at_drop_more, get_or-take, length-take-le}
use Rattle.std.proofs.lemmas.List.Quantifiers.{position-Some}

-- the bytes before a place, the one there, and those after it
pub parted : (bytes : List ℕ) (i : ℕ) → i < length bytes → bytes ≡ take i bytes ++ (get_or bytes i 0 ∷ drop (i + 1) bytes)
parted bytes i l = sym (take-append-drop i bytes) ∙ ap (λ xs. take i bytes ++ xs) (at_drop_more (λ xs. xs) bytes i 0 l)

module _ (p : ℕ → Bool) where
  -- no byte passes
  abbrev pub Fails : List ℕ → Type 0
  Fails [] = Unit {0}
  Fails (b ∷ bytes) = (p b ≡ false) × Fails bytes

  pub fails_push : (bytes : List ℕ) (b : ℕ) → Fails bytes → p b ≡ false → Fails (bytes ++ (b ∷ []))
  fails_push [] b h e = (e, tt)
  fails_push (x ∷ bytes) b h e = (h.0, fails_push bytes b h.1 e)

  fails_from : (bytes : List ℕ) → ((k : ℕ) → k < length bytes → p (get_or bytes k 0) ≡ false) → Fails bytes
  fails_from [] f = tt
  fails_from (b ∷ bytes) f = (f 0 (omega arith), fails_from bytes (λ k h. f (suc k) (omega arith)))

  all_fail : (bytes : List ℕ) → length bytes ≤ position_or_len p bytes → Fails bytes
  all_fail [] h = tt
  all_fail (b ∷ bytes) h = by (p b) refl h (λ k. all_fail bytes k)
    where
      by : (t : Bool) → p b ≡ t → suc (length bytes) ≤ cond (not t) (1 + position_or_len p bytes) 0 → (length bytes ≤ position_or_len p bytes → Fails bytes) → (p b ≡ false) × Fails bytes
      by true e k f = absurd (omega arith)
      by false e k f = (e, f (omega arith))

  pub none_passes : (bytes : List ℕ) → position p bytes ≡ None → Fails bytes
  none_passes bytes e =
      ⊎_elim (λ l. let some = cond-true (ltb (position_or_len p bytes) (length bytes)) (Some (position_or_len p bytes)) None (lt-ltb _ _ l) in cc) (λ l. all_fail bytes l)
      (cases_lt (position_or_len p bytes) (length bytes))

  -- this is the first that passes
  pub record FirstAt (bytes : List ℕ) (i : ℕ) : Type 0 where
    pub inside : i < length bytes
    pub passes : p (get_or bytes i 0) ≡ true
    pub before : Fails (take i bytes)

  pub first_at : (bytes : List ℕ) (i : ℕ) → position p bytes ≡ Some i → FirstAt bytes i
  first_at bytes i e =
      let s = position-Some p bytes i 0 e in
      let inside : i < length bytes = s.0 in
      let long = length-take-le i bytes (omega arith) in
      record {
        inside = inside;
        passes = s.1;
        before = fails_from (take i bytes) (λ k h. let l : k < i = omega arith in ap p (get_or-take i bytes k 0 l) ∙ s.2 k l);
      }
