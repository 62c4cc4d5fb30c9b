-- Figures read into their places, one after another.
use Rattle.std.proofs.Common.{◌≡◌, ℕ, suc, ◌+◌, ◌<◌, ◌≤◌, List, [], ◌∷◌, ◌++◌, length, take, drop, set, Ok, Err, Result, sym, refl, ap, ◌∙◌, append_assoc, arith}
use Rattle.std.proofs.lemmas.List.{take-append-drop, take_more_set, drop-set-lt, at_drop_more, at_drop_all, take_all, append-nil}
use Rattle.text.specs.declared.fault.Fault.{Fault}
use Rattle.text.specs.Tokens.{token_of, figure_in, before, figures_from}

module _ {X E : Type 0} where
  -- entries read before those that a reading gives
  abbrev pub onward : List X → Result (List X) E → Result (List X) E
  onward xs (Err e) = Err e
  onward xs (Ok more) = Ok (xs ++ more)

  pub onward_none : (r : Result (List X) E) → onward [] r ≡ r
  onward_none (Err e) = refl
  onward_none (Ok more) = refl

onward_before : (ns : List ℕ) (n : ℕ) (r : Result (List ℕ) Fault) → onward ns (before (Ok n) r) ≡ onward (ns ++ (n ∷ [])) r
onward_before ns n (Err f) = refl
onward_before ns n (Ok ms) = ap Ok (sym (append_assoc ns (n ∷ []) ms))

onward_fault : (ns : List ℕ) (f : Fault) (r : Result (List ℕ) Fault) → onward ns (before (Err f) r) ≡ Err f
onward_fault ns f r = refl

-- at the start
pub fill_starts : (places : List ℕ) (n : ℕ) (fields these : List (List ℕ)) → n ≡ 0 → fields ≡ these → onward (take n places) (figures_from (n + 2) (drop n places) fields) ≡ figures_from 2 places these
fill_starts places n fields these e f = rw (e, f) (onward_none (figures_from 2 places these))

module _ (places : List ℕ) (i number : ℕ) (l : i < length places) (field : List ℕ) (fields : List (List ℕ)) where
  -- a field that is a figure
  pub fill_more : (n : ℕ) → figure_in (token_of field number) ≡ Ok n
      → onward (take i places) (figures_from number (drop i places) (field ∷ fields)) ≡ onward (take (i + 1) (set places i n)) (figures_from (suc number) (drop (i + 1) (set places i n)) fields)
  fill_more n e =
      at_drop_more (λ ps. onward (take i places) (figures_from number ps (field ∷ fields))) places i 0 l
      ∙ ap (λ r. onward (take i places) (before r (figures_from (suc number) (drop (i + 1) places) fields))) e
      ∙ onward_before (take i places) n (figures_from (suc number) (drop (i + 1) places) fields)
      ∙ ap (λ ns. onward ns (figures_from (suc number) (drop (i + 1) places) fields)) (sym (take_more_set places i n l))
      ∙ ap (λ ps. onward (take (i + 1) (set places i n)) (figures_from (suc number) ps fields)) (sym (drop-set-lt (i + 1) places i n (omega arith)))

  -- one that is not
  pub fill_stops : (f : Fault) → figure_in (token_of field number) ≡ Err f → onward (take i places) (figures_from number (drop i places) (field ∷ fields)) ≡ Err f
  fill_stops f e =
      at_drop_more (λ ps. onward (take i places) (figures_from number ps (field ∷ fields))) places i 0 l
      ∙ ap (λ r. onward (take i places) (before r (figures_from (suc number) (drop (i + 1) places) fields))) e

no_fields : (number : ℕ) (places : List ℕ) → figures_from number places [] ≡ Ok places
no_fields number [] = refl
no_fields number (p ∷ places) = refl

-- no field is left
pub fill_ends : (places : List ℕ) (i number : ℕ) → onward (take i places) (figures_from number (drop i places) []) ≡ Ok places
fill_ends places i number = ap (onward (take i places)) (no_fields number (drop i places)) ∙ ap Ok (take-append-drop i places)

-- no place is left
pub fill_full : (places : List ℕ) (i number : ℕ) (fields : List (List ℕ)) → length places ≤ i → onward (take i places) (figures_from number (drop i places) fields) ≡ Ok places
fill_full places i number fields l =
    at_drop_all (λ ps. onward (take i places) (figures_from number ps fields)) places i l ∙ ap Ok (append-nil (take i places) ∙ take_all i places l)

-- the next field, at this place
module _ (places : List ℕ) (n i : ℕ) (e : i ≡ n) (l : n < length places) (fields : List (List ℕ)) (field : List ℕ) (rest : List (List ℕ)) (g : fields ≡ field ∷ rest) where
  pub next_is : (m v : ℕ) → m ≡ n + 1 → figure_in (token_of field (i + 2)) ≡ Ok v
      → onward (take n places) (figures_from (n + 2) (drop n places) fields) ≡ onward (take m (set places i v)) (figures_from (m + 2) (drop m (set places i v)) rest)
  next_is m v f h =
      let p : n + 1 + 2 ≡ suc (n + 2) = omega arith in
      let k : figure_in (token_of field (n + 2)) ≡ Ok v = ap (λ j. figure_in (token_of field (j + 2))) (sym e) ∙ h in
      rw (f, e, p, g) (fill_more places n (n + 2) l field rest v k)

  pub next_is_none : (f : Fault) → figure_in (token_of field (i + 2)) ≡ Err f → onward (take n places) (figures_from (n + 2) (drop n places) fields) ≡ Err f
  next_is_none f h =
      let k : figure_in (token_of field (n + 2)) ≡ Err f = ap (λ j. figure_in (token_of field (j + 2))) (sym e) ∙ h in
      rw g (fill_stops places n (n + 2) l field rest f k)
