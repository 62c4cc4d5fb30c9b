-- The three choosers are lawful, and pick as they say: by induction over the rows that are left to look at.
use Rattle.std.proofs.Common.{◌≡◌, ℕ, zero, suc, ◌+◌, ◌-◌, ◌<◌, ◌≤◌, min, Bool, true, false, cond, ◌&&◌, ◌||◌, eqb, leb, ◌⊎◌, List, Some, None, Option, sym, refl, ap, ◌∙◌, subst, inl, inr, arith}
use Rattle.std.proofs.lemmas.List.{length-set, get_or-set_same, get_or-set_other}
use Rattle.std.proofs.lemmas.Bool.{and_parts, or_parts, or_cases, leb-true, leb-false, eqb-true, eqb-false, both_ways, cases_order}
use Rattle.rules.specs.declared.asked.Asked.{Asked}
use Rattle.rules.specs.Choosers.{bit, vacant_in, Lawful, first_row, lowest_row, staying_row, most_picks, tally_of, least_from, evening_row, picked, lowest, staying, evening, SomeVacant, PicksLowest, PicksStaying, PicksEvening, AddsOne, LowestSays, StayingSays, EveningSays}
use Rattle.rules.proofs.Listing.{some_inj, some_none}

-- a vacant row is one of the rows 1 to 16
pub vacant_range : (mask row : ℕ) → vacant_in mask row ≡ true → (1 ≤ row) × (row ≤ 16)
vacant_range mask row e =
    let p = and_parts (leb 1 row) (leb row 16 && bit (row - 1) mask) e in
    let q = and_parts (leb row 16) (bit (row - 1) mask) p.1 in
    (leb-true 1 row p.0, leb-true row 16 q.0)

-- the row passes, and no row from i on that is lower does
pub record First (p : ℕ → Bool) (i row : ℕ) : Type 0 where
  pub passes : p row ≡ true
  pub no_lower : (lower : ℕ) → i ≤ lower → lower < row → p lower ≡ false

first_at : (p : ℕ → Bool) (i rest row : ℕ) (b : Bool) → p i ≡ b → p row ≡ true → i ≤ row → (suc i ≤ row → First p (suc i) rest) → First p i (cond b i rest)
first_at p i rest row true e r h ih = record { passes = e; no_lower = λ lower a l. absurd (omega arith) }
first_at p i rest row false e r h ih =
    let d : i ≡ row → ⊥ = λ k. both_ways (p i) e (ap p k ∙ r) in
    let f = ih (omega arith) in
    record {
      passes = f.passes;
      no_lower = λ lower a l. lower_at p i rest lower e f.no_lower l (cases_order lower i) a;
    }
  where
    lower_at : (p : ℕ → Bool) (i rest lower : ℕ) → p i ≡ false → ((k : ℕ) → suc i ≤ k → k < rest → p k ≡ false) → lower < rest
        → (lower ≡ i) ⊎ ((lower < i) ⊎ (i < lower)) → i ≤ lower → p lower ≡ false
    lower_at p i rest lower e k l (inl q) a = ap p q ∙ e
    lower_at p i rest lower e k l (inr (inl q)) a = absurd (omega arith)
    lower_at p i rest lower e k l (inr (inr q)) a = k lower (omega arith) l

-- where a row passes, the first one is found
pub first_row_lem : (p : ℕ → Bool) (i n row : ℕ) → i ≤ row → row < i + n → p row ≡ true → First p i (first_row p i n)
first_row_lem p i zero row a b e = absurd (omega arith)
first_row_lem p i (suc n) row a b e = first_at p i (first_row p (suc i) n) row (p i) refl e a (λ c. first_row_lem p (suc i) n row c (omega arith) e)

lowest_from : (mask row : ℕ) → First (vacant_in mask) 1 row → PicksLowest mask row
lowest_from mask row f = record { vacant = f.passes; no_lower = λ lower l. below lower l }
  where
    below : (lower : ℕ) → lower < row → vacant_in mask lower ≡ false
    below zero l = refl
    below (suc k) l = f.no_lower (suc k) (omega arith) l

-- the lowest vacant row
pub picks_lowest : (q : Asked) → SomeVacant q.mask → PicksLowest q.mask (lowest_row q)
picks_lowest q (row, e) =
    let k = vacant_range q.mask row e in
    lowest_from q.mask (lowest_row q) (first_row_lem (vacant_in q.mask) 1 16 row k.0 (omega arith) e)

-- the left row or the lowest, as an option and a test are
stays_at : (q : Asked) (left : ℕ) (b : Bool) → SomeVacant q.mask → q.left ≡ Some left → vacant_in q.mask left ≡ b
    → PicksStaying q (cond b left (lowest_row q)) × (vacant_in q.mask (cond b left (lowest_row q)) ≡ true)
stays_at q left true v e t =
    (record { stays = λ l k w. some_inj left l (sym e ∙ k); else_lowest = λ k. absurd (both_ways (vacant_in q.mask left) (k left e) t) }, t)
stays_at q left false v e t =
    let p = picks_lowest q v in (
      record { stays = λ l k w. absurd (both_ways (vacant_in q.mask left) t (ap (vacant_in q.mask) (some_inj left l (sym e ∙ k)) ∙ w)); else_lowest = λ k. p },
      p.vacant,
    )

staying_at : (q : Asked) (o : Option ℕ) → SomeVacant q.mask → q.left ≡ o → PicksStaying q (staying_row q o) × (vacant_in q.mask (staying_row q o) ≡ true)
staying_at q None v e =
    let p = picks_lowest q v in
    (record { stays = λ l k w. absurd (some_none l (sym k ∙ e)); else_lowest = λ k. p }, p.vacant)
staying_at q (Some left) v e = stays_at q left (vacant_in q.mask left) v e refl

module _ (tallies : List ℕ) (mask : ℕ) where
  -- none of the rows looked at is vacant, or the row is vacant and one of them
  least_at : (i rest : ℕ) (b c : Bool) → vacant_in mask i ≡ b → (rest ≡ 0) ⊎ ((vacant_in mask rest ≡ true) × (suc i ≤ rest))
      → let row = cond (b && c) i rest in (row ≡ 0) ⊎ ((vacant_in mask row ≡ true) × (i ≤ row))
  least_at i rest true true e r = inr (e, omega arith)
  least_at i rest true false e (inl z) = inl z
  least_at i rest true false e (inr r) = inr (r.0, let k = r.1 in omega arith)
  least_at i rest false c e (inl z) = inl z
  least_at i rest false c e (inr r) = inr (r.0, let k = r.1 in omega arith)

  least_vacant : (i n : ℕ) → (least_from tallies mask i n ≡ 0) ⊎ ((vacant_in mask (least_from tallies mask i n) ≡ true) × (i ≤ least_from tallies mask i n))
  least_vacant i zero = inl refl
  least_vacant i (suc n) =
      let rest = least_from tallies mask (suc i) n in
      least_at i rest (vacant_in mask i) (eqb rest 0 || leb (tally_of tallies i) (tally_of tallies rest)) refl (least_vacant (suc i) n)

  -- the row is vacant, and beats another one: its tally is smaller, or the same and it is not the higher row
  record Beats (row other : ℕ) : Type 0 where
    vacant : vacant_in mask row ≡ true
    smaller : tally_of tallies row ≤ tally_of tallies other
    lower : other < row → tally_of tallies row < tally_of tallies other

  own_beats : (i rest : ℕ) (b c : Bool) → vacant_in mask i ≡ true → vacant_in mask i ≡ b → (eqb rest 0 || leb (tally_of tallies i) (tally_of tallies rest)) ≡ c
      → (rest ≡ 0) ⊎ ((vacant_in mask rest ≡ true) × (suc i ≤ rest)) → Beats (cond (b && c) i rest) i
  own_beats i rest true true v e t r = record { vacant = v; smaller = omega arith; lower = λ l. absurd (omega arith) }
  own_beats i rest true false v e t (inl z) = absurd (eqb-false rest 0 (or_parts (eqb rest 0) (leb (tally_of tallies i) (tally_of tallies rest)) t).0 z)
  own_beats i rest true false v e t (inr r) =
      let k = leb-false (tally_of tallies i) (tally_of tallies rest) (or_parts (eqb rest 0) (leb (tally_of tallies i) (tally_of tallies rest)) t).1 in
      record { vacant = r.0; smaller = omega arith; lower = λ l. omega arith }
  own_beats i rest false c v e t r = absurd (both_ways (vacant_in mask i) e v)

  -- a row that beats the rest's best beats what that one beats
  next_beats : (i rest other : ℕ) → (eqb rest 0 ≡ true) ⊎ (leb (tally_of tallies i) (tally_of tallies rest) ≡ true) → vacant_in mask i ≡ true → suc i ≤ other
      → Beats rest other → Beats i other
  next_beats i rest other (inl z) v l r =
      let k = eqb-true rest 0 z in
      let n = vacant_range mask rest r.vacant in
      absurd (omega arith)
  next_beats i rest other (inr t) v l r =
      let k = leb-true (tally_of tallies i) (tally_of tallies rest) t in
      let n = r.smaller in
      record { vacant = v; smaller = omega arith; lower = λ h. absurd (omega arith) }

  others_beaten : (i rest other : ℕ) (b c : Bool) → vacant_in mask i ≡ b → (eqb rest 0 || leb (tally_of tallies i) (tally_of tallies rest)) ≡ c → suc i ≤ other
      → Beats rest other → Beats (cond (b && c) i rest) other
  others_beaten i rest other true true e t l r = next_beats i rest other (or_cases (eqb rest 0) (leb (tally_of tallies i) (tally_of tallies rest)) t) e l r
  others_beaten i rest other true false e t l r = r
  others_beaten i rest other false c e t l r = r

  beats_at : (i n other : ℕ) → vacant_in mask other ≡ true → i ≤ other → (other ≡ i) ⊎ ((other < i) ⊎ (i < other))
      → (suc i ≤ other → Beats (least_from tallies mask (suc i) n) other) → Beats (least_from tallies mask i (suc n)) other
  beats_at i n other v a (inl e) ih =
      let rest = least_from tallies mask (suc i) n in
      subst (λ (k : ℕ). Beats (least_from tallies mask i (suc n)) k) (sym e)
      (own_beats i rest (vacant_in mask i) (eqb rest 0 || leb (tally_of tallies i) (tally_of tallies rest)) (sym (ap (vacant_in mask) e) ∙ v) refl refl
      (least_vacant (suc i) n))
  beats_at i n other v a (inr (inl l)) ih = absurd (omega arith)
  beats_at i n other v a (inr (inr l)) ih =
      let rest = least_from tallies mask (suc i) n in
      others_beaten i rest other (vacant_in mask i) (eqb rest 0 || leb (tally_of tallies i) (tally_of tallies rest)) refl refl l (ih l)

  -- of the rows looked at, the vacant one with the smallest tally beats every vacant one
  least_beats : (i n other : ℕ) → i ≤ other → other < i + n → vacant_in mask other ≡ true → Beats (least_from tallies mask i n) other
  least_beats i zero other a b v = absurd (omega arith)
  least_beats i (suc n) other a b v = beats_at i n other v a (cases_order other i) (λ c. least_beats (suc i) n other c (omega arith) v)

  evening_from : (row : ℕ) → SomeVacant mask → ((other : ℕ) → vacant_in mask other ≡ true → Beats row other) → PicksEvening tallies mask row
  evening_from row (one, e) beats =
      record {
        vacant = (beats one e).vacant;
        smallest = λ other v. (beats other v).smaller;
        lower_on_ties = λ lower v l t. let k = (beats lower v).lower l in omega arith;
      }

-- the vacant row with the smallest tally, the lower row on ties
pub picks_evening : (tallies : List ℕ) (q : Asked) → SomeVacant q.mask → PicksEvening tallies q.mask (evening_row tallies q)
picks_evening tallies q v =
    evening_from tallies q.mask (evening_row tallies q) v
    (λ other w. let k = vacant_range q.mask other w in least_beats tallies q.mask 1 16 other k.0 (omega (arith, k.1)) w)

-- a pick adds one to the row's tally, and leaves the others
pub adds_one : (tallies : List ℕ) (row : ℕ) → 1 ≤ row → AddsOne tallies row (picked tallies row)
adds_one tallies row a =
    let one = min most_picks (tally_of tallies row + 1) in
    record {
      rows_stay = length-set tallies (row - 1) one;
      added = λ b. get_or-set_same tallies (row - 1) one 0 (omega arith);
      others_stay = λ other b d. get_or-set_other tallies (row - 1) (other - 1) one 0 (λ e. d (omega arith));
    }

pub lowest_says : {S : Type 0} → LowestSays S
lowest_says = record { picks = λ s q v. picks_lowest q v; holds_same = λ s q. refl }

pub staying_says : {S : Type 0} → StayingSays S
staying_says = record { picks = λ s q v. (staying_at q q.left v refl).0; holds_same = λ s q. refl }

pub evening_says : EveningSays
evening_says =
    record {
      picks = λ tallies q v. picks_evening tallies q v;
      adds_one = λ tallies q v. adds_one tallies (evening_row tallies q) (vacant_range q.mask (evening_row tallies q) (picks_evening tallies q v).vacant).0;
    }

-- so each picks a vacant row where there is one
pub lowest_lawful : {S : Type 0} → Lawful (lowest {S = S})
lowest_lawful s q row e = (picks_lowest q (row, e)).vacant

pub staying_lawful : {S : Type 0} → Lawful (staying {S = S})
staying_lawful s q row e = (staying_at q q.left (row, e) refl).1

pub evening_lawful : Lawful evening
evening_lawful tallies q row e = (picks_evening tallies q (row, e)).vacant

-- what the choosers say fixes the row
pub one_lowest : (mask row other : ℕ) → PicksLowest mask row → PicksLowest mask other → row ≡ other
one_lowest mask row other p q = at (cases_order row other)
  where
    at : (row ≡ other) ⊎ ((row < other) ⊎ (other < row)) → row ≡ other
    at (inl e) = e
    at (inr (inl l)) = absurd (both_ways (vacant_in mask row) (q.no_lower row l) p.vacant)
    at (inr (inr l)) = absurd (both_ways (vacant_in mask other) (p.no_lower other l) q.vacant)

pub one_evening : (tallies : List ℕ) (mask row other : ℕ) → PicksEvening tallies mask row → PicksEvening tallies mask other → row ≡ other
one_evening tallies mask row other p q = at (cases_order row other)
  where
    same : tally_of tallies row ≡ tally_of tallies other
    same = let k = p.smallest other q.vacant in let l = q.smallest row p.vacant in omega arith

    at : (row ≡ other) ⊎ ((row < other) ⊎ (other < row)) → row ≡ other
    at (inl e) = e
    at (inr (inl l)) = absurd (q.lower_on_ties row p.vacant l same)
    at (inr (inr l)) = absurd (p.lower_on_ties other q.vacant l (sym same))
