-- What the rack counts is what the history tallies.
use Rattle.std.proofs.Common.{◌≡◌, ℕ, suc, ◌+◌, ◌<◌, ◌≤◌, Bool, true, false, ◌&&◌, eqb, ltb, List, [], ◌∷◌, length, sym, refl, ap, ◌∙◌, inl, inr, arith}
use Rattle.std.proofs.lemmas.Bool.Decides.{nat_tests}
use Rattle.std.proofs.lemmas.Bool.{ne_eqb, eqb-true}
use Rattle.rules.specs.declared.ticket.Ticket.{Ticket}
use Rattle.rules.specs.declared.ticket.Phase.{Phase}
use Rattle.rules.specs.Lists.{unit, any_of, total, count_of}
use Rattle.rules.specs.Rack.{Rack, seeking, hard, named}
use Rattle.rules.specs.History.{Event, Reaches}
use Rattle.rules.specs.Accounts.{withdraws, returns, kinds, numbers, tally}
use Rattle.rules.specs.Accounts.{is_taken, is_withdrawn, is_returned, is_standing, is_undecided}
use Rattle.rules.specs.Laws.{BooksBalance, TicketsMatchHistory}
use Rattle.rules.specs.Sound.{Rising}
use Rattle.board.specs.Audit.{is_drop}
use Rattle.rules.proofs.Listing.{In, total_in, total_le}
use Rattle.rules.proofs.Cells.{any_count}
use Rattle.rules.proofs.Effects.{Effect, effect}
use Rattle.rules.proofs.Changes.{subject}
use Rattle.rules.proofs.Kept.{sound}
use Rattle.rules.proofs.Statuses.{kind}
use Rattle.rules.proofs.Balance.{flags, books_balance, tickets_match_history}

total_none : {X : Type 0} (xs : List X) → total (λ _. 0) xs ≡ 0
total_none [] = refl
total_none (x ∷ xs) = omega (arith, total_none xs)

total_add : {X : Type 0} (f g : X → ℕ) (xs : List X) → total (λ x. f x + g x) xs ≡ total f xs + total g xs
total_add f g [] = refl
total_add f g (x ∷ xs) = omega (arith, total_add f g xs)

total_equal : {X : Type 0} (f g : X → ℕ) (xs : List X) → ((x : X) → f x ≡ g x) → total f xs ≡ total g xs
total_equal f g xs e = omega (arith, total_le f g xs (λ x. let k = e x in omega arith), total_le g f xs (λ x. let k = e x in omega arith))

-- the number k, where the test b is passed, counts once in a list that has it once
alike : (k : ℕ) (b : Bool) (ns : List ℕ) → (b ≡ true → count_of (λ m. eqb m k) ns ≡ 1) → count_of (λ n. eqb k n && b) ns ≡ unit b
alike k true ns e = swapped k ns ∙ e refl
  where
    one : (k m : ℕ) → unit (eqb k m && true) ≡ unit (eqb m k)
    one k m = grind (arith, nat_tests)

    swapped : (k : ℕ) (ns : List ℕ) → count_of (λ n. eqb k n && true) ns ≡ count_of (λ m. eqb m k) ns
    swapped k [] = refl
    swapped k (m ∷ ns) = omega (arith, one k m, swapped k ns)
alike k false ns e = none k ns
  where
    zero_at : (k m : ℕ) → unit (eqb k m && false) ≡ 0
    zero_at k m = grind (arith, nat_tests)

    none : (k : ℕ) (ns : List ℕ) → count_of (λ n. eqb k n && false) ns ≡ 0
    none k [] = refl
    none k (m ∷ ns) = omega (arith, zero_at k m, none k ns)

-- entries that pass p, each under a key: under n stands at most one, exactly where q holds; and q's numbers stand once in the list
module _ {X : Type 0} (key : X → ℕ) (p : X → Bool) (under : ℕ → X → Bool) (keyed : (n : ℕ) (x : X) → under n x ≡ (eqb (key x) n && p x)) (ns : List ℕ) where
  by_number : (xs : List X) → ((x : X) → In x xs → p x ≡ true → count_of (λ m. eqb m (key x)) ns ≡ 1) → total (λ n. count_of (under n) xs) ns ≡ count_of p xs
  by_number [] once = total_none ns
  by_number (x ∷ xs) once =
      let a = total_add (λ n. unit (under n x)) (λ n. count_of (under n) xs) ns in
      let b = by_number xs (λ y i. once y (inr i)) in
      let c = alike (key x) (p x) ns (once x (inl refl)) in
      let d = total_equal (λ n. unit (under n x)) (λ n. unit (eqb (key x) n && p x)) ns (λ n. ap unit (keyed n x)) in
      omega arith

  pub tallied : (xs : List X) (q t : ℕ → Bool) → ((n : ℕ) → count_of (under n) xs ≡ unit (q n)) → ((n : ℕ) → count_of (λ m. eqb m n) ns ≡ unit (t n))
      → ((n : ℕ) → q n ≡ true → t n ≡ true) → count_of p xs ≡ count_of q ns
  tallied xs q t one once known =
      sym (by_number xs (λ x i e. once (key x) ∙ ap unit (known (key x) (some x i e))))
      ∙ total_equal (λ n. count_of (under n) xs) (λ n. unit (q n)) ns one
    where
      holds : (k n : ℕ) (b : Bool) → k ≤ n → k ≡ 1 → n ≡ unit b → b ≡ true
      holds k n true l e f = refl
      holds k n false l e f = absurd (omega arith)

      itself : (k : ℕ) → (eqb k k && true) ≡ true
      itself k = grind (arith, nat_tests)

      own : (x : X) → p x ≡ true → unit (under (key x) x) ≡ 1
      own x e = ap unit (keyed (key x) x) ∙ rw e (ap unit (itself (key x)))

      some : (x : X) → In x xs → p x ≡ true → q (key x) ≡ true
      some x i e = holds (unit (under (key x) x)) (count_of (under (key x)) xs) (q (key x)) (total_in (λ y. unit (under (key x) y)) xs x i) (own x e) (one (key x))

-- how many numbers were given out, and how often one was handed back
abbrev is_back : Event → Bool
is_back (Event.taken m q) = false
is_back (Event.stepped r) = false
is_back (Event.collected m) = false
is_back (Event.dropped m) = false
is_back (Event.returned m) = true

record Counted (h : List Event) (x : Rack) : Type 0 where
  given_out : x.first + length (numbers h) ≡ x.next
  handed_back : x.handbacks ≡ count_of is_back h

counted_step : (h : List Event) (x : Rack) (e : Event) (y : Rack) → Counted h x → Effect x e y → Counted (e ∷ h) y
counted_step h x _ _ c (Effect.books q b) = let g = c.given_out in let k = c.handed_back in record { given_out = omega arith; handed_back = omega arith }
counted_step h x _ _ c (Effect.steps s f i row fair) = record { given_out = c.given_out; handed_back = omega (arith, c.handed_back) }
counted_step h x _ _ c (Effect.fetches t f i) = record { given_out = c.given_out; handed_back = omega (arith, c.handed_back) }
counted_step h x _ _ c (Effect.leaves t f i) = record { given_out = c.given_out; handed_back = omega (arith, c.handed_back) }
counted_step h x _ _ c (Effect.drops t f i) = record { given_out = c.given_out; handed_back = omega (arith, c.handed_back) }
counted_step h x _ _ c (Effect.backs t f i) = record { given_out = c.given_out; handed_back = omega (arith, c.handed_back) }

counted : (h : List Event) (x : Rack) → Reaches h x → Counted h x
counted [] x (z, first, o, e) = rw e (record { given_out = omega arith; handed_back = refl })
counted (e ∷ h) y (x, r, a) = counted_step h x e y (counted h x r) (effect x e y a)

drop_keyed : (n : ℕ) (e : Event) → withdraws n e ≡ (eqb (subject e) n && is_drop e)
drop_keyed n e = grind (arith, nat_tests)

back_keyed : (n : ℕ) (e : Event) → returns n e ≡ (eqb (subject e) n && is_back e)
back_keyed n e = grind (arith, nat_tests)

-- at most one ticket has a number
none_named : (p : Phase → Bool) (n lo hi : ℕ) (ts : List Ticket) → Rising lo hi ts → n < lo → count_of (λ t. named n t && p t.phase) ts ≡ 0
none_named p n lo hi [] r l = refl
none_named p n lo hi (t ∷ ts) r l =
    let k = r.0 in
    let d : eqb t.number n ≡ false = ne_eqb t.number n (λ e. omega arith) in
    rw d (omega (arith, none_named p n (suc t.number) hi ts r.1 (omega arith)))

one_named : (p : Phase → Bool) (n lo hi : ℕ) (ts : List Ticket) → Rising lo hi ts → count_of (λ t. named n t && p t.phase) ts ≤ 1
one_named p n lo hi [] r = omega arith
one_named p n lo hi (t ∷ ts) r = at (eqb t.number n) refl (p t.phase) (one_named p n (suc t.number) hi ts r.1)
  where
    at : (b : Bool) → eqb t.number n ≡ b → (c : Bool) → count_of (λ u. named n u && p u.phase) ts ≤ 1 → unit (b && c) + count_of (λ u. named n u && p u.phase) ts ≤ 1
    at true e true l = let q = eqb-true t.number n e in omega (arith, none_named p n (suc t.number) hi ts r.1 (omega arith))
    at true e false l = omega arith
    at false e c l = omega arith

named_counted : (p : Phase → Bool) (n lo hi : ℕ) (ts : List Ticket) (b : Bool) → Rising lo hi ts → any_of (λ t. named n t && p t.phase) ts ≡ b
    → count_of (λ t. named n t && p t.phase) ts ≡ unit b
named_counted p n lo hi ts b r e = at (count_of (λ t. named n t && p t.phase) ts) b (one_named p n lo hi ts r) (sym (any_count (λ t. named n t && p t.phase) ts) ∙ e)
  where
    at : (k : ℕ) (b : Bool) → k ≤ 1 → ltb 0 k ≡ b → k ≡ unit b
    at k b l e = grind (arith, nat_tests)

-- a kind that counts among the five is of a number taken
among : (h : List Event) (n : ℕ) (b : Bool) → kinds h n ≡ unit (is_taken h n) → unit b ≤ kinds h n → b ≡ true → is_taken h n ≡ true
among h n b e l k = at b (is_taken h n) (omega arith) k
  where
    at : (b t : Bool) → unit b ≤ unit t → b ≡ true → t ≡ true
    at b true l k = refl
    at false false l k = k
    at true false l k = absurd (omega arith)

-- what can be counted on the rack or among the events is what the history tallies
pub record Tallied (h : List Event) (x : Rack) : Type 0 where
  pub taken : x.first + length (numbers h) ≡ x.next
  pub undecided : count_of (λ t. seeking t.phase) x.tickets ≡ tally is_undecided h
  pub withdrawn : count_of is_drop h ≡ tally is_withdrawn h
  pub standing : count_of (λ t. hard t.phase) x.tickets ≡ tally is_standing h
  pub returned : x.handbacks ≡ tally is_returned h

pub tallies : (h : List Event) (x : Rack) → Reaches h x → Tallied h x
tallies h x r =
    record {
      taken = c.given_out;
      undecided = tallied (λ t. t.number) (λ t. seeking t.phase) (λ n t. named n t && seeking t.phase) (λ n t. refl) (numbers h) x.tickets (is_undecided h) (is_taken h)
          (λ n. named_counted seeking n x.first x.next x.tickets (is_undecided h n) (sound h x r).rising (m.undecided n)) b.taken_once
          (λ n. among h n (is_undecided h n) (b.one_kind n) (omega arith));
      withdrawn = tallied subject is_drop withdraws drop_keyed (numbers h) h (is_withdrawn h) (is_taken h)
          (λ n. let k = kind h x r n in k.told.withdrawn ∙ ap unit (sym (flags h n k.status k.told).withdrawn)) b.taken_once
          (λ n. among h n (is_withdrawn h n) (b.one_kind n) (omega arith));
      standing = tallied (λ t. t.number) (λ t. hard t.phase) (λ n t. named n t && hard t.phase) (λ n t. refl) (numbers h) x.tickets (is_standing h) (is_taken h)
          (λ n. named_counted hard n x.first x.next x.tickets (is_standing h n) (sound h x r).rising (m.standing n)) b.taken_once
          (λ n. among h n (is_standing h n) (b.one_kind n) (omega arith));
      returned = c.handed_back ∙ tallied subject is_back returns back_keyed (numbers h) h (is_returned h) (is_taken h)
          (λ n. let k = kind h x r n in k.told.returned ∙ ap unit (sym (flags h n k.status k.told).returned)) b.taken_once
          (λ n. among h n (is_returned h n) (b.one_kind n) (omega arith));
    }
  where
    c : Counted h x
    c = counted h x r

    b : BooksBalance h
    b = books_balance h x r

    m : TicketsMatchHistory h x
    m = tickets_match_history h x r
