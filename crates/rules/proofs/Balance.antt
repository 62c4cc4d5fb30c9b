-- The books balance: every number taken is of one kind, and the tickets are those that the history says.
use Rattle.std.proofs.Common.{◌≡◌, ℕ, suc, ◌+◌, ◌<◌, ◌≤◌, Bool, true, false, cond, ◌&&◌, ◌||◌, eqb, ltb, List, [], ◌∷◌, length, Some, None, Option, sym, refl, ap, ◌∙◌, arith}
use Rattle.std.specs.List.{AllByRecursion}
use Rattle.std.proofs.lemmas.Bool.{eqb-true, eq-eqb, ne_eqb, or_left, or_right}
use Rattle.std.proofs.ByRecursion.{All-weaker}
use Rattle.rules.specs.declared.ticket.Ticket.{Ticket}
use Rattle.rules.specs.declared.ticket.Phase.{Phase}
use Rattle.rules.specs.Lists.{unit, any_of, count_of, find}
use Rattle.rules.specs.Rack.{Rack, seeking, hard, named}
use Rattle.rules.specs.History.{Event, Reaches}
use Rattle.rules.specs.Accounts.{takes, withdraws, denies, grants, returns, kinds, numbers}
use Rattle.rules.specs.Accounts.{is_taken, is_withdrawn, is_denied, is_granted, is_returned, is_standing, is_undecided}
use Rattle.rules.specs.Laws.{BooksBalance, TicketsMatchHistory, NoGrantGoesBackTwice}
use Rattle.rules.specs.Sound.{Rising}
use Rattle.rules.proofs.Cells.{any_count}
use Rattle.rules.proofs.Kept.{sound}
use Rattle.rules.proofs.Statuses.{Status, was_taken, was_withdrawn, was_denied, was_granted, was_returned, Tells, Shows, kind}

-- a count that is 0 or 1 tells whether some entry passes
any_counted : {X : Type 0} (p : X → Bool) (xs : List X) (b : Bool) → count_of p xs ≡ unit b → any_of p xs ≡ b
any_counted p xs b e = any_count p xs ∙ (ap (ltb 0) e ∙ at b)
  where
    at : (c : Bool) → ltb 0 (unit c) ≡ c
    at true = refl
    at false = refl

-- what the history says of a number, by its status
pub record Flags (h : List Event) (n : ℕ) (s : Status) : Type 0 where
  pub taken : is_taken h n ≡ was_taken s
  pub withdrawn : is_withdrawn h n ≡ was_withdrawn s
  pub denied : is_denied h n ≡ was_denied s
  pub granted : is_granted h n ≡ was_granted s
  pub returned : is_returned h n ≡ was_returned s

pub flags : (h : List Event) (n : ℕ) (s : Status) → Tells h n s → Flags h n s
flags h n s k =
    record {
      taken = any_counted (takes n) h (was_taken s) k.taken;
      withdrawn = any_counted (withdraws n) h (was_withdrawn s) k.withdrawn;
      denied = any_counted (denies n) h (was_denied s) k.denied;
      granted = any_counted (grants n) h (was_granted s) k.granted;
      returned = any_counted (returns n) h (was_returned s) k.returned;
    }

one_kind_of : (h : List Event) (n : ℕ) (s : Status) → Flags h n s → kinds h n ≡ unit (is_taken h n)
one_kind_of h n s f = grind arith

-- the numbers of a history are those of the bookings that it took
numbers_counted : (n : ℕ) (h : List Event) → count_of (λ m. eqb m n) (numbers h) ≡ count_of (takes n) h
numbers_counted n [] = refl
numbers_counted n (Event.taken m q ∷ h) = omega (arith, numbers_counted n h)
numbers_counted n (Event.stepped r ∷ h) = omega (arith, numbers_counted n h)
numbers_counted n (Event.collected m ∷ h) = omega (arith, numbers_counted n h)
numbers_counted n (Event.dropped m ∷ h) = omega (arith, numbers_counted n h)
numbers_counted n (Event.returned m ∷ h) = omega (arith, numbers_counted n h)

numbers_taken : (h : List Event) → AllByRecursion (λ m. is_taken h m ≡ true) (numbers h)
numbers_taken [] = tt
numbers_taken (Event.taken m q ∷ h) = (
  or_left (eqb m m) (is_taken h m) (eq-eqb m m refl),
  All-weaker (λ n. is_taken h n ≡ true) (λ n. is_taken (Event.taken m q ∷ h) n ≡ true) (λ n. or_right (eqb m n) (is_taken h n)) (numbers h) (numbers_taken h),
)
numbers_taken (Event.stepped r ∷ h) = numbers_taken h
numbers_taken (Event.collected m ∷ h) = numbers_taken h
numbers_taken (Event.dropped m ∷ h) = numbers_taken h
numbers_taken (Event.returned m ∷ h) = numbers_taken h

-- five counts add up, if each entry counts in exactly one of them
five_counts : {X : Type 0} (a b c d e : X → Bool) (xs : List X) → AllByRecursion (λ x. unit (a x) + unit (b x) + unit (c x) + unit (d x) + unit (e x) ≡ 1) xs
    → length xs ≡ count_of a xs + count_of b xs + count_of c xs + count_of d xs + count_of e xs
five_counts a b c d e [] k = refl
five_counts a b c d e (x ∷ xs) k = omega (arith, k.0, five_counts a b c d e xs k.1)

pub books_balance : (h : List Event) (x : Rack) → Reaches h x → BooksBalance h
books_balance h x r =
    record {
      taken_once = once;
      one_kind = one;
      counts = five_counts (is_undecided h) (is_withdrawn h) (is_denied h) (is_standing h) (is_returned h) (numbers h)
          (All-weaker (λ n. is_taken h n ≡ true) (λ n. kinds h n ≡ 1) (λ n t. one n ∙ ap unit t) (numbers h) (numbers_taken h));
    }
  where
    one : (n : ℕ) → kinds h n ≡ unit (is_taken h n)
    one n = let k = kind h x r n in one_kind_of h n k.status (flags h n k.status k.told)

    once : (n : ℕ) → count_of (λ m. eqb m n) (numbers h) ≡ unit (is_taken h n)
    once n = let k = kind h x r n in numbers_counted n h ∙ (k.told.taken ∙ ap unit (sym (flags h n k.status k.told).taken))

-- the test of what is found
abbrev pub passes : (Phase → Bool) → Option Ticket → Bool
passes p None = false
passes p (Some t) = p t.phase

-- no ticket has a number below those of the list
none_below : (p : Phase → Bool) (n lo hi : ℕ) (ts : List Ticket) → Rising lo hi ts → n < lo → any_of (λ t. named n t && p t.phase) ts ≡ false
none_below p n lo hi [] r l = refl
none_below p n lo hi (t ∷ ts) r l =
    let k = r.0 in let d : eqb t.number n ≡ false = ne_eqb t.number n (λ e. omega arith) in
    rw d (none_below p n (suc t.number) hi ts r.1 (omega arith))

or_false : (b : Bool) → (b || false) ≡ b
or_false true = refl
or_false false = refl

found_at : (p : Phase → Bool) (n hi : ℕ) (t : Ticket) (ts : List Ticket) (b : Bool) → eqb t.number n ≡ b → Rising (suc t.number) hi ts
    → any_of (λ u. named n u && p u.phase) ts ≡ passes p (find (named n) ts)
    → ((b && p t.phase) || any_of (λ u. named n u && p u.phase) ts) ≡ passes p (cond b (Some t) (find (named n) ts))
found_at p n hi t ts true e r ih =
    let j = eqb-true t.number n e in
    let z : any_of (λ u. named n u && p u.phase) ts ≡ false = none_below p n (suc t.number) hi ts r (omega arith) in
    rw z (or_false (p t.phase))
found_at p n hi t ts false e r ih = ih

-- at most one ticket has the number, so it is the one found
pub any_found : (p : Phase → Bool) (n lo hi : ℕ) (ts : List Ticket) → Rising lo hi ts → any_of (λ t. named n t && p t.phase) ts ≡ passes p (find (named n) ts)
any_found p n lo hi [] r = refl
any_found p n lo hi (t ∷ ts) r = found_at p n hi t ts (eqb t.number n) refl r.1 (any_found p n (suc t.number) hi ts r.1)

undecided_passes : (h : List Event) (n : ℕ) (s : Status) (o : Option Ticket) → Flags h n s → Shows s o → passes seeking o ≡ is_undecided h n
undecided_passes h n s o f k = grind arith

standing_passes : (h : List Event) (n : ℕ) (s : Status) (o : Option Ticket) → Flags h n s → Shows s o → passes hard o ≡ is_standing h n
standing_passes h n s o f k = grind arith

pub tickets_match_history : (h : List Event) (x : Rack) → Reaches h x → TicketsMatchHistory h x
tickets_match_history h x r =
    let g = (sound h x r).rising in
    record {
      undecided = λ n. let k = kind h x r n in let o = find (named n) x.tickets in
          any_found seeking n x.first x.next x.tickets g ∙ undecided_passes h n k.status o (flags h n k.status k.told) k.shown;
      standing = λ n. let k = kind h x r n in let o = find (named n) x.tickets in
          any_found hard n x.first x.next x.tickets g ∙ standing_passes h n k.status o (flags h n k.status k.told) k.shown;
    }

pub no_grant_goes_back_twice : (h : List Event) (x : Rack) → Reaches h x → NoGrantGoesBackTwice h
no_grant_goes_back_twice h x r n = let k = kind h x r n in most (was_returned k.status) k.told.returned
  where
    most : (b : Bool) → count_of (returns n) h ≡ unit b → count_of (returns n) h ≤ 1
    most true e = omega arith
    most false e = omega arith
