-- What a column's slots show, in the words of tickets: a vacant slot, a wall, and whose marks are there.
use Rattle.std.proofs.Common.{◌≡◌, ℕ, suc, ◌+◌, ◌<◌, ◌≤◌, Bool, true, false, cond, ◌&&◌, ◌||◌, eqb, ltb, leb, List, [], ◌∷◌, length, Some, Option, sym, refl, ap, ◌∙◌, inl, inr, arith}
use Rattle.std.proofs.lemmas.Bool.{eqb-true, eq-eqb, ne_eqb}
use Rattle.std.proofs.lemmas.Bool.Decides.{nat_tests}
use Rattle.std.specs.List.{AllByRecursion}
use Rattle.rules.specs.declared.slot.Slot.{Slot}
use Rattle.rules.specs.declared.slot.Slot.TheVariants.{Vacant, Marked}
use Rattle.rules.specs.declared.ticket.Ticket.{Ticket}
use Rattle.rules.specs.Lists.{unit, any_of, total, count_of, find}
use Rattle.rules.specs.Rack.{Rack, soft, hard, named, is_vacant, is_booked, holds, cells, has_vacant, is_wall, has_mark, holder}
use Rattle.rules.proofs.Listing.{In}
use Rattle.rules.proofs.Tickets.{rising_low}
use Rattle.rules.proofs.Cells.{any_count, all_count, cells_length, column_inside}
use Rattle.rules.specs.Sound.{Rising, marks_in, load, booked_in, Sound}

pub cells_tall : (x : Rack) → Sound x → (c : ℕ) → c < x.sizes.columns → length (cells x c) ≡ x.sizes.rows
cells_tall x s c h =
    let a = s.agree.size in
    let b = column_inside c x.sizes.columns x.sizes.rows h in
    cells_length x.sizes.rows x.slots c (omega arith)

-- a column has a vacant slot if fewer tickets have a mark there than there are rows
pub sees_vacant : (x : Rack) → Sound x → (c : ℕ) → c < x.sizes.columns → has_vacant x c ≡ ltb (load c x.tickets) x.sizes.rows
sees_vacant x s c h =
    any_count is_vacant (cells x c) ∙ at (count_of is_vacant (cells x c)) (load c x.tickets) x.sizes.rows (s.agree.vacant c h)
  where
    at : (v l r : ℕ) → v + l ≡ r → ltb 0 v ≡ ltb l r
    at v l r e = grind (arith, nat_tests)

-- in a list with rising numbers, what counts under a number counts for one ticket at most
only_at : (g : Ticket → Bool) (n : ℕ) (t : Ticket) (b : Bool) → named n t ≡ b → (n < t.number) → unit (b && g t) ≡ 0
only_at g n t true e l = absurd (let k = eqb-true t.number n e in omega arith)
only_at g n t false e l = refl

none_named : (g : Ticket → Bool) (n lo hi : ℕ) (ts : List Ticket) → Rising lo hi ts → n < lo → total (λ t. unit (named n t && g t)) ts ≡ 0
none_named g n lo hi [] r l = refl
none_named g n lo hi (t ∷ ts) r l =
    let k = r.0 in
    omega (arith, only_at g n t (named n t) refl (omega arith), none_named g n (suc t.number) hi ts r.1 (omega arith))

-- so a sum over the tickets of one number is what that ticket counts
pub one_named : (g : Ticket → Bool) (lo hi : ℕ) (ts : List Ticket) (t : Ticket) → Rising lo hi ts → In t ts → total (λ u. unit (named t.number u && g u)) ts ≡ unit (g t)
one_named g lo hi [] t r i = absurd i
one_named g lo hi (u ∷ us) t r (inl e) =
    let q : named t.number u ≡ true = eq-eqb u.number t.number (ap (λ (k : Ticket). k.number) e) in
    let n = none_named g t.number (suc u.number) hi us r.1 (let k = ap (λ (v : Ticket). v.number) e in omega arith) in
    let a : unit (named t.number u && g u) ≡ unit (g u) = rw q refl in
    let b : unit (g u) ≡ unit (g t) = ap (λ (v : Ticket). unit (g v)) e in
    omega arith
one_named g lo hi (u ∷ us) t r (inr i) =
    let l = rising_low (suc u.number) hi us t r.1 i in
    let q : named t.number u ≡ false = ne_eqb u.number t.number (λ e. omega arith) in
    let a : unit (named t.number u && g u) ≡ 0 = rw q refl in
    omega (arith, one_named g (suc u.number) hi us t r.1 i)

-- a ticket's mark is seen where its columns are
pub sees_mark : (x : Rack) → Sound x → (c : ℕ) → c < x.sizes.columns → (t : Ticket) → In t x.tickets → has_mark x c t ≡ marks_in c t
sees_mark x s c h t i =
    any_count (holds t.number) (cells x c)
    ∙ at (count_of (holds t.number) (cells x c)) (marks_in c t) (s.agree.held c t.number h ∙ one_named (marks_in c) x.first x.next x.tickets t s.rising i)
  where
    at : (n : ℕ) (b : Bool) → n ≡ unit b → ltb 0 n ≡ b
    at n true e = rw e refl
    at n false e = rw e refl

-- a cell is booked as often as it holds the mark of a ticket that is hard: once, or not at all
hard_once_at : (n lo hi : ℕ) (t : Ticket) (ts : List Ticket) (b h : Bool) → named n t ≡ b → Rising lo hi (t ∷ ts)
    → unit (any_of (λ u. named n u && hard u.phase) ts) ≡ total (λ u. unit (named n u && hard u.phase)) ts
    → unit ((b && h) || any_of (λ u. named n u && hard u.phase) ts) ≡ unit (b && h) + total (λ u. unit (named n u && hard u.phase)) ts
hard_once_at n lo hi t ts true true e r ih =
    let k = eqb-true t.number n e in
    let z = none_named (λ u. hard u.phase) n (suc t.number) hi ts r.1 (omega arith) in omega arith
hard_once_at n lo hi t ts true false e r ih = omega arith
hard_once_at n lo hi t ts false h e r ih = omega arith

hard_once : (n lo hi : ℕ) (ts : List Ticket) → Rising lo hi ts → unit (any_of (λ u. named n u && hard u.phase) ts) ≡ total (λ u. unit (named n u && hard u.phase)) ts
hard_once n lo hi [] r = refl
hard_once n lo hi (t ∷ ts) r = hard_once_at n lo hi t ts (named n t) (hard t.phase) refl r (hard_once n (suc t.number) hi ts r.1)

-- the mark of a hard ticket
abbrev hardly : Slot → Ticket → ℕ
hardly s t = unit (hard t.phase && holds t.number s)

none_hardly : (ts : List Ticket) → total (hardly Vacant) ts ≡ 0
none_hardly [] = refl
none_hardly (t ∷ ts) = at (hard t.phase) (none_hardly ts)
  where
    at : (b : Bool) → total (hardly Vacant) ts ≡ 0 → unit (b && false) + total (hardly Vacant) ts ≡ 0
    at true e = omega arith
    at false e = omega arith

swap_and : (n m : ℕ) (b : Bool) → unit (eqb m n && b) ≡ unit (b && eqb n m)
swap_and n m b = grind (arith, nat_tests)

named_hardly : (n : ℕ) (ts : List Ticket) → total (λ t. unit (named n t && hard t.phase)) ts ≡ total (hardly (Marked n)) ts
named_hardly n [] = refl
named_hardly n (t ∷ ts) = omega (arith, swap_and n t.number (hard t.phase), named_hardly n ts)

booked_cell : (lo hi : ℕ) (ts : List Ticket) → Rising lo hi ts → (s : Slot) → unit (is_booked ts s) ≡ total (hardly s) ts
booked_cell lo hi ts r Vacant = sym (none_hardly ts)
booked_cell lo hi ts r (Marked n) = hard_once n lo hi ts r ∙ named_hardly n ts

-- the two sums change places
add_total : (f g : Ticket → ℕ) (ts : List Ticket) → total (λ t. f t + g t) ts ≡ total f ts + total g ts
add_total f g [] = refl
add_total f g (t ∷ ts) = omega (arith, add_total f g ts)

zero_total : (ts : List Ticket) → total (λ (t : Ticket). 0) ts ≡ 0
zero_total [] = refl
zero_total (t ∷ ts) = omega (arith, zero_total ts)

swap_sums : (lo hi : ℕ) (ts : List Ticket) → Rising lo hi ts → (ss : List Slot) → count_of (is_booked ts) ss ≡ total (λ t. total (λ s. hardly s t) ss) ts
swap_sums lo hi ts r [] = sym (zero_total ts)
swap_sums lo hi ts r (s ∷ ss) =
    omega (arith, booked_cell lo hi ts r s, swap_sums lo hi ts r ss, add_total (hardly s) (λ t. total (λ u. hardly u t) ss) ts)

hard_cells : (t : Ticket) (ss : List Slot) (b : Bool) → total (λ s. unit (b && holds t.number s)) ss ≡ cond b (count_of (holds t.number) ss) 0
hard_cells t ss true = refl
hard_cells t [] false = refl
hard_cells t (s ∷ ss) false = omega (arith, hard_cells t ss false)

each_ticket : (x : Rack) → Sound x → (c : ℕ) → c < x.sizes.columns → (ts : List Ticket) → ((t : Ticket) → In t ts → In t x.tickets)
    → total (λ t. total (λ s. hardly s t) (cells x c)) ts ≡ booked_in c ts
each_ticket x sd c h [] k = refl
each_ticket x sd c h (t ∷ ts) k =
    let a = hard_cells t (cells x c) (hard t.phase) in
    let b = sd.agree.held c t.number h ∙ one_named (marks_in c) x.first x.next x.tickets t sd.rising (k t (inl refl)) in
    let d = each_ticket x sd c h ts (λ u i. k u (inr i)) in
    omega (arith, a ∙ at (hard t.phase) (count_of (holds t.number) (cells x c)) (marks_in c t) b)
  where
    at : (b : Bool) (n : ℕ) (m : Bool) → n ≡ unit m → cond b n 0 ≡ unit (b && m)
    at true n m e = e
    at false n m e = refl

-- the booked slots of a column are as many as the tickets granted or out with a mark there
pub booked_count : (x : Rack) → Sound x → (c : ℕ) → c < x.sizes.columns → count_of (is_booked x.tickets) (cells x c) ≡ booked_in c x.tickets
booked_count x s c h = swap_sums x.first x.next x.tickets s.rising (cells x c) ∙ each_ticket x s c h x.tickets (λ t i. i)

-- a column is a wall if as many tickets granted or out have a mark there as there are rows
pub sees_wall : (x : Rack) → Sound x → (c : ℕ) → c < x.sizes.columns → is_wall x c ≡ leb x.sizes.rows (booked_in c x.tickets)
sees_wall x s c h =
    all_count (is_booked x.tickets) (cells x c)
    ∙ (ap (λ (n : ℕ). leb n (count_of (is_booked x.tickets) (cells x c))) (cells_tall x s c h) ∙ ap (leb x.sizes.rows) (booked_count x s c h))

-- no more marks than rows
pub load_most : (x : Rack) → Sound x → (c : ℕ) → c < x.sizes.columns → load c x.tickets ≤ x.sizes.rows
load_most x s c h = let k = s.agree.vacant c h in omega arith

find_same_test : (p q : Ticket → Bool) (ts : List Ticket) → AllByRecursion (λ t. p t ≡ q t) ts → find p ts ≡ find q ts
find_same_test p q [] a = refl
find_same_test p q (t ∷ ts) a =
    ap (λ (b : Bool). cond b (Some t) (find p ts)) a.0 ∙ ap (λ (o : Option Ticket). cond (q t) (Some t) o) (find_same_test p q ts a.1)

each_mark : (x : Rack) → Sound x → (c : ℕ) → c < x.sizes.columns → (ts : List Ticket) → ((t : Ticket) → In t ts → In t x.tickets)
    → AllByRecursion (λ t. (soft t.phase && has_mark x c t) ≡ (soft t.phase && marks_in c t)) ts
each_mark x s c h [] k = tt
each_mark x s c h (t ∷ ts) k = (ap (λ (b : Bool). soft t.phase && b) (sees_mark x s c h t (k t (inl refl))), each_mark x s c h ts (λ u i. k u (inr i)))

-- the soft ticket with the lowest number that has a mark in the column, by its columns
pub sees_holder : (x : Rack) → Sound x → (c : ℕ) → c < x.sizes.columns → holder x c ≡ find (λ t. soft t.phase && marks_in c t) x.tickets
sees_holder x s c h =
    find_same_test (λ t. soft t.phase && has_mark x c t) (λ t. soft t.phase && marks_in c t) x.tickets (each_mark x s c h x.tickets (λ t i. i))
