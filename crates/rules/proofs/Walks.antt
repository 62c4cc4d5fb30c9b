-- Which ticket a step works on: rule 2 always ends at a ticket that is not blocked, and comes by none twice.
use Rattle.std.proofs.Common.{◌≡◌, ℕ, zero, suc, ◌+◌, ◌-◌, ◌<◌, ◌≤◌, Bool, true, false, cond, not, ◌&&◌, ltb, leb, ◌⊎◌, List, [], ◌∷◌, Some, None, Option, sym, refl, ap, ◌∙◌, subst, inl, inr, arith}
use Rattle.std.proofs.lemmas.Bool.{eqb-true, leb-true, leb-false, ltb-true, ltb-false, lt-ltb, le-ltb, and_parts, and_from, not-true, cases_lt}
use Rattle.std.specs.List.{AllByRecursion}
use Rattle.rules.specs.declared.ticket.Ticket.{Ticket}
use Rattle.rules.specs.declared.ticket.Phase.{Phase}
use Rattle.rules.specs.declared.ticket.Phase.TheVariants.{Forward, Backing, Without, Granted, Out, Closing}
use Rattle.rules.specs.Lists.{unit, find, or_else, count_of}
use Rattle.rules.specs.declared.rack.Sizes.{Sizes}
use Rattle.rules.specs.Rack.{Rack, soft, hard, named, has_vacant, is_wall, has_mark, oldest, holder}
use Rattle.rules.specs.Step.{led, is_forward, ahead, past, blocked, passed_to, walk, last_of, met, worked}
use Rattle.rules.proofs.Listing.{In, find_in, find_some, all_in, some_none, some_inj}
use Rattle.rules.proofs.Tickets.{find_own, first_lowest}
use Rattle.rules.specs.Sound.{marks_in, load, booked_in, Shape, Fit, Sound}
use Rattle.rules.proofs.Looks.{sees_vacant, sees_wall, sees_mark}

-- the ticket that a step works on stands on the board, is soft, and is not blocked
pub record Works (x : Rack) (w : Ticket) : Type 0 where
  pub found : find (named w.number) x.tickets ≡ Some w
  pub inside : In w x.tickets
  pub is_soft : soft w.phase ≡ true
  pub free : blocked x w ≡ false

pub marks_in_lem : (c : ℕ) (t : Ticket) → marks_in c t ≡ true → (t.first ≤ c) × (c < t.first + t.marks)
marks_in_lem c t e =
    let b = and_parts (leb t.first c) (ltb c (t.first + t.marks)) e in (leb-true t.first c b.0, ltb-true c (t.first + t.marks) b.1)

-- a mark is of a ticket that is hard, or of one that is soft
soft_or : (z : Sizes) (c : ℕ) (t : Ticket) (p : Phase) (b : Bool) → Shape z p t → marks_in c t ≡ b → (unit b ≤ unit (hard p && b)) ⊎ ((soft p && b) ≡ true)
soft_or z c t p false h e = inl (omega arith)
soft_or z c t Forward true h e = inr refl
soft_or z c t (Backing g) true h e = inr refl
soft_or z c t Without true h e = let m = marks_in_lem c t e in absurd (omega arith)
soft_or z c t Granted true h e = inl (omega arith)
soft_or z c t Out true h e = inl (omega arith)
soft_or z c t Closing true h e = inr refl

-- so a column with more marks than booked slots has a mark of a soft ticket
soft_at : (c : ℕ) (t : Ticket) (ts : List Ticket) → (unit (marks_in c t) ≤ unit (hard t.phase && marks_in c t)) ⊎ ((soft t.phase && marks_in c t) ≡ true)
    → (booked_in c ts < load c ts → (u : Ticket) × In u ts × ((soft u.phase && marks_in c u) ≡ true))
    → booked_in c (t ∷ ts) < load c (t ∷ ts) → (u : Ticket) × In u (t ∷ ts) × ((soft u.phase && marks_in c u) ≡ true)
soft_at c t ts (inl h) ih l = let r = ih (omega arith) in (r.0, inr r.1, r.2)
soft_at c t ts (inr h) ih l = (t, inl refl, h)

soft_mark : (z : Sizes) (n c : ℕ) (ts : List Ticket) → AllByRecursion (Fit z n) ts → booked_in c ts < load c ts → (u : Ticket) × In u ts × ((soft u.phase && marks_in c u) ≡ true)
soft_mark z n c [] a l = absurd (omega arith)
soft_mark z n c (t ∷ ts) a l = soft_at c t ts (soft_or z c t t.phase (marks_in c t) a.0.shape refl) (λ k. soft_mark z n c ts a.1 k) l

-- what blocks a ticket
pub record Stuck (x : Rack) (t : Ticket) : Type 0 where
  pub short : t.marks < t.request.length
  pub fits : t.first + t.request.length ≤ x.sizes.columns
  pub full : x.sizes.rows ≤ load (ahead t) x.tickets
  pub no_wall : booked_in (ahead t) x.tickets < x.sizes.rows

stuck : (x : Rack) → Sound x → (t : Ticket) → blocked x t ≡ true → Stuck x t
stuck x s t e =
    let c = ahead t in
    let a = (and_parts (is_forward t.phase) (ltb t.marks t.request.length && (not (past x.sizes t) && (not (has_vacant x c) && not (is_wall x c)))) e).1 in
    let b = and_parts (ltb t.marks t.request.length) (not (past x.sizes t) && (not (has_vacant x c) && not (is_wall x c))) a in
    let d = and_parts (not (past x.sizes t)) (not (has_vacant x c) && not (is_wall x c)) b.1 in
    let f = and_parts (not (has_vacant x c)) (not (is_wall x c)) d.1 in
    let short = ltb-true t.marks t.request.length b.0 in
    let fits = ltb-false x.sizes.columns (t.first + t.request.length) (not-true (past x.sizes t) d.0) in
    let inside : c < x.sizes.columns = omega arith in
    record {
      short = short;
      fits = fits;
      full = ltb-false (load c x.tickets) x.sizes.rows (sym (sees_vacant x s c inside) ∙ not-true (has_vacant x c) f.0);
      no_wall = leb-false x.sizes.rows (booked_in c x.tickets) (sym (sees_wall x s c inside) ∙ not-true (is_wall x c) f.1);
    }

module _ (x : Rack) (sd : Sound x) where
  -- a blocked ticket passes the step on to a soft one that is further ahead
  record Passes (t u : Ticket) : Type 0 where
    inside : In u x.tickets
    is_soft : soft u.phase ≡ true
    marks : 1 ≤ u.marks
    further : ahead t < ahead u

  passes_at : (t : Ticket) (o : Option Ticket) → Stuck x t → holder x (ahead t) ≡ o → Passes t (or_else o t)
  passes_at t None s e =
      let c = ahead t in
      let a = s.short in let b = s.fits in let l = s.full in let k = s.no_wall in
      let h = soft_mark x.sizes x.handbacks c x.tickets sd.fits (omega arith) in
      let u = h.0 in
      let p = and_parts (soft u.phase) (marks_in c u) h.2 in
      let m : has_mark x c u ≡ true = sees_mark x sd c (omega arith) u h.1 ∙ p.1 in
      let r = find_some (λ v. soft v.phase && has_mark x c v) x.tickets u h.1 (and_from (soft u.phase) (has_mark x c u) p.0 m) in
      absurd (some_none r.0 (sym r.1 ∙ e))
  passes_at t (Some u) s e =
      let c = ahead t in
      let a = s.short in let b = s.fits in
      let h = find_in (λ v. soft v.phase && has_mark x c v) x.tickets u e in
      let p = and_parts (soft u.phase) (has_mark x c u) h.1 in
      let m = marks_in_lem c u (sym (sees_mark x sd c (omega arith) u h.0) ∙ p.1) in
      record { inside = h.0; is_soft = p.0; marks = let i = m.0 in let j = m.1 in omega arith; further = m.1 }

  passes : (t : Ticket) → blocked x t ≡ true → Passes t (passed_to x t)
  passes t e = passes_at t (holder x (ahead t)) (stuck x sd t e) refl

  -- so there is such a ticket
  holder_at : (t : Ticket) (o : Option Ticket) → holder x (ahead t) ≡ o → ahead t < ahead (or_else o t) → (u : Ticket) × (holder x (ahead t) ≡ Some u)
  holder_at t None e l = absurd (omega arith)
  holder_at t (Some u) e l = (u, e)

  pub blocked_holder : (t : Ticket) → blocked x t ≡ true → (u : Ticket) × (holder x (ahead t) ≡ Some u)
  blocked_holder t e = holder_at t (holder x (ahead t)) refl (passes t e).further

  -- what the ticket that a walk begins with has, and each that it is passed to, the last one has
  last_keeps_at : (Q : Ticket → Type 0) (n : ℕ) (s t : Ticket) (b : Bool) → blocked x t ≡ b → Q t
      → (blocked x t ≡ true → Q (last_of t (walk n x (passed_to x t)))) → Q (last_of s (elim b [ true ↦ t ∷ walk n x (passed_to x t) | false ↦ t ∷ [] ]))
  last_keeps_at Q n s t true e q k = k e
  last_keeps_at Q n s t false e q k = q

  last_keeps : (Q : Ticket → Type 0) → ((t u : Ticket) → Passes t u → Q u) → (n : ℕ) (s t : Ticket) → Q t → Q (last_of s (walk n x t))
  last_keeps Q k zero s t q = q
  last_keeps Q k (suc n) s t q = last_keeps_at Q n s t (blocked x t) refl q (λ e. last_keeps Q k n t (passed_to x t) (k t (passed_to x t) (passes t e)))

  -- it is not blocked, where there are turns enough
  ends_at : (n : ℕ) (s t : Ticket) (b : Bool) → blocked x t ≡ b → (blocked x t ≡ true → blocked x (last_of t (walk n x (passed_to x t))) ≡ false)
      → blocked x (last_of s (elim b [ true ↦ t ∷ walk n x (passed_to x t) | false ↦ t ∷ [] ])) ≡ false
  ends_at n s t true e k = k e
  ends_at n s t false e k = e

  last_turn : (t : Ticket) (b : Bool) → blocked x t ≡ b → x.sizes.columns < ahead t → blocked x t ≡ false
  last_turn t true e l = let s = stuck x sd t e in let a = s.short in let b = s.fits in absurd (omega arith)
  last_turn t false e l = e

  ends : (n : ℕ) (s t : Ticket) → x.sizes.columns < n + ahead t → blocked x (last_of s (walk n x t)) ≡ false
  ends zero s t l = last_turn t (blocked x t) refl (omega arith)
  ends (suc n) s t l =
      ends_at n s t (blocked x t) refl (λ e. let k = (passes t e).further in ends n t (passed_to x t) (omega arith))

  led_at : (Q : Ticket → Type 0) (s o : Ticket) (b : Bool) → ltb x.sizes.lead (s.number - o.number) ≡ b → Q o → (s.number - o.number ≤ x.sizes.lead → Q s) → Q (cond b o s)
  led_at Q s o true e a k = a
  led_at Q s o false e a k = k (ltb-false x.sizes.lead (s.number - o.number) e)

  -- rule 1 leads to the oldest soft ticket or to the one named
  led_keeps : (Q : Ticket → Type 0) (s o : Ticket) → oldest x ≡ Some o → Q o → (s.number - o.number ≤ x.sizes.lead → Q s) → Q (led x s)
  led_keeps Q s o f a k = rw f (led_at Q s o (ltb x.sizes.lead (s.number - o.number)) refl a k)

  module _ (s : Ticket) (f : find (named s.number) x.tickets ≡ Some s) (e : soft s.phase ≡ true) where
    here : In s x.tickets
    here = (find_in (named s.number) x.tickets s f).0

    old : (o : Ticket) × (oldest x ≡ Some o)
    old = find_some (λ t. soft t.phase) x.tickets s here e

    led_soft : In (led x s) x.tickets × (soft (led x s).phase ≡ true)
    led_soft =
        let a = find_in (λ t. soft t.phase) x.tickets old.0 old.1 in
        led_keeps (λ t. In t x.tickets × (soft t.phase ≡ true)) s old.0 old.1 (a.0, a.1) (λ l. (here, e))

    works_soft : In (worked x s) x.tickets × (soft (worked x s).phase ≡ true)
    works_soft =
        last_keeps (λ t. In t x.tickets × (soft t.phase ≡ true)) (λ t u p. (p.inside, p.is_soft)) (suc x.sizes.columns) s (led x s) led_soft

    pub works : Works x (worked x s)
    works =
        record {
          found = find_own x.first x.next x.tickets (worked x s) sd.rising works_soft.0;
          inside = works_soft.0;
          is_soft = works_soft.1;
          free = ends (suc x.sizes.columns) s (led x s) (omega arith);
        }

    -- while b is soft, the step works on no ticket that is more than the lead ahead of b, if those have no mark
    near_all : (b : Ticket) → In b x.tickets → soft b.phase ≡ true
        → AllByRecursion (λ t. b.number + x.sizes.lead < t.number → t.marks ≡ 0) x.tickets → (worked x s).number ≤ b.number + x.sizes.lead
    near_all b i eb calm =
        let l = first_lowest x.first x.next (λ t. soft t.phase) x.tickets old.0 b sd.rising old.1 i eb in
        let lead : (led x s).number ≤ b.number + x.sizes.lead =
        led_keeps (λ t. t.number ≤ b.number + x.sizes.lead) s old.0 old.1 (omega arith) (λ k. omega arith) in
        last_keeps (λ t. t.number ≤ b.number + x.sizes.lead)
        (λ t u p. near u (all_in (λ v. b.number + x.sizes.lead < v.number → v.marks ≡ 0) x.tickets u calm p.inside) p.marks)
        (suc x.sizes.columns) s (led x s) lead
      where
        near : (u : Ticket) → (b.number + x.sizes.lead < u.number → u.marks ≡ 0) → 1 ≤ u.marks → u.number ≤ b.number + x.sizes.lead
        near u k m = elim (cases_lt (b.number + x.sizes.lead) u.number) [ inl l ↦ absurd (omega (arith, k l)) | inr l ↦ l ]

  -- the tickets met are of the board, and each is at column a or further ahead
  abbrev Beyond : ℕ → Ticket → Type 0
  Beyond a u = In u x.tickets × (a ≤ ahead u)

  beyond_at : (n a : ℕ) (t : Ticket) (b : Bool) → blocked x t ≡ b → Beyond a t → (blocked x t ≡ true → AllByRecursion (Beyond a) (walk n x (passed_to x t)))
      → AllByRecursion (Beyond a) (elim b [ true ↦ t ∷ walk n x (passed_to x t) | false ↦ t ∷ [] ])
  beyond_at n a t true e h k = (h, k e)
  beyond_at n a t false e h k = (h, tt)

  beyond : (n a : ℕ) (t : Ticket) → Beyond a t → AllByRecursion (Beyond a) (walk n x t)
  beyond zero a t h = (h, tt)
  beyond (suc n) a t h =
      beyond_at n a t (blocked x t) refl h (λ e. let p = passes t e in let k = p.further in let l = h.1 in beyond n a (passed_to x t) (p.inside, omega arith))

  -- one ticket of a number at most: two of one number are one ticket, which stands at one column
  none_again_at : (t u : Ticket) (us : List Ticket) (b : Bool) → named t.number u ≡ b → In t x.tickets → Beyond (suc (ahead t)) u → count_of (named t.number) us ≡ 0
      → unit b + count_of (named t.number) us ≡ 0
  none_again_at t u us true e i h k =
      let n = eqb-true u.number t.number e in
      let a = find_own x.first x.next x.tickets t sd.rising i in
      let b : find (named t.number) x.tickets ≡ Some u =
      subst (λ (m : ℕ). find (named m) x.tickets ≡ Some u) n (find_own x.first x.next x.tickets u sd.rising h.0) in
      let q : ahead t ≡ ahead u = ap ahead (some_inj t u (sym a ∙ b)) in
      let l = h.1 in absurd (omega arith)
  none_again_at t u us false e i h k = omega arith

  none_again : (t : Ticket) (us : List Ticket) → In t x.tickets → AllByRecursion (Beyond (suc (ahead t))) us → count_of (named t.number) us ≡ 0
  none_again t [] i a = refl
  none_again t (u ∷ us) i a = none_again_at t u us (named t.number u) refl i a.0 (none_again t us i a.1)

  once_here : (n : ℕ) (t : Ticket) (us : List Ticket) (b : Bool) → named n t ≡ b → In t x.tickets → AllByRecursion (Beyond (suc (ahead t))) us → count_of (named n) us ≤ 1
      → unit b + count_of (named n) us ≤ 1
  once_here n t us true e i a k =
      let z = none_again t us i a in
      let q = eqb-true t.number n e in
      let y : count_of (named n) us ≡ 0 = subst (λ (m : ℕ). count_of (named m) us ≡ 0) q z in omega arith
  once_here n t us false e i a k = omega arith

  once_at : (k n : ℕ) (t : Ticket) (b : Bool) → blocked x t ≡ b → In t x.tickets
      → (blocked x t ≡ true → count_of (named n) (walk k x (passed_to x t)) ≤ 1)
      → count_of (named n) (elim b [ true ↦ t ∷ walk k x (passed_to x t) | false ↦ t ∷ [] ]) ≤ 1
  once_at k n t true e i ih =
      let p = passes t e in
      once_here n t (walk k x (passed_to x t)) (named n t) refl i (beyond k (suc (ahead t)) (passed_to x t) (p.inside, p.further)) (ih e)
  once_at k n t false e i ih = once_here n t [] (named n t) refl i tt (omega arith)

  once : (k n : ℕ) (t : Ticket) → In t x.tickets → count_of (named n) (walk k x t) ≤ 1
  once zero n t i = once_here n t [] (named n t) refl i tt (omega arith)
  once (suc k) n t i = once_at k n t (blocked x t) refl i (λ e. once k n (passed_to x t) (passes t e).inside)

  -- no ticket is met twice
  pub met_once : (s : Ticket) → find (named s.number) x.tickets ≡ Some s → soft s.phase ≡ true → (n : ℕ) → count_of (named n) (met x s) ≤ 1
  met_once s f e n = once (suc x.sizes.columns) n (led x s) (led_soft s f e).0

  wall_at : (w : Ticket) (b : Bool) → is_wall x (ahead w) ≡ b → blocked x w ≡ false → w.phase ≡ Forward → w.first + w.request.length ≤ x.sizes.columns → w.marks < w.request.length
      → has_vacant x (ahead w) ≡ false → is_wall x (ahead w) ≡ true
  wall_at w true e n f a b v = e
  wall_at w false e n f a b v =
      let q : blocked x w ≡ true = rw (f, lt-ltb w.marks w.request.length b, le-ltb x.sizes.columns (w.first + w.request.length) a, v, e) refl in
      let z : false ≡ true = sym n ∙ q in cc

  -- a forward ticket that is not blocked, and finds no vacant slot in the column ahead, is at a wall
  pub meets_wall : (w : Ticket) → Works x w → w.phase ≡ Forward → w.first + w.request.length ≤ x.sizes.columns → w.marks < w.request.length
      → x.sizes.rows ≤ load (ahead w) x.tickets → x.sizes.rows ≤ booked_in (ahead w) x.tickets
  meets_wall w k f a b l =
      let inside : ahead w < x.sizes.columns = omega arith in
      let v = sees_vacant x sd (ahead w) inside ∙ le-ltb (load (ahead w) x.tickets) x.sizes.rows l in
      leb-true x.sizes.rows (booked_in (ahead w) x.tickets) (sym (sees_wall x sd (ahead w) inside) ∙ wall_at w (is_wall x (ahead w)) refl k.free f a b v)

pub worked_near : (x : Rack) → Sound x → (s b : Ticket) → find (named s.number) x.tickets ≡ Some s → soft s.phase ≡ true → In b x.tickets → soft b.phase ≡ true
    → AllByRecursion (λ t. b.number + x.sizes.lead < t.number → t.marks ≡ 0) x.tickets → (worked x s).number ≤ b.number + x.sizes.lead
worked_near x sd s b f e i eb calm = near_all x sd s f e b i eb calm
