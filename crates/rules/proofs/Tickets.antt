-- What an action keeps of a ticket, and tickets in the rising order of their numbers.
use Rattle.std.proofs.Common.{◌≡◌, ℕ, suc, ◌+◌, ◌-◌, ◌<◌, ◌≤◌, Bool, true, false, cond, eqb, leb, ◌⊎◌, List, [], ◌∷◌, ◌++◌, Some, None, Option, sym, refl, ap, ◌∙◌, subst, inl, inr, arith}
use Rattle.std.specs.List.{AllByRecursion}
use Rattle.std.proofs.lemmas.Bool.{eqb-true, eqb-false, eq-eqb, ne_eqb}
use Rattle.rules.specs.declared.ticket.Ticket.{Ticket}
use Rattle.rules.specs.declared.ticket.Phase.{Phase}
use Rattle.rules.specs.declared.ticket.Phase.TheVariants.{Forward, Backing, Without, Granted, Out, Closing}
use Rattle.rules.specs.declared.report.Action.{Action}
use Rattle.rules.specs.declared.report.Action.TheVariants as action
use Rattle.rules.specs.Lists.{find, edit}
use Rattle.rules.specs.Rack.{named}
use Rattle.rules.specs.Step.{ahead, with_phase, with_marks, sets_out, redirect, wiped, after}
use Rattle.rules.specs.Calls.{withdrawn}
use Rattle.rules.specs.Sound.{Rising}
use Rattle.rules.proofs.Listing.{In, Few, some_inj, some_none}

-- the same booking: number and request
abbrev pub Same : Ticket → Ticket → Type 0
Same t u = (u.number ≡ t.number) × (u.request ≡ t.request)

cond_same : (t u v : Ticket) (b : Bool) → Same t u → Same t v → Same t (cond b u v)
cond_same t u v true p q = p
cond_same t u v false p q = q

cond_all : (t u : Ticket) (b : Bool) → Same t u → AllByRecursion (Same t) (cond b [] (u ∷ []))
cond_all t u true p = tt
cond_all t u false p = (p, tt)

wiped_same : (n : ℕ) (t : Ticket) (p : Phase) → AllByRecursion (Same t) (wiped n p t)
wiped_same n t Forward = ((refl, refl), tt)
wiped_same n t (Backing g) = (cond_same t (sets_out n g t) (with_marks (t.marks - 1) t) (leb t.marks 1) (refl, refl) (refl, refl), tt)
wiped_same n t Without = ((refl, refl), tt)
wiped_same n t Granted = ((refl, refl), tt)
wiped_same n t Out = ((refl, refl), tt)
wiped_same n t Closing = cond_all t (with_marks (t.marks - 1) t) (leb t.marks 1) (refl, refl)

redirect_same : (n g : ℕ) (t : Ticket) → Same t (redirect n g t)
redirect_same n g t = cond_same t (sets_out n g t) (with_phase (Backing g) t) (eqb t.marks 0) (refl, refl) (refl, refl)

pub after_same : (n : ℕ) (a : Action) (t : Ticket) → AllByRecursion (Same t) (after n a t)
after_same n action.Wipe t = wiped_same n t t.phase
after_same n action.Over t = (redirect_same n t.request.start t, tt)
after_same n action.Without t = ((refl, refl), tt)
after_same n action.Grant t = ((refl, refl), tt)
after_same n action.Mark t = ((refl, refl), tt)
after_same n action.Wall t = (redirect_same n (ahead t + 1) t, tt)

pub withdrawn_same : (t : Ticket) → AllByRecursion (Same t) (withdrawn t)
withdrawn_same t = cond_all t (with_phase Closing t) (eqb t.marks 0) (refl, refl)

few_at : (t : Ticket) (b : Bool) → Few (cond b [] (t ∷ []))
few_at t true = Few.none
few_at t false = Few.one t

wiped_few : (n : ℕ) (t : Ticket) (p : Phase) → Few (wiped n p t)
wiped_few n t Forward = Few.one t
wiped_few n t (Backing g) = Few.one (cond (leb t.marks 1) (sets_out n g t) (with_marks (t.marks - 1) t))
wiped_few n t Without = Few.one t
wiped_few n t Granted = Few.one t
wiped_few n t Out = Few.one t
wiped_few n t Closing = few_at (with_marks (t.marks - 1) t) (leb t.marks 1)

pub after_few : (n : ℕ) (a : Action) (t : Ticket) → Few (after n a t)
after_few n action.Wipe t = wiped_few n t t.phase
after_few n action.Over t = Few.one (redirect n t.request.start t)
after_few n action.Without t = Few.one (with_phase Without t)
after_few n action.Grant t = Few.one (with_phase Granted t)
after_few n action.Mark t = Few.one (with_marks (t.marks + 1) t)
after_few n action.Wall t = Few.one (redirect n (ahead t + 1) t)

pub withdrawn_few : (t : Ticket) → Few (withdrawn t)
withdrawn_few t = few_at (with_phase Closing t) (eqb t.marks 0)

rising_lower : (lo low hi : ℕ) (ts : List Ticket) → low ≤ lo → Rising lo hi ts → Rising low hi ts
rising_lower lo low hi [] h r = omega arith
rising_lower lo low hi (t ∷ ts) h r = (omega arith, r.1)

rising_one : (lo hi : ℕ) (u : Ticket) (ts us : List Ticket) → Few us → AllByRecursion (Same u) us → lo ≤ u.number → Rising (suc u.number) hi ts → Rising lo hi (us ++ ts)
rising_one lo hi u ts _ Few.none a h r = rising_lower (suc u.number) lo hi ts (omega arith) r
rising_one lo hi u ts _ (Few.one t) a h r = (omega arith, rw a.0.0 r)

rising_edit_at : (lo hi : ℕ) (p : Ticket → Bool) (f : Ticket → List Ticket) (u : Ticket) (ts : List Ticket) (b : Bool)
    → ((t : Ticket) → Few (f t)) → ((t : Ticket) → AllByRecursion (Same t) (f t))
    → lo ≤ u.number → Rising (suc u.number) hi ts → Rising (suc u.number) hi (edit p f ts) → Rising lo hi (cond b (f u ++ ts) (u ∷ edit p f ts))
rising_edit_at lo hi p f u ts true few same h r ih = rising_one lo hi u ts (f u) (few u) (same u) h r
rising_edit_at lo hi p f u ts false few same h r ih = (h, ih)

-- a change of one ticket keeps the order
pub rising_edit : (lo hi : ℕ) (p : Ticket → Bool) (f : Ticket → List Ticket) (ts : List Ticket)
    → ((t : Ticket) → Few (f t)) → ((t : Ticket) → AllByRecursion (Same t) (f t)) → Rising lo hi ts → Rising lo hi (edit p f ts)
rising_edit lo hi p f [] few same r = r
rising_edit lo hi p f (u ∷ ts) few same r =
    rising_edit_at lo hi p f u ts (p u) few same r.0 r.1 (rising_edit (suc u.number) hi p f ts few same r.1)

pub rising_push : (lo hi : ℕ) (ts : List Ticket) (t : Ticket) → t.number ≡ hi → Rising lo hi ts → Rising lo (suc hi) (ts ++ (t ∷ []))
rising_push lo hi [] t e r = (omega arith, omega arith)
rising_push lo hi (u ∷ ts) t e r = (r.0, rising_push (suc u.number) hi ts t e r.1)

pub rising_top : (lo hi : ℕ) (ts : List Ticket) → Rising lo hi ts → lo ≤ hi
rising_top lo hi [] r = r
rising_top lo hi (u ∷ us) r = let k = rising_top (suc u.number) hi us r.1 in omega arith

-- each number lies from lo to below hi
abbrev pub Between : ℕ → ℕ → Ticket → Type 0
Between lo hi t = (lo ≤ t.number) × (t.number < hi)

between_wider : (lo low hi : ℕ) (ts : List Ticket) → low ≤ lo → AllByRecursion (Between lo hi) ts → AllByRecursion (Between low hi) ts
between_wider lo low hi [] h a = tt
between_wider lo low hi (t ∷ ts) h a = ((let k = a.0.0 in omega arith, a.0.1), between_wider lo low hi ts h a.1)

pub rising_between : (lo hi : ℕ) (ts : List Ticket) → Rising lo hi ts → AllByRecursion (Between lo hi) ts
rising_between lo hi [] r = tt
rising_between lo hi (t ∷ ts) r = (
  (r.0, rising_top (suc t.number) hi ts r.1),
  between_wider (suc t.number) lo hi ts (let k = r.0 in omega arith) (rising_between (suc t.number) hi ts r.1),
)

pub rising_low : (lo hi : ℕ) (ts : List Ticket) (t : Ticket) → Rising lo hi ts → In t ts → lo ≤ t.number
rising_low lo hi [] t r i = absurd i
rising_low lo hi (u ∷ ts) t r (inl e) = rw e at r.0
rising_low lo hi (u ∷ ts) t r (inr i) = let k = rising_low (suc u.number) hi ts t r.1 i in omega arith

own_at : (u t : Ticket) (o : Option Ticket) (b : Bool) → eqb u.number t.number ≡ b → (u ≡ t) ⊎ (suc u.number ≤ t.number) → (u ≡ t) ⊎ (o ≡ Some t)
    → cond b (Some u) o ≡ Some t
own_at u t o true e (inl q) f = ap Some q
own_at u t o true e (inr l) f = let z = eqb-true u.number t.number e in absurd (omega arith)
own_at u t o false e l (inl q) = absurd (eqb-false u.number t.number e (ap (λ (x : Ticket). x.number) q))
own_at u t o false e l (inr f) = f

-- a ticket of the list is the one found under its number
pub find_own : (lo hi : ℕ) (ts : List Ticket) (t : Ticket) → Rising lo hi ts → In t ts → find (named t.number) ts ≡ Some t
find_own lo hi [] t r i = absurd i
find_own lo hi (u ∷ ts) t r (inl e) = own_at u t (find (named t.number) ts) (eqb u.number t.number) refl (inl e) (inl e)
find_own lo hi (u ∷ ts) t r (inr i) =
    own_at u t (find (named t.number) ts) (eqb u.number t.number) refl (inr (rising_low (suc u.number) hi ts t r.1 i))
    (inr (find_own (suc u.number) hi ts t r.1 i))

first_at : (p : Ticket → Bool) (u : Ticket) (ts : List Ticket) (o t : Ticket) (b : Bool) → p u ≡ b
    → (find p ts ≡ Some o → In t ts → o.number ≤ t.number) → (suc u.number ≤ t.number) ⊎ (u ≡ t) → In t (u ∷ ts) → p t ≡ true
    → cond b (Some u) (find p ts) ≡ Some o → o.number ≤ t.number
first_at p u ts o t true e ih (inl l) i q f = let k = ap (λ (x : Ticket). x.number) (some_inj u o f) in omega arith
first_at p u ts o t true e ih (inr l) i q f = let k = ap (λ (x : Ticket). x.number) (some_inj u o f) in let j = ap (λ (x : Ticket). x.number) l in omega arith
first_at p u ts o t false e ih l (inl a) q f = let z : false ≡ true = sym e ∙ (ap p a ∙ q) in cc
first_at p u ts o t false e ih l (inr i) q f = ih f i

low_or : (lo hi : ℕ) (u : Ticket) (ts : List Ticket) (t : Ticket) → Rising lo hi (u ∷ ts) → In t (u ∷ ts) → (suc u.number ≤ t.number) ⊎ (u ≡ t)
low_or lo hi u ts t r (inl e) = inr e
low_or lo hi u ts t r (inr i) = inl (rising_low (suc u.number) hi ts t r.1 i)

-- the first that passes has the lowest number of those that pass
pub first_lowest : (lo hi : ℕ) (p : Ticket → Bool) (ts : List Ticket) (o t : Ticket) → Rising lo hi ts → find p ts ≡ Some o → In t ts → p t ≡ true → o.number ≤ t.number
first_lowest lo hi p [] o t r f i q = absurd i
first_lowest lo hi p (u ∷ ts) o t r f i q =
    first_at p u ts o t (p u) refl (λ g k. first_lowest (suc u.number) hi p ts o t r.1 g k q) (low_or lo hi u ts t r i) i q f

other_one : (n : ℕ) (u : Ticket) (ts us : List Ticket) → Few us → AllByRecursion (Same u) us → eqb u.number n ≡ false → find (named n) (us ++ ts) ≡ find (named n) ts
other_one n u ts _ Few.none a e = refl
other_one n u ts _ (Few.one v) a e = let q : eqb v.number n ≡ false = rw a.0.0 e in rw q refl

find_other_at : (n m : ℕ) (f : Ticket → List Ticket) (u : Ticket) (ts : List Ticket) (b : Bool) → eqb u.number m ≡ b → (n ≡ m → ⊥) → Few (f u) → AllByRecursion (Same u) (f u)
    → find (named n) (edit (named m) f ts) ≡ find (named n) ts
    → find (named n) (cond b (f u ++ ts) (u ∷ edit (named m) f ts)) ≡ find (named n) (u ∷ ts)
find_other_at n m f u ts true e d few same ih =
    let q : eqb u.number n ≡ false = ne_eqb u.number n (λ k. d (sym k ∙ eqb-true u.number m e)) in
    other_one n u ts (f u) few same q ∙ sym (rw q refl)
find_other_at n m f u ts false e d few same ih = ap (λ (o : Option Ticket). cond (eqb u.number n) (Some u) o) ih

-- under another number stands what stood there
pub find_other : (n m : ℕ) (f : Ticket → List Ticket) (ts : List Ticket) → (n ≡ m → ⊥) → ((t : Ticket) → Few (f t)) → ((t : Ticket) → AllByRecursion (Same t) (f t))
    → find (named n) (edit (named m) f ts) ≡ find (named n) ts
find_other n m f [] d few same = refl
find_other n m f (u ∷ ts) d few same = find_other_at n m f u ts (eqb u.number m) refl d (few u) (same u) (find_other n m f ts d few same)

find_same_at : (n : ℕ) (f : Ticket → List Ticket) (u : Ticket) (ts : List Ticket) (w v : Ticket) (b : Bool) → eqb u.number n ≡ b → f w ≡ v ∷ [] → v.number ≡ n
    → (find (named n) ts ≡ Some w → find (named n) (edit (named n) f ts) ≡ Some v)
    → cond b (Some u) (find (named n) ts) ≡ Some w
    → find (named n) (cond b (f u ++ ts) (u ∷ edit (named n) f ts)) ≡ Some v
find_same_at n f u ts w v true e q k ih p =
    let d : f u ≡ v ∷ [] = ap f (some_inj u w p) ∙ q in
    let g : eqb v.number n ≡ true = eq-eqb v.number n k in
    subst (λ (us : List Ticket). find (named n) (us ++ ts) ≡ Some v) (sym d) (rw g refl)
find_same_at n f u ts w v false e q k ih p = rw e (ih p)

-- under its own number stands what it became
pub find_same : (n : ℕ) (f : Ticket → List Ticket) (ts : List Ticket) (w v : Ticket) → find (named n) ts ≡ Some w → f w ≡ v ∷ [] → v.number ≡ n
    → find (named n) (edit (named n) f ts) ≡ Some v
find_same n f [] w v p q k = absurd (some_none w (sym p))
find_same n f (u ∷ ts) w v p q k = find_same_at n f u ts w v (eqb u.number n) refl q k (λ o. find_same n f ts w v o q k) p

-- nothing stands under a number below those of the list
pub find_none : (n lo hi : ℕ) (ts : List Ticket) → Rising lo hi ts → n < lo → find (named n) ts ≡ None
find_none n lo hi [] r l = refl
find_none n lo hi (u ∷ ts) r l =
    let q = ne_eqb u.number n (λ e. let k = r.0 in omega arith) in
    rw q (find_none n (suc u.number) hi ts r.1 (let k = r.0 in omega arith))

find_gone_at : (n lo hi : ℕ) (f : Ticket → List Ticket) (u : Ticket) (ts : List Ticket) (w : Ticket) (b : Bool) → eqb u.number n ≡ b → f w ≡ [] → Rising lo hi (u ∷ ts)
    → (find (named n) ts ≡ Some w → find (named n) (edit (named n) f ts) ≡ None)
    → cond b (Some u) (find (named n) ts) ≡ Some w → find (named n) (cond b (f u ++ ts) (u ∷ edit (named n) f ts)) ≡ None
find_gone_at n lo hi f u ts w true e q r ih p =
    let d : f u ≡ [] = ap f (some_inj u w p) ∙ q in
    let k = eqb-true u.number n e in
    subst (λ (us : List Ticket). find (named n) (us ++ ts) ≡ None) (sym d) (find_none n (suc u.number) hi ts r.1 (omega arith))
find_gone_at n lo hi f u ts w false e q r ih p = rw e (ih p)

-- one that leaves the list is not found any more
pub find_gone : (n lo hi : ℕ) (f : Ticket → List Ticket) (ts : List Ticket) (w : Ticket) → Rising lo hi ts → find (named n) ts ≡ Some w → f w ≡ []
    → find (named n) (edit (named n) f ts) ≡ None
find_gone n lo hi f [] w r p q = refl
find_gone n lo hi f (u ∷ ts) w r p q =
    find_gone_at n lo hi f u ts w (eqb u.number n) refl q r (λ o. find_gone n (suc u.number) hi f ts w r.1 o q) p

-- a ticket pushed under a number above all of the list is found there
pub find_last : (n : ℕ) (lo hi : ℕ) (ts : List Ticket) (v : Ticket) → Rising lo hi ts → hi ≤ n → v.number ≡ n → find (named n) (ts ++ (v ∷ [])) ≡ Some v
find_last n lo hi [] v r h e = rw (eq-eqb v.number n e) refl
find_last n lo hi (t ∷ ts) v r h e =
    let k = rising_top (suc t.number) hi ts r.1 in
    let q = ne_eqb t.number n (λ j. omega arith) in
    rw q (find_last n (suc t.number) hi ts v r.1 h e)

-- and does not change what stands under another number
pub find_before : (n : ℕ) (ts : List Ticket) (v : Ticket) → (v.number ≡ n → ⊥) → find (named n) (ts ++ (v ∷ [])) ≡ find (named n) ts
find_before n [] v d = rw (ne_eqb v.number n d) refl
find_before n (t ∷ ts) v d = ap (λ (o : Option Ticket). cond (eqb t.number n) (Some t) o) (find_before n ts v d)
