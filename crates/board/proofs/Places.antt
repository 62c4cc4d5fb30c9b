-- Tickets by place: a search of the list, and a change at a place.
use Rattle.std.proofs.Common.{◌≡◌, ℕ, zero, suc, ◌+◌, ◌<◌, ◌≤◌, Bool, true, false, cond, ltb, List, [], ◌∷◌, ◌++◌, length, get_or, take, drop, set, Some, None, Option, sym, refl, ap, ◌∙◌, subst, inl, inr, arith}
use Rattle.std.proofs.lemmas.List.Folds.{find_at}
use Rattle.std.specs.List.{find as found_first, position, position_or_len, slice_get}
use Rattle.std.proofs.lemmas.Bool.{cond-true, cond-false, eq-eqb, ne_eqb, ltb-true, ltb-false}
use Rattle.rules.specs.declared.ticket.Ticket.{Ticket}
use Rattle.rules.specs.Lists.{find, edit}
use Rattle.rules.specs.Rack.{named}
use Rattle.rules.specs.Sound.{Rising}
use Rattle.rules.proofs.Listing.{In}
use Rattle.rules.proofs.Tickets.{rising_low}
use Rattle.board.specs.Reading.{no_ticket, Placed}

-- the place that the library's search answers
module _ (p : Ticket → Bool) where
  same_find : (ts : List Ticket) → find p ts ≡ found_first p ts
  same_find [] = refl
  same_find (t ∷ ts) = ap (λ (o : Option Ticket). cond (p t) (Some t) o) (same_find ts)

  got : (ts : List Ticket) (n : ℕ) → n < length ts → slice_get ts n ≡ Some (get_or ts n no_ticket)
  got [] n h = absurd (omega arith)
  got (t ∷ ts) zero h = refl
  got (t ∷ ts) (suc n) h = got ts n (omega arith)

  missed : (ts : List Ticket) (n : ℕ) → length ts ≤ n → slice_get ts n ≡ None
  missed [] n h = refl
  missed (t ∷ ts) zero h = absurd (omega arith)
  missed (t ∷ ts) (suc n) h = missed ts n (omega arith)

  placed_by : (ts : List Ticket) (b : Bool) → ltb (position_or_len p ts) (length ts) ≡ b → Placed p ts (cond b (Some (position_or_len p ts)) None)
  placed_by ts true e =
      let l = ltb-true (position_or_len p ts) (length ts) e in
      (l, same_find ts ∙ (find_at p ts ∙ got ts (position_or_len p ts) l))
  placed_by ts false e = same_find ts ∙ (find_at p ts ∙ missed ts (position_or_len p ts) (ltb-false (position_or_len p ts) (length ts) e))

  pub placed : (ts : List Ticket) (o : Option ℕ) → o ≡ position p ts → Placed p ts o
  placed ts o e = subst (Placed p ts) (sym e) (placed_by ts (ltb (position_or_len p ts) (length ts)) refl)

-- the ticket that a number names, by its place
pub named_some : (n : ℕ) (ts : List Ticket) (i : ℕ) → Some i ≡ position (named n) ts → (i < length ts) × (find (named n) ts ≡ Some (get_or ts i no_ticket))
named_some n ts i e = placed (named n) ts (Some i) e

pub named_none : (n : ℕ) (ts : List Ticket) → None ≡ position (named n) ts → find (named n) ts ≡ None
named_none n ts e = placed (named n) ts None e

pub at_in : (ts : List Ticket) (i : ℕ) → i < length ts → In (get_or ts i no_ticket) ts
at_in [] i h = absurd (omega arith)
at_in (t ∷ ts) zero h = inl refl
at_in (t ∷ ts) (suc i) h = inr (at_in ts i (omega arith))

-- a change of the ticket at a place, found by its number
pub edit_place : (lo hi : ℕ) (f : Ticket → List Ticket) (ts : List Ticket) (i : ℕ) → Rising lo hi ts → i < length ts
    → edit (named (get_or ts i no_ticket).number) f ts ≡ take i ts ++ (f (get_or ts i no_ticket) ++ drop (i + 1) ts)
edit_place lo hi f [] i r h = absurd (omega arith)
edit_place lo hi f (t ∷ ts) zero r h = cond-true (named t.number t) (f t ++ ts) (t ∷ edit (named t.number) f ts) (eq-eqb t.number t.number refl)
edit_place lo hi f (t ∷ ts) (suc i) r h =
    let u = get_or ts i no_ticket in
    let l = rising_low (suc t.number) hi ts u r.1 (at_in ts i (omega arith)) in
    let q : named u.number t ≡ false = ne_eqb t.number u.number (λ e. omega arith) in
    let e : suc i + 1 ≡ suc (i + 1) = omega arith in
    rw e (cond-false (named u.number t) (f t ++ ts) (t ∷ edit (named u.number) f ts) q ∙ ap (λ (l : List Ticket). t ∷ l) (edit_place (suc t.number) hi f ts i r.1 (omega arith)))

set_split : (ts : List Ticket) (i : ℕ) (v : Ticket) → i < length ts → take i ts ++ (v ∷ drop (i + 1) ts) ≡ set ts i v
set_split [] i v h = absurd (omega arith)
set_split (t ∷ ts) zero v h = refl
set_split (t ∷ ts) (suc i) v h = let e : suc i + 1 ≡ suc (i + 1) = omega arith in rw e (ap (λ (l : List Ticket). t ∷ l) (set_split ts i v (omega arith)))

-- it becomes one ticket, or leaves
pub edit_set : (lo hi : ℕ) (f : Ticket → List Ticket) (ts : List Ticket) (i : ℕ) (t v : Ticket) → Rising lo hi ts → i < length ts → t ≡ get_or ts i no_ticket → f t ≡ v ∷ []
    → edit (named t.number) f ts ≡ set ts i v
edit_set lo hi f ts i t v r h e k =
    subst (λ (u : Ticket). f u ≡ v ∷ [] → edit (named u.number) f ts ≡ set ts i v) (sym e)
    (λ q. edit_place lo hi f ts i r h ∙ (ap (λ (us : List Ticket). take i ts ++ (us ++ drop (i + 1) ts)) q ∙ set_split ts i v h)) k

pub edit_gone : (lo hi : ℕ) (f : Ticket → List Ticket) (ts : List Ticket) (i : ℕ) (t : Ticket) → Rising lo hi ts → i < length ts → t ≡ get_or ts i no_ticket → f t ≡ []
    → edit (named t.number) f ts ≡ take i ts ++ drop (i + 1) ts
edit_gone lo hi f ts i t r h e k =
    subst (λ (u : Ticket). f u ≡ [] → edit (named u.number) f ts ≡ take i ts ++ drop (i + 1) ts) (sym e)
    (λ q. edit_place lo hi f ts i r h ∙ ap (λ (us : List Ticket). take i ts ++ (us ++ drop (i + 1) ts)) q) k

pub in_at : (ts : List Ticket) (t : Ticket) → In t ts → (i : ℕ) × (i < length ts) × (get_or ts i no_ticket ≡ t)
in_at [] t h = absurd h
in_at (u ∷ ts) t (inl e) = (0, omega arith, e)
in_at (u ∷ ts) t (inr h) = let k = in_at ts t h in (suc k.0, (let l = k.1 in omega arith), k.2)
