-- The limits of an opening, and the slots of a board just opened.
use Rattle.std.proofs.Common.{◌≡◌, ℕ, zero, suc, ◌-◌, ◌*◌, ◌≤◌, Bool, true, cond, ◌&&◌, leb, List, [], ◌++◌, take, replicate, refl, ◌∙◌, arith}
use Rattle.std.proofs.lemmas.Bool.{and_parts, leb-true}
use Rattle.std.proofs.lemmas.Nat.{mul-le}
use Rattle.rules.specs.declared.slot.Slot.{Slot}
use Rattle.rules.specs.declared.slot.Slot.TheVariants.{Vacant}
use Rattle.rules.specs.declared.ticket.Ticket.{Ticket}
use Rattle.rules.specs.declared.rack.Sizes.{Sizes}
use Rattle.rules.specs.Rack.{Rack}
use Rattle.rules.specs.Calls.{within, openable, open'}

in_range : (lo hi n : ℕ) → within lo hi n ≡ true → (lo ≤ n) × (n ≤ hi)
in_range lo hi n e = let p = and_parts (leb lo n) (leb n hi) e in (leb-true lo n p.0, leb-true n hi p.1)

pub record Limits (z : Sizes) (first : ℕ) : Type 0 where
  pub rows : (1 ≤ z.rows) × (z.rows ≤ 16)
  pub columns : (1 ≤ z.columns) × (z.columns ≤ 256)
  pub places : (1 ≤ z.places) × (z.places ≤ 64)
  pub lead : (0 ≤ z.lead) × (z.lead ≤ 64)
  pub numbers : (1 ≤ first) × (first ≤ 1000000000)

pub limits : (z : Sizes) (first : ℕ) → openable z first ≡ true → Limits z first
limits z first e =
    let a = and_parts (within 1 16 z.rows) (within 1 256 z.columns && (within 1 64 z.places && (within 0 64 z.lead && within 1 1000000000 first))) e in
    let b = and_parts (within 1 256 z.columns) (within 1 64 z.places && (within 0 64 z.lead && within 1 1000000000 first)) a.1 in
    let c = and_parts (within 1 64 z.places) (within 0 64 z.lead && within 1 1000000000 first) b.1 in
    let d = and_parts (within 0 64 z.lead) (within 1 1000000000 first) c.1 in
    record {
      rows = in_range 1 16 z.rows a.0;
      columns = in_range 1 256 z.columns b.0;
      places = in_range 1 64 z.places c.0;
      lead = in_range 0 64 z.lead d.0;
      numbers = in_range 1 1000000000 first d.1;
    }

pub area_most : (z : Sizes) (first : ℕ) → Limits z first → z.columns * z.rows ≤ 4096
area_most z first l = let m = mul-le z.columns z.rows 256 16 l.columns.1 l.rows.1 in omega arith

-- an emptied list, filled anew
pub filled : (n k : ℕ) (b : Bool) (old new : List Slot) → b ≡ true → k ≡ 0 → old ≡ [] → new ≡ cond b (take n old ++ replicate (n - k) Vacant) old → new ≡ replicate n Vacant
filled n k b old new p q r e =
    let m : n - k ≡ n = omega arith in
    e ∙ rw (p, m, r) (at n)
  where
    at : (n : ℕ) → take n [] ++ replicate n Vacant ≡ replicate n Vacant
    at zero = refl
    at (suc n) = refl

pub sized : (n k : ℕ) (b : Bool) (new : ℕ) → b ≡ true → new ≡ cond b n k → new ≡ n
sized n k b new p e = e ∙ rw p refl

pub opened_rack : (x y : Rack) (z : Sizes) (first : ℕ) → openable z first ≡ true → (ts : List Ticket) (ss : List Slot) → ts ≡ [] → ss ≡ replicate (z.columns * z.rows) Vacant
    → ◌≡◌ {A = Rack} (record { sizes = z; first = first; next = first; handbacks = 0; tickets = ts; slots = ss }) (open' x z first).rack
opened_rack x y z first e ts ss p q = rw (p, q, e) refl
