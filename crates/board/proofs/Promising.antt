-- The promise of the model's calls, at the board that a call of the code left.
use Rattle.std.proofs.Common.{◌≡◌, ℕ, Bool, true, false, List, [], Result, sym, refl, subst}
use Rattle.rules.specs.declared.refusal.Refusal.{Refusal}
use Rattle.rules.specs.declared.rack.Sizes.{Sizes}
use Rattle.rules.specs.Rack.{Rack}
use Rattle.rules.specs.Calls.{openable, open'}
use Rattle.rules.specs.History.{Event}
use Rattle.rules.specs.Laws.{told, Carries}
use Rattle.rules.specs.Sound.{Reached}
use Rattle.rules.proofs.Carried.{reached_on}

module _ {A : Type 0} (f : A → Event) (x y z : Rack) (r o : Result A Refusal) (c : Carries (told f o) x z) (q : r ≡ o) (e : y ≡ z) where
  pub carries_told : Carries (told f r) x y
  carries_told = subst (λ (w : Rack). Carries (told f r) x w) (sym e) (subst (λ (a : Result A Refusal). Carries (told f a) x z) (sym q) c)

pub reached_after : (es : List Event) (x y z : Rack) → Carries es x z → y ≡ z → Reached x → Reached y
reached_after es x y z c e r = subst Reached (sym e) (reached_on es x z c r)

open_reached_at : (x : Rack) (z : Sizes) (first : ℕ) (b : Bool) → openable z first ≡ b → Reached x → Reached (open' x z first).rack
open_reached_at x z first true e r = ∣ ([], (z, first, e, rw e refl)) ∣₁
open_reached_at x z first false e r = rw e r

pub open_reached : (x y : Rack) (z : Sizes) (first : ℕ) → y ≡ (open' x z first).rack → Reached x → Reached y
open_reached x y z first e r = subst Reached (sym e) (open_reached_at x z first (openable z first) refl r)
