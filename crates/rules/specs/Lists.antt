-- Words on lists: some or every entry passes a test, how many do, the first that does, and a change of that one.
use Rattle.std.specs.Prelude.{ℕ, ◌+◌, Bool, true, false, cond, ◌&&◌, ◌||◌, List, [], ◌∷◌, ◌++◌, Some, None, Option}

-- 1 for true, 0 for false
abbrev pub unit : Bool → ℕ
unit true = 1
unit false = 0

-- some entry passes
abbrev pub any_of : {X : Type 0} → (X → Bool) → List X → Bool
any_of p [] = false
any_of p (x ∷ xs) = p x || any_of p xs

-- every entry passes
abbrev pub all_of : {X : Type 0} → (X → Bool) → List X → Bool
all_of p [] = true
all_of p (x ∷ xs) = p x && all_of p xs

-- the sum of what each entry counts
abbrev pub total : {X : Type 0} → (X → ℕ) → List X → ℕ
total g [] = 0
total g (x ∷ xs) = g x + total g xs

-- how many entries pass
abbrev pub count_of : {X : Type 0} → (X → Bool) → List X → ℕ
count_of p xs = total (λ x. unit (p x)) xs

-- the first entry that passes
abbrev pub find : {X : Type 0} → (X → Bool) → List X → Option X
find p [] = None
find p (x ∷ xs) = cond (p x) (Some x) (find p xs)

-- the value in an option, or another one
abbrev pub or_else : {X : Type 0} → Option X → X → X
or_else None y = y
or_else (Some x) y = x

-- the first entry that passes becomes what f makes of it: nothing, if it leaves the list
abbrev pub edit : {X : Type 0} → (X → Bool) → (X → List X) → List X → List X
edit p f [] = []
edit p f (x ∷ xs) = cond (p x) (f x ++ xs) (x ∷ edit p f xs)
