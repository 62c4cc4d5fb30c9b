-- The verbs: their words, and how many figures follow.
use Rattle.std.specs.Prelude.{◌≡◌, ℕ, List, [], ◌∷◌, Some, None, codes, Option, ◌≢◌}
use Rattle.std.specs.Str.{bytes_eq}
use Rattle.rules.specs.Lists.{find}
use Rattle.text.specs.declared.figures.Figures.{Figures}
use Rattle.text.specs.declared.verb.Verb.{Verb}
use Rattle.text.specs.declared.verb.Verb.TheVariants as verb

abbrev pub verb_word : Verb → List ℕ
verb_word verb.Open = codes "open"
verb_word verb.Book = codes "book"
verb_word verb.Step = codes "step"
verb_word verb.Drive = codes "drive"
verb_word verb.Collect = codes "collect"
verb_word verb.Drop = codes "drop"
verb_word verb.Back = codes "back"
verb_word verb.Show = codes "show"

-- between so many figures and so many
abbrev pub between : ℕ → ℕ → Figures
between least most = record { least = least; most = most }

abbrev pub verb_figures : Verb → Figures
verb_figures verb.Open = between 5 5
verb_figures verb.Book = between 2 2
verb_figures verb.Step = between 1 1
verb_figures verb.Drive = between 2 2
verb_figures verb.Collect = between 1 1
verb_figures verb.Drop = between 1 1
verb_figures verb.Back = between 1 1
verb_figures verb.Show = between 1 1

abbrev pub verbs : List Verb
verbs = verb.Open ∷ verb.Book ∷ verb.Step ∷ verb.Drive ∷ verb.Collect ∷ verb.Drop ∷ verb.Back ∷ verb.Show ∷ []

-- the verb that has this word
abbrev pub verb_of : List ℕ → Option Verb
verb_of text = find (λ v. bytes_eq text (verb_word v)) verbs

-- the text is this verb's word; or it is no verb's
abbrev pub Names : List ℕ → Option Verb → Type 0
Names text (Some v) = text ≡ verb_word v
Names text None = (v : Verb) → text ≢ verb_word v
