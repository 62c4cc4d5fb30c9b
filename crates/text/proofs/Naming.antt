-- A word told by cases is the verb found by its word.
use Rattle.std.proofs.Common.{◌≡◌, ℕ, false, List, Some, None, Option, sym, refl, ap, ◌∙◌, ⊎_elim}
use Rattle.std.specs.Str.{bytes_eq}
use Rattle.std.proofs.lemmas.Slice.Eq.{bytes_eq-Decides}
use Rattle.std.proofs.lemmas.Bool.{cases_Bool}
use Rattle.text.specs.declared.verb.Verb.{Verb}
use Rattle.text.specs.declared.verb.Verb.TheVariants as verb
use Rattle.text.specs.Verbs.{verb_word, verb_of, Names}

word_names : (v : Verb) → verb_of (verb_word v) ≡ Some v
word_names verb.Open = refl
word_names verb.Book = refl
word_names verb.Step = refl
word_names verb.Drive = refl
word_names verb.Collect = refl
word_names verb.Drop = refl
word_names verb.Back = refl
word_names verb.Show = refl

other : (text word : List ℕ) → (text ≡ word → ⊥) → bytes_eq text word ≡ false
other text word n = ⊎_elim (λ e. absurd (n ((bytes_eq-Decides text word).0 e))) (λ e. e) (cases_Bool (bytes_eq text word))

pub names_is : (text : List ℕ) (r : Option Verb) → Names text r → r ≡ verb_of text
names_is text (Some v) e = sym (ap verb_of e ∙ word_names v)
names_is text None n =
    let no : (v : Verb) → bytes_eq text (verb_word v) ≡ false = λ v. other text (verb_word v) (n v) in
    simp (no verb.Open, no verb.Book, no verb.Step, no verb.Drive, no verb.Collect, no verb.Drop, no verb.Back, no verb.Show)
