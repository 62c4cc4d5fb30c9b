use Rattle.std.proofs.Common.{◌≡◌, ℕ, ⊎_elim, ◌+◌, ◌∷◌, ◌||◌, eqb, take, true, Some, sym, ap, ◌∙◌}
use Rattle.std.proofs.lemmas.List.{take_rest}
use Rattle.std.proofs.lemmas.Bool.{eqb-true, or_cases}
use Rattle.text.specs.Fields.{fields_of}
use Rattle.text.proofs.Placing.{none_passes, first_at}
use Rattle.text.proofs.Cutting.{tab_at, feed_at, ends_at_tab, ends_at_feed, plain_from, plain_end, cut_end}
use Rattle.text.proofs.field.next_field.Goals as goal

-- what ends a field and is no tab is the line feed
feed_or_tab : (b : ℕ) → (eqb b 10 || eqb b 9) ≡ true → (b ≡ 9 → ⊥) → b ≡ 10
feed_or_tab b h n = ⊎_elim (λ e. eqb-true b 10 e) (λ e. absurd (n (eqb-true b 9 e))) (or_cases _ _ h)

pub returns-in_default : goal.returns-in_default
returns-in_default c =
    let bytes = c.args.rest.now in
    let all = plain_from bytes (none_passes (λ b. eqb b 10 || eqb b 9) bytes (sym c.field_end.ensures.place ∙ c.in_default.is)) in
    let end = plain_end bytes all in
    record { field = end.0; rest = end.1; fields = cut_end bytes all }

pub returns-then-rest-i-eq-TAB : goal.returns-then-rest-i-eq-TAB
returns-then-rest-i-eq-TAB c =
    let bytes = c.args.rest.now in
    let i = c.in-Some.i in
    let f = first_at (λ b. eqb b 10 || eqb b 9) bytes i (sym c.field_end.ensures.place ∙ c.in-Some.is) in
    let front = plain_from (take i bytes) f.before in
    let back = take_rest bytes (i + 1) in
    let cut = ends_at_tab bytes i f.inside front c.if-rest-i-eq-TAB.true in
    record {
      field = sym cut.0;
      rest = ap Some back ∙ sym cut.1;
      fields = tab_at bytes i f.inside front c.if-rest-i-eq-TAB.true ∙ ap (λ bs. take i bytes ∷ fields_of bs) (sym back);
    }

pub returns-else-rest-i-eq-TAB : goal.returns-else-rest-i-eq-TAB
returns-else-rest-i-eq-TAB c =
    let bytes = c.args.rest.now in
    let i = c.in-Some.i in
    let f = first_at (λ b. eqb b 10 || eqb b 9) bytes i (sym c.field_end.ensures.place ∙ c.in-Some.is) in
    let front = plain_from (take i bytes) f.before in
    let feed = feed_or_tab _ f.passes c.if-rest-i-eq-TAB.false in
    let cut = ends_at_feed bytes i f.inside front feed in
    record { field = sym cut.0; rest = sym cut.1; fields = feed_at bytes i f.inside front feed }
