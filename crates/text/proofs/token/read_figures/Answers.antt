use Rattle.std.proofs.Common.{◌≡◌, ◌+◌, ◌^◌, ◌<◌, [], ◌∷◌, length, take, drop, Ok, Err, refl, inl, sym, ap, ◌∙◌, ⊎_elim, arith, length-set}
use Rattle.std.proofs.lemmas.Result.{err_from_is_err_and}
use Rattle.std.proofs.lemmas.Bool.{cases_lt}
use Rattle.text.specs.Fields.{fields_left}
use Rattle.text.specs.Tokens.{token_of, figure_in, figures_from, figures_of}
use Rattle.text.proofs.Cutting.{fields_few}
use Rattle.text.proofs.Filling.{onward, fill_starts, next_is, next_is_none, fill_ends, fill_full}
use Rattle.text.proofs.token.read_figures.Goals as goal

pub loop-i-init : goal.loop-i-init
loop-i-init c =
    let it = c.into_iter-i-iterator.result in
    let count : it.iter.count ≡ 0 = cc in
    let n : it.n ≡ 5 = cc in
    let fields : fields_left it.iter.iter.rest ≡ fields_left c.next_field.result.1 = cc in
    let few : it.iter.count + length (fields_left it.iter.iter.rest) < 2 ^ 64 = omega (arith, fields_few c.args.line.now, ap length c.next_field.ensures.fields, ap length fields) in
    record {
      can = ((tt, tt, inl few), tt);
      few = few;
      places = omega arith;
      length = refl;
      read = fill_starts (0 ∷ 0 ∷ 0 ∷ 0 ∷ 0 ∷ []) it.iter.count _ _ count fields ∙ sym (ap figures_of c.next_field.ensures.fields);
    }

pub returns-in_err-figures : goal.returns-in_err-figures
returns-in_err-figures c =
    let s = c.in-Some.ensures.steps in
    let p = err_from_is_err_and c.from_residual.result c.from_residual.ensures.1 in
    let fault : figure_in (token_of c.in-Some.text.now (c.in-Some.i + 2)) ≡ Err c.in_err-figures.field-0.0 = ap figure_in (sym c.new.ensures) ∙ sym c.figure.ensures ∙ c.in_err-figures.was in
    p.1
    ∙ ap Err p.2
    ∙ sym (next_is_none c.loop-i.figures c.loop-i.i-iterator.iter.count c.in-Some.i s.0.1 (omega (arith, c.loop-i.invariant.length)) _ c.in-Some.text.now _ s.0.0 _ fault)
    ∙ c.loop-i.invariant.read

pub loop-i-preserved : goal.loop-i-preserved
loop-i-preserved c =
    let s = c.in-Some.ensures.steps in
    let value : figure_in (token_of c.in-Some.text.now (c.in-Some.i + 2)) ≡ Ok c.in_ok-figures.field-0 = ap figure_in (sym c.new.ensures) ∙ sym c.figure.ensures ∙ c.in_ok-figures.was in
    let it = c.next.new.self in
    let few : it.iter.count + length (fields_left it.iter.iter.rest) < 2 ^ 64 = omega (arith, c.loop-i.invariant.few, ap length s.0.0) in
    record {
      can = ((tt, tt, inl few), tt);
      few = few;
      places = omega (arith, c.loop-i.invariant.places);
      length = length-set c.loop-i.figures c.in-Some.i _ ∙ c.loop-i.invariant.length;
      read =
          sym (next_is c.loop-i.figures c.loop-i.i-iterator.iter.count c.in-Some.i s.0.1 (omega (arith, c.loop-i.invariant.length)) _ c.in-Some.text.now _ s.0.0 it.iter.count _ s.0.2 value)
          ∙ c.loop-i.invariant.read;
    }

pub returns : goal.returns
returns c =
    let s = c.in-None.ensures.steps in
    let n = c.loop-i.i-iterator.iter.count in
    ⊎_elim
    (λ l. sym (fill_ends c.loop-i.figures n (n + 2)) ∙ ap (λ fs. onward (take n c.loop-i.figures) (figures_from (n + 2) (drop n c.loop-i.figures) fs)) (sym (s l).0.0) ∙ c.loop-i.invariant.read)
    (λ l. sym (fill_full c.loop-i.figures n _ _ (omega (arith, c.loop-i.invariant.length, c.loop-i.invariant.places))) ∙ c.loop-i.invariant.read)
    (cases_lt 0 c.loop-i.i-iterator.n)
