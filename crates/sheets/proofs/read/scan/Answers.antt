use Rattle.std.proofs.Common.{◌≡◌, ◌+◌, ◌^◌, ◌<◌, [], ◌∷◌, ◌++◌, length, set, Ok, Err, inl, sym, refl, ap, ◌∙◌, subst, arith}
use Rattle.std.proofs.lemmas.Result.{err_from_is_err_and}
use Rattle.text.specs.Frames.{lines_of}
use Rattle.sheets.specs.Sheets.{laid, Lays, grant_read, numbered, counted}
use Rattle.sheets.proofs.Cuts.{lines_few}
use Rattle.sheets.proofs.Passing.{Underway, underway_none, underway_more, underway_stops, underway_all, laid_push}
use Rattle.sheets.proofs.read.scan.Goals as goal

pub loop-i-init : goal.loop-i-init
loop-i-init c =
    let it = c.into_iter-i-iterator.result in
    let count : it.count ≡ 0 = cc in
    let rest : it.iter.rest.now ≡ c.args.sheet.now = (λ i. (c.into_iter-i-iterator.ensures.into_iter_gives i).iter.rest.now) ∙ (λ i. (c.enumerate-i-items.ensures.source i).rest.now) in
    let few : it.count + length (lines_of it.iter.rest.now) < 2 ^ 64 = omega (arith, lines_few c.args.sheet.now, ap (λ bs. length (lines_of bs)) rest) in
    record {
      can = ((tt, tt, inl few), tt);
      few = few;
      counts = sym count;
      read = ([], subst (λ bs. Underway c.args.sheet.now [] 0 0 bs) (sym rest) (underway_none c.args.sheet.now), refl);
    }

pub returns-in_err-grant : goal.returns-in_err-grant
returns-in_err-grant c =
    let s = c.in-Some.ensures.steps in
    let p = err_from_is_err_and c.from_residual.result c.from_residual.ensures.1 in
    let fault = ap (λ n. numbered (n + 1) (grant_read c.loop-i.last c.in-Some.line.now)) (c.loop-i.invariant.counts ∙ sym s.1) ∙ sym c.read_numbered.ensures ∙ c.in_err-grant.was in
    let stops = underway_stops c.loop-i.invariant.read.1 c.next.new.self.iter.rest.now s.0 _ fault in
    record { answer = p.1 ∙ ap Err p.2 ∙ sym (ap counted stops); list = subst (λ r. Lays r c.args.list.now c.loop-i.list) (sym stops) tt }

pub loop-i-preserved : goal.loop-i-preserved
loop-i-preserved c =
    let s = c.in-Some.ensures.steps in
    let it = c.next.new.self in
    let gs = c.loop-i.invariant.read.0 in
    let u = c.loop-i.invariant.read.1 in
    let g = c.in_ok-grant.grant in
    let same : c.loop-i.count ≡ c.in-Some.i = c.loop-i.invariant.counts ∙ sym s.1 in
    let grant = ap (λ n. numbered (n + 1) (grant_read c.loop-i.last c.in-Some.line.now)) same ∙ sym c.read_numbered.ensures ∙ c.in_ok-grant.was in
    let more = underway_more u it.iter.rest.now s.0 g grant in
    let few : it.count + length (lines_of it.iter.rest.now) < 2 ^ 64 = omega (arith, c.loop-i.invariant.few, ap length s.0) in
    record {
      can = ((tt, tt, inl few), tt);
      few = few;
      counts = omega arith;
      read = (
        gs ++ (g ∷ []),
        subst (λ n. Underway c.args.sheet.now (gs ++ (g ∷ [])) (n + 1) g.number it.iter.rest.now) same more,
        c.place.ensures ∙ ap (λ xs. set xs c.in-Some.i g) c.loop-i.invariant.read.2 ∙ ap (λ n. set (laid gs c.args.list.now) n g) (sym (u.many ∙ same)) ∙ sym (laid_push gs g c.args.list.now),
      );
    }

pub returns : goal.returns
returns c =
    let s = c.in-None.ensures.steps in
    let u = c.loop-i.invariant.read.1 in
    let all = underway_all u s.0.0 in
    record { answer = ap Ok (sym u.many) ∙ sym (ap counted all); list = subst (λ r. Lays r c.args.list.now c.loop-i.list) (sym all) c.loop-i.invariant.read.2 }
