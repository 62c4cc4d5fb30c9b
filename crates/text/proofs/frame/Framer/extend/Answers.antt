use Rattle.std.proofs.Common.{◌≡◌, ◌≤◌, ◌+◌, ◌<◌, ◌++◌, length, None, Some, IfSome, fold, true, is_ok, sym, ap, ◌∙◌, subst, arith, rules}
use Rattle.std.specs.Option.{option_map}
use Rattle.text.specs.Frames.{more}
use Rattle.text.proofs.Framing.{extends, overflows, stays_lost}
use Rattle.text.proofs.frame.Framer.extend.Goals as goal

pub returns-then-is_err-clause-line : goal.returns-then-is_err-clause-line
returns-then-is_err-clause-line c =
    let was : Some c.in-Some.line.items ≡ c.args.self.now = ap (option_map (λ line. line.items)) (sym c.in-Some.is) ∙ c.self.view_is in
    let short : length c.in-Some.line.items ≤ 80 = subst (λ o. IfSome o (λ line. length line.items ≤ 80)) c.in-Some.is c.self.invariant in
    let long : 80 < length c.in-Some.line.items + length c.args.bytes.now = grind (arith, c.try_extend_from_slice.ensures, c.is_err.ensures) in
    overflows c.in-Some.line.items c.args.bytes.now short long ∙ ap (λ h. fold more h c.args.bytes.now) was

pub returns-else-is_err-clause-line : goal.returns-else-is_err-clause-line
returns-else-is_err-clause-line c =
    let was : Some c.in-Some.line.items ≡ c.args.self.now = ap (option_map (λ line. line.items)) (sym c.in-Some.is) ∙ c.self.view_is in
    let short : length c.in-Some.line.items ≤ 80 = subst (λ o. IfSome o (λ line. length line.items ≤ 80)) c.in-Some.is c.self.invariant in
    let ok : is_ok c.try_extend_from_slice.result ≡ true = search (rules, c.is_err.ensures, c.if-is_err.ensures) in
    let all : c.try_extend_from_slice.new.self.items ≡ c.in-Some.line.items ++ c.args.bytes.now = search (rules, ok) in
    let fits : length c.in-Some.line.items + length c.args.bytes.now ≤ 80 = c.try_extend_from_slice.ensures.variant.0 (search (rules, ok)) in
    ap Some all ∙ extends c.in-Some.line.items c.args.bytes.now short fits ∙ ap (λ h. fold more h c.args.bytes.now) was

pub returns-in_default-clause-line : goal.returns-in_default-clause-line
returns-in_default-clause-line c =
    let was : None ≡ c.args.self.now = ap (option_map (λ line. line.items)) (sym c.in_default.is) ∙ c.self.view_is in
    ap (option_map (λ line. line.items)) c.in_default.is ∙ stays_lost c.args.bytes.now ∙ ap (λ h. fold more h c.args.bytes.now) was
