use Rattle.std.proofs.Common.{sym, ◌∙◌, subst}
use Rattle.std.specs.Str.Parse.{ParsesUnsigned}
use Rattle.text.proofs.Reading.{not_text, parsed}
use Rattle.text.proofs.token.figure.Goals as goal

pub returns-in_default : goal.returns-in_default
returns-in_default c = sym (not_text c.args.text.now c.in_default.ensures.cases.0)

pub returns : goal.returns
returns c =
    c.ok.ensures.value
    ∙ parsed c.args.text.now c.parse.result (sym c.is_bare.ensures ∙ c.if-not-is_bare.false)
    (subst (λ bs. ParsesUnsigned 32 10 bs c.parse.result) c.in-Ok.ensures.cases.0 c.parse.ensures.value.0)
