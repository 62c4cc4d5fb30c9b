-- The answers to lines that are accepted, and their texts.
use Rattle.std.specs.Prelude.{ℕ, List, [], ◌∷◌, Some, None, codes, decimal, Option}
use Rattle.rules.specs.Words.{action_number, stage_word}
use Rattle.rules.specs.declared.span.Span.{Span}
use Rattle.text.specs.Fields.{text_line}
use Rattle.console_next.specs.declared.reply.Reply.{Reply}
use Rattle.console_next.specs.declared.reply.Reply.TheVariants as reply

-- first and length of a grant; `none` of a booking without a window
abbrev pub span_fields : Option Span → List (List ℕ)
span_fields (Some span) = decimal span.first ∷ decimal span.length ∷ []
span_fields None = codes "none" ∷ []

-- what follows the word `ok`
abbrev pub reply_fields : Reply → List (List ℕ)
reply_fields reply.Done = []
reply_fields (reply.Number n) = decimal n ∷ []
reply_fields (reply.Stepped r) = decimal r.number ∷ decimal (action_number r.action) ∷ decimal r.column ∷ decimal r.row ∷ []
reply_fields (reply.Driven steps stage) = decimal steps ∷ stage_word stage ∷ []
reply_fields (reply.Collected n span) = decimal n ∷ span_fields span
reply_fields (reply.Marks n) = decimal n ∷ []

abbrev pub reply_text : Reply → List ℕ
reply_text r = text_line (codes "ok") (reply_fields r)
