-- What a line asks the board for.
use Rattle.std.specs.Prelude.{ℕ, List, Ok, Err, Result, slice_index}
use Rattle.text.specs.declared.fault.Fault.{Fault}
use Rattle.text.specs.Heads.{line_read}
use Rattle.text.specs.declared.verb.Verb.{Verb}
use Rattle.text.specs.declared.verb.Verb.TheVariants as verb
use Rattle.console_next.specs.declared.order.Order.{Order}
use Rattle.console_next.specs.declared.order.Order.TheVariants as order
use Rattle.text.specs.Verbs.{verb_of, verb_figures}

-- the figures in the order in which a line has them: rows, columns, places, lead, first number; start, length; number; number, budget; column
abbrev pub order_for : Verb → List ℕ → Order
order_for verb.Open ns = order.Open (record { rows = slice_index ns 0; columns = slice_index ns 1; places = slice_index ns 2; lead = slice_index ns 3 }) (slice_index ns 4)
order_for verb.Book ns = order.Book (record { start = slice_index ns 0; length = slice_index ns 1 })
order_for verb.Step ns = order.Step (slice_index ns 0)
order_for verb.Drive ns = order.Drive (slice_index ns 0) (slice_index ns 1)
order_for verb.Collect ns = order.Collect (slice_index ns 0)
order_for verb.Drop ns = order.Drop (slice_index ns 0)
order_for verb.Back ns = order.Back (slice_index ns 0)
order_for verb.Show ns = order.Show (slice_index ns 0)

abbrev pub ordered : Result (Verb × List ℕ) Fault → Result Order Fault
ordered (Err f) = Err f
ordered (Ok p) = Ok (order_for p.0 p.1)

-- the order of a line, or its fault
abbrev pub order_of : List ℕ → Result Order Fault
order_of line = ordered (line_read verb_of verb_figures line)
