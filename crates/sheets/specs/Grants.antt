-- The grants of a rack, and the sheet that is written of them.
use Rattle.std.specs.Prelude.{ℕ, Bool, true, false, cond, List, [], ◌∷◌, ◌++◌, sum_by, filter_map, length, Some, None, Ok, Err, codes, decimal, Option, Result, nat_lt}
use Rattle.rules.specs.declared.refusal.Refusal.TheVariants as refusal
use Rattle.rules.specs.declared.ticket.Ticket.{Ticket}
use Rattle.rules.specs.declared.ticket.Phase.{Phase}
use Rattle.rules.specs.declared.ticket.Phase.TheVariants.{Forward, Backing, Without, Granted, Out, Closing}
use Rattle.rules.specs.Rack.{Rack}
use Rattle.text.specs.declared.fault.Fault.{Fault}
use Rattle.text.specs.Faults.{fault_of}
use Rattle.text.specs.Fields.{text_line}
use Rattle.text.specs.Pages.{over}
use Rattle.sheets.specs.declared.grant.GrantLine.{GrantLine}

abbrev pub is_out : Phase → Bool
is_out Forward = false
is_out (Backing next) = false
is_out Without = false
is_out Granted = false
is_out Out = true
is_out Closing = false

-- the number of a ticket, and the columns that it was granted
abbrev pub grant_of : Ticket → GrantLine
grant_of t = record { number = t.number; span = record { first = t.first; length = t.request.length } }

-- what the sheet tells of a ticket: its grant, if it is out
abbrev pub grant_told : Ticket → Option GrantLine
grant_told t = cond (is_out t.phase) (Some (grant_of t)) None

-- the grants of those tickets that are out, in their order
abbrev pub out_among : List Ticket → List GrantLine
out_among [] = []
out_among (t ∷ ts) = cond (is_out t.phase) (grant_of t ∷ out_among ts) (out_among ts)

abbrev pub grants_out : Rack → List GrantLine
grants_out r = out_among r.tickets

-- the line of a grant: its number, its first column, and how many columns there are
abbrev pub grant_text : GrantLine → List ℕ
grant_text g = text_line (codes "grant") (decimal g.number ∷ decimal g.span.first ∷ decimal g.span.length ∷ [])

-- a sheet: the lines of its grants
abbrev pub sheet_text : List GrantLine → List ℕ
sheet_text [] = []
sheet_text (g ∷ gs) = grant_text g ++ sheet_text gs

-- how long the lines of the tickets that are out are together
abbrev pub sheet_long : List Ticket → ℕ
sheet_long ts = sum_by (λ g. length (grant_text g)) (filter_map grant_told ts)

-- The answer of a call that writes a sheet on a page: how many bytes it wrote, or that the page is shorter than the sheet.
abbrev pub sheet_answer : List ℕ → List ℕ → Result ℕ Fault
sheet_answer text page = cond (nat_lt (length page) (length text)) (Err (fault_of refusal.Page 0 0)) (Ok (length text))

-- The page after it: the sheet, and behind it what stood there; too short a page is as it was.
abbrev pub page_after : List ℕ → List ℕ → List ℕ
page_after text page = cond (nat_lt (length page) (length text)) page (over text page)
