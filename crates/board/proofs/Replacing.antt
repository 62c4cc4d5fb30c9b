-- A ticket replaced at its place is the ticket changed under its number.
use Rattle.std.proofs.Common.{◌≡◌, ℕ, ◌+◌, ◌<◌, List, ◌++◌, length, take, drop, set, Some, None, Option, sym, refl, ap, ◌∙◌}
use Rattle.rules.specs.declared.ticket.Ticket.{Ticket}
use Rattle.rules.specs.Rack.{Rack, with}
use Rattle.rules.specs.Sound.{Rising}
use Rattle.board.specs.Reading.{ticket_at}
use Rattle.board.specs.Acting.{list_of, Replaced}
use Rattle.board.proofs.Places.{edit_set, edit_gone}

module _ (x y : Rack) (i : ℕ) (t : Ticket) (o : Option Ticket) (h : i < length x.tickets) (e : t ≡ ticket_at x i) (r : Rising x.first x.next x.tickets) where
  pub replaced_by : (u : Ticket) → o ≡ Some u → y ≡ with x (set x.tickets i u) x.slots → Replaced x t o y
  replaced_by u q k f p =
      k ∙ ap (λ (ts : List Ticket). with x ts x.slots) (sym (edit_set x.first x.next f x.tickets i t u r h e (p ∙ ap list_of q)))

  pub replaced_none : o ≡ None → y ≡ with x (take i x.tickets ++ drop (i + 1) x.tickets) x.slots → Replaced x t o y
  replaced_none q k f p =
      k ∙ ap (λ (ts : List Ticket). with x ts x.slots) (sym (edit_gone x.first x.next f x.tickets i t r h e (p ∙ ap list_of q)))

pub replaced_handbacks : (x y : Rack) (t : Ticket) (o : Option Ticket) → Replaced x t o y → y.handbacks ≡ x.handbacks
replaced_handbacks x y t o h = ap (λ (r : Rack). r.handbacks) (h (λ _. list_of o) refl)
