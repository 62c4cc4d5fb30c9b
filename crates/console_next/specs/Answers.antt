-- What answering a line makes of page, board, chooser and journal.
use Rattle.std.specs.Prelude.{ℕ, cond, List, [], length, Ok, Err, Result, nat_lt}
use Rattle.lists.specs.Contents.{Contents}
use Rattle.rules.specs.declared.refusal.Refusal.{Refusal}
use Rattle.rules.specs.declared.refusal.Refusal.TheVariants as refusal
use Rattle.rules.specs.declared.report.Report.{Report}
use Rattle.rules.specs.Rack.{Rack}
use Rattle.rules.specs.Choosers.{Meaning}
use Rattle.text.specs.declared.fault.Fault.{Fault}
use Rattle.text.specs.Faults.{fault_of}
use Rattle.text.specs.Pages.{shortest, over}
use Rattle.console_next.specs.declared.order.Order.{Order}
use Rattle.console_next.specs.declared.reply.Reply.{Reply}
use Rattle.console_next.specs.Orders.{order_of}
use Rattle.console_next.specs.Replies.{reply_text}
use Rattle.console_next.specs.Calls.{Telling, Called, called}

-- all that answering a line could touch, and what it tells of histories
pub record Answered (S : Type 0) : Type 0 where
  pub answer : Result ℕ Fault
  pub page : List ℕ
  pub rack : Rack
  pub held : S
  pub journal : Contents Report
  pub tells : Telling

-- a fault leaves all as it was, and tells nothing
abbrev pub refused_with : {S : Type 0} → Fault → List ℕ → Rack → Contents Report → S → Answered S
refused_with f page x c s = record { answer = Err f; page = page; rack = x; held = s; journal = c; tells = Telling.adds [] }

-- a reply is written from the start of the page on; what the board refuses is a fault of no field
abbrev pub written : {S : Type 0} → List ℕ → Rack → Contents Report → S → Called S → Result Reply Refusal → Answered S
written page x c s o (Ok r) = record { answer = Ok (length (reply_text r)); page = over (reply_text r) page; rack = o.rack; held = o.held; journal = o.journal; tells = o.tells }
written page x c s o (Err e) = refused_with (fault_of e 0 0) page x c s

module _ {S : Type 0} (m : Meaning S) where
  abbrev pub obeyed : List ℕ → Rack → Contents Report → S → Result Order Fault → Answered S
  obeyed page x c s (Err f) = refused_with f page x c s
  obeyed page x c s (Ok order) = let o = called m x c s order in written page x c s o o.reply

  -- first the page, then the line, then the board
  abbrev pub answered : List ℕ → List ℕ → Rack → Contents Report → S → Answered S
  answered line page x c s = cond (nat_lt (length page) shortest) (refused_with (fault_of refusal.Page 0 0) page x c s) (obeyed page x c s (order_of line))
