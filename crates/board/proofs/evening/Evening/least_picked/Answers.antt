use Rattle.std.proofs.Common.{sym, ◌∙◌, subst, arith}
use Rattle.lists.specs.Order.{LeadsAt}
use Rattle.board.specs.Tallies.{ranks, LeastPicked}
use Rattle.board.proofs.LeastPicked.{none_leads, leads_evening}
use Rattle.board.proofs.evening.Evening.least_picked.Goals as goal

pub returns-in_err-place : goal.returns-in_err-place
returns-in_err-place c =
    let tallies = c.args.self.now.tallies in
    let mask = c.args.mask in
    let none = none_leads tallies mask (omega arith) (sym c.vacant_tallies-entries.ensures ∙ (sym c.as_slice.ensures.value ∙ c.in_err-place.ensures.leads)) in
    subst (LeastPicked tallies mask) (sym c.from_residual.ensures) none

pub returns : goal.returns
returns c =
    let e = c.as_slice-2.ensures.value ∙ c.vacant_tallies-entries.ensures in
    leads_evening c.args.self.now.tallies c.args.mask c.as_slice-2.result.now c.in_ok-place.place _ e (subst (λ xs. LeadsAt ranks xs c.in_ok-place.place) (c.as_slice.ensures.value ∙ sym c.as_slice-2.ensures.value) c.in_ok-place.ensures.leads)
