-- The row that a chooser answers for a mark: it is the one that its meaning names, and a row of the board.
use Rattle.std.proofs.Common.{◌≡◌, ℕ, ◌<◌, ◌≤◌, true, Some, Option, sym, refl, ap, ◌∙◌, arith}
use Rattle.std.proofs.lemmas.Bool.{ne_eqb, not-false}
use Rattle.rules.specs.declared.ticket.Ticket.{Ticket}
use Rattle.rules.specs.Rack.{Rack, cells, has_vacant}
use Rattle.rules.specs.Step.{ahead}
use Rattle.rules.specs.declared.asked.Asked.{Asked}
use Rattle.rules.specs.Choosers.{Meaning, mask_of, asked, Lawful, answer_of}
use Rattle.rules.specs.Calls.{row_for}
use Rattle.rules.specs.Sound.{Sound}
use Rattle.rules.proofs.Listing.{some_inj}
use Rattle.rules.proofs.Masks.{mask_zero, some_vacant, vacant_cell}
use Rattle.rules.proofs.Looks.{cells_tall}

module _ {S : Type 0} (m : Meaning S) (lawful : Lawful m) (r : Rack) (sd : Sound r) (t : Ticket) (s : S) (inside : ahead t < r.sizes.columns)
    (mask : ℕ) (k : mask ≡ mask_of (cells r (ahead t))) (v : mask ≡ 0 → ⊥) (left : Option ℕ) (l : left ≡ (asked r t).left) where
  told : Asked
  told = record { mask = mask; column = ahead t; left = left }

  told_is : ◌≡◌ {A = Asked} (record { mask = mask; column = ahead t; left = left }) (asked r t)
  told_is = rw (k, l) refl

  picked_row : (row : ℕ) → Some row ≡ answer_of m s (record { mask = mask; column = ahead t; left = left }) → row ≡ row_for m r t s
  picked_row row e =
      let a : answer_of m s (record { mask = mask; column = ahead t; left = left }) ≡ Some (m.row s (record { mask = mask; column = ahead t; left = left })) = rw (ne_eqb mask 0 v) refl in
      some_inj row (row_for m r t s) (e ∙ (a ∙ ap (λ (q : Asked). Some (m.row s q)) told_is))

  vacant_there : has_vacant r (ahead t) ≡ true
  vacant_there = not-false (has_vacant r (ahead t)) (sym (mask_zero (cells r (ahead t))) ∙ ne_eqb (mask_of (cells r (ahead t))) 0 (λ e. v (k ∙ e)))

  pub picked_within : (row : ℕ) → Some row ≡ answer_of m s (record { mask = mask; column = ahead t; left = left }) → (1 ≤ row) × (row ≤ r.sizes.rows)
  picked_within row k =
      let e = picked_row row k in
      let tall = cells_tall r sd (ahead t) inside in
      let most = sd.rows_most in
      let w = some_vacant (cells r (ahead t)) (omega arith) vacant_there in
      let f = vacant_cell (cells r (ahead t)) (row_for m r t s) (lawful s (asked r t) w.0 w.1) in
      let a = f.0 in let b = f.1 in
      (omega arith, omega arith)
