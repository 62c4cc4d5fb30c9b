-- Lines read one after another.
use Rattle.std.proofs.Common.{◌≡◌, ℕ, suc, ◌+◌, ◌<◌, ◌≤◌, true, false, ltb, List, [], ◌∷◌, ◌++◌, length, drop, set, Ok, Err, Result, sym, refl, ap, ◌∙◌, append_assoc, arith}
use Rattle.std.proofs.lemmas.List.{length_push, append-nil}
use Rattle.std.proofs.lemmas.Bool.{le-ltb, lt-ltb}
use Rattle.text.specs.declared.fault.LineFault.{LineFault}
use Rattle.text.specs.Frames.{lines_of}
use Rattle.text.proofs.Filling.{onward, onward_none}
use Rattle.sheets.specs.declared.grant.GrantLine.{GrantLine}
use Rattle.sheets.specs.Sheets.{grant_read, numbered, onto, and_then, lines_read, sheet_read, counted, laid, Lays, refused, taken, no_room, into_list}

onward_onto : (gs : List GrantLine) (g : GrantLine) (r : Result (List GrantLine) LineFault) → onward gs (onto g r) ≡ onward (gs ++ (g ∷ [])) r
onward_onto gs g (Err f) = refl
onward_onto gs g (Ok more) = ap Ok (sym (append_assoc gs (g ∷ []) more))

-- So far `gs` were read of the sheet, the last of them with number `last`, and these bytes are left.
pub record Underway (sheet : List ℕ) (gs : List GrantLine) (n last : ℕ) (rest : List ℕ) : Type 0 where
  pub many : length gs ≡ n
  pub onwards : onward gs (lines_read (n + 1) last (lines_of rest)) ≡ sheet_read sheet
  pub few : n + length (lines_of rest) ≡ length (lines_of sheet)

-- at the start
pub underway_none : (sheet : List ℕ) → Underway sheet [] 0 0 sheet
underway_none sheet = record { many = refl; onwards = onward_none (sheet_read sheet); few = omega arith }

module _ {sheet : List ℕ} {gs : List GrantLine} {n last : ℕ} {rest : List ℕ} (u : Underway sheet gs n last rest) where
  module _ {bytes : List ℕ} (after : List ℕ) (e : lines_of rest ≡ bytes ∷ lines_of after) where
    -- a line without fault
    pub underway_more : (g : GrantLine) → numbered (n + 1) (grant_read last bytes) ≡ Ok g → Underway sheet (gs ++ (g ∷ [])) (n + 1) g.number after
    underway_more g h =
        let next : n + 1 + 1 ≡ suc (n + 1) = omega arith in
        record {
          many = length_push gs g ∙ ap (λ m. m + 1) u.many;
          onwards =
              ap (λ m. onward (gs ++ (g ∷ [])) (lines_read m g.number (lines_of after))) next
              ∙ sym (onward_onto gs g (lines_read (suc (n + 1)) g.number (lines_of after)))
              ∙ ap (λ r. onward gs (and_then r (λ k. lines_read (suc (n + 1)) k.number (lines_of after)))) (sym h)
              ∙ ap (λ ls. onward gs (lines_read (n + 1) last ls)) (sym e)
              ∙ u.onwards;
          few = omega (arith, ap length e, u.few);
        }

    -- a line with a fault
    pub underway_stops : (f : LineFault) → numbered (n + 1) (grant_read last bytes) ≡ Err f → sheet_read sheet ≡ Err f
    underway_stops f h =
        sym u.onwards
        ∙ ap (λ ls. onward gs (lines_read (n + 1) last ls)) e
        ∙ ap (λ r. onward gs (and_then r (λ k. lines_read (suc (n + 1)) k.number (lines_of after)))) h

  -- no line is left
  pub underway_all : lines_of rest ≡ [] → sheet_read sheet ≡ Ok gs
  underway_all h = sym u.onwards ∙ ap (λ ls. onward gs (lines_read (n + 1) last ls)) h ∙ ap Ok (append-nil gs)

-- the outcomes of a reading
module _ (r : Result (List GrantLine) LineFault) (gs places : List GrantLine) (e : r ≡ Ok gs) where
  pub outcome_short : length places < length gs → into_list r places ≡ refused no_room places
  outcome_short h = let t : ltb (length places) (length gs) ≡ true = lt-ltb _ _ h in ap (λ q. into_list q places) e ∙ rw t refl

  pub outcome_taken : length gs ≤ length places → into_list r places ≡ taken gs places
  outcome_taken h = let t : ltb (length places) (length gs) ≡ false = le-ltb _ _ h in ap (λ q. into_list q places) e ∙ rw t refl

-- one more grant over the places
pub laid_push : (gs : List GrantLine) (g : GrantLine) (places : List GrantLine) → laid (gs ++ (g ∷ [])) places ≡ set (laid gs places) (length gs) g
laid_push [] g [] = refl
laid_push [] g (p ∷ places) = refl
laid_push (x ∷ gs) g [] = refl
laid_push (x ∷ gs) g (p ∷ places) = ap (λ ps. x ∷ ps) (laid_push gs g places)

-- all of them, where there are places for all
pub laid_taken : (gs places : List GrantLine) → length gs ≤ length places → laid gs places ≡ gs ++ drop (length gs) places
laid_taken [] places h = refl
laid_taken (g ∷ gs) [] h = absurd (omega arith)
laid_taken (g ∷ gs) (p ∷ places) h = ap (λ ps. g ∷ ps) (laid_taken gs places (omega arith))

-- so they are the list that a reading leaves
pub lays_list : (r : Result (List GrantLine) LineFault) (places list : List GrantLine) (n : ℕ) → counted r ≡ Ok n → n ≤ length places → Lays r places list → list ≡ (into_list r places).list
lays_list (Err f) places list n e h l = cc
lays_list (Ok gs) places list n e h l =
    let many : length gs ≡ n = cc in
    let fits : length gs ≤ length places = omega arith in
    l ∙ laid_taken gs places fits ∙ sym (ap (λ o. o.list) (outcome_taken (Ok gs) gs places refl fits))
