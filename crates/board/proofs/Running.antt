-- A drive, step by step: what is left after a step gives the whole.
use Rattle.std.proofs.Common.{◌≡◌, ℕ, suc, ◌+◌, ◌-◌, ◌<◌, min, true, false, eqb, ◌∷◌, length, Ok, Err, Result, sym, refl, ap, ◌∙◌, arith}
use Rattle.lists.specs.Contents.{Contents, room_of, full_of, pushed, entered}
use Rattle.lists.proofs.Contents.{room_if_not_full, pushed_room}
use Rattle.rules.specs.declared.ticket.Ticket.{Ticket}
use Rattle.rules.specs.declared.report.Report.{Report}
use Rattle.rules.specs.declared.refusal.Refusal.{Refusal}
use Rattle.rules.specs.Rack.{Rack}
use Rattle.rules.specs.Step.{due}
use Rattle.rules.specs.Choosers.{Meaning}
use Rattle.rules.specs.declared.refusal.Refusal.TheVariants as refusal
use Rattle.rules.specs.Calls.{Ran, still, step_with, step, steps, stage_at, drive_with, drive}
use Rattle.rules.proofs.Plays.{steps_none, steps_more}

module _ {S : Type 0} (m : Meaning S) (x : Rack) (n : ℕ) (s : S) where
  stops_at : (k : ℕ) (e : Refusal) (d : Result Ticket Refusal) → due x n ≡ d → (step_with m x s d).answer ≡ Err e → steps m (suc k) x n s ≡ still x s
  stops_at k e (Ok t) q p = cc
  stops_at k e (Err f) q p = steps_none m k x n s f q

  stops : (k l : ℕ) (e : Refusal) → l ≡ suc k → Err e ≡ (step m x n s).answer → steps m l x n s ≡ still x s
  stops k l e q p = ap (λ (i : ℕ). steps m i x n s) q ∙ stops_at k e (due x n) refl (sym p)

  held_at : (e : Refusal) (d : Result Ticket Refusal) → (step_with m x s d).answer ≡ Err e → ((step_with m x s d).ran.rack ≡ x) × ((step_with m x s d).ran.held ≡ s)
  held_at e (Ok t) p = cc
  held_at e (Err f) p = (refl, refl)

  goes_at : (k : ℕ) (r : Report) (d : Result Ticket Refusal) → due x n ≡ d → (step_with m x s d).answer ≡ Ok r
      → steps m (suc k) x n s ≡ record {
        reports = r ∷ (steps m k (step_with m x s d).ran.rack n (step_with m x s d).ran.held).reports;
        rack = (steps m k (step_with m x s d).ran.rack n (step_with m x s d).ran.held).rack;
        held = (steps m k (step_with m x s d).ran.rack n (step_with m x s d).ran.held).held;
      }
  goes_at k r (Err f) q p = cc
  goes_at k r (Ok t) q p =
      steps_more m k x n s t q
      ∙ ap (λ (v : Report). let ran : Ran S = record {
        reports = v ∷ (steps m k (step_with m x s (Ok t)).ran.rack n (step_with m x s (Ok t)).ran.held).reports;
        rack = (steps m k (step_with m x s (Ok t)).ran.rack n (step_with m x s (Ok t)).ran.held).rack;
        held = (steps m k (step_with m x s (Ok t)).ran.rack n (step_with m x s (Ok t)).ran.held).held;
      } in ran) (ok_inj _ r p)
    where
      ok_inj : (a b : Report) → ◌≡◌ {A = Result Report Refusal} (Ok a) (Ok b) → a ≡ b
      ok_inj a b e = cc

  goes : (k l : ℕ) (r : Report) → l ≡ suc k → Ok r ≡ (step m x n s).answer
      → steps m l x n s ≡ record {
        reports = r ∷ (steps m k (step m x n s).ran.rack n (step m x n s).ran.held).reports;
        rack = (steps m k (step m x n s).ran.rack n (step m x n s).ran.held).rack;
        held = (steps m k (step m x n s).ran.rack n (step m x n s).ran.held).held;
      }
  goes k l r q p = ap (λ (i : ℕ). steps m i x n s) q ∙ goes_at k r (due x n) refl (sym p)

-- a turn from rack x, chooser s and journal c, with `made` steps behind it; the drive as a whole makes `total` steps, and leaves the rest
module _ {S : Type 0} (m : Meaning S) (n : ℕ) (x x' end : Rack) (s s' kept : S) (c whole : Contents Report) (made budget total : ℕ) (below : made < budget) (room : false ≡ full_of c)
    (rack : x' ≡ (step m x n s).ran.rack) (held : s' ≡ (step m x n s).ran.held) where
  abbrev left : ℕ
  left = min (budget - made) (room_of c)

  pub halted : (e : Refusal) → Err e ≡ (step m x n s).answer → made + length (steps m left x n s).reports ≡ total → (steps m left x n s).rack ≡ end → (steps m left x n s).held ≡ kept
      → entered c (steps m left x n s).reports ≡ whole → (made ≡ total) × (x' ≡ end) × (s' ≡ kept) × (c ≡ whole)
  halted e h p q k w =
      let l = room_if_not_full c (sym room) in
      let a = stops m x n s (left - 1) left e (omega arith) h in
      let b = held_at m x n s e (due x n) (sym h) in
      (omega (arith, rw a at p), rack ∙ (b.0 ∙ rw a at q), held ∙ (b.1 ∙ rw a at k), rw a at w)

  pub went : (c' : Contents Report) (r : Report) → Ok r ≡ (step m x n s).answer → c' ≡ (pushed c r).contents
      → made + length (steps m left x n s).reports ≡ total → (steps m left x n s).rack ≡ end → (steps m left x n s).held ≡ kept → entered c (steps m left x n s).reports ≡ whole
      → (made + 1 + length (steps m (min (budget - (made + 1)) (room_of c')) x' n s').reports ≡ total) × ((steps m (min (budget - (made + 1)) (room_of c')) x' n s').rack ≡ end)
      × ((steps m (min (budget - (made + 1)) (room_of c')) x' n s').held ≡ kept) × (entered c' (steps m (min (budget - (made + 1)) (room_of c')) x' n s').reports ≡ whole)
  went c' r h t p q k w =
      let o = pushed_room c r (sym room) in
      let a = goes m x n s (min (budget - (made + 1)) (room_of (pushed c r).contents)) left r (omega arith) h in
      rw (rack, held, t) (omega (arith, rw a at p), rw a at q, rw a at k, rw a at w)

-- the three outcomes of a drive
module _ {S : Type 0} (m : Meaning S) (x : Rack) (n budget room : ℕ) (s : S) where
  pub drive_none : (e : Refusal) → due x n ≡ Err e → drive m x n budget room s ≡ record { answer = Err e; ran = still x s }
  drive_none e d = ap (drive_with m x n budget room s) d

  pub drive_full : (t : Ticket) → due x n ≡ Ok t → eqb room 0 ≡ true → drive m x n budget room s ≡ record { answer = Err refusal.Full; ran = still x s }
  drive_full t d q = ap (drive_with m x n budget room s) d ∙ rw q refl

  pub drive_runs : (t : Ticket) → due x n ≡ Ok t → eqb room 0 ≡ false
      → drive m x n budget room s
      ≡ record { answer = Ok (length (steps m (min budget room) x n s).reports, stage_at (steps m (min budget room) x n s).rack n); ran = steps m (min budget room) x n s }
  drive_runs t d q = ap (drive_with m x n budget room s) d ∙ rw q refl
