-- Each wrong rule tells its history by computing, and the law is then false by one instance of it.
use Rattle.std.proofs.Common.{◌≡◌, ℕ, zero, suc, min, Bool, true, false, cond, eqb, List, [], map, Some, None, Ok, Err, Option, Result, sym, refl, ap, ◌∙◌, arith}
use mathlib.Core.List.{reverse_aux, reverse_aux-eq}
use native.Mathlib.Nat.{min-zero}
use Rattle.std.proofs.lemmas.Bool.{eqb-true}
use Rattle.rules.specs.declared.ticket.Ticket.{Ticket}
use Rattle.rules.specs.declared.refusal.Refusal.{Refusal}
use Rattle.rules.specs.declared.refusal.Refusal.TheVariants as refusal
use Rattle.rules.specs.Lists.{find}
use Rattle.rules.specs.Rack.{Rack, soft, named}
use Rattle.rules.specs.Step.{led, blocked, passed_to, walk, last_of, due_for, due}
use Rattle.rules.specs.declared.asked.Asked.{Asked}
use Rattle.rules.specs.Choosers.{Meaning, lowest_row}
use Rattle.rules.specs.Calls.{Ran, Moved, still, step, steps, drive, drive_with}
use Rattle.rules.specs.History.{Event}
use Rattle.rules.specs.Play.{Call, Told, recalling, reporting, turned}
use Rattle.rules.specs.Wrongs.{walk_by, due_for_by, due_by, steps_by, turned_by, right, passed_told, restless_told, WrongRulesBreakTheLaws}

true_false : true ≡ false → ⊥
true_false p = cc

walk_right_at : (n : ℕ) (r : Rack) (s t : Ticket) (b : Bool) → blocked r t ≡ b → last_of t (walk n r (passed_to r t)) ≡ walk_by right n r (passed_to r t)
    → last_of s (walk (suc n) r t) ≡ walk_by right (suc n) r t
walk_right_at n r s t true e ih = rw (e, walk) ih
walk_right_at n r s t false e ih = rw (e, walk) refl

-- the right rules come to the ticket that a step works on
walk_right : (n : ℕ) (r : Rack) (s t : Ticket) → last_of s (walk n r t) ≡ walk_by right n r t
walk_right zero r s t = refl
walk_right (suc n) r s t = walk_right_at n r s t (blocked r t) refl (walk_right n r t (passed_to r t))

due_right_at : (r : Rack) (o : Option Ticket) → due_for_by right r o ≡ due_for r o
due_right_at r None = refl
due_right_at r (Some s) = ap (λ (t : Ticket). cond (soft s.phase) (Ok t) (Err refusal.Stage)) (sym (walk_right (suc r.sizes.columns) r s (led r s)))

due_right : (r : Rack) (n : ℕ) → due_by right r n ≡ due r n
due_right r n = due_right_at r (find (named n) r.tickets)

-- the reports of steps, put before a history
abbrev adds : {S : Type 0} → List Event → Ran S → Told
adds h ran = record { history = reverse_aux (map Event.stepped ran.reports) h; rack = ran.rack }

abbrev lowest' : Meaning (List Asked)
lowest' = recalling (λ past q. lowest_row q)

steps_right_at : (k n : ℕ) (p : Told) (s : List Asked) (d : Result Ticket Refusal) → due_by right p.rack n ≡ d → due p.rack n ≡ d
    → ((q : Told) (s' : List Asked) → steps_by right k n q ≡ adds q.history (steps lowest' k q.rack n s'))
    → steps_by right (suc k) n p ≡ adds p.history (steps lowest' (suc k) p.rack n s)
steps_right_at k n p s (Err e) a b ih = rw (a, steps_by, b, steps) refl
steps_right_at k n p s (Ok t) a b ih = rw (a, steps_by, b, steps) (ih _ _)

-- their steps are the steps
steps_right : (k n : ℕ) (p : Told) (s : List Asked) → steps_by right k n p ≡ adds p.history (steps lowest' k p.rack n s)
steps_right zero n p s = refl
steps_right (suc k) n p s =
    steps_right_at k n p s (due p.rack n) (due_right p.rack n) refl (λ q s'. steps_right k n q s')

step_ran : (r : Rack) (n : ℕ) (s : List Asked) (d : Result Ticket Refusal) → due r n ≡ d → steps lowest' 1 r n s ≡ (step lowest' r n s).ran
step_ran r n s (Err e) b = rw (b, steps) refl
step_ran r n s (Ok t) b = rw (b, steps) refl

no_steps : (k : ℕ) (r : Rack) (n : ℕ) (s : List Asked) (e : Refusal) → due r n ≡ Err e → steps lowest' k r n s ≡ still r s
no_steps zero r n s e b = refl
no_steps (suc k) r n s e b = rw (b, steps) refl

drive_ran_at : (r : Rack) (n budget room : ℕ) (s : List Asked) (t : Ticket) (b : Bool) → eqb room 0 ≡ b
    → steps lowest' (min budget room) r n s ≡ (drive_with lowest' r n budget room s (Ok t)).ran
drive_ran_at r n budget room s t true e = let z = eqb-true room 0 e in rw (z, min-zero budget) refl
drive_ran_at r n budget room s t false e = rw e refl

drive_ran : (r : Rack) (n budget room : ℕ) (s : List Asked) (d : Result Ticket Refusal) → due r n ≡ d
    → steps lowest' (min budget room) r n s ≡ (drive lowest' r n budget room s).ran
drive_ran r n budget room s (Err e) b = no_steps (min budget room) r n s e b ∙ rw b refl
drive_ran r n budget room s (Ok t) b = drive_ran_at r n budget room s t (eqb room 0) refl ∙ rw b refl

told_right : (k n : ℕ) (p : Told) {A : Type 0} (m : Moved A (List Asked)) → steps lowest' k p.rack n [] ≡ m.ran → steps_by right k n p ≡ reporting p m
told_right k n p m e =
    steps_right k n p [] ∙ ap (adds p.history) e
    ∙ ap (λ (h : List Event). record { history = h; rack = m.ran.rack }) (reverse_aux-eq (map Event.stepped m.ran.reports) p.history)

right_rules : (p : Told) (c : Call) → turned_by right p c ≡ turned p (λ past q. lowest_row q) c
right_rules p (Call.booking q) = refl
right_rules p (Call.stepping n) = told_right 1 n p (step lowest' p.rack n []) (step_ran p.rack n [] (due p.rack n) refl)
right_rules p (Call.driving n budget room) =
    told_right (min budget room) n p (drive lowest' p.rack n budget room []) (drive_ran p.rack n budget room [] (due p.rack n) refl)
right_rules p (Call.collecting n) = refl
right_rules p (Call.dropping n) = refl
right_rules p (Call.returning n) = refl

pub wrong_rules : WrongRulesBreakTheLaws
wrong_rules =
    record {
      right_rules = right_rules;
      passing_a_full_column = record { opens = refl; tells_it = refl; is_false = λ l. omega (arith, (l.0 0 (omega arith) (omega arith)).3) };
      reading_closing_as_booked = record { opens = refl; tells_it = refl; is_false = λ l. omega (arith, (l.0 0 (omega arith) (omega arith)).3) };
      granting_after_a_hand_back =
          record { opens = refl; tells_it = refl; is_false = λ l. omega (arith, (l.0.earliest 0 (omega arith) (omega arith)).3) };
      not_counting_a_hand_back =
          record { opens = refl; tells_it = refl; is_false = λ l. omega (arith, (l.0.earliest 0 (omega arith) (omega arith)).3) };
      leaving_out_the_lead = record { opens = refl; tells_it = refl; is_false = λ l. omega (arith, l [] passed_told refl 1 refl) };
      keeping_what_was_seen = record { opens = refl; tells_it = refl; is_false = λ l. omega (arith, l [] restless_told refl 2 refl) };
      handing_back_twice = record { opens = refl; tells_it = refl; is_false = λ l. omega (arith, l 1) };
      counting_it_twice = record { opens = refl; tells_it = refl; is_false = λ l. omega (arith, l.handbacks_few) };
      dropping_a_grant = record { opens = refl; tells_it = refl; is_false = λ l. omega (arith, l.one_kind 1) };
      losing_its_ticket = record { opens = refl; tells_it = refl; is_false = λ l. true_false (sym (l.standing 1)) };
      losing_its_slot = record { opens = refl; tells_it = refl; is_false = λ l. true_false (sym (l.windows 1 0 1 refl).1) };
      taking_a_row_twice = record { opens = refl; tells_it = refl; is_false = λ l. omega (arith, l.one_owner 1 2 0 1 refl refl) };
      leaving_marks_behind = record { opens = refl; tells_it = refl; is_false = λ l. true_false (l 2 _ refl refl).not_blocked };
    }
