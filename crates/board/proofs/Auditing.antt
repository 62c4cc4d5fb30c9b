-- An audit, turn by turn.
use Rattle.std.proofs.Common.{◌≡◌, ℕ, ◌+◌, ◌<◌, ◌≤◌, Bool, true, false, List, [], ◌∷◌, ◌++◌, map, length, get_or, take, drop, set, Ok, Err, Result, sym, refl, ap, ◌∙◌, subst, arith}
use mathlib.Core.List.{reverse_aux}
use Rattle.std.proofs.lemmas.List.{drop_more, drop-set-lt, take_more_set, drop_all, take_all, append_assoc, append-nil}
use Rattle.lists.specs.Contents.{Contents, room_of}
use Rattle.rules.specs.declared.report.Report.{Report}
use Rattle.rules.specs.declared.refusal.Refusal.{Refusal}
use Rattle.rules.proofs.Listing.{total_append}
use Rattle.rules.proofs.Carried.{book_carries, step_carries, drive_carries, collect_carries, drop_carries, back_carries}
use Rattle.rules.specs.Lists.{unit, count_of}
use Rattle.rules.specs.declared.rack.Sizes.{Sizes}
use Rattle.rules.specs.Rack.{Rack, seeking, hard}
use Rattle.rules.specs.Calls.{openable, open'}
use Rattle.rules.specs.Accounts.{is_withdrawn, numbers}
use Rattle.rules.proofs.Kept.{sound}
use Rattle.rules.proofs.Whole.{laws}
use Rattle.rules.proofs.Balance.{books_balance}
use Rattle.rules.proofs.Cells.{count_most}
use Rattle.rules.specs.declared.refusal.Refusal.TheVariants as refusal
use Rattle.rules.specs.Choosers.{Meaning, Lawful}
use Rattle.rules.specs.History.{Event, Reaches}
use Rattle.rules.specs.Laws.{reported, Carries}
use Rattle.board.specs.declared.audit.Accounts.{Accounts}
use Rattle.board.specs.declared.audit.Turn.{Turn}
use Rattle.board.specs.declared.audit.Call.{Call}
use Rattle.board.specs.declared.audit.Call.TheVariants as call
use Rattle.board.specs.Audit.{Scene, is_drop, accounts_of, counted_on, called, turned, used, after, played, all_used, opening, history_of, audited, Accounted}
use Rattle.board.proofs.Tallying.{tallies}

reported_onto : (rs : List Report) (es : List Event) → count_of is_drop (reverse_aux (map Event.stepped rs) es) ≡ count_of is_drop es
reported_onto [] es = refl
reported_onto (r ∷ rs) es = omega (arith, reported_onto rs (Event.stepped r ∷ es))

pub none_reported : (rs : List Report) → 0 ≡ count_of is_drop (reported rs)
none_reported rs = sym (reported_onto rs [])

module _ {S : Type 0} (m : Meaning S) where
  -- the promise of a turn is that of its call
  called_carries : Lawful m → (x : Rack) (c : Contents Report) (s : S) (k : Call) → Carries (called m x c s k).events x (called m x c s k).rack
  called_carries lawful x c s (call.Book q) = book_carries x q
  called_carries lawful x c s (call.Step n) = step_carries m lawful x n s
  called_carries lawful x c s (call.Drive n budget) = drive_carries m lawful x n budget (room_of c) s
  called_carries lawful x c s (call.Collect n) = collect_carries x n
  called_carries lawful x c s (call.Withdraw n) = drop_carries x n
  called_carries lawful x c s (call.Back n) = back_carries x n

  -- the turn at i, played and put back, leaves the rest to give the whole
  turn_more : (p end : Scene) (ts whole : List (Turn S)) (i : ℕ) (t u : Turn S) → i < length ts → drop i ts ≡ t ∷ drop (i + 1) ts → u ≡ used m p.rack p.journal t
      → played m p (drop i ts) ≡ end → take i ts ++ all_used m p (drop i ts) ≡ whole
      → (played m (after m p t) (drop (i + 1) (set ts i u)) ≡ end) × (take (i + 1) (set ts i u) ++ all_used m (after m p t) (drop (i + 1) (set ts i u)) ≡ whole)
  turn_more p end ts whole i t u l d f a b =
      let o : drop (i + 1) (set ts i u) ≡ drop (i + 1) ts = drop-set-lt (i + 1) ts i u (omega arith) in (
        ap (played m (after m p t)) o ∙ (sym (ap (played m p) d) ∙ a),
        ap (λ v. take (i + 1) (set ts i u) ++ all_used m (after m p t) v) o
            ∙ (ap (λ v. v ++ all_used m (after m p t) (drop (i + 1) ts)) (take_more_set ts i u l)
            ∙ (append_assoc (take i ts) (u ∷ []) (all_used m (after m p t) (drop (i + 1) ts))
            ∙ (ap (λ v. take i ts ++ (v ∷ all_used m (after m p t) (drop (i + 1) ts))) f
            ∙ (sym (ap (λ v. take i ts ++ all_used m p v) d) ∙ b)))),
      )

  -- some history leads to this rack and tells n withdrawals; from there the rest gives that end, and with the turns done the whole
  abbrev pub Leaves : Rack → Contents Report → ℕ → List (Turn S) → List (Turn S) → Scene → List (Turn S) → Type 0
  Leaves x c n done rest end whole =
      (h : List Event) × Reaches h x × (n ≡ count_of is_drop h)
      × (played m (record { history = h; rack = x; journal = c }) rest ≡ end)
      × (done ++ all_used m (record { history = h; rack = x; journal = c }) rest ≡ whole)

  module _ (end : Scene) (whole : List (Turn S)) where
    leaves_next : Lawful m → (x : Rack) (c : Contents Report) (n : ℕ) (ts : List (Turn S)) (i : ℕ) (t u : Turn S) → i < length ts → drop i ts ≡ t ∷ drop (i + 1) ts → u ≡ used m x c t
        → Leaves x c n (take i ts) (drop i ts) end whole
        → Leaves (turned m x c t).rack (turned m x c t).journal (n + count_of is_drop (turned m x c t).events) (take (i + 1) (set ts i u)) (drop (i + 1) (set ts i u)) end whole
    leaves_next lawful x c n ts i t u l e f (h, r, w, a, b) =
        let es = (turned m x c t).events in
        let o = turn_more (record { history = h; rack = x; journal = c }) end ts whole i t u l e f a b in
        (es ++ h, (called_carries lawful x c t.chooser t.call h r).0, omega (arith, w, total_append (λ v. unit (is_drop v)) es h), o.0, o.1)

    pub leaves_more : Lawful m → (x y : Rack) (c d : Contents Report) (n k : ℕ) (ts : List (Turn S)) (i : ℕ) (v u : Turn S) → i < length ts
        → k ≡ count_of is_drop (turned m x c (get_or ts i v)).events → y ≡ (turned m x c (get_or ts i v)).rack → u ≡ used m x c (get_or ts i v) → d ≡ (turned m x c (get_or ts i v)).journal
        → Leaves x c n (take i ts) (drop i ts) end whole → Leaves y d (n + k) (take (i + 1) (set ts i u)) (drop (i + 1) (set ts i u)) end whole
    leaves_more lawful x y c d n k ts i v u l p q f j o =
        let ts' = set ts i u in let t = get_or ts i v in
        subst (λ (z : ℕ). Leaves y d (n + z) (take (i + 1) ts') (drop (i + 1) ts') end whole) (sym p)
        (subst (λ (z : Rack). Leaves z d (n + count_of is_drop (turned m x c t).events) (take (i + 1) ts') (drop (i + 1) ts') end whole) (sym q)
        (subst (λ (z : Contents Report). Leaves (turned m x c t).rack z (n + count_of is_drop (turned m x c t).events) (take (i + 1) ts') (drop (i + 1) ts') end whole) (sym j)
        (leaves_next lawful x c n ts i t u l (drop_more ts i v l) f o)))

    pub leaves_all : (x : Rack) (c : Contents Report) (n : ℕ) (ts : List (Turn S)) (i : ℕ) → length ts ≤ i → Leaves x c n (take i ts) (drop i ts) end whole
        → (h : List Event) × Reaches h x × (n ≡ count_of is_drop h) × (◌≡◌ {A = Scene} (record { history = h; rack = x; journal = c }) end) × (ts ≡ whole)
    leaves_all x c n ts i l (h, r, w, a, b) =
        let p : Scene = record { history = h; rack = x; journal = c } in
        let d = drop_all i ts l in (
          h,
          r,
          w,
          sym (ap (played m p) d) ∙ a,
          sym (take_all i ts l) ∙ (sym (append-nil (take i ts)) ∙ (sym (ap (λ v. take i ts ++ all_used m p v) d) ∙ b)),
        )

-- the figures that a rack gives, with the withdrawals of its history
module _ (h : List Event) (x : Rack) (n : ℕ) (r : Reaches h x) (w : n ≡ count_of is_drop h) where
  pub few : n ≤ 2000000001
  few =
      let t = tallies h x r in
      let a = t.taken in let b = t.withdrawn in
      let c = count_most (is_withdrawn h) (numbers h) in
      let d = (sound h x r).numbers in
      omega arith

  pub enough : x.first + count_of (λ t. seeking t.phase) x.tickets + n + count_of (λ t. hard t.phase) x.tickets + x.handbacks ≤ x.next
  enough =
      let t = tallies h x r in
      let a = t.taken in let b = t.withdrawn in let c = t.undecided in let d = t.standing in let e = t.returned in
      let k = (books_balance h x r).counts in
      omega arith

  pub figures : counted_on x n ≡ accounts_of h
  figures =
      let t = tallies h x r in
      let a = t.taken in let b = t.withdrawn in let c = t.undecided in let d = t.standing in let e = t.returned in
      let k = (books_balance h x r).counts in
      alike (omega arith) c (w ∙ b) (omega arith) d e
    where
      alike : {a b c d e f a' b' c' d' e' f' : ℕ} → a ≡ a' → b ≡ b' → c ≡ c' → d ≡ d' → e ≡ e' → f ≡ f'
          → ◌≡◌ {A = Accounts} (record { taken = a; undecided = b; withdrawn = c; without = d; standing = e; returned = f })
          (record { taken = a'; undecided = b'; withdrawn = c'; without = d'; standing = e'; returned = f' })
      alike p q s t u v = rw (p, q, s, t, u, v) refl

-- the opening
open_by : (x : Rack) (z : Sizes) (first : ℕ) (b : Bool) → openable z first ≡ b → (Ok tt ≡ (open' x z first).answer → openable z first ≡ true)
    × ((e : Refusal) → Err e ≡ (open' x z first).answer → (openable z first ≡ false) × (e ≡ refusal.Limits))
open_by x z first true p =
    let o : (open' x z first).answer ≡ Ok tt = rw p refl in
    (λ _. p, λ e q. cc)
open_by x z first false p =
    let o : (open' x z first).answer ≡ Err refusal.Limits = rw p refl in
    (λ q. cc, λ e q. (p, err_inj e refusal.Limits (q ∙ o)))
  where
    err_inj : (a b : Refusal) → ◌≡◌ {A = Result (Unit {0}) Refusal} (Err a) (Err b) → a ≡ b
    err_inj a b e = cc

pub opened_with : (x : Rack) (z : Sizes) (first : ℕ) → Ok tt ≡ (open' x z first).answer → openable z first ≡ true
opened_with x z first q = (open_by x z first (openable z first) refl).0 q

-- an audit from its opening to its end
module _ {S : Type 0} (m : Meaning S) (x : Rack) (z : Sizes) (first : ℕ) (c : Contents Report) (ts : List (Turn S)) where
  audit_some : openable z first ≡ true
      → audited m x z first c ts ≡ record {
        answer = Ok (accounts_of (history_of m z first c ts));
        rack = (played m (opening m z first c) ts).rack;
        turns = all_used m (opening m z first c) ts;
        journal = (played m (opening m z first c) ts).journal;
      }
  audit_some p = rw p refl

  pub audit_ends : (y : Rack) (d : Contents Report) (n : ℕ) (us : List (Turn S)) (i : ℕ) (a : Accounts) → Ok tt ≡ (open' x z first).answer → a ≡ counted_on y n → length us ≤ i
      → Leaves m y d n (take i us) (drop i us) (played m (opening m z first c) ts) (all_used m (opening m z first c) ts)
      → (Ok a ≡ (audited m x z first c ts).answer) × (y ≡ (audited m x z first c ts).rack) × (us ≡ (audited m x z first c ts).turns) × (d ≡ (audited m x z first c ts).journal)
      × ((b : Accounts) → ◌≡◌ {A = Result Accounts Refusal} (Ok a) (Ok b) → Accounted (history_of m z first c ts) y b)
  audit_ends y d n us i a o f l k =
      let e = leaves_all m (played m (opening m z first c) ts) (all_used m (opening m z first c) ts) y d n us i l k in
      let h = e.0 in
      let g : h ≡ history_of m z first c ts = ap (λ (p : Scene). p.history) e.3 in
      let s = audit_some (opened_with x z first o) in
      let q : a ≡ accounts_of (history_of m z first c ts) = f ∙ (figures h y n e.1 e.2 ∙ ap accounts_of g) in
      let r : Reaches (history_of m z first c ts) y = subst (λ (v : List Event). Reaches v y) g e.1 in (
        ap Ok q ∙ sym (ap (λ v. v.answer) s),
        ap (λ (p : Scene). p.rack) e.3 ∙ sym (ap (λ v. v.rack) s),
        e.4 ∙ sym (ap (λ v. v.turns) s),
        ap (λ (p : Scene). p.journal) e.3 ∙ sym (ap (λ v. v.journal) s),
        λ b t. accounted (history_of m z first c ts) y b r (sym (ok_inj a b t) ∙ q),
      )
    where
      ok_inj : (a b : Accounts) → ◌≡◌ {A = Result Accounts Refusal} (Ok a) (Ok b) → a ≡ b
      ok_inj a b e = cc

      accounted : (h : List Event) (y : Rack) (b : Accounts) → Reaches h y → b ≡ accounts_of h → Accounted h y b
      accounted h y b r q =
          record {
            leads = r;
            holds = laws h y r;
            taken = ap (λ (v : Accounts). v.taken) q;
            undecided = ap (λ (v : Accounts). v.undecided) q;
            withdrawn = ap (λ (v : Accounts). v.withdrawn) q;
            without = ap (λ (v : Accounts). v.without) q;
            standing = ap (λ (v : Accounts). v.standing) q;
            returned = ap (λ (v : Accounts). v.returned) q;
          }
