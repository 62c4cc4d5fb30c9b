-- The accounts of a history: what has become of each booking, told from the events alone.
use Rattle.std.specs.Prelude.{ℕ, suc, ◌+◌, Bool, false, cond, not, ◌&&◌, ◌||◌, List, [], ◌∷◌, ◌==◌}
use Rattle.rules.specs.declared.span.Span.{Span}
use Rattle.rules.specs.Words.{is_grant, is_without, is_mark}
use Rattle.rules.specs.Lists.{unit, any_of, count_of}
use Rattle.rules.specs.History.{Event}
use Rattle.rules.specs.Ledger.{covers, request_of}

-- the event takes booking n
abbrev pub takes : ℕ → Event → Bool
takes n (Event.taken m q) = m == n
takes n (Event.stepped r) = false
takes n (Event.collected m) = false
takes n (Event.dropped m) = false
takes n (Event.returned m) = false

-- it is the grant report of n
abbrev pub grants : ℕ → Event → Bool
grants n (Event.taken m q) = false
grants n (Event.stepped r) = r.number == n && is_grant r.action
grants n (Event.collected m) = false
grants n (Event.dropped m) = false
grants n (Event.returned m) = false

-- it is the without report of n
abbrev pub denies : ℕ → Event → Bool
denies n (Event.taken m q) = false
denies n (Event.stepped r) = r.number == n && is_without r.action
denies n (Event.collected m) = false
denies n (Event.dropped m) = false
denies n (Event.returned m) = false

-- it withdraws n
abbrev pub withdraws : ℕ → Event → Bool
withdraws n (Event.taken m q) = false
withdraws n (Event.stepped r) = false
withdraws n (Event.collected m) = false
withdraws n (Event.dropped m) = m == n
withdraws n (Event.returned m) = false

-- it hands n back
abbrev pub returns : ℕ → Event → Bool
returns n (Event.taken m q) = false
returns n (Event.stepped r) = false
returns n (Event.collected m) = false
returns n (Event.dropped m) = false
returns n (Event.returned m) = m == n

-- the kinds of bookings. A booking is taken when book answered its number
abbrev pub is_taken : List Event → ℕ → Bool
is_taken h n = any_of (takes n) h

-- withdrawn at an accepted drop
abbrev pub is_withdrawn : List Event → ℕ → Bool
is_withdrawn h n = any_of (withdraws n) h

-- without a window at its without report
abbrev pub is_denied : List Event → ℕ → Bool
is_denied h n = any_of (denies n) h

abbrev pub is_granted : List Event → ℕ → Bool
is_granted h n = any_of (grants n) h

-- handed back at an accepted back
abbrev pub is_returned : List Event → ℕ → Bool
is_returned h n = any_of (returns n) h

-- standing from its grant report until it is handed back
abbrev pub is_standing : List Event → ℕ → Bool
is_standing h n = is_granted h n && not (is_returned h n)

-- undecided: taken, and nothing of that has come
abbrev pub is_undecided : List Event → ℕ → Bool
is_undecided h n = is_taken h n && not (is_withdrawn h n || (is_denied h n || is_granted h n))

-- of how many of the five kinds a number is
abbrev pub kinds : List Event → ℕ → ℕ
kinds h n = unit (is_undecided h n) + unit (is_withdrawn h n) + unit (is_denied h n) + unit (is_standing h n) + unit (is_returned h n)

-- the numbers taken, the latest first
abbrev pub numbers : List Event → List ℕ
numbers [] = []
numbers (Event.taken m q ∷ h) = m ∷ numbers h
numbers (Event.stepped r ∷ h) = numbers h
numbers (Event.collected m ∷ h) = numbers h
numbers (Event.dropped m ∷ h) = numbers h
numbers (Event.returned m ∷ h) = numbers h

-- how many bookings are of a kind
abbrev pub tally : (List Event → ℕ → Bool) → List Event → ℕ
tally kind h = count_of (kind h) (numbers h)

-- the column of n's grant report
abbrev pub grant_column : ℕ → List Event → ℕ
grant_column n [] = 0
grant_column n (Event.taken m q ∷ h) = grant_column n h
grant_column n (Event.stepped r ∷ h) = cond (r.number == n && is_grant r.action) r.column (grant_column n h)
grant_column n (Event.collected m ∷ h) = grant_column n h
grant_column n (Event.dropped m ∷ h) = grant_column n h
grant_column n (Event.returned m ∷ h) = grant_column n h

-- the row of n's last mark report in column c
abbrev pub mark_row : ℕ → ℕ → List Event → ℕ
mark_row n c [] = 0
mark_row n c (Event.taken m q ∷ h) = mark_row n c h
mark_row n c (Event.stepped r ∷ h) = cond (r.number == n && (is_mark r.action && r.column == c)) r.row (mark_row n c h)
mark_row n c (Event.collected m ∷ h) = mark_row n c h
mark_row n c (Event.dropped m ∷ h) = mark_row n c h
mark_row n c (Event.returned m ∷ h) = mark_row n c h

-- the columns of n's window: the booked length from the grant report's column on
abbrev pub window_of : ℕ → List Event → Span
window_of n h = record { first = grant_column n h; length = (request_of n h).length }

-- the slot in column c and row is one of the window of the standing grant n: in each column, the row of its last mark report there
abbrev pub in_window : List Event → ℕ → ℕ → ℕ → Bool
in_window h n c row = is_standing h n && (covers (window_of n h) c && row == mark_row n c h)

-- the reports since n was taken
abbrev pub waited : ℕ → List Event → ℕ
waited n [] = 0
waited n (Event.taken m q ∷ h) = cond (m == n) 0 (waited n h)
waited n (Event.stepped r ∷ h) = suc (waited n h)
waited n (Event.collected m ∷ h) = waited n h
waited n (Event.dropped m ∷ h) = waited n h
waited n (Event.returned m ∷ h) = waited n h
