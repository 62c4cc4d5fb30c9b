-- What pushes and clears make of the entries, the room and the places behind the entries.
use Rattle.std.proofs.Common.{◌≡◌, ◌+◌, ◌<◌, ◌≤◌, true, false, List, [], ◌∷◌, ◌++◌, length, drop, set, is_err, Ok, Err, sym, refl, ap, ◌∙◌, ⊎_elim, append_assoc, zero-add, one-add, arith}
use Rattle.std.proofs.lemmas.List.{append-nil, length-set, take-append-drop, take_more_set, drop-set-lt, drop-drop}
use Rattle.std.proofs.lemmas.Bool.{cases_Bool, eqb-true}
use Rattle.std.proofs.lemmas.Bool.Decides.{nat_tests}
use Rattle.lists.specs.declared.journal.Full.{Full}
use Rattle.lists.specs.Contents.{Contents, entries_of, behind_of, room_of, full_of, lent, cleared, pushed, entered}

module _ {X : Type 0} (c : Contents X) where
  -- there is room just where the journal is not full
  pub room_if_not_full : full_of c ≡ false → c.len < length c.slots
  room_if_not_full h = grind (arith, nat_tests)

  pub no_room_if_full : full_of c ≡ true → room_of c ≡ 0
  no_room_if_full h = eqb-true (room_of c) 0 h

  pub not_full_if_room : c.len < length c.slots → full_of c ≡ false
  not_full_if_room h = grind (arith, nat_tests)

  pub cleared_entries : entries_of (cleared c) ≡ []
  cleared_entries = refl

  pub cleared_room : room_of (cleared c) ≡ length c.slots
  cleared_room = omega arith

  module _ (x : X) where
    -- an entry is refused just where the journal is full
    pub refused_if_full : is_err (pushed c x).answer ≡ full_of c
    refused_if_full = ⊎_elim (λ h. rw h) (λ h. rw h) (cases_Bool (full_of c))

    pub not_full_if_taken : Ok tt ≡ (pushed c x).answer → full_of c ≡ false
    not_full_if_taken h = sym refused_if_full ∙ ap is_err (sym h)

    pub full_if_refused : (e : Full) → Err e ≡ (pushed c x).answer → full_of c ≡ true
    full_if_refused e h = sym refused_if_full ∙ ap is_err (sym h)

    pub refused_contents : full_of c ≡ true → (pushed c x).contents ≡ c
    refused_contents h = rw h

    pub pushed_length : length (pushed c x).contents.slots ≡ length c.slots
    pushed_length =
        ⊎_elim (λ h. rw (refused_contents h)) (λ h. rw h (length-set c.slots c.len x)) (cases_Bool (full_of c))

    module _ (room : full_of c ≡ false) where
      pub pushed_contents : (pushed c x).contents ≡ record { slots = set c.slots c.len x; len = c.len + 1 }
      pushed_contents = rw room

      pub pushed_entries : entries_of (pushed c x).contents ≡ entries_of c ++ (x ∷ [])
      pushed_entries = let l = room_if_not_full room in rw pushed_contents (take_more_set c.slots c.len x l)

      pub pushed_room : room_of (pushed c x).contents + 1 ≡ room_of c
      pushed_room = let l = room_if_not_full room in rw (pushed_contents, length-set) (omega arith)

      pub pushed_behind : behind_of (pushed c x).contents ≡ drop 1 (behind_of c)
      pushed_behind =
          let l : c.len < c.len + 1 = omega arith in rw (pushed_contents, drop-set-lt, drop-drop)

module _ {X : Type 0} where
  pub entered_append : (c : Contents X) (xs ys : List X) → entered c (xs ++ ys) ≡ entered (entered c xs) ys
  entered_append c [] ys = refl
  entered_append c (x ∷ xs) ys = entered_append (pushed c x).contents xs ys

  -- one more push
  pub entered_push : (c : Contents X) (xs : List X) (x : X) → entered c (xs ++ (x ∷ [])) ≡ (pushed (entered c xs) x).contents
  entered_push c xs x = entered_append c xs (x ∷ [])

  pub entered_length : (c : Contents X) (xs : List X) → length (entered c xs).slots ≡ length c.slots
  entered_length c [] = refl
  entered_length c (x ∷ xs) = entered_length (pushed c x).contents xs ∙ pushed_length c x

  -- room for x and xs is room for x, and for xs behind it
  room_behind : (c : Contents X) (x : X) (xs : List X) → length (x ∷ xs) ≤ room_of c → (full_of c ≡ false) × (length xs ≤ room_of (pushed c x).contents)
  room_behind c x xs h =
      let o = not_full_if_room c (omega arith) in
      let r : length xs ≤ room_of (pushed c x).contents = omega (arith, pushed_room c x o) in
      (o, r)

  pub entered_len : (c : Contents X) (xs : List X) → length xs ≤ room_of c → (entered c xs).len ≡ c.len + length xs
  entered_len c [] h = omega arith
  entered_len c (x ∷ xs) h =
      let s = room_behind c x xs h in
      omega (arith, entered_len (pushed c x).contents xs s.1, ap (λ p. p.len) (pushed_contents c x s.0))

  pub entered_entries : (c : Contents X) (xs : List X) → length xs ≤ room_of c → entries_of (entered c xs) ≡ entries_of c ++ xs
  entered_entries c [] h = sym (append-nil (entries_of c))
  entered_entries c (x ∷ xs) h =
      let s = room_behind c x xs h in
      entered_entries (pushed c x).contents xs s.1 ∙ rw (pushed_entries c x s.0, append_assoc)

  pub entered_behind : (c : Contents X) (xs : List X) → length xs ≤ room_of c → behind_of (entered c xs) ≡ drop (length xs) (behind_of c)
  entered_behind c [] h = refl
  entered_behind c (x ∷ xs) h =
      let s = room_behind c x xs h in
      entered_behind (pushed c x).contents xs s.1 ∙ rw (pushed_behind c x s.0, drop-drop (length xs) 1 (behind_of c), one-add)

  pub entered_room : (c : Contents X) (xs : List X) → length xs ≤ room_of c → room_of (entered c xs) + length xs ≡ room_of c
  entered_room c xs h = omega (arith, entered_len c xs h, entered_length c xs)

  -- all the room is used just where the journal is then full
  pub entered_full : (c : Contents X) (xs : List X) → length xs ≤ room_of c → full_of (entered c xs) ≡ true → length xs ≡ room_of c
  entered_full c xs h f = omega (arith, entered_room c xs h, no_room_if_full (entered c xs) f)

  pub entered_not_full : (c : Contents X) (xs : List X) → length xs ≤ room_of c → full_of (entered c xs) ≡ false → length xs < room_of c
  entered_not_full c xs h f = omega (arith, entered_room c xs h, room_if_not_full (entered c xs) f)

  -- Entries for which there is room stand in order behind those from before, and every other place is as it was.
  pub entered_slots : (c : Contents X) (xs : List X) → length xs ≤ room_of c → (entered c xs).slots ≡ entries_of c ++ (xs ++ drop (c.len + length xs) c.slots)
  entered_slots c xs h =
      sym (take-append-drop (entered c xs).len (entered c xs).slots)
      ∙ rw (entered_entries c xs h, entered_behind c xs h, append_assoc, drop-drop)

  -- the same in places just lent
  pub entered_lent : (slots xs : List X) → length xs ≤ length slots → (entered (lent slots) xs).slots ≡ xs ++ drop (length xs) slots
  entered_lent slots xs h =
      let r : length xs ≤ room_of (lent slots) = omega arith in entered_slots (lent slots) xs r ∙ rw zero-add
