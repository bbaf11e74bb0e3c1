-- What a crash leaves while a slot is staged, and while its gate is opened.
use Rattle.std.proofs.Common.{◌≡◌, ◌≢◌, inl, ℕ, ◌+◌, ◌*◌, ◌≤◌, min, List, [], ◌∷◌, ◌++◌, length, get_or, take, drop, sym, ◌∙◌, ap, subst, arith, append_assoc, length-append, take-append-drop}
use Rattle.std.proofs.lemmas.List.{take_at, drop_at, drop_more}
use Rattle.journal_disk.specs.Images.{written_at, IsTorn}
use Rattle.account_journal.specs.Slots.{bodies, open_slots, AreBodies, IsAtRest, HasSlotOrNot}
use Rattle.account_journal.proofs.OpenSlots.{length-open_slots, blocks-push, are_bodies-push, bodies_shut, bodies_gate, rest_bodies}

module _ (xs : List (List ℕ)) (used gate : ℕ) (behind : List ℕ) (all : AreBodies xs) (count : length xs ≡ used) where
  size : length (open_slots xs) ≡ 64 * used
  size = omega (arith, length-open_slots xs all, count)

  abbrev file : List ℕ
  file = open_slots xs ++ gate ∷ behind

  pub length-file : length file ≡ 64 * used + 1 + length behind
  length-file = omega (arith, size, length-append (open_slots xs) (gate ∷ behind))

  to_gate : file ≡ (open_slots xs ++ gate ∷ []) ++ behind
  to_gate = sym (append_assoc (open_slots xs) (gate ∷ []) behind)

  length-to_gate : length (open_slots xs ++ gate ∷ []) ≡ 64 * used + 1
  length-to_gate = omega (arith, size, length-append (open_slots xs) (gate ∷ []))

  pub front : take (64 * used) file ≡ open_slots xs
  front = take_at (open_slots xs) (gate ∷ behind) (64 * used) size

  pub front_and_gate : take (64 * used + 1) file ≡ open_slots xs ++ gate ∷ []
  front_and_gate = ap (λ (l : List ℕ). take (64 * used + 1) l) to_gate ∙ take_at (open_slots xs ++ gate ∷ []) behind (64 * used + 1) length-to_gate

  pub back : drop (64 * used + 1) file ≡ behind
  back = ap (λ (l : List ℕ). drop (64 * used + 1) l) to_gate ∙ drop_at (open_slots xs ++ gate ∷ []) behind (64 * used + 1) length-to_gate

  -- while a body is written behind it, a closed gate stays as it is
  pub torn_body : (n : ℕ) (c : List ℕ) → gate ≢ 1 → IsTorn (64 * used + 1) n file c → bodies c ≡ xs
  torn_body n c shut torn =
      let at : min (64 * used + 1) (length file) ≡ 64 * used + 1 = omega (arith, length-file) in
      let same : take (64 * used + 1) c ≡ open_slots xs ++ gate ∷ [] = subst (λ (k : ℕ). take k c ≡ take k file) at torn.front ∙ front_and_gate in
      let whole : c ≡ open_slots xs ++ gate ∷ drop (64 * used + 1) c =
      sym (take-append-drop (64 * used + 1) c) ∙ ap (λ (l : List ℕ). l ++ drop (64 * used + 1) c) same ∙ append_assoc (open_slots xs) (gate ∷ []) (drop (64 * used + 1) c) in
      ap bodies whole ∙ bodies_shut xs gate (drop (64 * used + 1) c) all shut

  pub written_body : (piece : List ℕ) → written_at (64 * used + 1) piece file ≡ open_slots xs ++ gate ∷ (piece ++ drop (64 * used + 1 + length piece) file)
  written_body piece =
      ap (λ (l : List ℕ). l ++ piece ++ drop (64 * used + 1 + length piece) file) front_and_gate
      ∙ append_assoc (open_slots xs ++ gate ∷ []) piece (drop (64 * used + 1 + length piece) file)
      ∙ append_assoc (open_slots xs) (gate ∷ []) (piece ++ drop (64 * used + 1 + length piece) file)

  -- while a gate is written, what stands behind it stays as it is
  pub torn_gate : (c : List ℕ) → IsTorn (64 * used) 1 file c → c ≡ open_slots xs ++ get_or c (64 * used) 0 ∷ behind
  torn_gate c torn =
      let at : min (64 * used) (length file) ≡ 64 * used = omega (arith, length-file) in
      let same : take (64 * used) c ≡ open_slots xs = subst (λ (k : ℕ). take k c ≡ take k file) at torn.front ∙ front in
      let rest : drop (64 * used) c ≡ get_or c (64 * used) 0 ∷ behind =
      drop_more c (64 * used) 0 (omega (arith, torn.no_shorter, length-file)) ∙ ap (λ (l : List ℕ). get_or c (64 * used) 0 ∷ l) (torn.behind ∙ back) in
      sym (take-append-drop (64 * used) c) ∙ ap (λ (l : List ℕ). l ++ drop (64 * used) c) same ∙ ap (λ (l : List ℕ). open_slots xs ++ l) rest

  pub written_gate : (g : ℕ) → written_at (64 * used) (g ∷ []) file ≡ open_slots xs ++ g ∷ behind
  written_gate g =
      ap (λ (l : List ℕ). l ++ (g ∷ []) ++ drop (64 * used + 1) file) front
      ∙ ap (λ (l : List ℕ). open_slots xs ++ (g ∷ []) ++ l) back
      ∙ append_assoc (open_slots xs) (g ∷ []) behind

-- a slot is appended to a file at rest
module _ (used : ℕ) (b body : List ℕ) (r : IsAtRest used b) (sized : length body ≡ 63) where
  abbrev piece : List ℕ
  piece = body ++ 0 ∷ []

  length-piece : length piece ≡ 64
  length-piece = omega (arith, length-append body (0 ∷ []), sized)

  pub rest_inside : 64 * used + 1 ≤ length b
  rest_inside = omega (arith, ap length r.is, length-file r.slots used r.gate r.behind r.whole r.count)

  -- the file once the body is staged
  abbrev pub staged : List ℕ
  staged = written_at (64 * used + 1) piece b

  abbrev left : List ℕ
  left = drop (64 * used + 1 + length piece) (open_slots r.slots ++ r.gate ∷ r.behind)

  staged_is : staged ≡ open_slots r.slots ++ r.gate ∷ (body ++ 0 ∷ left)
  staged_is =
      ap (λ (f : List ℕ). written_at (64 * used + 1) piece f) r.is
      ∙ written_body r.slots used r.gate r.behind r.whole r.count piece
      ∙ ap (λ (l : List ℕ). open_slots r.slots ++ r.gate ∷ l) (append_assoc body (0 ∷ []) left)

  pub first_crash : (n : ℕ) (c : List ℕ) → IsTorn (64 * used + 1) n b c → HasSlotOrNot (bodies b) body c
  first_crash n c torn =
      inl (torn_body r.slots used r.gate r.behind r.whole r.count n c r.shut (subst (λ (f : List ℕ). IsTorn (64 * used + 1) n f c) r.is torn) ∙ sym (rest_bodies used b r))

  pub second_inside : 64 * used ≤ length staged
  second_inside = omega (arith, ap length staged_is, length-file r.slots used r.gate (body ++ 0 ∷ left) r.whole r.count)

  pub second_crash : (c : List ℕ) → IsTorn (64 * used) 1 staged c → HasSlotOrNot (bodies b) body c
  second_crash c torn =
      let whole = torn_gate r.slots used r.gate (body ++ 0 ∷ left) r.whole r.count c (subst (λ (f : List ℕ). IsTorn (64 * used) 1 f c) staged_is torn) in
      subst (λ (f : List ℕ). HasSlotOrNot (bodies b) body f) (sym whole)
      (subst (λ (xs : List (List ℕ)). HasSlotOrNot xs body (open_slots r.slots ++ get_or c (64 * used) 0 ∷ (body ++ 0 ∷ left))) (sym (rest_bodies used b r))
      (bodies_gate r.slots (get_or c (64 * used) 0) body left r.whole sized))

  pub appended : written_at (64 * used) (1 ∷ []) staged ≡ open_slots (r.slots ++ body ∷ []) ++ 0 ∷ left
  appended =
      ap (λ (f : List ℕ). written_at (64 * used) (1 ∷ []) f) staged_is
      ∙ written_gate r.slots used r.gate (body ++ 0 ∷ left) r.whole r.count 1
      ∙ sym (blocks-push r.slots body (0 ∷ left))

  pub now_rests : IsAtRest (used + 1) (written_at (64 * used) (1 ∷ []) staged)
  now_rests = record {
    slots = r.slots ++ body ∷ [];
    gate = 0;
    behind = left;
    shut = omega arith;
    whole = are_bodies-push r.slots body r.whole sized;
    count = omega (arith, length-append r.slots (body ∷ []), r.count);
    is = appended;
  }

  pub now_stands_for : bodies (written_at (64 * used) (1 ∷ []) staged) ≡ bodies b ++ body ∷ []
  unfolding now_rests
  now_stands_for = rest_bodies (used + 1) (written_at (64 * used) (1 ∷ []) staged) now_rests ∙ ap (λ (xs : List (List ℕ)). xs ++ body ∷ []) (sym (rest_bodies used b r))
