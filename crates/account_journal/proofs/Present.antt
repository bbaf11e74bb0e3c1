-- The present slots of any file.
use Rattle.std.proofs.Common.{◌≡◌, ◌≢◌, ⊎_elim, ℕ, zero, suc, ◌+◌, ◌*◌, ◌≤◌, ◌<◌, min, true, false, ◌==◌, nat_le, List, [], ◌∷◌, ◌++◌, length, take, drop, get_or, refl, sym, ◌∙◌, ap, subst, arith, append_assoc, length-append, take-append-drop, take-take, true≢false}
use Rattle.std.proofs.lemmas.List.{append-nil, take_at, drop_more, drop-drop, drop-take, get_or-take, length-drop, length-take}
use Rattle.std.proofs.lemmas.Bool.{cases_eq, cases_lt, cases_Bool, cond-true, cond-false, and_parts, eqb-true}
use Rattle.std.proofs.lemmas.Bool.Decides.{nat_tests}
use Rattle.journal_disk.specs.Images.{written_at, IsTorn}
use Rattle.account_journal.specs.Slots.{is_present, bodies_within, bodies, open_slots, AreBodies, IsAtRest, IsGateRead, first_body}
use Rattle.account_journal.proofs.OpenSlots.{length-open_slots, bodies-open_slots, rest_bodies}

pub present_parts : (f : List ℕ) → is_present f ≡ true → (65 ≤ length f) × (get_or f 0 0 ≡ 1)
present_parts f is =
    let p = and_parts (nat_le 65 (length f)) (get_or f 0 0 == 1) is in
    let long : 65 ≤ length f = grind (arith, nat_tests, p.0) in
    (long, eqb-true (get_or f 0 0) 1 p.1)

pub short_absent : (f : List ℕ) → length f < 65 → is_present f ≡ false
short_absent f short = ⊎_elim
    (λ (is : is_present f ≡ true). absurd (omega (arith, short, (present_parts f is).0)))
    (λ (is : is_present f ≡ false). is)
    (cases_Bool (is_present f))

pub shut_absent : (f : List ℕ) → get_or f 0 0 ≢ 1 → is_present f ≡ false
shut_absent f shut = ⊎_elim
    (λ (is : is_present f ≡ true). absurd (shut (present_parts f is).1))
    (λ (is : is_present f ≡ false). is)
    (cases_Bool (is_present f))

pub long_present : (f : List ℕ) → 65 ≤ length f → get_or f 0 0 ≡ 1 → is_present f ≡ true
long_present f long gate = grind (arith, nat_tests, long, gate)

abbrev first_of : List ℕ → List ℕ
first_of f = take 63 (drop 1 f)

within_present : (n : ℕ) (file : List ℕ) → is_present file ≡ true → bodies_within (suc n) file ≡ first_of file ∷ bodies_within n (drop 64 file)
unfolding bodies_within
within_present n file is = cond-true (is_present file) (first_of file ∷ bodies_within n (drop 64 file)) [] is

within_absent : (n : ℕ) (file : List ℕ) → is_present file ≡ false → bodies_within n file ≡ []
unfolding bodies_within
within_absent zero file is = refl
within_absent (suc n) file is = cond-false (is_present file) (first_of file ∷ bodies_within n (drop 64 file)) [] is

within_zero : (file : List ℕ) → bodies_within zero file ≡ []
unfolding bodies_within
within_zero file = refl

next_slot : (k : ℕ) (file : List ℕ) → drop (64 * k) (drop 64 file) ≡ drop (64 * suc k) file
next_slot k file = drop-drop (64 * k) 64 file ∙ ap (λ (n : ℕ). drop n file) {x = 64 + 64 * k} {y = 64 * suc k} (omega arith)

abbrev IsSlot : List (List ℕ) → ℕ → List ℕ → Type 0
IsSlot bs k rest = (k < length bs) × (get_or bs k [] ≡ first_of rest)

-- a slot that is present where all before it are is the next one
present_within : (n k : ℕ) (file : List ℕ) → length file ≤ n → k ≤ length (bodies_within n file) → is_present (drop (64 * k) file) ≡ true → IsSlot (bodies_within n file) k (drop (64 * k) file)
present_within zero k file short le is = absurd (omega (arith, short, length-drop (64 * k) file, (present_parts (drop (64 * k) file) is).0))
present_within (suc n) zero file short le is =
    subst (λ (bs : List (List ℕ)). IsSlot bs 0 file) (sym (within_present n file is)) (omega arith, refl)
present_within (suc n) (suc k) file short le is = ⊎_elim
    (λ (here : is_present file ≡ true).
    let e = within_present n file here in
    let more = present_within n k (drop 64 file) (omega (arith, short, length-drop 64 file)) (omega (arith, le, ap length e)) (ap is_present (next_slot k file) ∙ is) in
    subst (λ (bs : List (List ℕ)). IsSlot bs (suc k) (drop (64 * suc k) file)) (sym e) (omega (arith, more.0), more.1 ∙ ap first_of (next_slot k file)))
    (λ (none : is_present file ≡ false). absurd (omega (arith, le, ap length (within_absent (suc n) file none))))
    (cases_Bool (is_present file))

absent_within : (n k : ℕ) (file : List ℕ) → length file ≤ n → k ≤ length (bodies_within n file) → is_present (drop (64 * k) file) ≡ false → length (bodies_within n file) ≡ k
absent_within zero k file short le is = omega (arith, le, ap length (within_zero file))
absent_within (suc n) zero file short le is = ap length (within_absent (suc n) file is)
absent_within (suc n) (suc k) file short le is = ⊎_elim
    (λ (here : is_present file ≡ true).
    let e = within_present n file here in
    let more = absent_within n k (drop 64 file) (omega (arith, short, length-drop 64 file)) (omega (arith, le, ap length e)) (ap is_present (next_slot k file) ∙ is) in
    omega (arith, ap length e, more))
    (λ (none : is_present file ≡ false). absurd (omega (arith, le, ap length (within_absent (suc n) file none))))
    (cases_Bool (is_present file))

pub present_at : (k : ℕ) (file : List ℕ) → k ≤ length (bodies file) → is_present (drop (64 * k) file) ≡ true → IsSlot (bodies file) k (drop (64 * k) file)
present_at k file le is = present_within (length file) k file (omega arith) le is

pub absent_at : (k : ℕ) (file : List ℕ) → k ≤ length (bodies file) → is_present (drop (64 * k) file) ≡ false → length (bodies file) ≡ k
absent_at k file le is = absent_within (length file) k file (omega arith) le is

-- the slot behind them isn't present
pub ends_absent : (file : List ℕ) → is_present (drop (64 * length (bodies file)) file) ≡ false
ends_absent file = ⊎_elim
    (λ (is : is_present (drop (64 * length (bodies file)) file) ≡ true). absurd (omega (arith, (present_at (length (bodies file)) file (omega arith) is).0)))
    (λ (is : is_present (drop (64 * length (bodies file)) file) ≡ false). is)
    (cases_Bool (is_present (drop (64 * length (bodies file)) file)))

-- a file is its present slots and what is behind them
pub record IsWholeFile (bs : List (List ℕ)) (file : List ℕ) : Type 0 where
  pub is : file ≡ open_slots bs ++ drop (64 * length bs) file
  pub whole : AreBodies bs
  pub tail : 0 < length bs → 64 * length bs < length file

slot_front : (file more : List ℕ) → is_present file ≡ true → drop 64 file ≡ more → file ≡ 1 ∷ (first_of file ++ more)
slot_front file more is behind =
    let p = present_parts file is in
    drop_more file 0 0 (omega (arith, p.0)) ∙ ap (λ (g : ℕ). g ∷ drop 1 file) p.1
    ∙ ap (λ (l : List ℕ). 1 ∷ l) (sym (take-append-drop 63 (drop 1 file)) ∙ ap (λ (l : List ℕ). first_of file ++ l) (drop-drop 63 1 file ∙ behind))

whole_within : (n : ℕ) (file : List ℕ) → length file ≤ n → IsWholeFile (bodies_within n file) file
unfolding open_slots
whole_within zero file short = subst (λ (bs : List (List ℕ)). IsWholeFile bs file) (sym (within_zero file)) (record { is = refl; whole = tt; tail = λ some. absurd (omega (arith, some)) })
whole_within (suc n) file short = ⊎_elim
    (λ (here : is_present file ≡ true).
    let p = present_parts file here in
    let more = whole_within n (drop 64 file) (omega (arith, short, length-drop 64 file)) in
    let bs = bodies_within n (drop 64 file) in
    let long : length (first_of file) ≡ 63 = omega (arith, length-take 63 (drop 1 file), length-drop 1 file, p.0) in
    subst (λ (xs : List (List ℕ)). IsWholeFile xs file) (sym (within_present n file here)) (record {
      is = slot_front file (open_slots bs ++ drop (64 * length bs) (drop 64 file)) here more.is
          ∙ ap (λ (l : List ℕ). 1 ∷ l) (sym (append_assoc (first_of file) (open_slots bs) (drop (64 * length bs) (drop 64 file)))
          ∙ ap (λ (l : List ℕ). (first_of file ++ open_slots bs) ++ l) (next_slot (length bs) file));
      whole = (long, more.whole);
      tail = λ some. ⊎_elim
          (λ (none : length bs ≡ 0). omega (arith, none, p.0))
          (λ (others : length bs ≢ 0). let t = more.tail (omega (arith, others)) in omega (arith, t, length-drop 64 file))
          (cases_eq (length bs) 0);
    }))
    (λ (none : is_present file ≡ false). subst (λ (bs : List (List ℕ)). IsWholeFile bs file) (sym (within_absent (suc n) file none)) (record { is = refl; whole = tt; tail = λ some. absurd (omega (arith, some)) }))
    (cases_Bool (is_present file))

pub whole_file : (file : List ℕ) → IsWholeFile (bodies file) file
whole_file file = whole_within (length file) file (omega arith)

-- open slots with a tail that isn't present are these slots
bodies_tail : (xs : List (List ℕ)) (tail : List ℕ) → AreBodies xs → 0 < length tail → is_present tail ≡ false → bodies (open_slots xs ++ tail) ≡ xs
bodies_tail xs tail all some absent =
    let file = open_slots xs ++ tail in
    let long : length file ≡ length xs + (63 * length xs + length tail) = omega (arith, length-append (open_slots xs) tail, length-open_slots xs all) in
    ap (λ (n : ℕ). bodies_within n file) long
    ∙ bodies-open_slots (63 * length xs + length tail) xs tail all some
    ∙ ap (λ (l : List (List ℕ)). xs ++ l) (within_absent (63 * length xs + length tail) tail absent)
    ∙ append-nil xs

pub bodies_before : (xs : List (List ℕ)) (c : List ℕ) → AreBodies xs → take (64 * length xs) c ≡ open_slots xs → length c < 64 * length xs + 65 → (0 < length xs → 64 * length xs < length c) → bodies c ≡ xs
bodies_before [] c all front short tail = within_absent (length c) c (short_absent c (omega (arith, short)))
bodies_before (x ∷ xs) c all front short tail =
    let n = 64 * length (x ∷ xs) in
    let t = tail (omega arith) in
    ap bodies (sym (take-append-drop n c) ∙ ap (λ (l : List ℕ). l ++ drop n c) front)
    ∙ bodies_tail (x ∷ xs) (drop n c) all (omega (arith, t, length-drop n c)) (short_absent (drop n c) (omega (arith, short, length-drop n c)))

-- a file of slots, with what is behind the last present one
module _ (b : List ℕ) (used : ℕ) (all : length (bodies b) ≡ used) where
  abbrev rest : List ℕ
  rest = drop (64 * used) b

  absent_here : is_present rest ≡ false
  absent_here = subst (λ (n : ℕ). is_present (drop (64 * n) b) ≡ false) all (ends_absent b)

  pub slots_inside : 64 * used ≤ length b
  slots_inside = ⊎_elim
      (λ (none : length (bodies b) ≡ 0). omega (arith, none, all))
      (λ (some : length (bodies b) ≢ 0). let t = (whole_file b).tail (omega (arith, some)) in omega (arith, t, all))
      (cases_eq (length (bodies b)) 0)

  front_is : take (64 * used) b ≡ open_slots (bodies b)
  front_is = ap (λ (l : List ℕ). take (64 * used) l) (whole_file b).is
      ∙ take_at (open_slots (bodies b)) (drop (64 * length (bodies b)) b) (64 * used) (omega (arith, length-open_slots (bodies b) (whole_file b).whole, all))

  pub gap : IsGateRead false rest → length b < 64 * used + 65
  gap gate = ⊎_elim
      (λ (none : length rest ≡ 0). omega (arith, none, length-drop (64 * used) b))
      (λ (is : get_or rest 0 0 ≡ 1). ⊎_elim
      (λ (short : length rest < 65). omega (arith, short, length-drop (64 * used) b))
      (λ (long : 65 ≤ length rest). absurd (true≢false (sym (long_present rest long is) ∙ absent_here)))
      (cases_lt (length rest) 65))
      gate

  pub torn_shut : (c : List ℕ) → length b < 64 * used + 65 → IsTorn (64 * used) 1 b c → bodies c ≡ bodies b
  torn_shut c short torn =
      let at : min (64 * used) (length b) ≡ 64 * used = omega (arith, slots_inside) in
      let same : take (64 * used) c ≡ open_slots (bodies b) = subst (λ (k : ℕ). take k c ≡ take k b) at torn.front ∙ front_is in
      bodies_before (bodies b) c (whole_file b).whole (subst (λ (n : ℕ). take (64 * n) c ≡ open_slots (bodies b)) (sym all) same) (omega (arith, short, all, torn.no_longer))
      (λ some. let t = (whole_file b).tail some in omega (arith, t, torn.no_shorter))

  pub shut_file : written_at (64 * used) (0 ∷ []) b ≡ open_slots (bodies b) ++ 0 ∷ drop (64 * used + 1) b
  shut_file = ap (λ (l : List ℕ). l ++ (0 ∷ []) ++ drop (64 * used + 1) b) front_is ∙ append_assoc (open_slots (bodies b)) (0 ∷ []) (drop (64 * used + 1) b)

  pub shut_rests : IsAtRest used (written_at (64 * used) (0 ∷ []) b)
  shut_rests = record { slots = bodies b; gate = 0; behind = drop (64 * used + 1) b; shut = omega arith; whole = (whole_file b).whole; count = all; is = shut_file }

  pub shut_same : bodies (written_at (64 * used) (0 ∷ []) b) ≡ bodies b
  unfolding shut_rests
  shut_same = rest_bodies used (written_at (64 * used) (0 ∷ []) b) shut_rests

  pub gate_rests : IsGateRead true rest → IsAtRest used b
  gate_rests gate = record {
    slots = bodies b;
    gate = get_or rest 0 0;
    behind = drop 1 rest;
    shut = gate.1;
    whole = (whole_file b).whole;
    count = all;
    is = sym (take-append-drop (64 * used) b) ∙ ap (λ (l : List ℕ). l ++ rest) front_is ∙ ap (λ (l : List ℕ). open_slots (bodies b) ++ l) (drop_more rest 0 0 gate.0);
  }

-- what 65 bytes say of a slot
pub looked_at : (n : ℕ) (piece behind : List ℕ) → length piece ≡ 65 → take 65 piece ≡ take 65 behind → 65 ≤ length behind → get_or piece 0 0 ≡ 1
    → (is_present behind ≡ true) × (take 63 (drop 1 piece) ≡ first_body behind)
looked_at n piece behind long same there gate =
    let zero_is : get_or behind 0 0 ≡ 1 = sym (get_or-take 65 behind 0 0 (omega arith)) ∙ ap (λ (l : List ℕ). get_or l 0 0) (sym same) ∙ get_or-take 65 piece 0 0 (omega arith) ∙ gate in
    let mid : take 64 (drop 1 piece) ≡ take 64 (drop 1 behind) = sym (drop-take 1 64 piece) ∙ ap (drop 1) same ∙ drop-take 1 64 behind in (
      long_present behind there zero_is,
      sym (take_twice (drop 1 piece)) ∙ ap (take 63) mid ∙ take_twice (drop 1 behind),
    )
  where
    take_twice : (l : List ℕ) → take 63 (take 64 l) ≡ take 63 l
    take_twice l = take-take 63 64 l (omega arith)
