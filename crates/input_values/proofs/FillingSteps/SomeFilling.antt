-- Defaults of finitely many types can be filled: a value is found after another, until none is to be found.
use Rattle.std.proofs.Common.{◌≡◌, ◌+◌, ◌<◌, ◌≤◌, inl, inr, ℕ, zero, suc, Bool, true, false, cond, eqb, ◌&&◌, List, [], ◌∷◌, ◌++◌, length, get_or, Option, Some, None, Ok, Err, refl, sym, ap, ap₂, ◌∙◌, subst, arith}
use Rattle.std.specs.Prelude.{slice_get}
use Rattle.std.specs.List.{Contains}
use Rattle.std.proofs.lemmas.Bool.{cases_Bool, cases_lt, and_parts, eqb-true, eq-eqb}
use Rattle.std.proofs.lemmas.Option.{none-some, same_Some, slice_get_past}
use Rattle.std.proofs.lemmas.List.{drop_more}
use Rattle.std.proofs.lemmas.List.Elements.{Contains-append_left, Contains-append_right}
use Rattle.input_values.specs.values.Coerced.{CoercedTree}
use Rattle.input_values.specs.coercion.Answers.{Answer}
use Rattle.input_values.specs.coercion.Forms.{InputForm}
use Rattle.input_values.specs.defaults.Drafts.{Draft, draft_fields, AreFilled, HaveNoFieldsFrom}
use Rattle.input_values.specs.defaults.Filling.{Table, table_forms}
use Rattle.input_values.specs.defaults.Rounds.{place_value, AreFound, Keeps, Fills, Covers, RoundLeft}
use Rattle.input_values.proofs.CoercionLaws.Found.{no_ok}
use Rattle.input_values.proofs.FillingSteps.Found.{place_more, found_before, place_left, round_start, still_covers, none_left, all_filled, one_there}

-- ---- one value more

abbrev Places : Type 0
Places = List (ℕ × ℕ)

abbrev with_value : Table → ℕ → ℕ → CoercedTree → Table
with_value table of at t = λ o a. cond (eqb o of && eqb a at) (Some t) (table o a)

at_it : (table : Table) (of at : ℕ) (t : CoercedTree) (o a : ℕ) → (eqb o of && eqb a at) ≡ true → with_value table of at t o a ≡ Some t
at_it table of at t o a e = ap (λ b. cond b (Some t) (table o a)) e

elsewhere : (table : Table) (of at : ℕ) (t : CoercedTree) (o a : ℕ) → (eqb o of && eqb a at) ≡ false → with_value table of at t o a ≡ table o a
elsewhere table of at t o a e = ap (λ b. cond b (Some t) (table o a)) e

keeps_others : (table : Table) (of at : ℕ) (t : CoercedTree) → table of at ≡ None → Keeps table (with_value table of at t)
keeps_others table of at t none = λ o a u is. elim (cases_Bool (eqb o of && eqb a at)) [
  | inl e ↦
      let same = and_parts (eqb o of) (eqb a at) e in
      absurd (none-some u (sym none ∙ (ap₂ table (sym (eqb-true o of same.0)) (sym (eqb-true a at same.1)) ∙ is)))
  | inr e ↦ elsewhere table of at t o a e ∙ is
]

put_one : (draft : ℕ → Draft) (table : Table) (of at : ℕ) (t : CoercedTree) → table of at ≡ None → place_value draft table of at ≡ Ok t → Fills draft table (with_value table of at t) of at true
put_one draft table of at t none value =
    let keeps = keeps_others table of at t none in
    record {
      found = λ found o a u is. elim (cases_Bool (eqb o of && eqb a at)) [
        | inl e ↦
            let same = and_parts (eqb o of) (eqb a at) e in
            place_more draft table (with_value table of at t) o a u keeps
            (ap₂ (λ x y. place_value draft table x y) (eqb-true o of same.0) (eqb-true a at same.1) ∙ (value ∙ ap Ok (same_Some t u (sym (at_it table of at t o a e) ∙ is))))
        | inr e ↦ place_more draft table (with_value table of at t) o a u keeps (found o a u (sym (elsewhere table of at t o a e) ∙ is))
      ];
      keeps = keeps;
      place = (t, at_it table of at t of at (ap₂ (λ (x y : Bool). x && y) (eq-eqb of of refl) (eq-eqb at at refl)));
    }

-- ---- a place is looked at

pub record Looked (draft : ℕ → Draft) (table : Table) (of at : ℕ) : Type 0 where
  pub after : Table
  pub done : Bool
  pub fills : Fills draft table after of at done

look : (draft : ℕ → Draft) (table : Table) (of at : ℕ) → Looked draft table of at
look draft table of at = by (table of at) refl (place_value draft table of at) refl
  where
    by : (found : Option CoercedTree) → table of at ≡ found → (a : Answer CoercedTree) → place_value draft table of at ≡ a → Looked draft table of at
    by (Some t) is a value = record { after = table; done = true; fills = found_before draft table of at t is }
    by None none (Ok t) value = record { after = with_value table of at t; done = true; fills = put_one draft table of at t none value }
    by None none (Err path) value = record { after = table; done = false; fills = record { found = λ f. f; keeps = λ o a u e. e; place = (refl, λ still u e. no_ok path u (sym value ∙ e)) } }

-- ---- a round over places

pub record Round (draft : ℕ → Draft) (start : Table) (missing : Places) : Type 0 where
  pub after : Table
  pub still : Places
  pub left : RoundLeft draft start after missing still (length missing)

round : (draft : ℕ → Draft) (start : Table) (missing : Places) (k n : ℕ) (now : Table) (still : Places) → n + k ≡ length missing → RoundLeft draft start now missing still n → Round draft start missing
round draft start missing zero n now still e left = record { after = now; still = still; left = (let same : n ≡ length missing = omega (arith, e) in subst (RoundLeft draft start now missing still) same left) }
round draft start missing (suc k) n now still e left =
    let p = get_or missing n (0, 0) in
    let within : n < length missing = omega (arith, e) in
    let one = look draft now p.0 p.1 in
    round draft start missing k (n + 1) one.after (cond one.done still (still ++ p ∷ [])) (omega (arith, e))
    (place_left draft start now one.after missing still (cond one.done still (still ++ p ∷ [])) n p one.done within (drop_more missing n (0, 0) within) left one.fills refl)

-- ---- rounds, until one finds nothing

one_round : (draft : ℕ → Draft) (table : Table) (missing : Places) → Round draft table missing
one_round draft table missing = round draft table missing (length missing) 0 table [] (omega arith) (round_start draft table missing)

ended : (draft : ℕ → Draft) (table : Table) (missing : Places) (r : Round draft table missing) → length missing ≤ length r.still → AreFound draft table → Covers draft table missing → (form : ℕ → InputForm) × AreFilled draft form
ended draft table missing r same found covers =
    let fewer = (r.left).fewer in (
      table_forms draft r.after,
      all_filled draft r.after ((r.left).found found) (none_left draft table r.after missing r.still r.left (omega (arith, fewer, same)) (still_covers draft table r.after missing r.still r.left covers)),
    )

filling : (draft : ℕ → Draft) (most : ℕ) (table : Table) (missing : Places) → length missing ≤ most → AreFound draft table → Covers draft table missing → (form : ℕ → InputForm) × AreFilled draft form
filling draft zero table missing few found covers = ended draft table missing (one_round draft table missing) (omega (arith, few)) found covers
filling draft (suc most) table missing few found covers =
    let r = one_round draft table missing in
    elim (cases_lt (length r.still) (length missing)) [
      | inl less ↦ filling draft most r.after r.still (omega (arith, few, less)) ((r.left).found found) (still_covers draft table r.after missing r.still r.left covers)
      | inr same ↦ ended draft table missing r same found covers
    ]

-- ---- all places

abbrev places_of : ℕ → ℕ → Places
places_of of zero = []
places_of of (suc n) = (of, n) ∷ places_of of n

abbrev all_places : (ℕ → Draft) → ℕ → Places
all_places draft zero = []
all_places draft (suc n) = places_of n (length (draft_fields (draft n))) ++ all_places draft n

in_places : (of n at : ℕ) → at < n → Contains (places_of of n) (of, at)
in_places of zero at h = absurd (omega (arith, h))
in_places of (suc n) at h = elim (cases_lt at n) [
  | inl before ↦ Contains-append_right ((of, n) ∷ []) (places_of of n) (of, at) (in_places of n at before)
  | inr last ↦ let same : n ≡ at = omega (arith, h, last) in Contains-append_left ((of, n) ∷ []) (places_of of n) (of, at) (subst (λ k. Contains {X = ℕ × ℕ} ((of, n) ∷ []) (of, k)) same (one_there (of, n)))
]

in_all : (draft : ℕ → Draft) (n of at : ℕ) → of < n → at < length (draft_fields (draft of)) → Contains (all_places draft n) (of, at)
in_all draft zero of at h w = absurd (omega (arith, h))
in_all draft (suc n) of at h w = elim (cases_lt of n) [
  | inl before ↦ Contains-append_right (places_of n (length (draft_fields (draft n)))) (all_places draft n) (of, at) (in_all draft n of at before w)
  | inr last ↦
      let same : of ≡ n = omega (arith, h, last) in
      Contains-append_left (places_of n (length (draft_fields (draft n)))) (all_places draft n) (of, at)
      (subst (λ m. Contains (places_of m (length (draft_fields (draft m)))) (of, at)) same (in_places of (length (draft_fields (draft of))) at w))
]

nothing_there : (draft : ℕ → Draft) (of at : ℕ) → draft_fields (draft of) ≡ [] → slice_get (draft_fields (draft of)) at ≡ None
nothing_there draft of at none = slice_get_past (draft_fields (draft of)) at (let l = ap length none in omega (arith, l))

covered : (draft : ℕ → Draft) (n : ℕ) → HaveNoFieldsFrom n draft → Covers draft (λ o a. None) (all_places draft n)
covered draft n none = λ of at. elim (cases_lt of n) [
  | inl before ↦ elim (cases_lt at (length (draft_fields (draft of)))) [
    | inl within ↦ inr (inr (in_all draft n of at before within))
    | inr past ↦ inl (slice_get_past (draft_fields (draft of)) at past)
  ]
  | inr past ↦ inl (nothing_there draft of at (none of past))
]

pub some_filling : (draft : ℕ → Draft) (n : ℕ) → HaveNoFieldsFrom n draft → (form : ℕ → InputForm) × AreFilled draft form
some_filling draft n none = filling draft (length (all_places draft n)) (λ o a. None) (all_places draft n) (omega arith) (λ of at t is. absurd (none-some t is)) (covered draft n none)
