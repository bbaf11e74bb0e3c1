-- Calls of which it is noted that their arguments are equal.
use Rattle.std.proofs.Common.{◌≡◌, ◌↔◌, ◌⊎◌, inl, inr, ⊎_elim, ◌<◌, ◌≤◌, ◌+◌, ℕ, zero, suc, true, arith, List, [], ◌∷◌, ◌++◌, length, get_or, slice_set, Option, Some, None, refl, sym, ap, ◌∙◌, subst, length-append}
use Rattle.std.specs.Prelude.{IfSome, option_map}
use Rattle.std.specs.List.{slice_get}
use Rattle.std.proofs.lemmas.Bool.{cases_lt}
use Rattle.std.proofs.lemmas.List.{get_or_past, length-set}
use Rattle.std.proofs.lemmas.Option.{same_Some, slice_get_past}
use Rattle.document_rules.proofs.RankSteps.{slice_more, slice_last}
use Rattle.plan_model.specs.SelectedFields.{Setting}
use Rattle.plan_model.proofs.SameValues.{same_as_equal}
use Rattle.merged_selections.specs.declared.call.Call.{Call}
use Rattle.merged_selections.specs.NodeTests.{IsThereWith, args_in, same_calls, values_in, values_at, AreEqual, IsSameAsAt, AreSameAt}

-- ---- what stands at a place

pub call_there : (calls : List Call) (at : ℕ) → at < length calls → (call : Call) × (slice_get calls at ≡ Some call)
call_there [] at h = absurd (omega arith)
call_there (c ∷ calls) zero h = (c, refl)
call_there (c ∷ calls) (suc at) h = call_there calls at (omega arith)

before : (calls more : List Call) (at : ℕ) → at < length calls → slice_get (calls ++ more) at ≡ slice_get calls at
before calls more at h = let there = call_there calls at h in slice_more calls more at there.0 there.1 ∙ sym there.1

-- ---- what is noted at a place

looked_up : (equal : List ℕ) (n at d : ℕ) → (at ≡ length equal → n ≡ d) → get_or (equal ++ (n ∷ [])) at d ≡ get_or equal at d
looked_up [] n zero d last = last refl
looked_up [] n (suc at) d last = refl
looked_up (x ∷ equal) n zero d last = refl
looked_up (x ∷ equal) n (suc at) d last = looked_up equal n at d (λ h. last (ap suc h))

set_or : (equal : List ℕ) (place to at d : ℕ) → (get_or (slice_set equal place to) at d ≡ get_or equal at d) ⊎ ((at ≡ place) × (get_or (slice_set equal place to) at d ≡ to))
set_or [] place to at d = inl refl
set_or (x ∷ equal) zero to zero d = inr (refl, refl)
set_or (x ∷ equal) zero to (suc at) d = inl refl
set_or (x ∷ equal) (suc place) to zero d = inl refl
set_or (x ∷ equal) (suc place) to (suc at) d = ⊎_elim
    (λ (same : get_or (slice_set equal place to) at d ≡ get_or equal at d). inl same)
    (λ (is : (at ≡ place) × (get_or (slice_set equal place to) at d ≡ to)). inr (ap suc is.0, is.1))
    (set_or equal place to at d)

module _ (e : Setting) where
  -- calls are equal where the values of their arguments are the same
  same_iff : (call other : Call) → (same_calls e call other ≡ true) ↔ (values_in e call ≡ values_in e other)
  same_iff call other = same_as_equal (args_in e call) (args_in e other)

  -- what has the values of a call that is there, is there
  within_too : (calls : List Call) (place at : ℕ) → at < length calls → values_at e calls place ≡ values_at e calls at → place < length calls
  within_too calls place at within same = elim (cases_lt place (length calls)) [
    | inl less ↦ less
    | inr past ↦
        let there = call_there calls at within in
        absurd (no_value (values_in e there.0) (sym (ap (option_map (values_in e)) (slice_get_past calls place past)) ∙ (same ∙ ap (option_map (values_in e)) there.1)))
  ]
    where
      no_value : {X : Type 0} (x : X) → None ≡ Some x → ⊥
      no_value x h = cc

  -- ---- nothing is noted

  pub equal_none : (calls : List Call) (equal : List ℕ) → equal ≡ [] → AreEqual e calls equal
  equal_none calls equal none = subst (AreEqual e calls) (sym none) (record { short = omega arith; values = λ at. refl })

  -- ---- one call more

  pub equal_more : (calls now : List Call) (equal : List ℕ) (call : Call) → now ≡ calls ++ (call ∷ []) → AreEqual e calls equal → AreEqual e now equal
  equal_more calls now equal call is equals = subst (λ (cs : List Call). AreEqual e cs equal) (sym is) (record {
    short = let long : length (calls ++ (call ∷ [])) ≡ length calls + 1 = length-append calls (call ∷ []) in let short : length equal ≤ length calls = equals.short in omega (arith, long, short);
    values = λ at. elim (cases_lt at (length equal)) [
      | inl less ↦
          let within : at < length calls = let short : length equal ≤ length calls = equals.short in omega (arith, less, short) in
          let there : get_or equal at at < length calls = within_too calls (get_or equal at at) at within (equals.values at) in
          ap (option_map (values_in e)) (before calls (call ∷ []) (get_or equal at at) there) ∙ (equals.values at ∙ ap (option_map (values_in e)) (sym (before calls (call ∷ []) at within)))
      | inr past ↦ ap (values_at e (calls ++ (call ∷ []))) (get_or_past equal at at past)
    ];
  })

  -- ---- more is noted

  -- a call notes itself
  pub equal_itself : (calls : List Call) (equal now : List ℕ) (n : ℕ) → now ≡ equal ++ (n ∷ []) → n ≡ length equal → n < length calls → AreEqual e calls equal → AreEqual e calls now
  equal_itself calls equal now n is at_end within equals = subst (AreEqual e calls) (sym is) (record {
    short = let long : length (equal ++ (n ∷ [])) ≡ length equal + 1 = length-append equal (n ∷ []) in omega (arith, long, at_end, within);
    values = λ at. ap (values_at e calls) (looked_up equal n at at (λ h. at_end ∙ sym h)) ∙ equals.values at;
  })

  -- another is noted, whose arguments are equal
  pub equal_set : (calls : List Call) (equal now : List ℕ) (place to : ℕ) → now ≡ slice_set equal place to → values_at e calls to ≡ values_at e calls place → AreEqual e calls equal → AreEqual e calls now
  equal_set calls equal now place to is same equals = subst (AreEqual e calls) (sym is) (record {
    short = let long : length (slice_set equal place to) ≡ length equal = length-set equal place to in let short : length equal ≤ length calls = equals.short in omega (arith, long, short);
    values = λ at. ⊎_elim
        (λ (old : get_or (slice_set equal place to) at at ≡ get_or equal at at). ap (values_at e calls) old ∙ equals.values at)
        (λ (new : (at ≡ place) × (get_or (slice_set equal place to) at at ≡ to)). ap (values_at e calls) new.1 ∙ (same ∙ ap (values_at e calls) (sym new.0)))
        (set_or equal place to at at);
  })

  -- ---- what is equal

  -- calls at places whose values are the same are equal
  pub equal_same : (calls : List Call) (at place : ℕ) → values_at e calls at ≡ values_at e calls place → AreSameAt e calls at place true
  equal_same calls at place = first (slice_get calls at) (slice_get calls place)
    where
      first : (one other : Option Call) → option_map (values_in e) one ≡ option_map (values_in e) other → IfSome one (λ call. IfSome other (λ o. true ≡ same_calls e call o))
      first None other h = tt
      first (Some call) None h = tt
      first (Some call) (Some other) h = sym ((same_iff call other).1 (same_Some (values_in e call) (values_in e other) h))

  -- and the values of calls that were found equal are the same
  pub same_equal : (calls listed : List Call) (at place : ℕ) → at < length calls → place < length calls → listed ≡ calls → AreSameAt e listed at place true → values_at e calls at ≡ values_at e calls place
  same_equal calls listed at place within within_too is found =
      let here = call_there calls at within in
      let there = call_there calls place within_too in
      let told : AreSameAt e calls at place true = subst (λ (cs : List Call). AreSameAt e cs at place true) is found in
      let same_there : true ≡ same_calls e here.0 there.0 = subst (λ (o : Option Call). IfSome o (λ other. true ≡ same_calls e here.0 other)) there.1 (subst (λ (o : Option Call). IfSome o (λ call. IfSome (slice_get calls place) (λ other. true ≡ same_calls e call other))) here.1 told) in
      ap (option_map (values_in e)) here.1 ∙ (ap Some ((same_iff here.0 there.0).0 (sym same_there)) ∙ ap (option_map (values_in e)) (sym there.1))

  -- so are those of a call that is put behind the others
  pub put_equal : (calls now : List Call) (at place : ℕ) (call : Call) → place ≡ length calls → now ≡ calls ++ (call ∷ []) → IsSameAsAt e calls at call → values_at e now at ≡ values_at e now place
  put_equal calls now at place call at_end is same = subst (λ (cs : List Call). values_at e cs at ≡ values_at e cs place) (sym is) (subst (λ (n : ℕ). values_at e (calls ++ (call ∷ [])) at ≡ values_at e (calls ++ (call ∷ [])) n) (sym at_end) (first (cases_lt at (length calls))))
    where
      there : (one : Option Call) → IsThereWith (λ c. same_calls e c call ≡ true) one → option_map (values_in e) one ≡ Some (values_in e call)
      there None h = absurd h
      there (Some c) h = ap Some ((same_iff c call).0 h)

      first : (at < length calls) ⊎ (length calls ≤ at) → values_at e (calls ++ (call ∷ [])) at ≡ values_at e (calls ++ (call ∷ [])) (length calls)
      first (inl less) = ap (option_map (values_in e)) (before calls (call ∷ []) at less) ∙ (there (slice_get calls at) same ∙ ap (option_map (values_in e)) (sym (slice_last calls call)))
      first (inr past) = absurd (subst (IsThereWith (λ c. same_calls e c call ≡ true)) (slice_get_past calls at past) same)
