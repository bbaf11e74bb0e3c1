-- Values of defaults that are found, one after another.
use Rattle.std.proofs.Common.{◌≡◌, ◌+◌, ◌<◌, ◌≤◌, ◌⊎◌, inl, inr, ℕ, zero, suc, Bool, true, false, true≢false, cond, leb, List, [], ◌∷◌, ◌++◌, length, map, drop, Option, Some, None, option_map, Result, Ok, Err, refl, sym, ap, ap₂, ◌∙◌, subst, arith}
use Rattle.std.specs.Prelude.{slice_get, slice_index_or, is_some, IfOk, OnOk}
use Rattle.std.proofs.lemmas.Option.{none-some, same_Some, slice_get_past}
use Rattle.input_values.specs.declared.defaults.drafts.DraftType.{DraftType}
use Rattle.std.specs.BTreeMap.{BTreeMap, get, Updates}
use Rattle.std.specs.List.{Contains}
use Rattle.std.specs.Ordering.{nat_cmp, eq_by_cmp}
use Rattle.std.proofs.lemmas.Bool.{cases_Bool}
use Rattle.std.proofs.lemmas.List.{drop_all}
use Rattle.std.specs.List.Sorted.{IsPermutation}
use Rattle.std.proofs.lemmas.List.Sorted.{Contains-permutation}
use Rattle.std.proofs.lemmas.List.Elements.{Contains-append_left, Contains-append_right, Contains-append_cases}
use Rattle.std.proofs.lemmas.Map.Lookups.{exact_pairs, exact_unsigned}
use Rattle.std.proofs.lemmas.Map.Views.{tells_apart}
use Rattle.gql_base.specs.parts.Values.{ValueTree}
use Rattle.input_values.specs.values.Coerced.{CoercedTree, coerced_tree, nodes}
use Rattle.input_values.specs.inputs.Shapes.{ShapeTree}
use Rattle.input_values.specs.declared.values.coerced.Coerced.{Coerced}
use Rattle.input_values.specs.coercion.Answers.{Answer, refused}
use Rattle.input_values.specs.coercion.Forms.{Absence, takes_default, stays_absent, is_required, absence_of, FieldForm, InputForm, integer_form, string_form, boolean_form, id_form, float_form, custom_form, lax_form, enum_form, object_form, no_form}
use Rattle.input_values.specs.coercion.Coercion.{coerced}
use Rattle.input_values.specs.coercion.Literals.{no_variables, literal_given}
use Rattle.input_values.specs.defaults.Drafts.{draft_fields, FieldDraft, Draft, settled, drafted, most_nodes, small_enough, default_value, default_absence, draft_absence, filled_field, filled_form, AreFilled}
use Rattle.input_values.specs.defaults.Filling.{Table, table_absence, table_fields, table_form, table_forms, pair_cmp, table_of, drafts, draft_or}
use Rattle.input_values.specs.defaults.Rounds.{literal_value, field_value, place_value, IsFound, AreFound, Keeps, HasNone, Fills, Covers, RoundLeft}
use Rattle.input_values.proofs.CoercionLaws.Found.{ok_same, no_ok}
use Rattle.input_values.proofs.CoercionLaws.Grown.{AbsenceGrows, FieldsGrow, FormGrows, grown}

-- ## Forms grow with the table

pub absence_self : (k : ℕ) (a : Absence) → AbsenceGrows k a a
absence_self k (takes_default t) = λ few. refl
absence_self k stays_absent = refl
absence_self k is_required = tt

fields_self : (k : ℕ) (fs : List FieldForm) → FieldsGrow k fs fs
fields_self k [] = tt
fields_self k (f ∷ fs) = (record { name = refl; shape = refl; absence = absence_self k f.absence }, fields_self k fs)

pub form_self : (k : ℕ) (form : InputForm) → FormGrows k form form
form_self k integer_form = refl
form_self k string_form = refl
form_self k boolean_form = refl
form_self k id_form = refl
form_self k float_form = refl
form_self k custom_form = refl
form_self k lax_form = refl
form_self k (enum_form names) = refl
form_self k (object_form fs) = (fs, refl, fields_self k fs)
form_self k no_form = refl

absence_more : (k : ℕ) (literal : Option ValueTree) (less more : Option CoercedTree) (s : ShapeTree) → ((t : CoercedTree) → less ≡ Some t → more ≡ Some t) → AbsenceGrows k (table_absence literal less s) (table_absence literal more s)
absence_more k None less more s keeps = absence_self k (absence_of s)
absence_more k (Some l) None more s keeps = tt
absence_more k (Some l) (Some t) more s keeps = λ few. ap (λ v. table_absence (Some l) v s) (keeps t refl)

fields_more : (k : ℕ) (less more : ℕ → Option CoercedTree) (n : ℕ) (fs : List FieldDraft) → ((at : ℕ) (t : CoercedTree) → less at ≡ Some t → more at ≡ Some t) → FieldsGrow k (table_fields less n fs) (table_fields more n fs)
fields_more k less more n [] keeps = tt
fields_more k less more n (f ∷ fs) keeps = (record { name = refl; shape = refl; absence = absence_more k f.default (less n) (more n) f.shape (keeps n) }, fields_more k less more (suc n) fs keeps)

form_more : (k : ℕ) (d : Draft) (less more : ℕ → Option CoercedTree) → ((at : ℕ) (t : CoercedTree) → less at ≡ Some t → more at ≡ Some t) → FormGrows k (table_form less d) (table_form more d)
form_more k (settled form) less more keeps = form_self k form
form_more k (drafted fs) less more keeps = (table_fields more 0 fs, refl, fields_more k less more 0 fs keeps)

-- ## Values stay what literals come to

cond_ok : (b : Bool) (u t : CoercedTree) → cond b (Ok u) refused ≡ Ok t → u ≡ t
cond_ok true u t e = ok_same u t e
cond_ok false u t e = no_ok [] t e

small_ok : (a : Answer CoercedTree) (t : CoercedTree) → small_enough a ≡ Ok t → a ≡ Ok t
small_ok (Ok u) t e = ap Ok (cond_ok (leb (nodes u) most_nodes) u t e)
small_ok (Err path) t e = no_ok [] t e

pub default_more : (k : ℕ) (less more : ℕ → InputForm) (s : ShapeTree) (l : ValueTree) (t : CoercedTree) → nodes t ≤ k → ((of : ℕ) → FormGrows k (less of) (more of)) → default_value less s l ≡ Ok t → default_value more s l ≡ Ok t
default_more k less more s l t few grows e =
    let was = small_ok (coerced less (literal_given no_variables l) s) t e in
    ap small_enough (grown k less more grows (literal_given no_variables l) s t few was ∙ sym was) ∙ e

literal_more : (less more : ℕ → InputForm) (s : ShapeTree) (l : Option ValueTree) (t : CoercedTree) → ((of : ℕ) → FormGrows (nodes t) (less of) (more of)) → literal_value less s l ≡ Ok t → literal_value more s l ≡ Ok t
literal_more less more s None t grows e = e
literal_more less more s (Some l) t grows e = default_more (nodes t) less more s l t (omega arith) grows e

field_more : (less more : ℕ → InputForm) (f : Option FieldDraft) (t : CoercedTree) → ((of : ℕ) → FormGrows (nodes t) (less of) (more of)) → field_value less f ≡ Ok t → field_value more f ≡ Ok t
field_more less more None t grows e = e
field_more less more (Some f) t grows e = literal_more less more f.shape f.default t grows e

pub place_more : (draft : ℕ → Draft) (less more : Table) (of at : ℕ) (t : CoercedTree) → Keeps less more → place_value draft less of at ≡ Ok t → place_value draft more of at ≡ Ok t
place_more draft less more of at t keeps e =
    field_more (table_forms draft less) (table_forms draft more) (slice_get (draft_fields (draft of)) at) t (λ o. form_more (nodes t) (draft o) (less o) (more o) (λ k u. keeps o k u)) e

-- ## One value more

same_place : (of at o a : ℕ) → eq_by_cmp pair_cmp (of, at) (o, a) ≡ true → ◌≡◌ {A = ℕ × ℕ} (of, at) (o, a)
same_place of at o a e = tells_apart {R = pair_cmp} (exact_pairs nat_cmp nat_cmp exact_unsigned exact_unsigned) (of, at) (o, a) e

abbrev seen_at : (m : BTreeMap (ℕ × ℕ) Coerced) → ℕ × ℕ → Option CoercedTree
seen_at m p = option_map coerced_tree (get pair_cmp m p)

here_or_there : (m : BTreeMap (ℕ × ℕ) Coerced) (n : BTreeMap (ℕ × ℕ) Coerced) (of at o a : ℕ) (v : Coerced) (b : Bool) → get pair_cmp n (o, a) ≡ cond b (Some v) (get pair_cmp m (o, a)) → table_of n o a ≡ cond b (Some (coerced_tree v)) (table_of m o a)
here_or_there m n of at o a v true e = ap (option_map coerced_tree) e
here_or_there m n of at o a v false e = ap (option_map coerced_tree) e

pub put_value : (draft : ℕ → Draft) (m n : BTreeMap (ℕ × ℕ) Coerced) (of at : ℕ) (v : Coerced) → Updates pair_cmp m n (of, at) (Some v) → table_of m of at ≡ None → place_value draft (table_of m) of at ≡ Ok (coerced_tree v) → Fills draft (table_of m) (table_of n) of at true
put_value draft m n of at v puts none value =
    let keeps : Keeps (table_of m) (table_of n) = λ o a t is. elim (cases_Bool (eq_by_cmp pair_cmp (of, at) (o, a))) [
      | inl e ↦ absurd (none-some t (sym none ∙ (ap (seen_at m) (same_place of at o a e) ∙ is)))
      | inr e ↦ here_or_there m n of at o a v false (subst (λ b. get pair_cmp n (o, a) ≡ cond b (Some v) (get pair_cmp m (o, a))) e (puts.0 (o, a))) ∙ is
    ] in
    record {
      found = λ found o a t is. elim (cases_Bool (eq_by_cmp pair_cmp (of, at) (o, a))) [
        | inl e ↦
            let new = here_or_there m n of at o a v true (subst (λ b. get pair_cmp n (o, a) ≡ cond b (Some v) (get pair_cmp m (o, a))) e (puts.0 (o, a))) in
            let same = same_Some (coerced_tree v) t (sym new ∙ is) in
            place_more draft (table_of m) (table_of n) o a t keeps (ap (λ p. place_value draft (table_of m) p.0 p.1) (sym (same_place of at o a e)) ∙ (value ∙ ap Ok same))
        | inr e ↦
            let old = here_or_there m n of at o a v false (subst (λ b. get pair_cmp n (o, a) ≡ cond b (Some v) (get pair_cmp m (o, a))) e (puts.0 (o, a))) in
            place_more draft (table_of m) (table_of n) o a t keeps (found o a t (sym old ∙ is))
      ];
      keeps = keeps;
      place = (coerced_tree v, ap (option_map coerced_tree) puts.1);
    }

pub found_before : (draft : ℕ → Draft) (table : Table) (of at : ℕ) (t : CoercedTree) → table of at ≡ Some t → Fills draft table table of at true
found_before draft table of at t is = record { found = λ f. f; keeps = λ o a u e. e; place = (t, is) }

pub none_found : (draft : ℕ → Draft) (table : Table) (of at : ℕ) → place_value draft table of at ≡ refused → Fills draft table table of at false
none_found draft table of at is = record { found = λ f. f; keeps = λ o a u e. e; place = (refl, λ none t e. no_ok [] t (sym is ∙ e)) }

-- ## One place more of a round

one_at : {A : Type 0} (p q : A) (k : ℕ) → k < 1 → slice_index_or (p ∷ []) k q ≡ q → p ≡ q
one_at p q zero w e = e
one_at p q (suc k) w e = absurd (omega (arith, w))

in_one : {A : Type 0} (p q : A) → Contains (p ∷ []) q → p ≡ q
in_one p q c = one_at p q c.0 c.1 c.2

contains_front : {A : Type 0} (x p : A) (xs : List A) → Contains (x ∷ xs) p → (x ≡ p) ⊎ Contains xs p
contains_front x p xs c = elim (Contains-append_cases (x ∷ []) xs p c) [
  | inl e ↦ inl (in_one x p e)
  | inr e ↦ inr e
]

longer : (still : List (ℕ × ℕ)) (p : ℕ × ℕ) → length (still ++ p ∷ []) ≡ suc (length still)
longer [] p = refl
longer (q ∷ still) p = ap suc (longer still p)

pub one_there : (p : ℕ × ℕ) → Contains (p ∷ []) p
one_there p = (0, omega arith, refl)

found_after : (less more : Table) (of at : ℕ) → Keeps less more → IsFound less of at → IsFound more of at
found_after less more of at keeps is = (is.0, keeps of at is.0 is.1)

pub place_left : (draft : ℕ → Draft) (start now after : Table) (missing still more : List (ℕ × ℕ)) (n : ℕ) (p : ℕ × ℕ) (done : Bool) → n < length missing → drop n missing ≡ p ∷ drop (n + 1) missing → RoundLeft draft start now missing still n → Fills draft now after p.0 p.1 done
    → more ≡ cond done still (still ++ p ∷ []) → RoundLeft draft start after missing more (n + 1)
place_left draft start now after missing still more n p true within front left fills is = record {
  found = λ f. fills.found (left.found f);
  keeps = λ o a t e. fills.keeps o a t (left.keeps o a t e);
  covers = λ o a c. elim (left.covers o a c) [
    | inl f ↦ inl (found_after now after o a fills.keeps f)
    | inr r ↦ elim r [
      | inl s ↦ inr (inl (subst (λ l. Contains l (o, a)) (sym is) s))
      | inr d ↦ elim (contains_front p (o, a) (drop (n + 1) missing) (subst (λ l. Contains l (o, a)) front d)) [
        | inl e ↦ inl (subst (λ q. IsFound after q.0 q.1) e fills.place)
        | inr e ↦ inr (inr e)
      ]
    ]
  ];
  fewer = let l = ap length is in let m = left.fewer in omega (arith, l, m);
  none = λ same. let l = ap length is in let m = left.fewer in absurd (omega (arith, l, m, same));
}
place_left draft start now after missing still more n p false within front left fills is = record {
  found = λ f. fills.found (left.found f);
  keeps = λ o a t e. fills.keeps o a t (left.keeps o a t e);
  covers = λ o a c. elim (left.covers o a c) [
    | inl f ↦ inl (found_after now after o a fills.keeps f)
    | inr r ↦ elim r [
      | inl s ↦ inr (inl (subst (λ l. Contains l (o, a)) (sym is) (Contains-append_left still (p ∷ []) (o, a) s)))
      | inr d ↦ elim (contains_front p (o, a) (drop (n + 1) missing) (subst (λ l. Contains l (o, a)) front d)) [
        | inl e ↦ inr (inl (subst (λ l. Contains l (o, a)) (sym is) (Contains-append_right still (p ∷ []) (o, a) (subst (λ q. Contains (p ∷ []) q) e (one_there p)))))
        | inr e ↦ inr (inr e)
      ]
    ]
  ];
  fewer = let l = ap length is ∙ longer still p in let m = left.fewer in omega (arith, l, m);
  none = λ same o a c. elim (Contains-append_cases still (p ∷ []) (o, a) (subst (λ l. Contains l (o, a)) is c)) [
    | inl s ↦ subst (λ t. HasNone draft t o a) (fills.place).0 (left.none (let l = ap length is ∙ longer still p in omega (arith, l, same)) o a s)
    | inr e ↦ subst (λ q. HasNone draft after q.0 q.1) (in_one p (o, a) e) (fills.place).1
  ];
}

pub round_start : (draft : ℕ → Draft) (table : Table) (missing : List (ℕ × ℕ)) → RoundLeft draft table table missing [] 0
round_start draft table missing = record {
  found = λ f. f;
  keeps = λ o a t e. e;
  covers = λ o a c. inr (inr c);
  fewer = omega arith;
  none = λ same o a c. absurd (omega (arith, c.1));
}

-- ## The end

no_rest : (missing : List (ℕ × ℕ)) (p : ℕ × ℕ) → Contains (drop (length missing) missing) p → ⊥
no_rest missing p c = let e = ap length (drop_all (length missing) missing (omega arith)) in omega (arith, e, c.1)

pub still_covers : (draft : ℕ → Draft) (start now : Table) (missing still : List (ℕ × ℕ)) → RoundLeft draft start now missing still (length missing) → Covers draft start missing → Covers draft now still
still_covers draft start now missing still left covers = λ o a. elim (covers o a) [
  | inl n ↦ inl n
  | inr r ↦ elim r [
    | inl f ↦ inr (inl (found_after start now o a left.keeps f))
    | inr c ↦ elim (left.covers o a c) [
      | inl f ↦ inr (inl f)
      | inr s ↦ elim s [
        | inl k ↦ inr (inr k)
        | inr d ↦ absurd (no_rest missing (o, a) d)
      ]
    ]
  ]
]

absence_filled : (form : ℕ → InputForm) (f : FieldDraft) (value : Option CoercedTree) → ((t : CoercedTree) → value ≡ Some t → literal_value form f.shape f.default ≡ Ok t) → (value ≡ None → (t : CoercedTree) → literal_value form f.shape f.default ≡ Ok t → ⊥)
    → table_absence f.default value f.shape ≡ draft_absence (default_value form) f.shape f.default
absence_filled form f value found none = by f.default value found none
  where
    settle : (a : Answer CoercedTree) → ((t : CoercedTree) → a ≡ Ok t → ⊥) → is_required ≡ default_absence a
    settle (Ok t) never = absurd (never t refl)
    settle (Err path) never = refl

    by : (l : Option ValueTree) (v : Option CoercedTree) → ((t : CoercedTree) → v ≡ Some t → literal_value form f.shape l ≡ Ok t) → (v ≡ None → (t : CoercedTree) → literal_value form f.shape l ≡ Ok t → ⊥) → table_absence l v f.shape ≡ draft_absence (default_value form) f.shape l
    by None v is never = refl
    by (Some l) (Some t) is never = ap default_absence (sym (is t refl))
    by (Some l) None is never = settle (default_value form f.shape l) (never refl)

fields_filled : (form : ℕ → InputForm) (values : ℕ → Option CoercedTree) (n : ℕ) (fs : List FieldDraft)
    → ((at : ℕ) (t : CoercedTree) → values (n + at) ≡ Some t → field_value form (slice_get fs at) ≡ Ok t) → ((at : ℕ) → values (n + at) ≡ None → (t : CoercedTree) → field_value form (slice_get fs at) ≡ Ok t → ⊥)
    → table_fields values n fs ≡ map (filled_field (default_value form)) fs
fields_filled form values n [] found none = refl
fields_filled form values n (f ∷ fs) found none =
    let z : n + 0 ≡ n = omega arith in
    ap₂ (λ a rest. record { name = f.name; shape = f.shape; absence = a } ∷ rest)
    (absence_filled form f (values n) (λ t e. found 0 t (ap values z ∙ e)) (λ e. none 0 (ap values z ∙ e)))
    (fields_filled form values (suc n) fs (λ at t e. found (suc at) t (ap values (next at) ∙ e)) (λ at e. none (suc at) (ap values (next at) ∙ e)))
  where
    next : (at : ℕ) → n + suc at ≡ suc n + at
    next at = omega arith

pub all_filled : (draft : ℕ → Draft) (table : Table) → AreFound draft table → ((of at : ℕ) → HasNone draft table of at) → AreFilled draft (table_forms draft table)
all_filled draft table found none = λ of. by (draft of) (table of) (λ at t e. found of at t e) (λ at. none of at)
  where
    by : (d : Draft) (values : ℕ → Option CoercedTree) → ((at : ℕ) (t : CoercedTree) → values at ≡ Some t → field_value (table_forms draft table) (slice_get (draft_fields d) at) ≡ Ok t)
        → ((at : ℕ) → values at ≡ None → (t : CoercedTree) → field_value (table_forms draft table) (slice_get (draft_fields d) at) ≡ Ok t → ⊥) → table_form values d ≡ filled_form (default_value (table_forms draft table)) d
    by (settled form) values is never = refl
    by (drafted fs) values is never = ap object_form (fields_filled (table_forms draft table) values 0 fs (λ at t e. is at t (ap values (sym (first at)) ∙ e)) (λ at e. never at (ap values (sym (first at)) ∙ e)))
      where
        first : (at : ℕ) → 0 + at ≡ at
        first at = omega arith

pub none_left : (draft : ℕ → Draft) (start now : Table) (missing still : List (ℕ × ℕ)) → RoundLeft draft start now missing still (length missing) → length still ≡ length missing → Covers draft now still → (of at : ℕ) → HasNone draft now of at
none_left draft start now missing still left same covers = λ of at none t e. elim (covers of at) [
  | inl nothing ↦ no_ok [] t (sym (ap (field_value (table_forms draft now)) nothing) ∙ e)
  | inr r ↦ elim r [
    | inl f ↦ none-some f.0 (sym none ∙ f.1)
    | inr c ↦ left.none same of at c none t e
  ]
]

pub some_there : {A B : Type 0} (f : A → B) (o : Option A) → is_some o ≡ true → (b : B) × (option_map f o ≡ Some b)
some_there f None e = absurd (true≢false (sym e))
some_there f (Some a) e = (f a, refl)

pub none_there : {A B : Type 0} (f : A → B) (o : Option A) → is_some o ≡ false → option_map f o ≡ None
none_there f None e = refl
none_there f (Some a) e = absurd (true≢false e)

pub put_result : {E : Type 0} (r : Result Bool E) (draft : ℕ → Draft) (m n : BTreeMap (ℕ × ℕ) Coerced) (of at : ℕ) (v : Coerced) → IfOk r (λ done. done ≡ true) → OnOk r (Updates pair_cmp m n (of, at) (Some v)) → table_of m of at ≡ None → place_value draft (table_of m) of at ≡ Ok (coerced_tree v)
    → IfOk r (λ done. Fills draft (table_of m) (table_of n) of at done)
put_result (Ok true) draft m n of at v done puts none value = put_value draft m n of at v puts none value
put_result (Ok false) draft m n of at v done puts none value = absurd (true≢false (sym done))
put_result (Err e) draft m n of at v done puts none value = tt

pub no_type : (types : List DraftType) (of at : ℕ) → length types ≤ of → at < length (draft_fields (drafts types of)) → ⊥
no_type types of at past within = let e = ap (λ t. length (draft_fields (draft_or t))) (slice_get_past types of past) in omega (arith, e, within)

pub types_alike : (types now : List DraftType) (a b : Table) (of at : ℕ) (done : Bool) → now ≡ types → Fills (drafts now) a b of at done → Fills (drafts types) a b of at done
types_alike types now a b of at done is fills = subst (λ ts. Fills (drafts ts) a b of at done) is fills

pub pushed : (old more : List (ℕ × ℕ)) (p q : ℕ × ℕ) → more ≡ old ++ p ∷ [] → Contains old q → Contains more q
pushed old more p q is c = subst (λ l. Contains l q) (sym is) (Contains-append_left old (p ∷ []) q c)

pub pushed_last : (old more : List (ℕ × ℕ)) (p : ℕ × ℕ) → more ≡ old ++ p ∷ [] → Contains more p
pushed_last old more p is = subst (λ l. Contains l p) (sym is) (Contains-append_right old (p ∷ []) p (one_there p))

-- a round, seen from the types that the rounds began with
pub round_of : (types now : List DraftType) (start after : Table) (seen missing still : List (ℕ × ℕ)) → now ≡ types → seen ≡ missing → RoundLeft (drafts now) start after seen still (length seen) → RoundLeft (drafts types) start after missing still (length missing)
round_of types now start after seen missing still same is left = subst (λ m. RoundLeft (drafts types) start after m still (length m)) is (subst (λ ts. RoundLeft (drafts ts) start after seen still (length seen)) same left)

pub rounds_end : (types now : List DraftType) (start after : Table) (missing still : List (ℕ × ℕ)) → now ≡ types → AreFound (drafts types) start × Covers (drafts types) start missing → RoundLeft (drafts types) start after missing still (length missing) → length still ≡ length missing
    → AreFilled (drafts types) (table_forms (drafts now) after)
rounds_end types now start after missing still same before left over =
    subst (λ ts. AreFilled (drafts types) (table_forms (drafts ts) after)) (sym same)
    (all_filled (drafts types) after (left.found before.0) (none_left (drafts types) start after missing still left over (still_covers (drafts types) start after missing still left before.1)))

covers_moved : (draft : ℕ → Draft) (table : Table) (still moved : List (ℕ × ℕ)) → IsPermutation still moved → Covers draft table still → Covers draft table moved
covers_moved draft table still moved move covers = λ of at. elim (covers of at) [
  | inl nothing ↦ inl nothing
  | inr r ↦ elim r [
    | inl found ↦ inr (inl found)
    | inr c ↦ inr (inr (Contains-permutation still moved (of, at) move c))
  ]
]

pub rounds_go_on : (types : List DraftType) (start after : Table) (missing still moved : List (ℕ × ℕ)) → AreFound (drafts types) start × Covers (drafts types) start missing → RoundLeft (drafts types) start after missing still (length missing) → IsPermutation still moved → AreFound (drafts types) after × Covers (drafts types) after moved
rounds_go_on types start after missing still moved before left move = (left.found before.0, covers_moved (drafts types) after still moved move (still_covers (drafts types) start after missing still left before.1))
