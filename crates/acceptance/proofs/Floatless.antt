-- What is coerced holds no float where no type takes one.
use Rattle.std.proofs.Common.{◌≡◌, ◌∙◌, ℕ, List, [], ◌∷◌, Bool, true, false, ◌||◌, Option, Some, None, Ok, Err, bytes_eq, true≢false, refl, sym, ap, subst}
use Rattle.std.specs.List.{list_all}
use Rattle.std.proofs.lemmas.Bool.{or_from, and_parts}
use Rattle.std.proofs.lemmas.Option.{none-some}
use Rattle.serde_json.specs.Data.{Data, null, boolean, number, string, array, object, unsigned, negative, float, Items, no_items, item, Members, no_members, member}
use Rattle.serde_json.specs.Find.{get_member, to_float}
use Rattle.serde_json.specs.Written.{has_float, items_have_float, members_have_float}
use Rattle.input_values.specs.values.Coerced.{CoercedTree, coerced_list, coerced_object, CoercedTrees, CoercedFields, coerced_then, coerced_field_then}
use Rattle.input_values.specs.inputs.Shapes.{ShapeTree, named_shape, list_shape}
use Rattle.input_values.specs.coercion.Answers.{Answer, both}
use Rattle.input_values.specs.coercion.Given.{GivenFields, bits_given, given_names, is_nothing}
use Rattle.input_values.specs.values.Floats.{finite_bits}
use Rattle.input_values.specs.coercion.Customs.{any_value, any_items, any_fields}
use Rattle.input_values.specs.coercion.Forms.{FieldForm, is_field, InputForm, integer_form, string_form, boolean_form, id_form, float_form, custom_form, lax_form, enum_form, object_form, no_form}
use Rattle.input_values.specs.coercion.Leaves.{custom_at, float_at}
use Rattle.input_values.specs.coercion.Relation.{IsSingle, IsThere, Either, AreFields, NamesAreRight, IsObject, IsCoerced, AreCoerced, IsField}
use Rattle.input_values.proofs.CoercionLaws.Found.{mapped_ok, no_ok}
use Rattle.variable_coercion.specs.Json.{json_given, json_items, json_members}
use Rattle.acceptance.specs.Keys.{HasEachKeyOnce, ItemsHaveEachKeyOnce, MembersHaveEachKeyOnce}
use Rattle.acceptance.proofs.FoundMembers.{equal_bytes, other_bytes, by_cases, found_here, found_later, another_key}

-- ---- at a custom scalar

both_are_ok : {A B C : Type 0} (f : A → B → C) (a : Answer A) (b : Answer B) (t : C) → both f a b ≡ Ok t → (x : A) × (y : B) × (a ≡ Ok x) × (b ≡ Ok y)
both_are_ok f (Ok x) (Ok y) t is = (x, y, refl, refl)
both_are_ok f (Ok x) (Err path) t is = no_ok path t is
both_are_ok f (Err path) b t is = no_ok path t is

no_bits : {P : Type 0} (bits : Option ℕ) (t : CoercedTree) → any_value false (bits_given bits) ≡ Ok t → P
no_bits None t is = no_ok [] t is
no_bits (Some bits) t is = no_ok [] t is

mutual
  any_floatless : (json : Data) (t : CoercedTree) → any_value false (json_given json) ≡ Ok t → has_float json ≡ false
  any_floatless null t is = refl
  any_floatless (boolean b) t is = refl
  any_floatless (number (unsigned n)) t is = refl
  any_floatless (number (negative z)) t is = refl
  any_floatless (number (float x)) t is = no_bits (finite_bits (to_float (float x))) t is
  any_floatless (string s) t is = refl
  any_floatless (array items) t is = let m = mapped_ok coerced_list (any_items false (json_items items)) t is in any_items_floatless items m.0 m.1
  any_floatless (object ms) t is = let m = mapped_ok coerced_object (any_fields false (json_members ms)) t is in any_members_floatless ms m.0 m.1

  any_items_floatless : (items : Items) (ts : CoercedTrees) → any_items false (json_items items) ≡ Ok ts → items_have_float items ≡ false
  any_items_floatless no_items ts is = refl
  any_items_floatless (item json others) ts is =
      let m = both_are_ok coerced_then (any_value false (json_given json)) (any_items false (json_items others)) ts is in
      or_from (has_float json) (items_have_float others) (any_floatless json m.0 m.2) (any_items_floatless others m.1 m.3)

  any_members_floatless : (ms : Members) (cs : CoercedFields) → any_fields false (json_members ms) ≡ Ok cs → members_have_float ms ≡ false
  any_members_floatless no_members cs is = refl
  any_members_floatless (member key json others) cs is =
      let m = both_are_ok (coerced_field_then key) (any_value false (json_given json)) (any_fields false (json_members others)) cs is in
      or_from (has_float json) (members_have_float others) (any_floatless json m.0 m.2) (any_members_floatless others m.1 m.3)

-- no number with a fraction is taken
abbrev pub IsWhole : InputForm → Type 0
IsWhole float_form = ⊥
IsWhole lax_form = ⊥
IsWhole form = Unit {0}

custom_only : (form : InputForm) (any : Bool → Answer CoercedTree) (t : CoercedTree) → IsWhole form → custom_at form any ≡ Ok t → any false ≡ Ok t
custom_only custom_form any t whole is = is
custom_only lax_form any t whole is = absurd whole
custom_only float_form any t whole is = absurd whole
custom_only integer_form any t whole is = no_ok [] t is
custom_only string_form any t whole is = no_ok [] t is
custom_only boolean_form any t whole is = no_ok [] t is
custom_only id_form any t whole is = no_ok [] t is
custom_only (enum_form names) any t whole is = no_ok [] t is
custom_only (object_form fields) any t whole is = no_ok [] t is
custom_only no_form any t whole is = no_ok [] t is

no_float_at : {P : Type 0} (form : InputForm) (bits : ℕ) (t : CoercedTree) → IsWhole form → float_at form bits ≡ Ok t → P
no_float_at float_form bits t whole is = absurd whole
no_float_at lax_form bits t whole is = absurd whole
no_float_at custom_form bits t whole is = no_ok [] t is
no_float_at integer_form bits t whole is = no_ok [] t is
no_float_at string_form bits t whole is = no_ok [] t is
no_float_at boolean_form bits t whole is = no_ok [] t is
no_float_at id_form bits t whole is = no_ok [] t is
no_float_at (enum_form names) bits t whole is = no_ok [] t is
no_float_at (object_form fields) bits t whole is = no_ok [] t is
no_float_at no_form bits t whole is = no_ok [] t is

-- ---- choices

first_of_either : (test : Bool) (A B : Type 0) → test ≡ true → Either test A B → A
first_of_either true A B is either = either
first_of_either false A B is either = absurd (true≢false (sym is))

second_of_either : (test : Bool) (A B : Type 0) → test ≡ false → Either test A B → B
second_of_either true A B is either = absurd (true≢false is)
second_of_either false A B is either = either

there : (Is : CoercedTree → Type 0) (o : Option CoercedTree) → IsThere Is o → (t : CoercedTree) × Is t
there Is None is = absurd is
there Is (Some t) is = (t, is)

some_bits : (bits : Option ℕ) → is_nothing (bits_given bits) ≡ false
some_bits None = refl
some_bits (Some bits) = refl

something : (json : Data) → is_nothing (json_given json) ≡ false
something null = refl
something (boolean b) = refl
something (number (unsigned n)) = refl
something (number (negative z)) = refl
something (number (float x)) = some_bits (finite_bits (to_float (float x)))
something (string s) = refl
something (array items) = refl
something (object ms) = refl

single_only : (P : Type 0) (Is : ℕ → CoercedTree → Type 0) (shape : ShapeTree) (t : CoercedTree) → ((of : ℕ) (u : CoercedTree) → Is of u → P) → IsSingle Is shape t → P
single_only P Is (named_shape of nullable) t each is = each of t is
single_only P Is (list_shape inner nullable) t each is = single_only P Is inner is.0 each is.2

-- ---- at an input object

-- a key of members passes a test that all their keys pass
name_passes : (test : List ℕ → Bool) (key : List ℕ) (d : Data) (ms : Members) → list_all test (given_names (json_members ms)) ≡ true → get_member key ms ≡ Some d → test key ≡ true
name_passes test key d no_members all some = absurd (none-some d some)
name_passes test key d (member other json others) all some =
    let passed = and_parts (test other) (list_all test (given_names (json_members others))) all in
    by_cases key other (test key ≡ true) (λ same. ap test same ∙ passed.0)
    (λ apart. name_passes test key d others passed.1 (sym (found_later key other json others apart) ∙ some))

module _ (form : ℕ → InputForm) where
  abbrev HasField : List ℕ → GivenFields → Type 0
  HasField name fields = (f : FieldForm) × (o : Option CoercedTree) × IsField form name fields f o

  field_of_name : (fields : GivenFields) (name : List ℕ) (inputs : List FieldForm) (cs : CoercedFields) → is_field inputs name ≡ true → AreFields inputs (λ f o. IsField form f.name fields f o) cs → HasField name fields
  field_of_name fields name [] cs is are = absurd (true≢false (sym is))
  field_of_name fields name (f ∷ others) cs is are =
      by_cases f.name name (HasField name fields) (λ same. (f, are.0, subst (λ (n : List ℕ). IsField form n fields f are.0) same are.3))
      (λ apart. field_of_name fields name others are.1 (ap (λ b. b || is_field others name) (sym (other_bytes f.name name apart)) ∙ is) are.4)

  -- each member is that of a field
  abbrev AllAreFields : Members → Type 0
  AllAreFields ms = (key : List ℕ) (d : Data) → get_member key ms ≡ Some d → HasField key (json_members ms)

  object_only : (ms : Members) (x : InputForm) (u : CoercedTree) (P : Type 0)
      → (AllAreFields ms → P)
      → (any_value false (json_given (object ms)) ≡ Ok u → P)
      → IsWhole x
      → IsObject x (λ inputs v. NamesAreRight true inputs (given_names (json_members ms)) × (cs : CoercedFields) × (v ≡ coerced_object cs) × AreFields inputs (λ f o. IsField form f.name (json_members ms) f o) cs) (λ lax. any_value lax (json_given (object ms))) u
      → P
  object_only ms (object_form inputs) u P fields any whole is =
      fields (λ key d some. field_of_name (json_members ms) key inputs is.1 (name_passes (is_field inputs) key d ms is.0.0 some) is.3)
  object_only ms custom_form u P fields any whole is = any is
  object_only ms lax_form u P fields any whole is = absurd whole
  object_only ms float_form u P fields any whole is = absurd whole
  object_only ms integer_form u P fields any whole is = absurd is
  object_only ms string_form u P fields any whole is = absurd is
  object_only ms boolean_form u P fields any whole is = absurd is
  object_only ms id_form u P fields any whole is = absurd is
  object_only ms (enum_form names) u P fields any whole is = absurd is
  object_only ms no_form u P fields any whole is = absurd is

  first_field : (key : List ℕ) (json : Data) (others : Members) (f : FieldForm) (o : Option CoercedTree)
      → IsField form key (json_members (member key json others)) f o → (t : CoercedTree) × IsCoerced form (json_given json) f.shape t
  unfolding IsCoerced AreCoerced IsField
  first_field key json others f o is =
      there (λ u. IsCoerced form (json_given json) f.shape u) o
      (second_of_either (is_nothing (json_given json)) _ _ (something json) (first_of_either (bytes_eq key key) _ _ (equal_bytes key) is))

  later_field : (key name : List ℕ) (json : Data) (others : Members) (f : FieldForm) (o : Option CoercedTree) → (key ≡ name → ⊥)
      → IsField form name (json_members (member key json others)) f o → IsField form name (json_members others) f o
  unfolding IsCoerced AreCoerced IsField
  later_field key name json others f o apart is = second_of_either (bytes_eq key name) _ _ (other_bytes key name apart) is

  later_fields : (key : List ℕ) (json : Data) (others : Members) → get_member key others ≡ None → AllAreFields (member key json others) → AllAreFields others
  later_fields key json others none are = λ name d some.
      let apart = another_key key name d others none some in
      let field = are name d (found_later name key json others (λ same. apart (sym same)) ∙ some) in
      (field.0, field.1, later_field key name json others field.0 field.1 apart field.2)

  bits_refused : {P : Type 0} → ((of : ℕ) → IsWhole (form of)) → (bits : Option ℕ) (shape : ShapeTree) (t : CoercedTree) → IsCoerced form (bits_given bits) shape t → P
  unfolding IsCoerced AreCoerced IsField
  bits_refused whole None shape t is = absurd is
  bits_refused {P = P} whole (Some bits) shape t is = single_only P (λ of u. float_at (form of) bits ≡ Ok u) shape t (λ of u h. no_float_at (form of) bits u (whole of) h) is

  mutual
    unfolding IsCoerced AreCoerced IsField

    pub coerced_floatless : ((of : ℕ) → IsWhole (form of)) → (json : Data) (shape : ShapeTree) (t : CoercedTree) → HasEachKeyOnce json → IsCoerced form (json_given json) shape t → has_float json ≡ false
    coerced_floatless whole null shape t once is = refl
    coerced_floatless whole (boolean b) shape t once is = refl
    coerced_floatless whole (number (unsigned n)) shape t once is = refl
    coerced_floatless whole (number (negative z)) shape t once is = refl
    coerced_floatless whole (number (float x)) shape t once is = bits_refused whole (finite_bits (to_float (float x))) shape t is
    coerced_floatless whole (string s) shape t once is = refl
    coerced_floatless whole (array items) (named_shape of nullable) t once is = any_floatless (array items) t (custom_only (form of) (λ lax. any_value lax (json_given (array items))) t (whole of) is)
    coerced_floatless whole (array items) (list_shape shape nullable) t once is = items_floatless whole items shape is.0 once is.2
    coerced_floatless whole (object ms) shape t once is =
        single_only (members_have_float ms ≡ false) _ shape t
        (λ of u h. object_only ms (form of) u (members_have_float ms ≡ false) (members_floatless whole ms once) (any_floatless (object ms) u) (whole of) h)
        is

    items_floatless : ((of : ℕ) → IsWhole (form of)) → (items : Items) (shape : ShapeTree) (ts : CoercedTrees) → ItemsHaveEachKeyOnce items → AreCoerced form (json_items items) shape ts → items_have_float items ≡ false
    items_floatless whole no_items shape ts once are = refl
    items_floatless whole (item json others) shape ts once are =
        or_from (has_float json) (items_have_float others) (coerced_floatless whole json shape are.0 once.0 are.3) (items_floatless whole others shape are.1 once.1 are.4)

    members_floatless : ((of : ℕ) → IsWhole (form of)) → (ms : Members) → MembersHaveEachKeyOnce ms → AllAreFields ms → members_have_float ms ≡ false
    members_floatless whole no_members once are = refl
    members_floatless whole (member key json others) once are =
        let field = are key json (found_here key json others) in
        let first = first_field key json others field.0 field.1 field.2 in
        or_from (has_float json) (members_have_float others)
        (coerced_floatless whole json field.0.shape first.0 once.1 first.1)
        (members_floatless whole others once.2 (later_fields key json others once.0 are))
