-- A setting is sound where its weights are those of its schema and leaves can be filled.
use Rattle.std.proofs.Common.{◌≡◌, ℕ, zero, suc, ◌+◌, ◌<◌, List, [], ◌∷◌, get_or, Bool, true, false, eqb, eqb-true, Option, None, Some, Result, Ok, Err, refl, sym, subst, ⊎_elim, arith}
use Rattle.std.proofs.lemmas.Bool.{cases_Bool}
use Rattle.std.proofs.lemmas.Slice.Eq.{bytes_eq-Decides}
use Rattle.std.specs.Prelude.{bytes_eq, codes, if◌then◌else◌}
use Rattle.std.specs.List.{list_any}
use Rattle.response_model.specs.Plan.{listed}
use Rattle.response_model.specs.Response.{is_null}
use Rattle.input_values.specs.inputs.Shapes.{ShapeTree, named_shape, list_shape, is_nullable}
use Rattle.input_values.specs.coercion.Kinds.{scalar_kind}
use Rattle.input_values.specs.coercion.Places.{innermost}
use Rattle.input_values.specs.declared.inputs.types.InputKind.{InputKind}
use Rattle.input_values.specs.declared.inputs.types.InputKind.TheVariants.{Int, String, Boolean, Float, Id, Custom, Lax, Enum as EnumKind, Object as ObjectKind, None as NoKind}
use Rattle.schema_rules.specs.declared.kind.Kind.{Kind}
use Rattle.schema_rules.specs.declared.kind.Kind.TheVariants.{Scalar, Object, Interface, Union, Enum, Input}
use Rattle.schema_rules.specs.Kinds.{is_output_only}
use Rattle.schema_model.specs.SchemaData.{TypeData, SchemaData, type_at, field_at, field_named, numbers_from, is_possible, all_possible, possible}
use Rattle.schema_model.specs.Arguments.{ArgData}
use Rattle.cost_directives.specs.declared.sizes.Size.{Size}
use Rattle.cost_directives.specs.declared.sizes.Size.TheVariants.{Any, At}
use Rattle.cost_directives.specs.declared.sizes.SizeFault.{SizeFault}
use Rattle.cost_directives.specs.Weighing.{type_inside, is_leaf}
use Rattle.cost_directives.specs.Weights.{WeightsData, type_in, declared_size_in}
use Rattle.cost_directives.specs.FreeLists.{HoldsFreeLeaves}
use Rattle.cost_directives.proofs.LookedUp.{holds_free_leaves}
use Rattle.document_rules.specs.Sites.{typename, Meaning, no_position, no_such_field, name_of_type, known_field, is_composite, field_or_none, meaning_on, type_of_field}
use Rattle.plan_model.specs.SelectedFields.{Setting, FieldCall, HandedSize, form_of_shape, form_of, scalar_fill, first_name, fill_by, fill_of, scalar_holds, holds_by, holds, place_of_type, place_of, if_coerced, handed_in, size_answer, length_in, size_in, meaning_at, form_at, place_at, arguments_at, size_answer_at, size_at}
use Rattle.plan_model.specs.Responses.{is_among}
use Rattle.plan_model.specs.Sound.{AreDistinct, IsSoundPlace, IsCountablePlace, IsSoundSetting, HasName, CanFill, IsOfSchema}

-- ---- possible types

pub before : (n T : ℕ) → T < n → n ≡ T → ⊥
before n T less is = omega arith

other_number : (n T : ℕ) → T < n → eqb n T ≡ false
other_number n T less = ⊎_elim (λ (is : eqb n T ≡ true). absurd (before n T less (eqb-true n T is))) (λ (is : eqb n T ≡ false). is) (cases_Bool (eqb n T))

next_less : (T n : ℕ) → T < n → T < n + 1
next_less T n less = omega arith

self_less : (n : ℕ) → n < n + 1
self_less n = omega arith

module _ (test : ℕ → TypeData → Bool) where
  -- numbers from n on are none below n
  none_before : (n : ℕ) (types : List TypeData) (T : ℕ) → T < n → is_among T (numbers_from n test types) ≡ false
  none_before n [] T less = refl
  none_before n (t ∷ types) T less = ⊎_elim
      (λ (passes : test n t ≡ true). rw (passes) (rw (other_number n T less) (none_before (n + 1) types T (next_less T n less))))
      (λ (fails : test n t ≡ false). rw (fails) (none_before (n + 1) types T (next_less T n less)))
      (cases_Bool (test n t))

  numbers_distinct : (n : ℕ) (types : List TypeData) → AreDistinct (numbers_from n test types)
  numbers_distinct n [] = tt
  numbers_distinct n (t ∷ types) = ⊎_elim
      (λ (passes : test n t ≡ true). rw (passes) (none_before (n + 1) types n (self_less n), numbers_distinct (n + 1) types))
      (λ (fails : test n t ≡ false). rw (fails) (numbers_distinct (n + 1) types))
      (cases_Bool (test n t))

all_distinct : (n : ℕ) (all types : List TypeData) (c : ℕ) → AreDistinct (get_or (all_possible n all types) c [])
all_distinct n all [] zero = tt
all_distinct n all [] (suc c) = tt
all_distinct n all (t ∷ types) zero = numbers_distinct (is_possible t n) 0 all
all_distinct n all (t ∷ types) (suc c) = all_distinct (n + 1) all types c

possible_distinct : (s : SchemaData) (c : ℕ) → AreDistinct (possible s c)
possible_distinct s c = all_distinct 0 s.types s.types c

-- ---- leaves

scalar_filled : (k : InputKind) → is_null (scalar_fill k) ≡ false
scalar_filled Int = refl
scalar_filled String = refl
scalar_filled Boolean = refl
scalar_filled Float = refl
scalar_filled Id = refl
scalar_filled Custom = refl
scalar_filled Lax = refl
scalar_filled EnumKind = refl
scalar_filled ObjectKind = refl
scalar_filled NoKind = refl

filled_by : (k : Kind) (t : TypeData) → is_null (fill_by k t) ≡ false
filled_by Enum t = refl
filled_by Scalar t = scalar_filled (scalar_kind t.lax t.name)
filled_by Object t = scalar_filled (scalar_kind t.lax t.name)
filled_by Interface t = scalar_filled (scalar_kind t.lax t.name)
filled_by Union t = scalar_filled (scalar_kind t.lax t.name)
filled_by Input t = scalar_filled (scalar_kind t.lax t.name)

-- ---- what fills a leaf stands in it

name_among : (names : List (List ℕ)) → HasName names → list_any (bytes_eq (first_name names)) names ≡ true
name_among [] has = absurd has
name_among (name ∷ names) has = rw ((bytes_eq-Decides name name).1 refl) refl

abbrev HoldsFill : InputKind → Type 0
HoldsFill k = scalar_holds k (scalar_fill k) ≡ true

-- of a custom scalar, and of Float
other_held : (lax : Bool) (name : List ℕ) → HoldsFill (if lax then (if bytes_eq name (codes "Float") then Float else Lax) else Custom)
other_held false name = refl
other_held true name = ⊎_elim
    (λ (is : bytes_eq name (codes "Float") ≡ true). rw (is) refl)
    (λ (other : bytes_eq name (codes "Float") ≡ false). rw (other) refl)
    (cases_Bool (bytes_eq name (codes "Float")))

scalar_held : (lax : Bool) (name : List ℕ) → HoldsFill (scalar_kind lax name)
scalar_held lax name = ⊎_elim
    (λ (is : bytes_eq name (codes "Int") ≡ true). rw (is) refl)
    (λ (no_int : bytes_eq name (codes "Int") ≡ false). rw (no_int) (⊎_elim
    (λ (is : bytes_eq name (codes "String") ≡ true). rw (is) refl)
    (λ (no_string : bytes_eq name (codes "String") ≡ false). rw (no_string) (⊎_elim
    (λ (is : bytes_eq name (codes "Boolean") ≡ true). rw (is) refl)
    (λ (no_boolean : bytes_eq name (codes "Boolean") ≡ false). rw (no_boolean) (⊎_elim
    (λ (is : bytes_eq name (codes "ID") ≡ true). rw (is) refl)
    (λ (no_id : bytes_eq name (codes "ID") ≡ false). rw (no_id) (other_held lax name))
    (cases_Bool (bytes_eq name (codes "ID")))))
    (cases_Bool (bytes_eq name (codes "Boolean")))))
    (cases_Bool (bytes_eq name (codes "String")))))
    (cases_Bool (bytes_eq name (codes "Int")))

held_by : (k : Kind) (t : TypeData) → CanFill k t → holds_by k t (fill_by k t) ≡ true
held_by Enum t can = name_among t.values can
held_by Scalar t can = scalar_held t.lax t.name
held_by Object t can = absurd can
held_by Interface t can = absurd can
held_by Union t can = absurd can
held_by Input t can = absurd can

fill_held : (s : SchemaData) (of : ℕ) → CanFill (type_at s of).kind (type_at s of) → holds s of (fill_of s of) ≡ true
unfolding holds
fill_held s of can = held_by (type_at s of).kind (type_at s of) can

leaf_is_no_object : (k : Kind) → is_leaf k ≡ true → is_output_only k ≡ false
leaf_is_no_object Scalar h = refl
leaf_is_no_object Enum h = refl
leaf_is_no_object Input h = refl
leaf_is_no_object Object h = absurd (cc)
leaf_is_no_object Interface h = absurd (cc)
leaf_is_no_object Union h = absurd (cc)

same_inside : (shape : ShapeTree) → type_inside shape ≡ innermost shape
unfolding type_inside
same_inside (named_shape of nullable) = refl
same_inside (list_shape item nullable) = same_inside item

module _ (e : Setting) (undeclared : ℕ) (of_schema : IsOfSchema undeclared e) where
  -- ---- places

  field_sound : (T : ℕ) (name : List ℕ) (field : ℕ) → field_named e.schema T name ≡ Some field → IsSoundPlace e (place_of_type e (type_of_field e.schema field))
  field_sound T name field named = ⊎_elim
      (λ (objects : is_composite e.schema (type_of_field e.schema field) ≡ true). rw (objects) (possible_distinct e.schema (type_of_field e.schema field)))
      (λ (leaf : is_composite e.schema (type_of_field e.schema field) ≡ false). rw (leaf)
      (filled_by (type_at e.schema (type_of_field e.schema field)).kind (type_at e.schema (type_of_field e.schema field)), fill_held e.schema (type_of_field e.schema field) (of_schema.fills T name field named leaf)))
      (cases_Bool (is_composite e.schema (type_of_field e.schema field)))

  found_sound : (T : ℕ) (name : List ℕ) (found : Option ℕ) → field_named e.schema T name ≡ found → IsSoundPlace e (place_of e T (field_or_none e.schema found))
  found_sound T name None named = tt
  found_sound T name (Some field) named = field_sound T name field named

  meaning_sound : (T : ℕ) (name : List ℕ) → IsSoundPlace e (place_of e T (meaning_on e.schema (Some T) name))
  meaning_sound T name = ⊎_elim
      (λ (is : bytes_eq name typename ≡ true). rw (is) (refl, refl))
      (λ (other : bytes_eq name typename ≡ false). rw (other) (found_sound T name (field_named e.schema T name) refl))
      (cases_Bool (bytes_eq name typename))

  -- ---- lists

  weighs_nothing : (field : ℕ) → HoldsFreeLeaves e.schema e.weights (field_at e.schema field) → (nullable item_nullable : Bool) → IsCountablePlace (listed nullable item_nullable) None (place_of_type e (type_of_field e.schema field))
  weighs_nothing field free nullable item_nullable =
      let same : type_inside (field_at e.schema field).shape ≡ type_of_field e.schema field = same_inside (field_at e.schema field).shape in
      let leaf : is_composite e.schema (type_of_field e.schema field) ≡ false = leaf_is_no_object (type_at e.schema (type_of_field e.schema field)).kind (subst (λ of. is_leaf (type_at e.schema of).kind ≡ true) same free.of_leaves) in
      rw (leaf) (subst (λ of. (type_in e.weights of).weight ≡ 0) same free.free)

  any_counted : (field : ℕ) (answer : Result Size SizeFault) → (answer ≡ Ok Any → HoldsFreeLeaves e.schema e.weights (field_at e.schema field)) → (nullable item_nullable : Bool) → IsCountablePlace (listed nullable item_nullable) (length_in answer) (place_of_type e (type_of_field e.schema field))
  any_counted field (Ok Any) free nullable item_nullable = weighs_nothing field (free refl) nullable item_nullable
  any_counted field (Ok (At size)) free nullable item_nullable = tt
  any_counted field (Err fault) free nullable item_nullable = tt

  free_leaves : (field : ℕ) (args : List ArgData) (handed : Option ℕ) → declared_size_in e.weights field args handed ≡ Ok Any → HoldsFreeLeaves e.schema e.weights (field_at e.schema field)
  free_leaves field args handed any = subst (λ (w : WeightsData). HoldsFreeLeaves e.schema w (field_at e.schema field)) (sym of_schema.weights)
      (holds_free_leaves e.schema undeclared field args handed (subst (λ (w : WeightsData). declared_size_in w field args handed ≡ Ok Any) of_schema.weights any))

  shape_counted : (field : ℕ) (shape : ShapeTree) (answer : Result Size SizeFault) → (answer ≡ Ok Any → HoldsFreeLeaves e.schema e.weights (field_at e.schema field)) → IsCountablePlace (form_of_shape shape) (size_in (form_of_shape shape) answer) (place_of_type e (type_of_field e.schema field))
  shape_counted field (named_shape of nullable) answer free = tt
  shape_counted field (list_shape item nullable) answer free = any_counted field answer free nullable (is_nullable item)

  meaning_counted : (T : ℕ) (m : Meaning) (args : List ArgData) (handed : Option ℕ) → IsCountablePlace (form_of e.schema m) (size_in (form_of e.schema m) (size_answer e m args handed)) (place_of e T m)
  meaning_counted T (known_field field) args handed = shape_counted field (field_at e.schema field).shape (declared_size_in e.weights field args handed) (free_leaves field args handed)
  meaning_counted T name_of_type args handed = tt
  meaning_counted T no_such_field args handed = tt
  meaning_counted T no_position args handed = tt

  place_sound_at : (T : ℕ) (c : FieldCall) → IsSoundPlace e (place_at e T c)
  unfolding place_at
  place_sound_at T c = meaning_sound T c.name

  list_counted_at : (T : ℕ) (c : FieldCall) (handed : HandedSize) → IsCountablePlace (form_at e T c) (size_at e T c handed) (place_at e T c)
  unfolding form_at size_at size_answer_at place_at
  list_counted_at T c handed = meaning_counted T (meaning_at e T c) (if_coerced (arguments_at e T c)) (handed_in (form_of e.schema (meaning_at e T c)) handed c.name)

  pub setting_sound : IsSoundSetting e
  setting_sound = record { places = place_sound_at; lists = list_counted_at }
