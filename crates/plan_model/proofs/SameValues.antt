-- Values that are compared as equal are equal, and only these.
use Rattle.std.proofs.Common.{◌≡◌, ◌↔◌, ◌&&◌, ℕ, eq-eqb, eqb-true, Bool, true, false, List, [], ◌∷◌, map, Option, None, Some, refl, ap, ap₂, subst}
use Rattle.std.proofs.lemmas.Bool.Decides.{Decides-int_eq}
use Rattle.std.proofs.lemmas.Slice.Eq.{bytes_eq-Decides}
use Rattle.std.specs.Cmp.Derive.{both_true}
use Rattle.std.specs.Str.{bytes_eq}
use Rattle.input_values.specs.values.Coerced.{CoercedTree, CoercedTrees, CoercedFields, coerced_null, coerced_integer, coerced_float, coerced_string, coerced_boolean, coerced_enum, coerced_list, coerced_object, no_coerced, coerced_then, no_coerced_field, coerced_field_then}
use Rattle.schema_model.specs.Arguments.{ArgData}
use Rattle.cost_directives.proofs.FirstsFound.{both}
use Rattle.plan_model.specs.SameArguments.{same_truth, same_value, same_items, same_fields, value_of, same_argument, same_arguments}

pub truth_equal : (a b : Bool) → same_truth a b ≡ true → a ≡ b
truth_equal true true h = refl
truth_equal true false h = absurd (cc)
truth_equal false true h = absurd (cc)
truth_equal false false h = refl

truth_itself : (a : Bool) → same_truth a a ≡ true
truth_itself true = refl
truth_itself false = refl

field_equal : (n m : List ℕ) (t u : CoercedTree) (fs gs : CoercedFields) → n ≡ m → t ≡ u → fs ≡ gs → coerced_field_then n t fs ≡ coerced_field_then m u gs
field_equal n m t u fs gs a b c = cc

mutual
  unfolding same_value same_items same_fields

  pub value_equal : (t u : CoercedTree) → same_value t u ≡ true → t ≡ u
  value_equal coerced_null coerced_null h = refl
  value_equal coerced_null (coerced_integer y) h = absurd (cc)
  value_equal coerced_null (coerced_float y) h = absurd (cc)
  value_equal coerced_null (coerced_string y) h = absurd (cc)
  value_equal coerced_null (coerced_boolean y) h = absurd (cc)
  value_equal coerced_null (coerced_enum y) h = absurd (cc)
  value_equal coerced_null (coerced_list y) h = absurd (cc)
  value_equal coerced_null (coerced_object y) h = absurd (cc)
  value_equal (coerced_integer z) coerced_null h = absurd (cc)
  value_equal (coerced_float z) coerced_null h = absurd (cc)
  value_equal (coerced_integer z) (coerced_integer y) h = ap coerced_integer ((Decides-int_eq z y).0 h)
  value_equal (coerced_integer z) (coerced_float y) h = absurd (cc)
  value_equal (coerced_float z) (coerced_integer y) h = absurd (cc)
  value_equal (coerced_float z) (coerced_float y) h = ap coerced_float (eqb-true z y h)
  value_equal (coerced_integer z) (coerced_string y) h = absurd (cc)
  value_equal (coerced_float z) (coerced_string y) h = absurd (cc)
  value_equal (coerced_integer z) (coerced_boolean y) h = absurd (cc)
  value_equal (coerced_float z) (coerced_boolean y) h = absurd (cc)
  value_equal (coerced_integer z) (coerced_enum y) h = absurd (cc)
  value_equal (coerced_float z) (coerced_enum y) h = absurd (cc)
  value_equal (coerced_integer z) (coerced_list y) h = absurd (cc)
  value_equal (coerced_float z) (coerced_list y) h = absurd (cc)
  value_equal (coerced_integer z) (coerced_object y) h = absurd (cc)
  value_equal (coerced_float z) (coerced_object y) h = absurd (cc)
  value_equal (coerced_string s) coerced_null h = absurd (cc)
  value_equal (coerced_string s) (coerced_integer y) h = absurd (cc)
  value_equal (coerced_string s) (coerced_float y) h = absurd (cc)
  value_equal (coerced_string s) (coerced_string y) h = ap coerced_string ((bytes_eq-Decides s y).0 h)
  value_equal (coerced_string s) (coerced_boolean y) h = absurd (cc)
  value_equal (coerced_string s) (coerced_enum y) h = absurd (cc)
  value_equal (coerced_string s) (coerced_list y) h = absurd (cc)
  value_equal (coerced_string s) (coerced_object y) h = absurd (cc)
  value_equal (coerced_boolean b) coerced_null h = absurd (cc)
  value_equal (coerced_boolean b) (coerced_integer y) h = absurd (cc)
  value_equal (coerced_boolean b) (coerced_float y) h = absurd (cc)
  value_equal (coerced_boolean b) (coerced_string y) h = absurd (cc)
  value_equal (coerced_boolean b) (coerced_boolean y) h = ap coerced_boolean (truth_equal b y h)
  value_equal (coerced_boolean b) (coerced_enum y) h = absurd (cc)
  value_equal (coerced_boolean b) (coerced_list y) h = absurd (cc)
  value_equal (coerced_boolean b) (coerced_object y) h = absurd (cc)
  value_equal (coerced_enum name) coerced_null h = absurd (cc)
  value_equal (coerced_enum name) (coerced_integer y) h = absurd (cc)
  value_equal (coerced_enum name) (coerced_float y) h = absurd (cc)
  value_equal (coerced_enum name) (coerced_string y) h = absurd (cc)
  value_equal (coerced_enum name) (coerced_boolean y) h = absurd (cc)
  value_equal (coerced_enum name) (coerced_enum y) h = ap coerced_enum ((bytes_eq-Decides name y).0 h)
  value_equal (coerced_enum name) (coerced_list y) h = absurd (cc)
  value_equal (coerced_enum name) (coerced_object y) h = absurd (cc)
  value_equal (coerced_list items) coerced_null h = absurd (cc)
  value_equal (coerced_list items) (coerced_integer y) h = absurd (cc)
  value_equal (coerced_list items) (coerced_float y) h = absurd (cc)
  value_equal (coerced_list items) (coerced_string y) h = absurd (cc)
  value_equal (coerced_list items) (coerced_boolean y) h = absurd (cc)
  value_equal (coerced_list items) (coerced_enum y) h = absurd (cc)
  value_equal (coerced_list items) (coerced_list y) h = ap coerced_list (items_equal items y h)
  value_equal (coerced_list items) (coerced_object y) h = absurd (cc)
  value_equal (coerced_object fields) coerced_null h = absurd (cc)
  value_equal (coerced_object fields) (coerced_integer y) h = absurd (cc)
  value_equal (coerced_object fields) (coerced_float y) h = absurd (cc)
  value_equal (coerced_object fields) (coerced_string y) h = absurd (cc)
  value_equal (coerced_object fields) (coerced_boolean y) h = absurd (cc)
  value_equal (coerced_object fields) (coerced_enum y) h = absurd (cc)
  value_equal (coerced_object fields) (coerced_list y) h = absurd (cc)
  value_equal (coerced_object fields) (coerced_object y) h = ap coerced_object (fields_equal fields y h)

  items_equal : (ts us : CoercedTrees) → same_items ts us ≡ true → ts ≡ us
  items_equal no_coerced no_coerced h = refl
  items_equal no_coerced (coerced_then u us) h = absurd (cc)
  items_equal (coerced_then t ts) no_coerced h = absurd (cc)
  items_equal (coerced_then t ts) (coerced_then u us) h = let parts = both (same_value t u) (same_items ts us) h in ap₂ coerced_then (value_equal t u parts.0) (items_equal ts us parts.1)

  fields_equal : (fs gs : CoercedFields) → same_fields fs gs ≡ true → fs ≡ gs
  fields_equal no_coerced_field no_coerced_field h = refl
  fields_equal no_coerced_field (coerced_field_then m u gs) h = absurd (cc)
  fields_equal (coerced_field_then n t fs) no_coerced_field h = absurd (cc)
  fields_equal (coerced_field_then n t fs) (coerced_field_then m u gs) h =
      let parts = both (bytes_eq n m) (same_value t u && same_fields fs gs) h in
      let others = both (same_value t u) (same_fields fs gs) parts.1 in
      field_equal n m t u fs gs ((bytes_eq-Decides n m).0 parts.0) (value_equal t u others.0) (fields_equal fs gs others.1)

mutual
  unfolding same_value same_items same_fields

  value_itself : (t : CoercedTree) → same_value t t ≡ true
  value_itself coerced_null = refl
  value_itself (coerced_integer z) = (Decides-int_eq z z).1 refl
  value_itself (coerced_float z) = eq-eqb z z refl
  value_itself (coerced_string s) = (bytes_eq-Decides s s).1 refl
  value_itself (coerced_boolean b) = truth_itself b
  value_itself (coerced_enum name) = (bytes_eq-Decides name name).1 refl
  value_itself (coerced_list items) = items_themselves items
  value_itself (coerced_object fields) = fields_themselves fields

  items_themselves : (ts : CoercedTrees) → same_items ts ts ≡ true
  items_themselves no_coerced = refl
  items_themselves (coerced_then t ts) = both_true (value_itself t) (items_themselves ts)

  fields_themselves : (fs : CoercedFields) → same_fields fs fs ≡ true
  fields_themselves no_coerced_field = refl
  fields_themselves (coerced_field_then n t fs) = both_true ((bytes_eq-Decides n n).1 refl) (both_true (value_itself t) (fields_themselves fs))

argument_equal : (o p : Option CoercedTree) → same_argument o p ≡ true → o ≡ p
argument_equal None None h = refl
argument_equal None (Some u) h = absurd (cc)
argument_equal (Some t) None h = absurd (cc)
argument_equal (Some t) (Some u) h = ap Some (value_equal t u h)

argument_itself : (o : Option CoercedTree) → same_argument o o ≡ true
argument_itself None = refl
argument_itself (Some t) = value_itself t

arguments_equal : (xs ys : List ArgData) → same_arguments xs ys ≡ true → map value_of xs ≡ map value_of ys
arguments_equal [] [] h = refl
arguments_equal [] (y ∷ ys) h = absurd (cc)
arguments_equal (x ∷ xs) [] h = absurd (cc)
arguments_equal (x ∷ xs) (y ∷ ys) h = let parts = both (same_argument x.value y.value) (same_arguments xs ys) h in ap₂ (λ (o : Option CoercedTree) (os : List (Option CoercedTree)). o ∷ os) (argument_equal x.value y.value parts.0) (arguments_equal xs ys parts.1)

abbrev first_or : Option CoercedTree → List (Option CoercedTree) → Option CoercedTree
first_or d [] = d
first_or d (o ∷ os) = o

abbrev rest_of : List (Option CoercedTree) → List (Option CoercedTree)
rest_of [] = []
rest_of (o ∷ os) = os

arguments_same : (xs ys : List ArgData) → map value_of xs ≡ map value_of ys → same_arguments xs ys ≡ true
arguments_same [] [] h = refl
arguments_same [] (y ∷ ys) h = absurd (cc)
arguments_same (x ∷ xs) [] h = absurd (cc)
arguments_same (x ∷ xs) (y ∷ ys) h = both_true (subst (λ (o : Option CoercedTree). same_argument x.value o ≡ true) (ap (first_or None) h) (argument_itself x.value)) (arguments_same xs ys (ap rest_of h))

pub same_as_equal : (xs ys : List ArgData) → (same_arguments xs ys ≡ true) ↔ (map value_of xs ≡ map value_of ys)
same_as_equal xs ys = (arguments_equal xs ys, arguments_same xs ys)
