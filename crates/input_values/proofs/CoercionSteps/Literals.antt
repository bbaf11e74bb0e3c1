-- Literals that are looked at, item by item and field by field.
use Rattle.std.proofs.Common.{◌≡◌, ◌+◌, ◌<◌, ℕ, zero, suc, Bool, false, Ok, List, [], ◌∷◌, ◌++◌, length, drop, get_or, Option, Some, None, refl, sym, ap, ap₂, ◌∙◌, subst, arith}
use Rattle.gql_base.specs.names.Names.{are_distinct}
use Rattle.gql_base.specs.declared.parts.trees.Value.{Value}
use Rattle.gql_base.specs.declared.parts.trees.Argument.{Argument}
use Rattle.gql_base.specs.parts.Trees.{value_tree, named_value}
use Rattle.gql_base.specs.parts.Values.{ValueTree, variable_value, integer_value, float_value, string_value, boolean_value, null_value, enum_value, list_value, object_value, ValueTrees, no_value, value_then, FieldTrees, no_field, field_then}
use Rattle.gql_base.proofs.PrintingLaws.PrintSteps.{open_argument}
use Rattle.gql_base.proofs.PartLaws.ValueSteps.{variable_tree, integer_tree, float_tree, string_tree, boolean_tree, null_tree, enum_tree, list_tree, object_tree}
use Rattle.input_values.specs.values.Coerced.{CoercedTree, coerced_list, CoercedTrees, CoercedFields, coerced_field_then, NamedTree}
use Rattle.input_values.specs.declared.values.coerced.Coerced.{Coerced}
use Rattle.input_values.specs.declared.coercion.faults.CoercionFault.{CoercionFault}
use Rattle.input_values.specs.coercion.Calls.{Tells, Coerces, tree_in}
use Rattle.input_values.specs.coercion.Left.{ItemsLeft, FieldsLeft, one_item, one_field}
use Rattle.input_values.specs.coercion.Answers.{Answer, mapped, both}
use Rattle.input_values.specs.coercion.Given.{given_then, given_object, given_field_then, given_names}
use Rattle.input_values.specs.coercion.Customs.{any_object, any_value, any_items, any_fields}
use Rattle.input_values.specs.coercion.Literals.{Environment, no_variables, variable_given, literal_given, literal_items, literal_fields}
use Rattle.input_values.specs.coercion.Sizes.{items_written, fields_written, names_written, tree_size, items_size, fields_size}
use Rattle.gql_base.proofs.Lists.{at_front}
use Rattle.input_values.proofs.CoercionSteps.Pieces.{item_left, member_left, item_refused, field_refused}

pub ruleset literal_trees = (variable_tree, integer_tree, float_tree, string_tree, boolean_tree, null_tree, enum_tree, list_tree, object_tree)

-- ## What is in front

pub items_front : (env : Environment) (vs : List Value) (at : ℕ) (v : Value) → at < length vs → v ≡ get_or vs at v → literal_items env (items_written (drop at vs)) ≡ given_then (literal_given env (value_tree v)) (literal_items env (items_written (drop (at + 1) vs)))
items_front env vs at v within is = ap (λ l. literal_items env (items_written l)) (at_front vs at v within is)

pub fields_front : (env : Environment) (fs : List Argument) (at : ℕ) (f : Argument) → at < length fs → f ≡ get_or fs at f
    → literal_fields env (fields_written (drop at fs)) ≡ given_field_then f.name.text (literal_given env (value_tree f.value)) (literal_fields env (fields_written (drop (at + 1) fs)))
fields_front env fs at f within is =
    ap (λ l. literal_fields env (fields_written l)) (at_front fs at f within is)
    ∙ ap (λ p. given_field_then p.0.0 (literal_given env p.1) (literal_fields env (fields_written (drop (at + 1) fs)))) (open_argument f)

pub names_given : (env : Environment) (fs : List Argument) → given_names (literal_fields env (fields_written fs)) ≡ names_written fs
names_given env [] = refl
names_given env (f ∷ fs) = ap₂ (λ p names. p.0.0 ∷ names) (open_argument f) (names_given env fs)

-- ## What is inside is smaller

pub item_smaller : (vs : List Value) (at : ℕ) (v : Value) → at < length vs → v ≡ get_or vs at v → tree_size (value_tree v) < items_size (items_written vs)
item_smaller [] at v within is = absurd (omega (arith, within))
item_smaller (w ∷ vs) zero v within is = let e = ap (λ x. tree_size (value_tree x)) is in omega (arith, e)
item_smaller (w ∷ vs) (suc at) v within is = let h = item_smaller vs at v (omega (arith, within)) is in omega (arith, h)

pub field_smaller : (fs : List Argument) (at : ℕ) (f : Argument) → at < length fs → f ≡ get_or fs at f → tree_size (value_tree f.value) < fields_size (fields_written fs)
field_smaller [] at f within is = absurd (omega (arith, within))
field_smaller (g ∷ fs) zero f within is = let e = ap (λ x. tree_size (named_value x).1) is ∙ refl in let o = ap (λ p. tree_size p.1) (open_argument f) in omega (arith, e, o)
field_smaller (g ∷ fs) (suc at) f within is = let h = field_smaller fs at f (omega (arith, within)) is in omega (arith, h)

-- ## Custom scalars, one more

pub any_item_left : (lax : Bool) (limit : ℕ) (vs : List Value) (at : ℕ) (v : Value) (built more : List CoercedTree) (before now mid : ℕ) (r : Option Coerced) (whole : Answer CoercedTrees) → at < length vs → v ≡ get_or vs at v
    → ItemsLeft limit built before now (any_items lax (literal_items no_variables (items_written (drop at vs)))) whole → Coerces limit now mid (Ok r) (any_value lax (literal_given no_variables (value_tree v))) → more ≡ built ++ one_item (tree_in r)
    → ItemsLeft limit more before mid (any_items lax (literal_items no_variables (items_written (drop (at + 1) vs)))) whole
any_item_left lax limit vs at v built more before now mid r whole within is left c e =
    item_left limit built more before now mid r (any_value lax (literal_given no_variables (value_tree v))) (any_items lax (literal_items no_variables (items_written (drop (at + 1) vs)))) whole
    (subst (λ gs. ItemsLeft limit built before now (any_items lax gs) whole) (items_front no_variables vs at v within is) left) c e

pub any_field_left : (lax : Bool) (limit : ℕ) (fs : List Argument) (at : ℕ) (f : Argument) (told : List ℕ) (built more : List NamedTree) (before now mid : ℕ) (r : Option Coerced) (whole : Answer CoercedFields) → at < length fs → f ≡ get_or fs at f → told ≡ f.name.text
    → FieldsLeft limit built before now (any_fields lax (literal_fields no_variables (fields_written (drop at fs)))) whole → Coerces limit now mid (Ok r) (any_value lax (literal_given no_variables (value_tree f.value))) → more ≡ built ++ one_field told (tree_in r)
    → FieldsLeft limit more before mid (any_fields lax (literal_fields no_variables (fields_written (drop (at + 1) fs)))) whole
any_field_left lax limit fs at f told built more before now mid r whole within is name left c e =
    member_left limit built more f.name.text told before now mid r (any_value lax (literal_given no_variables (value_tree f.value))) (any_fields lax (literal_fields no_variables (fields_written (drop (at + 1) fs)))) whole name
    (subst (λ gs. FieldsLeft limit built before now (any_fields lax gs) whole) (fields_front no_variables fs at f within is) left) c e

pub any_item_refused : (lax : Bool) (limit : ℕ) (vs : List Value) (at : ℕ) (v : Value) (built : List CoercedTree) (before now : ℕ) (f : CoercionFault) (whole : Answer CoercedTrees) → at < length vs → v ≡ get_or vs at v
    → ItemsLeft limit built before now (any_items lax (literal_items no_variables (items_written (drop at vs)))) whole → Tells f (any_value lax (literal_given no_variables (value_tree v))) → Tells f whole
any_item_refused lax limit vs at v built before now f whole within is left h =
    item_refused limit built before now f (any_value lax (literal_given no_variables (value_tree v))) (any_items lax (literal_items no_variables (items_written (drop (at + 1) vs)))) whole
    (subst (λ gs. ItemsLeft limit built before now (any_items lax gs) whole) (items_front no_variables vs at v within is) left) h

pub any_field_refused : (lax : Bool) (limit : ℕ) (fs : List Argument) (at : ℕ) (a : Argument) (built : List NamedTree) (before now : ℕ) (f : CoercionFault) (whole : Answer CoercedFields) → at < length fs → a ≡ get_or fs at a
    → FieldsLeft limit built before now (any_fields lax (literal_fields no_variables (fields_written (drop at fs)))) whole → Tells f (any_value lax (literal_given no_variables (value_tree a.value))) → Tells f whole
any_field_refused lax limit fs at a built before now f whole within is left h =
    field_refused limit built before now f (coerced_field_then a.name.text) (any_value lax (literal_given no_variables (value_tree a.value))) (any_fields lax (literal_fields no_variables (fields_written (drop (at + 1) fs)))) whole
    (subst (λ gs. FieldsLeft limit built before now (any_fields lax gs) whole) (fields_front no_variables fs at a within is) left) h

pub object_if_distinct : (lax : Bool) (env : Environment) (fs : List Argument) (distinct : Bool) → distinct ≡ are_distinct (names_written fs) → any_value lax (given_object false (literal_fields env (fields_written fs))) ≡ any_object distinct (any_fields lax (literal_fields env (fields_written fs)))
object_if_distinct lax env fs distinct is = ap (λ b. any_object b (any_fields lax (literal_fields env (fields_written fs)))) (ap are_distinct (names_given env fs) ∙ sym is)

-- ## A custom scalar's value doesn't hang on variables

module _ (lax : Bool) (env : Environment) where
  variable_refused : (o : Option CoercedTree) → any_value lax (variable_given o) ≡ any_value lax (variable_given None)
  variable_refused None = refl
  variable_refused (Some t) = refl

  mutual
    pub any_alike : (v : ValueTree) → any_value lax (literal_given env v) ≡ any_value lax (literal_given no_variables v)
    any_alike (variable_value name at) = variable_refused (env name)
    any_alike (integer_value z) = refl
    any_alike (float_value digits) = refl
    any_alike (string_value s) = refl
    any_alike (boolean_value b) = refl
    any_alike null_value = refl
    any_alike (enum_value name at) = refl
    any_alike (list_value vs) = ap (mapped coerced_list) (items_alike vs)
    any_alike (object_value fs) = ap₂ (λ names fields. any_object (are_distinct names) fields) (names_alike fs) (fields_alike fs)

    items_alike : (vs : ValueTrees) → any_items lax (literal_items env vs) ≡ any_items lax (literal_items no_variables vs)
    items_alike no_value = refl
    items_alike (value_then v vs) = ap₂ (both _) (any_alike v) (items_alike vs)

    fields_alike : (fs : FieldTrees) → any_fields lax (literal_fields env fs) ≡ any_fields lax (literal_fields no_variables fs)
    fields_alike no_field = refl
    fields_alike (field_then name at v fs) = ap₂ (both _) (any_alike v) (fields_alike fs)

    names_alike : (fs : FieldTrees) → given_names (literal_fields env fs) ≡ given_names (literal_fields no_variables fs)
    names_alike no_field = refl
    names_alike (field_then name at v fs) = ap (λ names. name ∷ names) (names_alike fs)
