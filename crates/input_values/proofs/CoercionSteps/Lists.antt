-- Lists and objects of a literal at their places.
use Rattle.std.proofs.Common.{◌≡◌, ◌+◌, ◌<◌, ◌≤◌, ℕ, suc, Bool, true, false, List, [], ◌++◌, length, drop, get_or, Vec, Global, Option, Result, Ok, refl, sym, ap, ◌∙◌, subst, arith}
use Rattle.std.proofs.lemmas.List.{drop_all}
use Rattle.gql_base.specs.declared.parts.trees.Value.{Value}
use Rattle.gql_base.specs.declared.parts.trees.Argument.{Argument}
use Rattle.gql_base.specs.declared.parts.trees.Value.TheViews.{List as ListValue, Object as ObjectValue}
use Rattle.gql_base.specs.parts.Trees.{value_tree}
use Rattle.gql_base.specs.parts.Values.{list_value, object_value}
use Rattle.gql_base.proofs.PartLaws.ValueSteps.{list_tree, object_tree}
use Rattle.input_values.specs.values.Coerced.{CoercedTree, CoercedTrees, coerced_list, CoercedFields, no_coerced, no_coerced_field, NamedTree}
use Rattle.input_values.specs.inputs.Shapes.{ShapeTree, named_shape, list_shape}
use Rattle.input_values.specs.declared.values.coerced.Coerced.{Coerced}
use Rattle.input_values.specs.declared.coercion.faults.CoercionFault.{CoercionFault}
use Rattle.input_values.specs.coercion.Answers.{Answer, item_step, at_step, mapped}
use Rattle.input_values.specs.coercion.Given.{given_list, given_object, given_names}
use Rattle.input_values.specs.coercion.Forms.{InputForm, integer_form, string_form, boolean_form, id_form, float_form, custom_form, lax_form, enum_form, object_form, no_form, FieldForm, fields_of}
use Rattle.input_values.specs.coercion.Leaves.{custom_at}
use Rattle.input_values.specs.coercion.Customs.{any_value}
use Rattle.input_values.specs.coercion.Objects.{Finder, wrong_name, fields_at, object_of, object_by, object_at}
use Rattle.input_values.specs.coercion.Coercion.{coerced, items_coerced}
use Rattle.input_values.specs.coercion.Literals.{Environment, no_variables, literal_given, literal_items, literal_fields}
use Rattle.input_values.specs.coercion.Sizes.{items_written, fields_written, names_written}
use Rattle.input_values.specs.coercion.Calls.{Coerces, tree_in}
use Rattle.input_values.specs.coercion.Left.{ItemsLeft, FieldsLeft, one_item}
use Rattle.input_values.proofs.CoercionSteps.Pieces.{item_left, stepped_coerces}
use Rattle.input_values.proofs.CoercionSteps.Literals.{items_front, names_given, any_alike}

pub same_answer : (limit before after : ℕ) (r : Result (Option Coerced) CoercionFault) (a b : Answer CoercedTree) → a ≡ b → Coerces limit before after r a → Coerces limit before after r b
same_answer limit before after r a b e h = subst (λ x. Coerces limit before after r x) e h

-- a literal that is a list, and one that is an object
pub list_literal : (env : Environment) (v : Value) (w : Vec Value Global) (items : List Value) → v ≡ ListValue w → items ≡ w.items → given_list (literal_items env (items_written items)) ≡ literal_given env (value_tree v)
list_literal env v w items is seen = ap (λ l. given_list (literal_items env (items_written l))) seen ∙ ap (literal_given env) (sym (ap value_tree is ∙ list_tree w))

pub object_literal : (env : Environment) (v : Value) (w : Vec Argument Global) (fields : List Argument) → v ≡ ObjectValue w → fields ≡ w.items → given_object false (literal_fields env (fields_written fields)) ≡ literal_given env (value_tree v)
object_literal env v w fields is seen = ap (λ l. given_object false (literal_fields env (fields_written l))) seen ∙ ap (literal_given env) (sym (ap value_tree is ∙ object_tree w))

-- a value of which a custom scalar alone makes something
same_any : (form : InputForm) (any other : Bool → Answer CoercedTree) → ((lax : Bool) → any lax ≡ other lax) → custom_at form any ≡ custom_at form other
same_any integer_form any other same = refl
same_any string_form any other same = refl
same_any boolean_form any other same = refl
same_any id_form any other same = refl
same_any float_form any other same = refl
same_any custom_form any other same = same false
same_any lax_form any other same = same true
same_any (enum_form names) any other same = refl
same_any (object_form fields) any other same = refl
same_any no_form any other same = refl

-- a list at a named type, and at a list
pub list_named : (form : ℕ → InputForm) (env : Environment) (vs : List Value) (s : ShapeTree) (of : ℕ) (n : Bool) → s ≡ named_shape of n → custom_at (form of) (λ lax. any_value lax (given_list (literal_items no_variables (items_written vs)))) ≡ coerced form (given_list (literal_items env (items_written vs))) s
list_named form env vs s of n is =
    same_any (form of) (λ lax. any_value lax (given_list (literal_items no_variables (items_written vs)))) (λ lax. any_value lax (given_list (literal_items env (items_written vs)))) (λ lax. sym (any_alike lax env (list_value (items_written vs))))
    ∙ ap (coerced form (given_list (literal_items env (items_written vs)))) (sym is)

pub list_listed : (form : ℕ → InputForm) (env : Environment) (vs : List Value) (s i : ShapeTree) (n : Bool) → s ≡ list_shape i n → mapped coerced_list (items_coerced form 0 (literal_items env (items_written vs)) i) ≡ coerced form (given_list (literal_items env (items_written vs))) s
list_listed form env vs s i n is = ap (coerced form (given_list (literal_items env (items_written vs)))) (sym is)

-- an object at an input object, and at a custom scalar
pub object_fields : (form : InputForm) (env : Environment) (find : Finder) (fs : List Argument) → form ≡ object_form (fields_of form) → object_of (wrong_name false (fields_of form) [] (names_written fs)) (fields_at (fields_of form) find) ≡ object_at form false (literal_fields env (fields_written fs)) find
object_fields form env find fs is =
    ap (λ names. object_of (wrong_name false (fields_of form) [] names) (fields_at (fields_of form) find)) (sym (names_given env fs))
    ∙ ap (λ f. object_by f (λ inputs. object_of (wrong_name false inputs [] (given_names (literal_fields env (fields_written fs)))) (fields_at inputs find)) (λ lax. any_value lax (given_object false (literal_fields env (fields_written fs))))) (sym is)

pub object_custom : (form : InputForm) (env : Environment) (find : Finder) (fs : List Argument) → form ≡ custom_form → any_value false (given_object false (literal_fields no_variables (fields_written fs))) ≡ object_at form false (literal_fields env (fields_written fs)) find
object_custom form env find fs is =
    sym (any_alike false env (object_value (fields_written fs)))
    ∙ ap (λ f. object_by f (λ inputs. object_of (wrong_name false inputs [] (given_names (literal_fields env (fields_written fs)))) (fields_at inputs find)) (λ lax. any_value lax (given_object false (literal_fields env (fields_written fs))))) (sym is)

pub object_lax : (form : InputForm) (env : Environment) (find : Finder) (fs : List Argument) → form ≡ lax_form → any_value true (given_object false (literal_fields no_variables (fields_written fs))) ≡ object_at form false (literal_fields env (fields_written fs)) find
object_lax form env find fs is =
    sym (any_alike true env (object_value (fields_written fs)))
    ∙ ap (λ f. object_by f (λ inputs. object_of (wrong_name false inputs [] (given_names (literal_fields env (fields_written fs)))) (fields_at inputs find)) (λ lax. any_value lax (given_object false (literal_fields env (fields_written fs))))) (sym is)

-- the next item
pub literal_item_left : (limit : ℕ) (form : ℕ → InputForm) (env : Environment) (s : ShapeTree) (vs : List Value) (at : ℕ) (v : Value) (built more : List CoercedTree) (before now mid : ℕ) (r : Option Coerced) (whole : Answer CoercedTrees) → at < length vs → v ≡ get_or vs at v
    → ItemsLeft limit built before now (items_coerced form at (literal_items env (items_written (drop at vs))) s) whole → Coerces limit now mid (Ok r) (coerced form (literal_given env (value_tree v)) s) → more ≡ built ++ one_item (tree_in r)
    → ItemsLeft limit more before mid (items_coerced form (at + 1) (literal_items env (items_written (drop (at + 1) vs))) s) whole
literal_item_left limit form env s vs at v built more before now mid r whole within is left c e =
    let next : suc at ≡ at + 1 = omega arith in
    let rest = literal_items env (items_written (drop (at + 1) vs)) in
    let here = coerced form (literal_given env (value_tree v)) s in
    subst (λ n. ItemsLeft limit more before mid (items_coerced form n rest s) whole) next
    (item_left limit built more before now mid r (at_step (item_step at) here) (items_coerced form (suc at) rest s) whole
    (subst (λ gs. ItemsLeft limit built before now (items_coerced form at gs s) whole) (items_front env vs at v within is) left) (stepped_coerces limit now mid r (item_step at) here c) e)

pub no_item_left : (limit : ℕ) (form : ℕ → InputForm) (env : Environment) (s : ShapeTree) (vs : List Value) (at : ℕ) (built : List CoercedTree) (before now : ℕ) (whole : Answer CoercedTrees) → length vs ≤ at
    → ItemsLeft limit built before now (items_coerced form at (literal_items env (items_written (drop at vs))) s) whole → ItemsLeft limit built before now (Ok no_coerced) whole
no_item_left limit form env s vs at built before now whole end left = subst (λ l. ItemsLeft limit built before now (items_coerced form at (literal_items env (items_written l)) s) whole) (drop_all at vs end) left

pub no_field_left : (limit : ℕ) (fields : List FieldForm) (find : Finder) (at : ℕ) (built : List NamedTree) (before now : ℕ) (whole : Answer CoercedFields) → length fields ≤ at
    → FieldsLeft limit built before now (fields_at (drop at fields) find) whole → FieldsLeft limit built before now (Ok no_coerced_field) whole
no_field_left limit fields find at built before now whole end left = subst (λ l. FieldsLeft limit built before now (fields_at l find) whole) (drop_all at fields end) left
