-- Literals at places: variables, lists and objects.
use Rattle.std.proofs.Common.{◌≡◌, Bool, List, Vec, Global, sym, ap, ◌∙◌, subst}
use Rattle.gql_base.specs.declared.parts.trees.Name.{Name}
use Rattle.gql_base.specs.declared.parts.trees.Value.{Value}
use Rattle.gql_base.specs.declared.parts.trees.Value.TheBlock.{Var as VarValue}
use Rattle.gql_base.specs.declared.parts.trees.Value.TheViews.{List as ListValue, Object as ObjectValue}
use Rattle.gql_base.specs.declared.parts.trees.Argument.{Argument}
use Rattle.gql_base.specs.parts.Trees.{value_tree}
use Rattle.gql_base.proofs.PartLaws.ValueSteps.{variable_tree}
use Rattle.input_values.specs.values.Coerced.{CoercedTree}
use Rattle.input_values.specs.inputs.Shapes.{ShapeTree, list_shape}
use Rattle.input_values.specs.coercion.Coercion.{coerced}
use Rattle.input_values.specs.coercion.Given.{given_list}
use Rattle.input_values.specs.coercion.Literals.{literal_given, literal_items, variable_given}
use Rattle.input_values.specs.coercion.Places.{single_at}
use Rattle.input_values.specs.coercion.Sizes.{items_written}
use Rattle.input_values.proofs.CoercionSteps.Lists.{list_literal, object_literal}
use Rattle.schema_model.specs.InputForms.{input_forms}
use Rattle.literal_loads.specs.declared.load.Load.{Load}
use Rattle.literal_loads.specs.Loads.{Scale, ComesTo, Weighs, WeighsList, WeighsLiteral, WeighsVariable, list_answer, object_answer}
use Rattle.literal_loads.specs.Comparing.{value_in, AreLike, AreSame}

module _ (e : Scale) (s : ShapeTree) (v : Value) (load : Load) where
  pub variable_literal : (n : Name) → v ≡ VarValue n → WeighsVariable e s n.text load → WeighsLiteral e s v load
  variable_literal n is weighs = subst (λ g. Weighs e s (coerced (input_forms e.schema) g s) load) (ap (literal_given e.values) (sym (ap value_tree is ∙ variable_tree n))) weighs

  pub list_weighs : (item : ShapeTree) (nullable : Bool) (w : Vec Value Global) (items : List Value) → s ≡ list_shape item nullable → v ≡ ListValue w → items ≡ w.items → WeighsList e item (list_answer e items item) load → WeighsLiteral e s v load
  list_weighs item nullable w items is value seen weighs =
      subst (λ g. Weighs e s (coerced (input_forms e.schema) g s) load) (list_literal e.values v w items value seen)
      (subst (λ x. Weighs e x (coerced (input_forms e.schema) (given_list (literal_items e.values (items_written items))) x) load) (sym is) (weighs nullable))

  pub object_literal_weighs : (w : Vec Argument Global) (fields : List Argument) → v ≡ ObjectValue w → fields ≡ w.items → Weighs e s (single_at (object_answer e fields) s) load → WeighsLiteral e s v load
  object_literal_weighs w fields value seen weighs = subst (λ g. Weighs e s (coerced (input_forms e.schema) g s) load) (object_literal e.values v w fields value seen) weighs

-- ---- leaves

pub alike_variables : (v w : Value) (n m : Name) → v ≡ VarValue n → w ≡ VarValue m → n.text ≡ m.text → AreLike v w
alike_variables v w n m is is_too same = λ values. ap (literal_given values) (ap value_tree is ∙ variable_tree n) ∙ (ap (λ t. variable_given (values t)) same ∙ sym (ap (literal_given values) (ap value_tree is_too ∙ variable_tree m)))

pub same_by_likeness : (e : Scale) (s : ShapeTree) (v w : Value) → AreLike v w → AreSame e s v w
same_by_likeness e s v w alike = ap (λ g. value_in (coerced (input_forms e.schema) g s)) (alike e.values)

pub same_by_value : (e : Scale) (s : ShapeTree) (v w : Value) (t : CoercedTree) → ComesTo e s v t → ComesTo e s w t → AreSame e s v w
same_by_value e s v w t one other = ap value_in one.0 ∙ sym (ap value_in other.0)
