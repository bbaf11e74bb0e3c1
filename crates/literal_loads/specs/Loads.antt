-- What values come to: how many nodes they have, and what they cost. Costs are in millionths.
use Rattle.std.specs.Prelude.{◌≡◌, ◌≤◌, ℕ, Bool, false, List, get_or, Option, None, Ok}
use Rattle.gql_base.specs.declared.parts.trees.Value.{Value}
use Rattle.gql_base.specs.declared.parts.trees.Argument.{Argument}
use Rattle.gql_base.specs.parts.Trees.{value_tree}
use Rattle.input_values.specs.values.Coerced.{CoercedTree, CoercedTrees, CoercedFields, NamedTree, coerced_list, nodes, item_nodes, field_nodes}
use Rattle.input_values.specs.inputs.Shapes.{ShapeTree, named_shape, list_shape}
use Rattle.input_values.specs.coercion.Answers.{Answer, mapped}
use Rattle.input_values.specs.coercion.Coercion.{coerced, items_coerced, find_coerced}
use Rattle.input_values.specs.coercion.Literals.{Environment, literal_given, literal_items, literal_fields, variable_given}
use Rattle.input_values.specs.coercion.Objects.{object_at}
use Rattle.input_values.specs.coercion.Places.{innermost}
use Rattle.input_values.specs.coercion.Sizes.{items_written, fields_written}
use Rattle.schema_model.specs.SchemaData.{SchemaData}
use Rattle.schema_model.specs.InputForms.{input_forms}
use Rattle.cost_directives.specs.ArgumentCosts.{ObjectInputs, InputWeightData, value_cost, items_cost, fields_cost, field_cost}
use Rattle.cost_directives.specs.Weights.{WeightsData, objects_in}
use Rattle.variable_coercion.specs.Refusals.{value_limit}
use Rattle.literal_loads.specs.declared.load.Load.{Load}
use Rattle.literal_loads.specs.declared.load.Sum.{Sum}
use Rattle.literal_loads.specs.LoadSums.{cost_at}

-- What literals are weighed by.
pub record Scale : Type 0 where
  pub schema : SchemaData
  pub weights : WeightsData
  -- the values of variables, by their names
  pub values : Environment

-- ---- values

-- a value at a place of this shape, whatever weight of its own the place has
pub record IsLoad (e : Scale) (shape : ShapeTree) (t : CoercedTree) (load : Load) : Type 0 where
  pub size : load.nodes ≡ nodes t
  pub price : (own : Option ℕ) → cost_at own load ≡ value_cost (objects_in e.weights) shape own t

-- items of a list, each at a place of this shape
pub record AreLoads (e : Scale) (item : ShapeTree) (ts : CoercedTrees) (load : Load) : Type 0 where
  pub size : load.nodes ≡ item_nodes ts
  pub price : (own : Option ℕ) → cost_at own load ≡ items_cost (objects_in e.weights) item own ts

-- the inputs of the input object type that places of this shape have; none at other places
abbrev pub inputs_there : ObjectInputs → ShapeTree → Option (List InputWeightData)
inputs_there objects (named_shape of nullable) = get_or objects of None
inputs_there objects (list_shape item nullable) = None

-- Nothing is paid for what an input is given: it has no weight of its own, and its type has no inputs.
abbrev pub IsFree : ObjectInputs → InputWeightData → Type 0
IsFree objects i = (i.own ≡ None) × (get_or objects (innermost i.shape) None ≡ None)

-- a field of an input object with these inputs
pub record IsField (e : Scale) (inputs : List InputWeightData) (field : NamedTree) (sum : Sum) : Type 0 where
  pub fine : sum.refused ≡ 0
  pub size : sum.nodes ≡ nodes field.1
  pub price : sum.cost ≡ field_cost (objects_in e.weights) inputs field

-- all of its fields
pub record AreFields (e : Scale) (inputs : List InputWeightData) (fields : CoercedFields) (sum : Sum) : Type 0 where
  pub fine : sum.refused ≡ 0
  pub size : sum.nodes ≡ field_nodes fields
  pub price : sum.cost ≡ fields_cost (objects_in e.weights) inputs fields

-- what is coerced there
abbrev pub Weighs : Scale → ShapeTree → Answer CoercedTree → Load → Type 0
Weighs e shape answer load = (t : CoercedTree) × (answer ≡ Ok t) × IsLoad e shape t load

-- at a named type, and at a list of such items, whether or not null may stand there
abbrev pub WeighsNamed : Scale → ℕ → Answer CoercedTree → Load → Type 0
WeighsNamed e of answer load = (nullable : Bool) → Weighs e (named_shape of nullable) answer load

abbrev pub WeighsList : Scale → ShapeTree → Answer CoercedTree → Load → Type 0
WeighsList e item answer load = (nullable : Bool) → Weighs e (list_shape item nullable) answer load

-- ---- what literals come to

abbrev pub literal_answer : Scale → Value → ShapeTree → Answer CoercedTree
literal_answer e value shape = coerced (input_forms e.schema) (literal_given e.values (value_tree value)) shape

abbrev pub variable_answer : Scale → List ℕ → ShapeTree → Answer CoercedTree
variable_answer e name shape = coerced (input_forms e.schema) (variable_given (e.values name)) shape

-- a list whose items each stand at a place of this shape
abbrev pub list_answer : Scale → List Value → ShapeTree → Answer CoercedTree
list_answer e items item = mapped coerced_list (items_coerced (input_forms e.schema) 0 (literal_items e.values (items_written items)) item)

-- an object at the type of this number
abbrev pub object_answer : Scale → List Argument → ℕ → Answer CoercedTree
object_answer e fields of = object_at (input_forms e.schema of) false (literal_fields e.values (fields_written fields)) (λ name. find_coerced (input_forms e.schema) name (literal_fields e.values (fields_written fields)))

-- A literal comes to this value, which isn't larger than a value may be.
abbrev pub ComesTo : Scale → ShapeTree → Value → CoercedTree → Type 0
ComesTo e shape value t = (literal_answer e value shape ≡ Ok t) × (nodes t ≤ value_limit)

-- a literal, and a variable, at a place of this shape
abbrev pub WeighsLiteral : Scale → ShapeTree → Value → Load → Type 0
WeighsLiteral e shape value load = Weighs e shape (literal_answer e value shape) load

abbrev pub WeighsVariable : Scale → ShapeTree → List ℕ → Load → Type 0
WeighsVariable e shape name load = Weighs e shape (variable_answer e name shape) load
