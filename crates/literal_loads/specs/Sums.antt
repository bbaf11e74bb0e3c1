-- What inputs come to together: the arguments of a field, or the fields of an input object.
use Rattle.std.specs.Prelude.{◌≡◌, ℕ, List, Option, Result, Ok, Err}
use Rattle.std.specs.List.{sum_by}
use Rattle.gql_base.specs.declared.parts.trees.Argument.{Argument}
use Rattle.input_values.specs.inputs.Definitions.{InputData}
use Rattle.input_values.specs.coercion.Calls.{nodes_in}
use Rattle.schema_model.specs.InputForms.{input_forms}
use Rattle.schema_model.specs.Arguments.{ArgData}
use Rattle.cost_directives.specs.ArgumentCosts.{InputWeightData, argument_cost}
use Rattle.cost_directives.specs.Weights.{objects_in}
use Rattle.variable_coercion.specs.Refusals.{Refusal}
use Rattle.variable_coercion.specs.Arguments.{argument_given, argument_answer, unsupplied_answer}
use Rattle.literal_loads.specs.declared.load.Sum.{Sum}
use Rattle.literal_loads.specs.Loads.{Scale}

-- an input with the weight of its own
abbrev pub Placed : Type 0
Placed = InputData × Option ℕ

abbrev pub placed_input : Placed → InputData
placed_input p = p.0

abbrev pub placed_name : Placed → List ℕ
placed_name p = p.0.name

abbrev pub placed_weight : Placed → InputWeightData
placed_weight p = record { name = p.0.name; shape = p.0.shape; own = p.1 }

-- ---- one input: refused or not, as a number, and its nodes and its cost, which are none where it is refused or absent

abbrev pub refused_in : Result ArgData Refusal → ℕ
refused_in (Ok arg) = 0
refused_in (Err refusal) = 1

abbrev pub nodes_of : Result ArgData Refusal → ℕ
nodes_of (Ok arg) = nodes_in arg.value
nodes_of (Err refusal) = 0

abbrev pub cost_of : Scale → Placed → Result ArgData Refusal → ℕ
cost_of e p (Ok arg) = argument_cost (objects_in e.weights) (placed_weight p) arg.value
cost_of e p (Err refusal) = 0

-- what it comes to where nothing is given for it
pub record IsAbsentSum (e : Scale) (p : Placed) (sum : Sum) : Type 0 where
  pub refusals : sum.refused ≡ refused_in (unsupplied_answer p.0)
  pub size : sum.nodes ≡ nodes_of (unsupplied_answer p.0)
  pub price : sum.cost ≡ cost_of e p (unsupplied_answer p.0)

-- ---- all inputs

-- what an input comes to where these are written
abbrev pub answer_at : Scale → List Argument → Placed → Result ArgData Refusal
answer_at e written p = argument_answer (input_forms e.schema) p.0 (argument_given e.values written p.0.name)

-- how many of them are refused where these are written, and what the others come to
pub record IsSum (e : Scale) (placed : List Placed) (written : List Argument) (sum : Sum) : Type 0 where
  pub refusals : sum.refused ≡ sum_by (λ p. refused_in (answer_at e written p)) placed
  pub size : sum.nodes ≡ sum_by (λ p. nodes_of (answer_at e written p)) placed
  pub price : sum.cost ≡ sum_by (λ p. cost_of e p (answer_at e written p)) placed
