-- What is found while a literal is gone through.
use Rattle.std.specs.Prelude.{◌≡◌, ℕ, true, false, List, ◌∷◌, Option, Ok, IfSome}
use Rattle.std.specs.List.{list_any, list_all}
use Rattle.std.specs.Str.{bytes_eq}
use Rattle.cost_num.specs.Capped.{capped}
use Rattle.gql_base.specs.names.Names.{are_distinct, has_name}
use Rattle.gql_base.specs.declared.parts.trees.Argument.{Argument}
use Rattle.input_values.specs.values.Coerced.{CoercedTree}
use Rattle.input_values.specs.inputs.Shapes.{ShapeTree}
use Rattle.input_values.specs.coercion.Answers.{Answer}
use Rattle.input_values.specs.coercion.Places.{innermost, single_at}
use Rattle.input_values.specs.coercion.Sizes.{names_written}
use Rattle.schema_model.specs.Arguments.{ArgData}
use Rattle.cost_directives.specs.Weights.{argument_cost_in}
use Rattle.variable_coercion.specs.Arguments.{arguments_answer}
use Rattle.literal_loads.specs.declared.load.Load.{Load}
use Rattle.literal_loads.specs.declared.load.Sum.{Sum}
use Rattle.literal_loads.specs.Loads.{Scale, Weighs, WeighsNamed}
use Rattle.literal_loads.specs.Sums.{Placed, placed_name, IsSum}

-- What was weighed at the innermost type is weighed in a list of one for each list of the shape.
abbrev pub Wraps : ShapeTree → Option Load → Option Load → Type 0
Wraps shape inner result = (e : Scale) (named : ℕ → Answer CoercedTree) → IfSome inner (WeighsNamed e (innermost shape) (named (innermost shape))) → IfSome result (Weighs e shape (single_at named shape))

-- ---- what is written for inputs, from the last to the first

-- The name is that of one of them.
abbrev pub IsInput : List Placed → List ℕ → Type 0
IsInput placed name = has_name placed_name placed name ≡ true

-- Each name that is written is that of one of them.
abbrev pub AreInputs : List Placed → List Argument → Type 0
AreInputs placed written = list_all (has_name placed_name placed) (names_written written) ≡ true

-- what is known once all are gone through
pub record AreWritten (e : Scale) (placed : List Placed) (written : List Argument) (sum : Sum) : Type 0 where
  pub once : are_distinct (names_written written) ≡ true
  pub inputs : AreInputs placed written
  pub sums : IsSum e placed written sum

-- The sum goes to `now` with one more that is written in front of others, none of which has its name.
abbrev pub TakesOne : Scale → List Placed → Argument → Sum → Sum → Type 0
TakesOne e placed argument sum now = IsInput placed argument.name.text
    × ((others : List Argument) → list_any (bytes_eq argument.name.text) (names_written others) ≡ false → IsSum e placed others sum → IsSum e placed (argument ∷ others) now)

-- The arguments of the field are coerced, and this is what they cost.
abbrev pub HasWeighed : Scale → ℕ → List Argument → ℕ → Type 0
HasWeighed e field written cost = (args : List ArgData) × (arguments_answer e.schema field written e.values ≡ Ok args) × (cost ≡ capped (argument_cost_in e.weights field args))
