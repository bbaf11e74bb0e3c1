-- When what is written in two places comes to the same.
use Rattle.std.specs.Prelude.{◌≡◌, ◌⊎◌, ℕ, true, List, map, Option, None, Some, Result, Ok, Err}
use Rattle.gql_base.specs.names.Names.{are_distinct, first_of_name, has_name}
use Rattle.gql_base.specs.declared.parts.trees.Value.{Value}
use Rattle.gql_base.specs.declared.parts.trees.Argument.{Argument}
use Rattle.gql_base.specs.parts.Trees.{value_tree}
use Rattle.input_values.specs.values.Coerced.{CoercedTree}
use Rattle.input_values.specs.inputs.Shapes.{ShapeTree}
use Rattle.input_values.specs.inputs.Definitions.{InputData}
use Rattle.input_values.specs.coercion.Answers.{Answer}
use Rattle.input_values.specs.coercion.Given.{is_nothing}
use Rattle.input_values.specs.coercion.Literals.{Environment, literal_given}
use Rattle.input_values.specs.coercion.Sizes.{names_written}
use Rattle.schema_model.specs.Arguments.{ArgData}
use Rattle.variable_coercion.specs.Refusals.{Refusal}
use Rattle.variable_coercion.specs.Arguments.{arguments_answer}
use Rattle.literal_loads.specs.Loads.{Scale, literal_answer, list_answer, object_answer, ComesTo}
use Rattle.literal_loads.specs.Sums.{Placed, placed_name}
use Rattle.literal_loads.specs.Walks.{AreInputs}

-- ---- what is coerced; none where it is refused

abbrev pub value_in : {A : Type 0} → Answer A → Option A
value_in (Ok t) = Some t
value_in (Err path) = None

-- the values of arguments, each with none where it is absent
abbrev pub values_in : Result (List ArgData) Refusal → Option (List (Option CoercedTree))
values_in (Ok args) = Some (map (λ arg. arg.value) args)
values_in (Err refusal) = None

-- ---- two literals at a place of this shape, two lists of such items, and two objects at the type of this number

abbrev pub AreSame : Scale → ShapeTree → Value → Value → Type 0
AreSame e shape value other = value_in (literal_answer e value shape) ≡ value_in (literal_answer e other shape)

abbrev pub AreSameLists : Scale → ShapeTree → List Value → List Value → Type 0
AreSameLists e item items others = value_in (list_answer e items item) ≡ value_in (list_answer e others item)

abbrev pub AreSameObjects : Scale → ℕ → List Argument → List Argument → Type 0
AreSameObjects e of fields others = value_in (object_answer e fields of) ≡ value_in (object_answer e others of)

-- literals that give the same, whatever values variables have
abbrev pub AreLike : Value → Value → Type 0
AreLike value other = (values : Environment) → literal_given values (value_tree value) ≡ literal_given values (value_tree other)

-- ---- what is written for the inputs of a field or of a type

abbrev pub written_for : List Argument → List ℕ → Option Argument
written_for written name = first_of_name (λ a. a.name.text) written name

-- What is written comes to what the input is where nothing is given for it: to nothing, or to its default.
abbrev pub IsDefault : Scale → InputData → Value → Type 0
IsDefault e i value = (is_nothing (literal_given e.values (value_tree value)) ≡ true) ⊎ ((t : CoercedTree) × (i.default ≡ Some t) × ComesTo e i.shape value t)

-- For an input nothing is written in both places; or both come to the same, where a variable without a value counts as absent; or what is
-- written in one place alone comes to what the input is without it.
abbrev pub IsSameFor : Scale → Placed → Option Argument → Option Argument → Type 0
IsSameFor e p None None = Unit {0}
IsSameFor e p (Some a) (Some b) = (is_nothing (literal_given e.values (value_tree a.value)) ≡ is_nothing (literal_given e.values (value_tree b.value))) × AreSame e p.0.shape a.value b.value
IsSameFor e p (Some a) None = IsDefault e p.0 a.value
IsSameFor e p None (Some b) = IsDefault e p.0 b.value

-- What is written under a name is that of an input, and the same for it as what stands among others.
abbrev pub IsSameAmong : Scale → List Placed → List Argument → Argument → Type 0
IsSameAmong e placed others a = (has_name placed_name placed a.name.text ≡ true) × ((p : Placed) → first_of_name placed_name placed a.name.text ≡ Some p → IsSameFor e p (Some a) (written_for others a.name.text))

-- What stands among others is that of an input, and its name is written too, or it is the same without it.
abbrev pub IsAmong : Scale → List Placed → List Argument → Argument → Type 0
IsAmong e placed written b = (has_name placed_name placed b.name.text ≡ true) × ((has_name (λ a. a.name.text) written b.name.text ≡ true) ⊎ ((p : Placed) → first_of_name placed_name placed b.name.text ≡ Some p → IsDefault e p.0 b.value))

pub record AreSameInputs (e : Scale) (placed : List Placed) (written others : List Argument) : Type 0 where
  pub once : are_distinct (names_written written) ≡ true
  pub once_too : are_distinct (names_written others) ≡ true
  pub inputs : AreInputs placed written
  pub inputs_too : AreInputs placed others
  pub each : (p : Placed) → first_of_name placed_name placed p.0.name ≡ Some p → IsSameFor e p (written_for written p.0.name) (written_for others p.0.name)

-- The arguments of the field come to the same values, or are refused in both.
abbrev pub AreSameArguments : Scale → ℕ → List Argument → List Argument → Type 0
AreSameArguments e field written others = values_in (arguments_answer e.schema field written e.values) ≡ values_in (arguments_answer e.schema field others e.values)
