-- The arguments of a field (GraphQL October 2021, 6.4.1).
use Rattle.std.specs.Prelude.{ℕ, List, Bool, true, false, Option, Some, None, option_map, Result, Ok, Err, if◌then◌else◌}
use Rattle.gql_base.specs.names.Names.{first_of_name}
use Rattle.gql_base.specs.declared.parts.trees.Argument.{Argument}
use Rattle.gql_base.specs.parts.Trees.{value_tree}
use Rattle.input_values.specs.values.Coerced.{CoercedTree}
use Rattle.input_values.specs.inputs.Shapes.{is_nullable}
use Rattle.input_values.specs.inputs.Definitions.{InputData}
use Rattle.input_values.specs.coercion.Given.{Given, is_nothing}
use Rattle.input_values.specs.coercion.Coercion.{coerced}
use Rattle.input_values.specs.coercion.Forms.{InputForm}
use Rattle.input_values.specs.coercion.Literals.{Environment, literal_given}
use Rattle.schema_model.specs.SchemaData.{SchemaData, field_at}
use Rattle.schema_model.specs.InputForms.{input_forms}
use Rattle.schema_model.specs.Arguments.{ArgData}
use Rattle.variable_coercion.specs.Refusals.{Unfit, unfit_at, unfit_size, fitting, Refusal, bad_value, too_large, given_value, no_value, all_in_order}

-- the first argument that is written under a name, beside the values of variables
abbrev pub argument_given : Environment → List Argument → List ℕ → Option Given
argument_given env written name = option_map (λ a. literal_given env (value_tree a.value)) (first_of_name (λ a. a.name.text) written name)

-- An argument that is refused is told by its name, without the path inside.
abbrev pub argument_refusal : List ℕ → Unfit → Refusal
argument_refusal name (unfit_at path) = bad_value name
argument_refusal name unfit_size = too_large name

-- without a value
abbrev pub no_argument : ArgData
no_argument = record { value = None; supplied = false }

-- not supplied: it takes its default
abbrev pub default_or_none : InputData → Option CoercedTree → Result (Option CoercedTree) Refusal
default_or_none i (Some default) = Ok (Some default)
default_or_none i None = no_value i.name (is_nullable i.shape)

abbrev pub marked : Bool → Result (Option CoercedTree) Refusal → Result ArgData Refusal
marked supplied (Ok value) = Ok record { value = value; supplied = supplied }
marked supplied (Err refusal) = Err refusal

abbrev pub supplied_answer : (ℕ → InputForm) → InputData → Given → Result ArgData Refusal
supplied_answer form i given = marked true (given_value (argument_refusal i.name) (fitting (coerced form given i.shape)))

abbrev pub unsupplied_answer : InputData → Result ArgData Refusal
unsupplied_answer i = marked false (default_or_none i i.default)

-- An argument that is written is supplied, but for a variable without a value.
abbrev pub argument_answer : (ℕ → InputForm) → InputData → Option Given → Result ArgData Refusal
argument_answer form i None = unsupplied_answer i
argument_answer form i (Some given) = if is_nothing given then unsupplied_answer i else supplied_answer form i given

-- the arguments that are defined, in their order, where these are written
abbrev pub defined_answer : SchemaData → List InputData → List Argument → Environment → Result (List ArgData) Refusal
defined_answer s inputs written env = all_in_order (λ i. argument_answer (input_forms s) i (argument_given env written i.name)) inputs

-- those of a field
abbrev pub arguments_answer : SchemaData → ℕ → List Argument → Environment → Result (List ArgData) Refusal
arguments_answer s field written env = defined_answer s (field_at s field).arguments written env
