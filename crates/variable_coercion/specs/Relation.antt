-- When values are those of variables and of arguments, by cases; and all that is refused, in order.
use Rattle.std.specs.Prelude.{◌≡◌, ℕ, List, [], ◌∷◌, ◌++◌, map, Bool, true, false, leb, Option, Some, None, Result, Ok, Err, if◌then◌else◌}
use Rattle.std.specs.List.{flat_map}
use Rattle.gql_base.specs.parts.Values.{ValueTree}
use Rattle.gql_base.specs.declared.parts.trees.Argument.{Argument}
use Rattle.serde_json.specs.Data.{Data}
use Rattle.serde_json.specs.Find.{get}
use Rattle.input_values.specs.values.Coerced.{CoercedTree, nodes}
use Rattle.input_values.specs.inputs.Shapes.{ShapeTree, is_nullable}
use Rattle.input_values.specs.inputs.Definitions.{InputData}
use Rattle.input_values.specs.coercion.Answers.{Answer}
use Rattle.input_values.specs.coercion.Given.{Given, is_nothing}
use Rattle.input_values.specs.coercion.Forms.{InputForm}
use Rattle.input_values.specs.coercion.Coercion.{coerced}
use Rattle.input_values.specs.coercion.Literals.{Environment, no_variables, literal_given}
use Rattle.input_values.specs.coercion.Relation.{IsCoerced}
use Rattle.input_values.specs.coercion.Refusals.{all_refusals}
use Rattle.document_reader.specs.declared.trees.VariableDef.{VariableDef}
use Rattle.schema_model.specs.SchemaData.{SchemaData, field_at}
use Rattle.schema_model.specs.InputForms.{input_forms}
use Rattle.schema_model.specs.Arguments.{ArgData}
use Rattle.variable_coercion.specs.Json.{json_given}
use Rattle.variable_coercion.specs.Refusals.{value_limit, Unfit, unfit_at, unfit_size, Refusal, missing}
use Rattle.variable_coercion.specs.Variables.{Declared, VariableData, declared_of, variable_refusal}
use Rattle.variable_coercion.specs.Arguments.{argument_given, argument_refusal}

-- ## What values are

-- each of these beside each of those
abbrev pub AreAll : {A B : Type 0} → (A → B → Type 0) → List A → List B → Type 0
AreAll Is [] [] = Unit {0}
AreAll Is [] (y ∷ ys) = ⊥
AreAll Is (x ∷ xs) [] = ⊥
AreAll Is (x ∷ xs) (y ∷ ys) = Is x y × AreAll Is xs ys

-- what is given comes to this value, which isn't too large
abbrev pub IsFitting : (ℕ → InputForm) → Given → ShapeTree → Option CoercedTree → Type 0
IsFitting form given shape None = ⊥
IsFitting form given shape (Some t) = IsCoerced form given shape t × (leb (nodes t) value_limit ≡ true)

-- there is none, and that may be
abbrev pub IsWithout : Bool → Option CoercedTree → Type 0
IsWithout nullable value = (nullable ≡ true) × (value ≡ None)

abbrev pub IsDefault : (ℕ → InputForm) → Declared → Option ValueTree → Option CoercedTree → Type 0
IsDefault form v (Some literal) value = IsFitting form (literal_given no_variables literal) v.shape value
IsDefault form v None value = IsWithout (is_nullable v.shape) value

abbrev pub IsValue : (ℕ → InputForm) → Declared → Option Data → Option CoercedTree → Type 0
IsValue form v (Some json) value = IsFitting form (json_given json) v.shape value
IsValue form v None value = IsDefault form v v.default value

-- the variable has the value that is given for it, or its default, or none
abbrev pub IsVariable : (ℕ → InputForm) → Data → Declared → VariableData → Type 0
IsVariable form given v x = (x.name ≡ v.name) × IsValue form v (get v.name given) x.value

abbrev pub IsArgumentDefault : InputData → Option CoercedTree → Option CoercedTree → Type 0
IsArgumentDefault i (Some default) value = value ≡ Some default
IsArgumentDefault i None value = IsWithout (is_nullable i.shape) value

abbrev pub IsWritten : (ℕ → InputForm) → InputData → Bool → Given → ArgData → Type 0
IsWritten form i true given x = (x.supplied ≡ false) × IsArgumentDefault i i.default x.value
IsWritten form i false given x = (x.supplied ≡ true) × IsFitting form given i.shape x.value

-- the argument has the value that is written for it, or its default, or none
abbrev pub IsArgument : (ℕ → InputForm) → InputData → Option Given → ArgData → Type 0
IsArgument form i None x = (x.supplied ≡ false) × IsArgumentDefault i i.default x.value
IsArgument form i (Some given) x = IsWritten form i (is_nothing given) given x

-- the values of an operation's variables, one for each
abbrev pub AreVariables : SchemaData → List VariableDef → Data → List VariableData → Type 0
AreVariables s variables given values = AreAll (IsVariable (input_forms s) given) (map (declared_of s) variables) values

-- the arguments that a field defines, one for each
abbrev pub AreArguments : SchemaData → ℕ → List Argument → Environment → List ArgData → Type 0
AreArguments s field written env values = AreAll (λ i. IsArgument (input_forms s) i (argument_given env written i.name)) (field_at s field).arguments values

-- ## All that is refused

abbrev pub size_refusals : (Unfit → Refusal) → Answer CoercedTree → List Refusal
size_refusals refusal (Ok t) = if leb (nodes t) value_limit then [] else refusal unfit_size ∷ []
size_refusals refusal (Err path) = []

-- all places inside, and the size where there are none
abbrev pub fitting_refusals : (Unfit → Refusal) → (ℕ → InputForm) → Given → ShapeTree → List Refusal
fitting_refusals refusal form given shape = map (λ path. refusal (unfit_at path)) (all_refusals form given shape) ++ size_refusals refusal (coerced form given shape)

abbrev pub without_refusals : List ℕ → Bool → List Refusal
without_refusals name nullable = if nullable then [] else missing name ∷ []

abbrev pub default_refusals : (ℕ → InputForm) → Declared → Option ValueTree → List Refusal
default_refusals form v (Some literal) = fitting_refusals (variable_refusal v.name) form (literal_given no_variables literal) v.shape
default_refusals form v None = without_refusals v.name (is_nullable v.shape)

abbrev pub value_refusals : (ℕ → InputForm) → Declared → Option Data → List Refusal
value_refusals form v (Some json) = fitting_refusals (variable_refusal v.name) form (json_given json) v.shape
value_refusals form v None = default_refusals form v v.default

abbrev pub variable_refusals : (ℕ → InputForm) → Data → Declared → List Refusal
variable_refusals form given v = value_refusals form v (get v.name given)

abbrev pub argument_default_refusals : InputData → Option CoercedTree → List Refusal
argument_default_refusals i (Some default) = []
argument_default_refusals i None = without_refusals i.name (is_nullable i.shape)

abbrev pub argument_refusals : (ℕ → InputForm) → InputData → Option Given → List Refusal
argument_refusals form i None = argument_default_refusals i i.default
argument_refusals form i (Some given) = if is_nothing given then argument_default_refusals i i.default else fitting_refusals (argument_refusal i.name) form given i.shape

-- one variable after another
abbrev pub all_variable_refusals : SchemaData → List VariableDef → Data → List Refusal
all_variable_refusals s variables given = flat_map (variable_refusals (input_forms s) given) (map (declared_of s) variables)

-- one argument after another
abbrev pub all_argument_refusals : SchemaData → ℕ → List Argument → Environment → List Refusal
all_argument_refusals s field written env = flat_map (λ i. argument_refusals (input_forms s) i (argument_given env written i.name)) (field_at s field).arguments

abbrev pub first_refusal : List Refusal → Option Refusal
first_refusal [] = None
first_refusal (refusal ∷ others) = Some refusal

-- what an answer refuses
abbrev pub refusal_in : {A : Type 0} → Result A Refusal → Option Refusal
refusal_in (Ok x) = None
refusal_in (Err refusal) = Some refusal
