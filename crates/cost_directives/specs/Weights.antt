-- The weights and sizes of a schema, where lists that declare no size have this one.
use Rattle.std.specs.Prelude.{ℕ, Bool, false, nat_eq, List, [], ◌∷◌, ◌++◌, map, length, get_or, Option, None, Some, Result, if◌then◌else◌}
use Rattle.std.specs.List.{list_any, filter_map, range_with_len}
use Rattle.gql_base.specs.names.Names.{place_of_name}
use Rattle.input_values.specs.inputs.Definitions.{InputData}
use Rattle.schema_rules.specs.Kinds.{is_input_only}
use Rattle.schema_model.specs.SchemaData.{FieldData, TypeData, SizeData, SchemaData, type_at, field_at}
use Rattle.schema_model.specs.Arguments.{ArgData}
use Rattle.cost_directives.specs.declared.sizes.Size.{Size}
use Rattle.cost_directives.specs.declared.sizes.SizeFault.{SizeFault}
use Rattle.cost_directives.specs.ArgumentCosts.{InputWeightData, ObjectInputs, arguments_cost}
use Rattle.cost_directives.specs.DeclaredSizes.{SizeRuleData, declared_size}
use Rattle.cost_directives.specs.Readings.{weight_in}
use Rattle.cost_directives.specs.Weighing.{weight_of_type, weight_of_field, inherited, own_size, is_free_list}

-- a type by its weight and, where it is an input object type, its fields
pub record TypeWeightData : Type 0 where
  pub weight : ℕ
  pub inputs : Option (List InputWeightData)

pub record FieldWeightData : Type 0 where
  pub weight : ℕ
  pub arguments : List InputWeightData
  pub size : SizeRuleData

pub record WeightsData : Type 0 where
  -- those that the text defines; the built-in scalars behind them weigh nothing
  pub types : List TypeWeightData
  pub fields : List FieldWeightData
  -- the size of lists that declare none
  pub undeclared : ℕ

-- ---- from a schema

abbrev pub input_weight_of : InputData → InputWeightData
input_weight_of d = record { name = d.name; shape = d.shape; own = weight_in d.cost }

abbrev pub inputs_of : TypeData → Option (List InputWeightData)
inputs_of t = if is_input_only t.kind then Some (map input_weight_of t.inputs) else None

abbrev pub type_weight_of : TypeData → TypeWeightData
type_weight_of t = record { weight = weight_of_type t; inputs = inputs_of t }

abbrev pub input_name : InputData → List ℕ
input_name d = d.name

abbrev pub place_in : List InputData → List ℕ → Option ℕ
place_in arguments name = place_of_name input_name arguments name

-- numbers that were not seen, each once
abbrev pub each_once : List ℕ → List ℕ → List ℕ
each_once seen [] = []
each_once seen (n ∷ ns) = if list_any (nat_eq n) seen then each_once seen ns else n ∷ each_once (seen ++ n ∷ []) ns

-- the places of the arguments of these names, each once
abbrev pub places_of : List InputData → List (List ℕ) → List ℕ
places_of arguments names = each_once [] (filter_map (place_in arguments) names)

-- without `@listSize` nothing is assumed, and nothing slices
abbrev pub rule_of : List InputData → Bool → Option SizeData → SizeRuleData
rule_of arguments is_free None = record { assumed = None; slicing = []; require_one = false; sized = []; is_free = is_free }
rule_of arguments is_free (Some size) = record { assumed = size.assumed; slicing = places_of arguments size.slicing; require_one = size.require_one; sized = size.sized; is_free = is_free }

abbrev pub size_rule_of : SchemaData → FieldData → SizeRuleData
size_rule_of s f = rule_of f.arguments (is_free_list s f) (inherited s own_size f)

abbrev pub field_weight_of : SchemaData → FieldData → FieldWeightData
field_weight_of s f = record { weight = weight_of_field s f; arguments = map input_weight_of f.arguments; size = size_rule_of s f }

-- the numbers of the types that the text defines, in their order
abbrev pub type_numbers : SchemaData → List ℕ
type_numbers s = range_with_len 0 s.defined

-- the numbers of the fields, in the order of the text
abbrev pub field_numbers : SchemaData → List ℕ
field_numbers s = range_with_len 0 (length s.fields)

abbrev pub type_weight_at : SchemaData → ℕ → TypeWeightData
type_weight_at s number = type_weight_of (type_at s number)

abbrev pub field_weight_at : SchemaData → ℕ → FieldWeightData
field_weight_at s number = field_weight_of s (field_at s number)

-- the weights of a schema
abbrev pub weights_of : SchemaData → ℕ → WeightsData
weights_of s undeclared = record { types = map (type_weight_at s) (type_numbers s); fields = map (field_weight_at s) (field_numbers s); undeclared = undeclared }

-- ---- look-ups

-- what stands at other numbers
abbrev pub no_type_weight : TypeWeightData
no_type_weight = record { weight = 0; inputs = None }

abbrev pub no_field_weight : FieldWeightData
no_field_weight = record { weight = 0; arguments = []; size = record { assumed = None; slicing = []; require_one = false; sized = []; is_free = false } }

abbrev pub type_in : WeightsData → ℕ → TypeWeightData
type_in w number = get_or w.types number no_type_weight

abbrev pub field_in : WeightsData → ℕ → FieldWeightData
field_in w number = get_or w.fields number no_field_weight

abbrev pub inputs_in : TypeWeightData → Option (List InputWeightData)
inputs_in t = t.inputs

abbrev pub objects_in : WeightsData → ObjectInputs
objects_in w = map inputs_in w.types

-- what the arguments of a field cost
abbrev pub argument_cost_in : WeightsData → ℕ → List ArgData → ℕ
argument_cost_in w number args = arguments_cost (objects_in w) (field_in w number).arguments args

-- the declared size of a field
abbrev pub declared_size_in : WeightsData → ℕ → List ArgData → Option ℕ → Result Size SizeFault
declared_size_in w number args handed = declared_size (field_in w number).size w.undeclared args handed
