-- Each text of `@cost` spells a weight.
use Rattle.std.specs.Prelude.{ℕ, List, Option, None, Some, Result, Ok, Err}
use Rattle.cost_num.specs.declared.weights.WeightFault.{WeightFault}
use Rattle.input_values.specs.inputs.Definitions.{InputData}
use Rattle.schema_rules.specs.Places.{PlaceTree, at_type, at_field, at_argument}
use Rattle.schema_rules.specs.First.{or_else, first_of}
use Rattle.schema_model.specs.SchemaData.{FieldData, TypeData, SchemaData, type_at, field_at}
use Rattle.cost_directives.specs.Readings.{reading}
use Rattle.cost_directives.specs.Weights.{type_numbers}

-- a place with a text that is no weight, and the first fault of the text
pub record BadWeightData : Type 0 where
  pub place : PlaceTree
  pub fault : WeightFault

abbrev pub if_unread : PlaceTree → Result ℕ WeightFault → Option BadWeightData
if_unread place (Ok amount) = None
if_unread place (Err fault) = Some record { place = place; fault = fault }

abbrev pub bad_at : PlaceTree → Option (List ℕ) → Option BadWeightData
bad_at place None = None
bad_at place (Some text) = if_unread place (reading text)

abbrev pub bad_argument : List ℕ → List ℕ → InputData → Option BadWeightData
bad_argument of field argument = bad_at (at_argument of field argument.name) argument.cost

-- a field: its arguments, and then the field
abbrev pub bad_in_field : List ℕ → FieldData → Option BadWeightData
bad_in_field of f = or_else (first_of (bad_argument of f.name) f.arguments) (bad_at (at_field of f.name) f.cost)

abbrev pub bad_field_at : SchemaData → List ℕ → ℕ → Option BadWeightData
bad_field_at s of number = bad_in_field of (field_at s number)

abbrev pub bad_input : List ℕ → InputData → Option BadWeightData
bad_input of input = bad_at (at_field of input.name) input.cost

-- what is in a type: its fields, and those of an input object
abbrev pub bad_inside : SchemaData → TypeData → Option BadWeightData
bad_inside s t = or_else (first_of (bad_field_at s t.name) t.fields) (first_of (bad_input t.name) t.inputs)

abbrev pub bad_in_type : SchemaData → TypeData → Option BadWeightData
bad_in_type s t = or_else (bad_at (at_type t.name) t.cost) (bad_inside s t)

abbrev pub bad_type_at : SchemaData → ℕ → Option BadWeightData
bad_type_at s number = bad_in_type s (type_at s number)

-- the first of a schema
abbrev pub bad_weight : SchemaData → Option BadWeightData
bad_weight s = first_of (bad_type_at s) (type_numbers s)
