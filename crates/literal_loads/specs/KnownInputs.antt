-- What the program's forms stand for, and what is kept of types, fields and variables.
use Rattle.std.specs.Prelude.{◌≡◌, ℕ, suc, true, List, [], map, get_or, All, Option, None, Some}
use Rattle.std.specs.Borrow.{Bor}
use Rattle.gql_base.specs.names.Names.{are_distinct}
use Rattle.input_values.specs.values.Coerced.{CoercedTree}
use Rattle.input_values.specs.inputs.Shapes.{ShapeTree, named_shape, list_shape}
use Rattle.input_values.specs.inputs.Definitions.{InputData, input_data}
use Rattle.input_values.specs.coercion.Places.{innermost}
use Rattle.input_values.specs.coercion.Literals.{values_of}
use Rattle.schema_model.specs.SchemaData.{type_at, field_at}
use Rattle.schema_model.specs.SchemaViews.{schema_data}
use Rattle.cost_directives.specs.ArgumentCosts.{InputWeightData}
use Rattle.cost_directives.specs.Weights.{field_in, objects_in}
use Rattle.cost_directives.specs.WeightViews.{weights_data}
use Rattle.literal_loads.specs.Loads.{Scale, IsLoad}
use Rattle.literal_loads.specs.Sums.{Placed, placed_input, placed_name, placed_weight, IsAbsentSum, IsSum}
use Rattle.literal_loads.specs.declared.weighing.Weighing.{Weighing}
use Rattle.literal_loads.specs.declared.inputs.Owner.{Owner}
use Rattle.literal_loads.specs.declared.inputs.Owner.TheVariants.{OfType, OfField}
use Rattle.literal_loads.specs.declared.placed.PlacedInput.{PlacedInput}
use Rattle.literal_loads.specs.declared.inputs.KnownInputs.{KnownInputs}
use Rattle.literal_loads.specs.declared.load.Load.{Load}
use Rattle.literal_loads.specs.declared.held.HeldLoad.{HeldLoad}
use Rattle.literal_loads.specs.declared.loads.Loads.{Loads}

abbrev pub scale_of : Weighing → Scale
scale_of w = record { schema = schema_data w.schema.now; weights = weights_data w.weights.now; values = values_of w.variables.now.items.items }

-- ---- the inputs of an input object type, or of a field

abbrev pub inputs_of : Scale → Owner → List InputData
inputs_of e (OfType of) = (type_at e.schema of.number).inputs
inputs_of e (OfField of) = (field_at e.schema of.number).arguments

abbrev pub weights_of : Scale → Owner → Option (List InputWeightData)
weights_of e (OfType of) = get_or (objects_in e.weights) of.number None
weights_of e (OfField of) = Some (field_in e.weights of.number).arguments

abbrev pub placed_seen : PlacedInput → Placed
placed_seen p = (input_data p.input.now, p.own)

abbrev pub all_placed : List PlacedInput → List Placed
all_placed inputs = map placed_seen inputs

abbrev pub maybe_placed : Option (Bor PlacedInput) → Option Placed
maybe_placed None = None
maybe_placed (Some p) = Some (placed_seen p.now)

abbrev pub placed_in : KnownInputs → List Placed
placed_in k = all_placed k.inputs.items.items

-- This is what the input comes to where nothing is given for it.
abbrev pub IsAbsentRight : Scale → PlacedInput → Type 0
IsAbsentRight e p = IsAbsentSum e (placed_seen p) p.absent

-- They are those of the schema and of the weights, which agree, no two have one name, and this is what each of them and all together
-- come to where nothing is written.
pub record IsKnown (e : Scale) (k : KnownInputs) : Type 0 where
  pub once : are_distinct (map placed_name (placed_in k)) ≡ true
  pub defined : map placed_input (placed_in k) ≡ inputs_of e k.owner
  pub weighed : weights_of e k.owner ≡ Some (map placed_weight (placed_in k))
  pub each : All (IsAbsentRight e) k.inputs.items.items
  pub absent : IsSum e (placed_in k) [] k.absent

-- ---- the values of variables

-- how many lists stand round the named type of a shape
abbrev pub lists_round : ShapeTree → ℕ
lists_round (named_shape of nullable) = 0
lists_round (list_shape item nullable) = suc (lists_round item)

-- what the value of the variable of this name comes to at a place
abbrev pub IsHeldAs : Scale → List ℕ → ShapeTree → Load → Type 0
IsHeldAs e name shape load = (t : CoercedTree) → e.values name ≡ Some t → IsLoad e shape t load

-- and at each place of a type in so many lists
pub record IsHeld (e : Scale) (h : HeldLoad) : Type 0 where
  pub everywhere : (shape : ShapeTree) → innermost shape ≡ h.of → lists_round shape ≡ h.lists → IsHeldAs e h.name.now shape h.load

-- ---- all that is kept

-- It is what the schema, the weights and the values of variables give.
pub record AreRight (l : Loads) : Type 0 where
  pub inputs : All (IsKnown (scale_of l.of)) l.known.items
  pub values : All (IsHeld (scale_of l.of)) l.held.items
