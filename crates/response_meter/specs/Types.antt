-- The type that an object says it is of, by its number.
use Rattle.std.specs.Prelude.{◌≡◌, ℕ, List, [], ◌∷◌, Option, Some, None, if◌then◌else◌}
use Rattle.std.specs.Str.{bytes_eq}
use Rattle.serde_json.specs.Data.{Data, null, boolean, number, string, array, object, Members}
use Rattle.schema_model.specs.SchemaData.{SchemaData, type_at, possible}
use Rattle.response_model.specs.Plan.{ObjectTypes, no_node}
use Rattle.plan_table.specs.Rows.{PossibleType, Below, leaf_below, objects_below, Row}
use Rattle.response_meter.specs.FirstFault.{type_told}
use Rattle.response_meter.specs.Metered.{name_in}
use Rattle.response_meter.specs.Nested.{types_with}
use Rattle.response_meter.specs.declared.readings.Reading.{Reading}

-- These are the possible types of a type.
abbrev pub IsPossibleList : SchemaData → List ℕ → Type 0
IsPossibleList s numbers = (c : ℕ) × (numbers ≡ possible s c)

-- the first of these types that has the name
abbrev pub number_named : SchemaData → List ℕ → List ℕ → Option ℕ
number_named s [] name = None
number_named s (T ∷ Ts) name = if bytes_eq (type_at s T).name name then Some T else number_named s Ts name

abbrev pub number_under : SchemaData → List ℕ → Option Data → Option ℕ
number_under s Ts None = None
number_under s Ts (Some null) = None
number_under s Ts (Some (boolean b)) = None
number_under s Ts (Some (number n)) = None
number_under s Ts (Some (string name)) = number_named s Ts name
number_under s Ts (Some (array ds)) = None
number_under s Ts (Some (object ms)) = None

abbrev pub only_number : List ℕ → Option ℕ
only_number [] = None
only_number (T ∷ []) = Some T
only_number (T ∷ U ∷ Ts) = None

-- the types of the objects below a node; none below a node of leaves
abbrev pub possible_below : Below → List PossibleType
possible_below (leaf_below type weight fill) = []
possible_below (objects_below possible) = possible

-- the possible types without their nodes
abbrev pub types_alone : List PossibleType → ObjectTypes
types_alone possible = types_with (λ T. no_node) possible

abbrev pub number_told : Reading → Row → Members → Option ℕ
number_told by r ms = type_told (name_in by.of.now) by.alias.now r.selected.asked (types_alone (possible_below r.below)) ms
