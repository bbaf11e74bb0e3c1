-- What a schema of the program stands for, and what its tables hold.
use Rattle.std.specs.Prelude.{◌≡◌, ℕ, List, map, Option, None, Some, Vec, option_map}
use Rattle.std.specs.Global.{Global}
use Rattle.std.specs.Borrow.{Bor}
use Rattle.input_values.specs.declared.inputs.shape.TypeId.{TypeId}
use Rattle.input_values.specs.inputs.Shapes.{shape_tree}
use Rattle.input_values.specs.declared.inputs.definition.InputDef.{InputDef}
use Rattle.input_values.specs.inputs.Definitions.{InputData, input_data}
use Rattle.schema_model.specs.declared.entries.FieldId.{FieldId}
use Rattle.schema_model.specs.declared.entries.ListSize.{ListSize}
use Rattle.schema_model.specs.declared.entries.FieldEntry.{FieldEntry}
use Rattle.schema_model.specs.declared.entries.TypeEntry.{TypeEntry}
use Rattle.schema_model.specs.declared.marks.TypeList.{TypeList}
use Rattle.schema_model.specs.Numbers.{type_number}
use Rattle.schema_model.specs.SchemaData.{SizeData, FieldData, TypeData, all_possible}

abbrev pub field_number : FieldId → ℕ
field_number id = id.number

abbrev pub size_data : ListSize → SizeData
size_data s = record { assumed = s.assumed; slicing = s.slicing.items; sized = s.sized.items; require_one = s.require_one }

abbrev pub maybe_size : Option (Bor ListSize) → Option SizeData
maybe_size None = None
maybe_size (Some s) = Some (size_data s.now)

abbrev pub maybe_text : Option (Bor (List ℕ)) → Option (List ℕ)
maybe_text None = None
maybe_text (Some t) = Some t.now

abbrev pub maybe_input : Option (Bor InputDef) → Option InputData
maybe_input None = None
maybe_input (Some i) = Some (input_data i.now)

abbrev pub field_data : FieldEntry → FieldData
field_data f = record { name = f.name; owner = f.owner.number; shape = shape_tree f.shape; arguments = map input_data f.arguments.items.items; cost = f.cost; size = option_map size_data f.size }

abbrev pub type_data : TypeEntry → TypeData
type_data t = record { name = t.name; kind = t.kind; names = t.names.items.items; fields = map field_number t.fields.items; interfaces = map type_number t.interfaces.items; members = map type_number t.members.items; values = t.values.items.items; inputs = map input_data t.inputs.items.items; cost = t.cost; lax = t.lax }

abbrev pub numbers_in : Vec TypeId Global → List ℕ
numbers_in v = map type_number v.items

abbrev pub numbers_listed : TypeList → List ℕ
numbers_listed l = numbers_in l.numbers

-- The possible types of each type stand in a list.
abbrev pub KnowsPossible : List TypeList → List TypeEntry → Type 0
KnowsPossible possible types = map numbers_listed possible ≡ all_possible 0 (map type_data types) (map type_data types)
