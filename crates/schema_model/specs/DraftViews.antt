-- What the drafts of the program stand for.
use Rattle.std.specs.Prelude.{List, [], ◌∷◌, map, Option, None, Some}
use Rattle.input_values.specs.inputs.Shapes.{shape_tree}
use Rattle.input_values.specs.defaults.Filling.{literal_seen}
use Rattle.schema_rules.specs.Views.{maybe_name, maybe_arguments}
use Rattle.schema_reader.specs.Trees.{enum_value_tree}
use Rattle.schema_model.specs.declared.draft_types.DraftInput.{DraftInput}
use Rattle.schema_model.specs.declared.draft_types.DraftField.{DraftField}
use Rattle.schema_model.specs.declared.draft_types.DraftType.{DraftType}
use Rattle.schema_model.specs.Drafts.{InputDraft, FieldDraft, TypeDraft, value_name}
use Rattle.schema_model.specs.Numbers.{type_number}

abbrev pub input_view : DraftInput → InputDraft
input_view d = record { name = d.name.now; shape = shape_tree d.shape; default = literal_seen d.default; cost = maybe_name d.cost }

abbrev pub field_view : DraftField → FieldDraft
field_view f = record { name = f.name.now; shape = shape_tree f.shape; arguments = map input_view f.arguments.items.items; cost = maybe_name f.cost; size = maybe_arguments f.size }

abbrev pub type_view : DraftType → TypeDraft
type_view t = record { name = t.name.now; kind = t.kind; interfaces = map type_number t.interfaces.items; members = map type_number t.members.items; fields = map field_view t.fields.items.items; values = map value_name (map enum_value_tree t.values.now); inputs = map input_view t.inputs.items; cost = maybe_name t.cost; lax = t.lax }

abbrev pub maybe_drafts : Option DraftType → List TypeDraft
maybe_drafts None = []
maybe_drafts (Some t) = type_view t ∷ []
