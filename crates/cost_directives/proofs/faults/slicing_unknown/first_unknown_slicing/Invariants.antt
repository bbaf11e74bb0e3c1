use Rattle.std.proofs.Common.{◌≡◌, drop, map}
use Rattle.schema_rules.specs.First.{first_of}
use Rattle.schema_model.specs.SchemaViews.{schema_data}
use Rattle.schema_model.specs.Entries.{field_number}
use Rattle.cost_directives.specs.FieldPlaces.{name_told}
use Rattle.cost_directives.specs.SlicingUnknown.{unknown_slicing}
use Rattle.cost_directives.proofs.faults.slicing_unknown.first_unknown_slicing.Given as goal

-- What is left answers as the whole.
abbrev pub invariant-loop-field : goal.invariant-loop-field
invariant-loop-field l = first_of (name_told (schema_data l.schema) unknown_slicing) (map field_number (drop l.field-index l.fields)) ≡ first_of (name_told (schema_data l.schema) unknown_slicing) (map field_number l.fields)
