use Rattle.std.proofs.Common.{◌≡◌, drop, map}
use Rattle.schema_rules.specs.First.{first_of}
use Rattle.schema_model.specs.SchemaViews.{schema_data}
use Rattle.schema_model.specs.Entries.{field_number}
use Rattle.cost_directives.specs.FieldPlaces.{field_told}
use Rattle.cost_directives.specs.NegativeSize.{is_negative}
use Rattle.cost_directives.proofs.faults.negative_size.first_negative.Given as goal

-- What is left answers as the whole.
abbrev pub invariant-loop-field : goal.invariant-loop-field
invariant-loop-field l = first_of (field_told (schema_data l.schema) is_negative) (map field_number (drop l.field-index l.fields)) ≡ first_of (field_told (schema_data l.schema) is_negative) (map field_number l.fields)
