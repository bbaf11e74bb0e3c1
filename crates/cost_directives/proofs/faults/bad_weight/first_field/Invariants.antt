use Rattle.std.proofs.Common.{◌≡◌, drop, map}
use Rattle.schema_rules.specs.First.{first_of}
use Rattle.schema_model.specs.SchemaViews.{schema_data}
use Rattle.schema_model.specs.Entries.{field_number}
use Rattle.cost_directives.specs.BadWeight.{bad_field_at}
use Rattle.cost_directives.proofs.faults.bad_weight.first_field.Given as goal

-- What is left answers as the whole.
abbrev pub invariant-loop-field : goal.invariant-loop-field
invariant-loop-field l = first_of (bad_field_at (schema_data l.schema) l.of) (map field_number (drop l.field-index l.fields)) ≡ first_of (bad_field_at (schema_data l.schema) l.of) (map field_number l.fields)
