use Rattle.std.proofs.Common.{◌≡◌, true, drop, map}
use Rattle.std.specs.List.{list_any}
use Rattle.schema_model.specs.Entries.{field_number}
use Rattle.schema_model.specs.SchemaViews.{schema_data}
use Rattle.cost_directives.specs.WeightViews.{weights_data}
use Rattle.schema_surprises.specs.Surprises.{is_way}
use Rattle.schema_surprises.proofs.fields.some_hands.Given as goal

-- What is left answers as the whole.
abbrev pub invariant-fields : goal.invariant-fields
invariant-fields l =
    list_any (is_way true (schema_data l.schema) (weights_data l.weights) l.of.number l.name) (map field_number (drop l.field-index l.fields))
    ≡ list_any (is_way true (schema_data l.schema) (weights_data l.weights) l.of.number l.name) (map field_number l.fields)
