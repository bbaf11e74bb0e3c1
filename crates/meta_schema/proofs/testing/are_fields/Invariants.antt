use Rattle.std.proofs.Common.{◌≡◌, ◌-◌}
use Rattle.std.specs.List.{list_all, range_with_len}
use Rattle.schema_model.specs.SchemaViews.{schema_data}
use Rattle.cost_directives.specs.WeightViews.{weights_data}
use Rattle.meta_schema.specs.MetaTests.{is_field}
use Rattle.meta_schema.proofs.testing.are_fields.Given as goal

-- The numbers that are left answer as all do.
abbrev pub invariant-fields : goal.invariant-fields
invariant-fields l = list_all (is_field (schema_data l.schema) (weights_data l.weights)) (range_with_len l.number (l.count - l.number)) ≡ list_all (is_field (schema_data l.schema) (weights_data l.weights)) (range_with_len 0 l.count)
