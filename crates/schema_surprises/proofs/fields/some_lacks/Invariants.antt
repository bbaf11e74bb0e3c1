use Rattle.std.proofs.Common.{◌≡◌, ◌-◌, false}
use Rattle.std.specs.List.{list_any, range_with_len}
use Rattle.schema_model.specs.SchemaViews.{schema_data}
use Rattle.cost_directives.specs.WeightViews.{weights_data}
use Rattle.schema_surprises.specs.Surprises.{is_way}
use Rattle.schema_surprises.proofs.fields.some_lacks.Given as goal

-- What is left answers as the whole.
abbrev pub invariant-loop-number : goal.invariant-loop-number
invariant-loop-number l =
    list_any (is_way false (schema_data l.schema) (weights_data l.weights) l.of.number l.name) (range_with_len l.number (l.fields - l.number))
    ≡ list_any (is_way false (schema_data l.schema) (weights_data l.weights) l.of.number l.name) (range_with_len 0 l.fields)
