use Rattle.std.proofs.Common.{◌≡◌, map}
use Rattle.std.specs.List.{filter, range_with_len}
use Rattle.schema_model.specs.SchemaData.{type_at}
use Rattle.schema_model.specs.SchemaViews.{schema_data}
use Rattle.schema_surprises.specs.Surprises.{is_own_scalar}
use Rattle.schema_surprises.proofs.reporting.own_scalars.Given as goal

-- Those of the types so far.
abbrev pub invariant-loop-number : goal.invariant-loop-number
invariant-loop-number l = l.names.items ≡ map (λ n. (type_at (schema_data l.schema) n).name) (filter (is_own_scalar (schema_data l.schema)) (range_with_len 0 l.number))
