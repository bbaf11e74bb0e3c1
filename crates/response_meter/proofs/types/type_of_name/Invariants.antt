-- The types that are left answer as all.
use Rattle.std.proofs.Common.{◌≡◌, drop, map}
use Rattle.schema_model.specs.Numbers.{type_number}
use Rattle.schema_model.specs.SchemaViews.{schema_data}
use Rattle.response_meter.specs.Types.{number_named}
use Rattle.response_meter.proofs.types.type_of_name.Given as goal

abbrev pub invariant-possible : goal.invariant-possible
invariant-possible l = number_named (schema_data l.schema) (map type_number (drop l.on-index l.possible)) l.name ≡ number_named (schema_data l.schema) (map type_number l.possible) l.name
