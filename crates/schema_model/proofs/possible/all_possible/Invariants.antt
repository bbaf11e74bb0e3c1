use Rattle.std.proofs.Common.{◌≡◌, ◌++◌, drop, map}
use Rattle.schema_model.specs.Entries.{type_data, numbers_listed}
use Rattle.schema_model.specs.SchemaData.{all_possible}
use Rattle.schema_model.proofs.possible.all_possible.Given as goal

-- Those so far, and then those from here on.
abbrev pub invariant-loop-number : goal.invariant-loop-number
invariant-loop-number l = map numbers_listed l.all.items ++ all_possible l.number (map type_data l.types) (map type_data (drop l.number l.types)) ≡ all_possible 0 (map type_data l.types) (map type_data l.types)
