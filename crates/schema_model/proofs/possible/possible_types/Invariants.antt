use Rattle.std.proofs.Common.{◌≡◌, ◌++◌, drop, map}
use Rattle.schema_model.specs.Entries.{type_data, numbers_in}
use Rattle.schema_model.specs.SchemaData.{numbers_from, is_possible}
use Rattle.schema_model.proofs.possible.possible_types.Given as goal

-- The possible types so far, and then those from here on.
abbrev pub invariant-loop-number : goal.invariant-loop-number
invariant-loop-number l = numbers_in l.possible ++ numbers_from l.number (is_possible (type_data l.condition) l.c) (map type_data (drop l.number l.types)) ≡ numbers_from 0 (is_possible (type_data l.condition) l.c) (map type_data l.types)
