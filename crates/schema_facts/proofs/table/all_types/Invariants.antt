use Rattle.std.proofs.Common.{◌≡◌, ◌++◌, drop, map}
use Rattle.schema_facts.specs.Facts.{known_type}
use Rattle.schema_facts.specs.Things.{thing_data}
use Rattle.schema_facts.specs.Table.{types_from}
use Rattle.schema_facts.proofs.table.all_types.Given as goal

abbrev pub invariant-types : goal.invariant-types
invariant-types l = map thing_data l.things.items ++ types_from l.number (map known_type (drop l.number l.facts.types.items.items)) ≡ types_from 0 (map known_type l.facts.types.items.items)
