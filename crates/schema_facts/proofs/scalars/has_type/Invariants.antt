use Rattle.std.proofs.Common.{◌≡◌, drop, map}
use Rattle.gql_base.specs.names.Names.{has_name}
use Rattle.schema_facts.specs.Facts.{known_name, known_type}
use Rattle.schema_facts.proofs.scalars.has_type.Given as goal

abbrev pub invariant-types : goal.invariant-types
invariant-types l = has_name known_name (map known_type (drop l.known-index l.types)) l.name ≡ has_name known_name (map known_type l.types) l.name
