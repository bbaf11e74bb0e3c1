use Rattle.std.proofs.Common.{◌≡◌, ◌++◌, drop, map}
use Rattle.schema_facts.specs.Facts.{known_type, numbers_in}
use Rattle.schema_facts.specs.Places.{places_of}
use Rattle.schema_facts.proofs.places.all_places.Given as goal

abbrev pub invariant-types : goal.invariant-types
invariant-types l = map numbers_in l.all.items ++ map places_of (map known_type (drop l.known-index l.types)) ≡ map places_of (map known_type l.types)
