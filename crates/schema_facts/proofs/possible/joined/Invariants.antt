use Rattle.std.proofs.Common.{◌≡◌, ◌++◌, drop, map}
use Rattle.schema_facts.specs.Facts.{known_type, numbers_in}
use Rattle.schema_facts.specs.Possible.{joined}
use Rattle.schema_facts.proofs.possible.joined.Given as goal

abbrev pub invariant-types : goal.invariant-types
invariant-types l =
    map numbers_in l.lists.items ++ map (joined (map known_type l.types.items.items)) (map known_type (drop l.known-index l.types.items.items))
    ≡ map (joined (map known_type l.types.items.items)) (map known_type l.types.items.items)
