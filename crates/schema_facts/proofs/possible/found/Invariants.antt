use Rattle.std.proofs.Common.{◌≡◌, ◌++◌, drop, map}
use Rattle.schema_facts.specs.Facts.{known_type, numbers_in}
use Rattle.schema_facts.specs.Possible.{found_from}
use Rattle.schema_facts.proofs.possible.found.Given as goal

abbrev pub invariant-types : goal.invariant-types
invariant-types l =
    map numbers_in l.all.items
    ++ found_from (map known_type l.types.items.items) (map numbers_in l.implementing) (map numbers_in l.members) l.number (map known_type (drop l.number l.types.items.items))
    ≡ found_from (map known_type l.types.items.items) (map numbers_in l.implementing) (map numbers_in l.members) 0 (map known_type l.types.items.items)
