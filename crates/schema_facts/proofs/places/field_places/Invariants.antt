use Rattle.std.proofs.Common.{◌≡◌, ◌++◌, drop, map}
use Rattle.schema_reader.specs.Trees.{field_tree}
use Rattle.schema_facts.specs.Places.{field_place}
use Rattle.schema_facts.proofs.places.field_places.Given as goal

abbrev pub invariant-fields : goal.invariant-fields
invariant-fields l = l.places.items ++ map field_place (map field_tree (drop l.field-index l.fields)) ≡ map field_place (map field_tree l.fields)
