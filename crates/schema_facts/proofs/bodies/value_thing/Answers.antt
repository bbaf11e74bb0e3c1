use Rattle.schema_reader.specs.Trees.{enum_value_tree}
use Rattle.schema_facts.specs.Places.{value_place}
use Rattle.schema_facts.proofs.PlacesListed.{place_there}
use Rattle.schema_facts.proofs.bodies.value_thing.Goals as goal

pub invariant_of-result : goal.invariant_of-result
invariant_of-result c = record {
  is = place_there enum_value_tree value_place c.args.places.now c.args.values.now c.args.number c.index-values-number.result 0 c.requires.found c.requires.within c.index-values-number.is;
}
