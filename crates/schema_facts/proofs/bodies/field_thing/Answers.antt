use Rattle.schema_reader.specs.Trees.{field_tree}
use Rattle.schema_facts.specs.Places.{field_place}
use Rattle.schema_facts.proofs.PlacesListed.{place_there}
use Rattle.schema_facts.proofs.bodies.field_thing.Goals as goal

pub invariant_of-result : goal.invariant_of-result
invariant_of-result c = record {
  is = place_there field_tree field_place c.args.places.now c.args.fields.now c.args.number c.index-fields-number.result 0 c.requires.found c.requires.within c.index-fields-number.is;
}
