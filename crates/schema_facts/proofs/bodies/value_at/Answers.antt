use Rattle.std.proofs.Common.{sym}
use Rattle.schema_reader.specs.Trees.{enum_value_tree}
use Rattle.schema_facts.proofs.PlacesListed.{gotten_there, gotten_past}
use Rattle.schema_facts.proofs.bodies.value_at.Goals as goal

pub returns-then-number-values : goal.returns-then-number-values
returns-then-number-values c = sym (gotten_there enum_value_tree c.args.values.now c.args.number c.value_thing.result.of.now c.if-number-values.true c.value_thing.ensures)

pub returns-else-number-values : goal.returns-else-number-values
returns-else-number-values c = gotten_past enum_value_tree c.args.values.now c.args.number c.if-number-values.false
