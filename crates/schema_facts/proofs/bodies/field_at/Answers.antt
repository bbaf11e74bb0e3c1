use Rattle.std.proofs.Common.{sym}
use Rattle.schema_reader.specs.Trees.{field_tree}
use Rattle.schema_facts.proofs.PlacesListed.{gotten_there, gotten_past}
use Rattle.schema_facts.proofs.bodies.field_at.Goals as goal

pub returns-then-number-fields : goal.returns-then-number-fields
returns-then-number-fields c = sym (gotten_there field_tree c.args.fields.now c.args.number c.field_thing.result.of.now c.if-number-fields.true c.field_thing.ensures)

pub returns-else-number-fields : goal.returns-else-number-fields
returns-else-number-fields c = gotten_past field_tree c.args.fields.now c.args.number c.if-number-fields.false
