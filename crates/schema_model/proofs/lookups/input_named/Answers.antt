use Rattle.schema_model.proofs.NamedDrafts.{first_input}
use Rattle.schema_model.proofs.lookups.input_named.Goals as goal

pub returns : goal.returns
returns c = first_input c.args.inputs.now.items.items c.args.name.now c.first_named.result c.first_named.ensures
