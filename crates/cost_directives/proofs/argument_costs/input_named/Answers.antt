use Rattle.cost_directives.proofs.FoundInputs.{found_input}
use Rattle.cost_directives.proofs.argument_costs.input_named.Goals as goal

pub returns : goal.returns
returns c = found_input c.first_named.result c.args.inputs.now.items.items c.args.name.now c.first_named.ensures
