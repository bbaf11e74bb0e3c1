use Rattle.literal_loads.proofs.SeenInputs.{found_placed}
use Rattle.literal_loads.proofs.KeptInputs.{right_found}
use Rattle.literal_loads.proofs.inputs.KnownInputs.named.Goals as goal

pub returns-clause-found : goal.returns-clause-found
returns-clause-found c = found_placed c.first_named.result c.args.self.now.inputs.items.items c.args.name.now c.first_named.ensures

pub returns-clause-right : goal.returns-clause-right
returns-clause-right c = λ e right. right_found e c.args.name.now c.args.self.now.inputs.items.items c.first_named.result c.first_named.ensures right
