use Rattle.plan_model.proofs.Computed.{search_paths}
use Rattle.plan_model.proofs.examples.types_have_their_own_nodes.Goals as goal

pub returns : goal.returns
returns c = search_paths
