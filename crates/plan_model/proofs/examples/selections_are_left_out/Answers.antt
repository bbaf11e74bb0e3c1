use Rattle.plan_model.proofs.Computed.{left_out_paths}
use Rattle.plan_model.proofs.examples.selections_are_left_out.Goals as goal

pub returns : goal.returns
returns c = left_out_paths
