use Rattle.plan_model.proofs.Computed.{merged_paths, merged_well}
use Rattle.plan_model.proofs.examples.fields_of_a_key_merge.Goals as goal

pub returns-clause-paths : goal.returns-clause-paths
returns-clause-paths c = merged_paths

pub returns-clause-well : goal.returns-clause-well
returns-clause-well c = merged_well
