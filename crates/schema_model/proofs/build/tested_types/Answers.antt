use Rattle.schema_model.proofs.FaultSteps.{first_fails, first_passes}
use Rattle.schema_model.proofs.build.tested_types.Goals as goal

pub returns-in-Ok : goal.returns-in-Ok
returns-in-Ok c = first_passes c.test_types.result _ c.test_drafts.result _ _ c.test_types.ensures c.in-Ok.is c.test_drafts.ensures

pub returns-in-Err : goal.returns-in-Err
returns-in-Err c = first_fails c.test_types.result c.in-Err.fault _ _ c.test_types.ensures c.in-Err.is
