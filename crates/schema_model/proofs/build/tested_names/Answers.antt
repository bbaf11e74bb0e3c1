use Rattle.schema_model.proofs.FaultSteps.{first_fails, first_passes}
use Rattle.schema_model.proofs.build.tested_names.Goals as goal

pub returns-in-Ok : goal.returns-in-Ok
returns-in-Ok c = first_passes c.test_names.result _ c.tested_types.result _ _ c.test_names.ensures c.in-Ok.is c.tested_types.ensures

pub returns-in-Err : goal.returns-in-Err
returns-in-Err c = first_fails c.test_names.result c.in-Err.fault _ _ c.test_names.ensures c.in-Err.is
