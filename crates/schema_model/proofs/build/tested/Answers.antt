use Rattle.schema_model.proofs.FaultSteps.{first_fails, first_passes}
use Rattle.schema_model.proofs.build.tested.Goals as goal

pub returns-in-Ok : goal.returns-in-Ok
returns-in-Ok c = first_passes c.test_items.result _ c.tested_names.result _ _ c.test_items.ensures c.in-Ok.is c.tested_names.ensures

pub returns-in-Err : goal.returns-in-Err
returns-in-Err c = first_fails c.test_items.result c.in-Err.fault _ _ c.test_items.ensures c.in-Err.is
