use Rattle.std.proofs.Common.{refl}
use Rattle.schema_model.specs.SchemaViews.{schema_data}
use Rattle.collected_fields.proofs.FinishLaws.{finished}
use Rattle.collected_fields.proofs.finish.finish_one.Goals as goal

pub returns-clause-finishes : goal.returns-clause-finishes
returns-clause-finishes c = finished (schema_data c.args.schema.now) c.args.joins.now c.few.new.self c.args.fields.now _ c.in_ok-numbers.numbers.items _ _ c.in_ok-unlike.ensures c.in_ok-numbers.ensures c.in_ok-below.ensures.few refl refl
