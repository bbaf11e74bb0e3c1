use Rattle.schema_model.specs.Arguments.{args_data}
use Rattle.collected_fields.specs.Views.{setting_of_planning, collected_field}
use Rattle.merged_selections.proofs.MadeCalls.{costs_by}
use Rattle.merged_selections.proofs.call.built_cost.Goals as goal

pub returns-in-Ok : goal.returns-in-Ok
returns-in-Ok c = costs_by (setting_of_planning c.args.planning.now) c.args.of.number (collected_field c.args.field.now) (args_data c.in-Ok.args) c.in-Ok.ensures c.argument_cost.result c.argument_cost.ensures
