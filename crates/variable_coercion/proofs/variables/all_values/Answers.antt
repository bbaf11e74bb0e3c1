use Rattle.serde_json.specs.View.{view}
use Rattle.schema_model.specs.SchemaViews.{schema_data}
use Rattle.schema_model.specs.InputForms.{schema_forms}
use Rattle.variable_coercion.specs.Variables.{declared_of, variable_answer}
use Rattle.variable_coercion.specs.Calls.{variable_data, variable_told}
use Rattle.variable_coercion.proofs.InOrder.{one_more, all_done, first_told}
use Rattle.variable_coercion.proofs.variables.all_values.Goals as goal

pub variables-preserved : goal.variables-preserved
variables-preserved c =
    one_more (variable_answer (schema_forms c.args.schema.now) (view c.args.given.now)) (declared_of (schema_data c.args.schema.now)) variable_data c.args.variables.now c.variables.variable-index c.variable-item.result
    c.variables.values.items _ c.in-Ok.value _ c.variables-test.true c.variable-item.is c.in-Ok.ensures c.in_ok-push-in-Ok.ensures.items c.variables.invariant

pub returns-in-Err : goal.returns-in-Err
returns-in-Err c =
    first_told (variable_answer (schema_forms c.args.schema.now) (view c.args.given.now)) (declared_of (schema_data c.args.schema.now)) variable_data c.args.variables.now c.variables.variable-index c.variable-item.result
    c.variables.values.items (variable_told c.in-Err.fault) _ c.variables-test.true c.variable-item.is c.in-Err.ensures c.variables.invariant

pub returns : goal.returns
returns c = all_done (variable_answer (schema_forms c.args.schema.now) (view c.args.given.now)) (declared_of (schema_data c.args.schema.now)) variable_data c.args.variables.now c.variables.variable-index c.variables.values.items _ c.variables-test.false c.variables.invariant
