use Rattle.input_values.specs.inputs.Definitions.{input_data}
use Rattle.schema_model.specs.InputForms.{schema_forms}
use Rattle.schema_model.specs.Arguments.{arg_data}
use Rattle.variable_coercion.specs.Arguments.{argument_given, argument_answer}
use Rattle.variable_coercion.specs.Calls.{environment, argument_told}
use Rattle.variable_coercion.proofs.InOrder.{one_more, all_done, first_told}
use Rattle.variable_coercion.proofs.arguments.all_arguments.Goals as goal

pub inputs-preserved : goal.inputs-preserved
inputs-preserved c =
    one_more (λ i. argument_answer (schema_forms c.args.schema.now) i (argument_given (environment c.args.variables.now) c.args.written.now.items.now i.name)) input_data arg_data c.args.inputs.now c.inputs.input-index c.input-item.result
    c.inputs.list.items _ c.in-Ok.argument _ c.inputs-test.true c.input-item.is c.in-Ok.ensures c.in_ok-push-in-Ok.ensures.items c.inputs.invariant

pub returns-in-Err : goal.returns-in-Err
returns-in-Err c =
    first_told (λ i. argument_answer (schema_forms c.args.schema.now) i (argument_given (environment c.args.variables.now) c.args.written.now.items.now i.name)) input_data arg_data c.args.inputs.now c.inputs.input-index c.input-item.result
    c.inputs.list.items (argument_told c.in-Err.fault) _ c.inputs-test.true c.input-item.is c.in-Err.ensures c.inputs.invariant

pub returns : goal.returns
returns c =
    all_done (λ i. argument_answer (schema_forms c.args.schema.now) i (argument_given (environment c.args.variables.now) c.args.written.now.items.now i.name)) input_data arg_data c.args.inputs.now c.inputs.input-index c.inputs.list.items _ c.inputs-test.false c.inputs.invariant
