use Rattle.std.proofs.Common.{map}
use Rattle.input_values.specs.inputs.Definitions.{input_data}
use Rattle.schema_model.specs.SchemaViews.{schema_data}
use Rattle.schema_model.specs.InputForms.{schema_forms}
use Rattle.schema_model.specs.Arguments.{arg_data}
use Rattle.variable_coercion.specs.Arguments.{argument_given, argument_answer, defined_answer}
use Rattle.variable_coercion.specs.Calls.{environment}
use Rattle.variable_coercion.proofs.InOrder.{GoesOn}
use Rattle.variable_coercion.proofs.arguments.all_arguments.Given as goal

abbrev pub invariant-inputs : goal.invariant-inputs
invariant-inputs l = GoesOn (λ i. argument_answer (schema_forms l.schema) i (argument_given (environment l.variables) l.written.items.now i.name)) input_data arg_data l.list.items l.inputs l.input-index
    (defined_answer (schema_data l.schema) (map input_data l.inputs) l.written.items.now (environment l.variables))
