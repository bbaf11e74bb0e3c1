use Rattle.serde_json.specs.View.{view}
use Rattle.schema_model.specs.SchemaViews.{schema_data}
use Rattle.schema_model.specs.InputForms.{schema_forms}
use Rattle.variable_coercion.specs.Variables.{declared_of, variable_answer, variables_answer}
use Rattle.variable_coercion.specs.Calls.{variable_data}
use Rattle.variable_coercion.proofs.InOrder.{GoesOn}
use Rattle.variable_coercion.proofs.variables.all_values.Given as goal

abbrev pub invariant-variables : goal.invariant-variables
invariant-variables l = GoesOn (variable_answer (schema_forms l.schema) (view l.given)) (declared_of (schema_data l.schema)) variable_data l.values.items l.variables l.variable-index (variables_answer (schema_data l.schema) l.variables (view l.given))
