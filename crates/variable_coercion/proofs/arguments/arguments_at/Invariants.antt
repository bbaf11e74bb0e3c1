use Rattle.std.proofs.Common.{◌≡◌, List, map, take, length, All, Ok}
use Rattle.input_values.specs.inputs.Definitions.{input_data}
use Rattle.schema_model.specs.SchemaViews.{schema_data}
use Rattle.schema_model.specs.Arguments.{ArgData, arg_data}
use Rattle.variable_coercion.specs.Arguments.{defined_answer}
use Rattle.variable_coercion.specs.Calls.{environment, AgreeAt}
use Rattle.variable_coercion.proofs.arguments.arguments_at.Given as goal

abbrev pub invariant-places : goal.invariant-places
invariant-places l = record {
  many : length l.list.items ≡ length l.inputs;
  so_far : (args : List ArgData) → defined_answer (schema_data l.schema) (map input_data l.inputs) l.written.items.now (environment l.variables) ≡ Ok args → All (AgreeAt (map arg_data l.list.items) args) (take l.place-index l.places);
}
