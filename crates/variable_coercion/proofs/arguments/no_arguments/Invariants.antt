use Rattle.std.proofs.Common.{◌≡◌, map}
use Rattle.std.specs.Prelude.{replicate}
use Rattle.schema_model.specs.Arguments.{arg_data}
use Rattle.variable_coercion.specs.Arguments.{no_argument}
use Rattle.variable_coercion.proofs.arguments.no_arguments.Given as goal

abbrev pub invariant-loop-at : goal.invariant-loop-at
invariant-loop-at l = map arg_data l.list.items ≡ replicate l._at no_argument
