use Rattle.std.proofs.Common.{ap, ◌∙◌}
use Rattle.input_values.specs.coercion.Given.{is_nothing}
use Rattle.input_values.specs.coercion.Written.{value_given}
use Rattle.input_values.specs.declared.coercion.scope.Scope.{Scope}
use Rattle.schema_model.specs.declared.schema.Schema.{Schema}
use Rattle.literal_loads.proofs.weighing.Weighing.is_absent.Goals as goal

pub returns : goal.returns
returns c = c.is_nothing.ensures ∙ ap (λ (s : Scope Schema). is_nothing (value_given s.variables.now.items.items c.args.literal.now)) c.scope.ensures
