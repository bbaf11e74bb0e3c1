use Rattle.std.proofs.Common.{ap, ◌∙◌}
use Rattle.schema_model.specs.SchemaData.{field_at}
use Rattle.schema_model.specs.SchemaViews.{schema_data}
use Rattle.variable_coercion.specs.Arguments.{defined_answer}
use Rattle.variable_coercion.specs.Calls.{environment}
use Rattle.variable_coercion.proofs.arguments.coerce_arguments_at.Goals as goal

pub returns : goal.returns
returns c = λ args is. c.arguments_at.ensures args (ap (λ inputs. defined_answer (schema_data c.args.schema.now) inputs c.in_ok-index.index.items.now (environment c.args.variables.now)) c.arguments.ensures
    ∙ (ap (λ written. defined_answer (schema_data c.args.schema.now) (field_at (schema_data c.args.schema.now) c.args.of.number).arguments written (environment c.args.variables.now)) c.in_ok-index.ensures ∙ is))
