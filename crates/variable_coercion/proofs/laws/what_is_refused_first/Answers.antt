use Rattle.std.proofs.Common.{map}
use Rattle.schema_model.specs.SchemaData.{field_at}
use Rattle.schema_model.specs.InputForms.{input_forms}
use Rattle.variable_coercion.specs.Variables.{declared_of, variable_answer}
use Rattle.variable_coercion.specs.Arguments.{argument_given, argument_answer}
use Rattle.variable_coercion.specs.Relation.{variable_refusals, argument_refusals}
use Rattle.variable_coercion.proofs.Refused.{variable_first, argument_first, all_first}
use Rattle.variable_coercion.proofs.laws.what_is_refused_first.Goals as goal

pub returns-clause-variables : goal.returns-clause-variables
returns-clause-variables c = λ s variables given. all_first (variable_refusals (input_forms s) given) (variable_answer (input_forms s) given) (variable_first (input_forms s) given) (map (declared_of s) variables)

pub returns-clause-arguments : goal.returns-clause-arguments
returns-clause-arguments c = λ s field written env.
    all_first (λ i. argument_refusals (input_forms s) i (argument_given env written i.name)) (λ i. argument_answer (input_forms s) i (argument_given env written i.name)) (λ i. argument_first (input_forms s) i (argument_given env written i.name)) (field_at s field).arguments
