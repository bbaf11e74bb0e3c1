use Rattle.schema_model.specs.SchemaData.{field_at}
use Rattle.schema_model.specs.InputForms.{input_forms}
use Rattle.variable_coercion.specs.Arguments.{argument_given, argument_answer}
use Rattle.variable_coercion.specs.Relation.{IsArgument}
use Rattle.variable_coercion.proofs.Related.{argument_iff, all_iff}
use Rattle.variable_coercion.proofs.laws.what_arguments_are.Goals as goal

pub returns-clause-found : goal.returns-clause-found
returns-clause-found c = λ s field written env values.
    (all_iff (λ i. argument_answer (input_forms s) i (argument_given env written i.name)) (λ i. IsArgument (input_forms s) i (argument_given env written i.name)) (λ i. argument_iff (input_forms s) i (argument_given env written i.name)) (field_at s field).arguments values).0

pub returns-clause-only : goal.returns-clause-only
returns-clause-only c = λ s field written env values.
    (all_iff (λ i. argument_answer (input_forms s) i (argument_given env written i.name)) (λ i. IsArgument (input_forms s) i (argument_given env written i.name)) (λ i. argument_iff (input_forms s) i (argument_given env written i.name)) (field_at s field).arguments values).1
