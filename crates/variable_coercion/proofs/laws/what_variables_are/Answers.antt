use Rattle.std.proofs.Common.{map}
use Rattle.schema_model.specs.InputForms.{input_forms}
use Rattle.variable_coercion.specs.Variables.{declared_of, variable_answer}
use Rattle.variable_coercion.specs.Relation.{IsVariable}
use Rattle.variable_coercion.proofs.Related.{variable_iff, all_iff}
use Rattle.variable_coercion.proofs.laws.what_variables_are.Goals as goal

pub returns-clause-found : goal.returns-clause-found
returns-clause-found c = λ s variables given values. (all_iff (variable_answer (input_forms s) given) (IsVariable (input_forms s) given) (variable_iff (input_forms s) given) (map (declared_of s) variables) values).0

pub returns-clause-only : goal.returns-clause-only
returns-clause-only c = λ s variables given values. (all_iff (variable_answer (input_forms s) given) (IsVariable (input_forms s) given) (variable_iff (input_forms s) given) (map (declared_of s) variables) values).1
