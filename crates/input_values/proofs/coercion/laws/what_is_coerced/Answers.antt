use Rattle.input_values.proofs.CoercionLaws.Found.{coerced_iff}
use Rattle.input_values.proofs.coercion.laws.what_is_coerced.Goals as goal

pub returns-clause-found : goal.returns-clause-found
returns-clause-found c = λ form g s t e. (coerced_iff form g s t).0 e

pub returns-clause-only : goal.returns-clause-only
returns-clause-only c = λ form g s t e. (coerced_iff form g s t).1 e
