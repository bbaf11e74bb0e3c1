use Rattle.input_values.proofs.CoercionLaws.FirstRefusals.{first_refusal}
use Rattle.input_values.proofs.coercion.laws.what_is_refused.Goals as goal

pub returns : goal.returns
returns c = λ form g s. first_refusal form g s
