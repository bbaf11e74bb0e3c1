use Rattle.received_requests.proofs.ValuesKept.{values_kept}
use Rattle.received_requests.proofs.laws.the_values_of_variables_are_kept.Goals as goal

pub returns : goal.returns
returns c r p alias q o is asks = values_kept r p alias q is o asks
