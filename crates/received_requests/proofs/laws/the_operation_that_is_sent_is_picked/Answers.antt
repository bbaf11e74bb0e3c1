use Rattle.received_requests.proofs.PickedParts.{asks_for_it, is_first, kind_kept, selections_kept}
use Rattle.received_requests.proofs.laws.the_operation_that_is_sent_is_picked.Goals as goal

pub returns-clause-asks : goal.returns-clause-asks
returns-clause-asks c = asks_for_it

pub returns-clause-first : goal.returns-clause-first
returns-clause-first c r p alias q o is asks = is_first r p alias q is o asks

pub returns-clause-kind : goal.returns-clause-kind
returns-clause-kind c r p alias q o is asks = kind_kept r p alias q is o asks

pub returns-clause-selections : goal.returns-clause-selections
returns-clause-selections c r p alias q o is asks = selections_kept r p alias q is o asks
