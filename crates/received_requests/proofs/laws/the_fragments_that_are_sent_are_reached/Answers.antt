use Rattle.received_requests.proofs.ReachedFragments.{fragments_kept}
use Rattle.received_requests.proofs.laws.the_fragments_that_are_sent_are_reached.Goals as goal

pub returns : goal.returns
returns c r p alias q o is asks values = fragments_kept r p alias q is o values asks
