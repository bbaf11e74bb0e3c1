-- By the looks at each place.
use Rattle.upstream_link.proofs.Either.{held}
use Rattle.upstream_link.proofs.laws.bytes_hold_a_reply_or_a_fault.Goals as goal

pub returns : goal.returns
returns c = record { either = held c.args.bytes.now c.look_everywhere.ensures }
