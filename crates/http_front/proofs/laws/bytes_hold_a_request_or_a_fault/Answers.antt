-- By the look for a head.
use Rattle.http_front.proofs.Either.{held_by}
use Rattle.http_front.proofs.laws.bytes_hold_a_request_or_a_fault.Goals as goal

pub returns : goal.returns
returns c = record { either = held_by c.args.bytes.now c.find_head.new.headers c.find_head.result c.find_head.ensures }
