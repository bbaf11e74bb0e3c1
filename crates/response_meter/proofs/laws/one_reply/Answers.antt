use Rattle.response_meter.proofs.Exact.{one_reply_read}
use Rattle.response_meter.proofs.laws.one_reply.Goals as goal

pub returns : goal.returns
returns c name alias plan bytes named t s es fs p q = one_reply_read name alias plan named bytes t s es fs p q
