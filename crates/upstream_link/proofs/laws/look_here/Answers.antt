-- By both looks.
use Rattle.upstream_link.proofs.laws.look_here.Goals as goal

pub returns : goal.returns
returns c = ((c.look_at_head.result, c.look_at_head.ensures.exact), (c.look_at.result, c.look_at.ensures.exact))
