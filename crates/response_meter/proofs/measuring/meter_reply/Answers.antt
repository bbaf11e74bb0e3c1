-- The types that were made of the rows are those of the tree that the table holds.
use Rattle.std.proofs.Common.{subst}
use Rattle.response_meter.specs.Walks.{MeasuresReply}
use Rattle.response_meter.proofs.Nesting.{tree_nested}
use Rattle.response_meter.proofs.measuring.meter_reply.Goals as goal

pub returns : goal.returns
returns c = λ tree holds.
    subst (λ plan. MeasuresReply c.args.by.now c.read_reply.result plan c.args.body.now)
    (tree_nested c.args.by.now c.in_ok-types.types c.in_ok-types.ensures.0 tree c.in_ok-types.ensures.1 holds) c.read_reply.ensures
