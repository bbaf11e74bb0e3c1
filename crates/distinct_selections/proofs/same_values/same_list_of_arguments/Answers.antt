use Rattle.std.proofs.Common.{◌∙◌}
use Rattle.distinct_selections.proofs.SideBySide.{at_end, arguments_compared, argument_compared, arguments_compare, not_less}
use Rattle.distinct_selections.proofs.same_values.same_list_of_arguments.Goals as goal
use Rattle.distinct_selections.proofs.same_values.same_list_of_arguments.Goals.{then-loop-at-test+else-at-others, else-loop-at-test}

pub returns : goal.returns
returns c =
    at_end arguments_compared argument_compared arguments_compare c.args.args.now c.args.others.now c.loop-at.at c.loop-at.invariant.0 c.loop-at.invariant.1
    (λ a b. elim c.loop-at-test.branch [ then-loop-at-test+else-at-others w ↦ not_less w.if-at-others.false b | else-loop-at-test w ↦ not_less w.loop-at-test.false a ])
    ∙ c.loop-at.invariant.2
