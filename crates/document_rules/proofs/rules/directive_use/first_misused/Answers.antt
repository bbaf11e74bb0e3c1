use Rattle.document_rules.proofs.MisusedSteps.{misused_here, misused_later, none_misused}
use Rattle.document_rules.proofs.rules.directive_use.first_misused.Goals as goal

pub returns-then-is_misused : goal.returns-then-is_misused
returns-then-is_misused c = misused_here c.args.directives.now c.loop-at.at c.index-directives-at.result c.is_misused.result _ c.loop-at-test.true c.index-directives-at.is c.is_misused.ensures c.if-is_misused.true c.loop-at.invariant

pub loop-at-preserved : goal.loop-at-preserved
loop-at-preserved c = misused_later c.args.directives.now c.loop-at.at c.index-directives-at.result c.is_misused.result _ c.loop-at-test.true c.index-directives-at.is c.is_misused.ensures c.if-is_misused.false c.loop-at.invariant

pub returns : goal.returns
returns c = none_misused c.args.directives.now c.loop-at.at _ c.loop-at-test.false c.loop-at.invariant
