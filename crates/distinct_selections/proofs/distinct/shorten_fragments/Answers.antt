use Rattle.document_rules.specs.Parts.{fragment_data}
use Rattle.variable_coercion.specs.Calls.{environment}
use Rattle.distinct_selections.specs.Adding.{fragment_seen}
use Rattle.distinct_selections.proofs.AddingSteps.{fragments_more}
use Rattle.distinct_selections.proofs.distinct.shorten_fragments.Goals as goal

pub loop-fragment-preserved : goal.loop-fragment-preserved
loop-fragment-preserved c = λ right. fragments_more (environment c.args.stand_ins.now.variables.now) fragment_seen fragment_data c.args.fragments.now c.loop-fragment.fragment-index c.fragment-item.result c.loop-fragment.shortened.items c.push.new.self.items c.in_ok-shorten_fragment.field-0
    c.loop-fragment-test.true c.fragment-item.is c.in_ok-push.ensures.items (c.loop-fragment.invariant right) (c.in_ok-shorten_fragment.ensures right)
