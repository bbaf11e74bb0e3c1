use Rattle.std.proofs.Common.{map, take}
use Rattle.document_rules.specs.Parts.{fragment_data}
use Rattle.variable_coercion.specs.Calls.{environment}
use Rattle.distinct_selections.specs.Adding.{fragment_seen}
use Rattle.plan_model.specs.Shortening.{AreShortenedFragments}
use Rattle.distinct_selections.specs.SameVariables.{AreRight}
use Rattle.distinct_selections.proofs.distinct.shorten_fragments.Given as goal

abbrev pub invariant-loop-fragment : goal.invariant-loop-fragment
invariant-loop-fragment l = AreRight l.stand_ins → AreShortenedFragments (environment l.stand_ins.variables.now) (map fragment_seen (take l.fragment-index l.fragments)) (map fragment_data l.shortened.items)
