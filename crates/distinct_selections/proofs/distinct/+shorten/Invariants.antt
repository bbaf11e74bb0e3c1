use Rattle.std.proofs.Common.{take}
use Rattle.document_reader.specs.Trees.{set_tree}
use Rattle.variable_coercion.specs.Calls.{environment}
use Rattle.plan_model.specs.Shortening.{AreShortened}
use Rattle.distinct_selections.specs.SameVariables.{AreRight}
use Rattle.distinct_selections.proofs.distinct.+shorten.Given as goal

abbrev pub invariant-shorten_set-set : goal.invariant-shorten_set-set
invariant-shorten_set-set l = AreRight l.stand_ins → AreShortened (environment l.stand_ins.variables.now) (set_tree (take l.selection-index l.selections)) (set_tree l.kept.selections.items)
