use Rattle.std.proofs.Common.{◌≡◌, ◌++◌, drop}
use Rattle.document_reader.specs.Trees.{set_tree}
use Rattle.document_rules.specs.Met.{spreads_within}
use Rattle.document_rules.specs.Steps.{to_come}
use Rattle.document_rules.proofs.met.+spreads.Given as goal

abbrev pub invariant-add_spreads-loop-at : goal.invariant-add_spreads-loop-at
invariant-add_spreads-loop-at l = to_come l.into.items ≡ spreads_within l.within (set_tree (drop l.at l.selections)) ++ to_come l.fn.into.items
