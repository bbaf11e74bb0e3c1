use Rattle.std.proofs.Common.{◌≡◌, ◌++◌, map, drop}
use Rattle.document_rules.specs.Parts.{fragment_data}
use Rattle.collected_fields.specs.Views.{fragment_seen}
use Rattle.merged_selections.proofs.build.lent.Given as goal

abbrev pub invariant-loop-fragment : goal.invariant-loop-fragment
invariant-loop-fragment l = map fragment_seen l.lent.items ++ map fragment_data (drop l.fragment-index l.fragments) ≡ map fragment_data l.fragments
