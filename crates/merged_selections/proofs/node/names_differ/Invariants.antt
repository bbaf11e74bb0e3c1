use Rattle.std.proofs.Common.{◌≡◌, drop, map}
use Rattle.collected_fields.specs.Views.{collected_field}
use Rattle.merged_selections.specs.NodeTests.{names_not}
use Rattle.merged_selections.proofs.node.names_differ.Given as goal

abbrev pub invariant-loop-field : goal.invariant-loop-field
invariant-loop-field l = names_not l.name (map collected_field (drop l.field-index l.fields)) ≡ names_not l.name (map collected_field l.fields)
