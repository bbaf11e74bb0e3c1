use Rattle.std.proofs.Common.{◌≡◌, ◌++◌, drop, map}
use Rattle.collected_fields.specs.Serving.{with_number}
use Rattle.collected_fields.specs.Views.{collected_field}
use Rattle.collected_fields.specs.Walks.{numbered}
use Rattle.collected_fields.proofs.finish.with_number.Given as goal

abbrev pub invariant-loop-field : goal.invariant-loop-field
invariant-loop-field l = map numbered l.made.items ++ with_number l.below l.nothing (map collected_field (drop l.field-index l.fields)) ≡ with_number l.number l.nothing (map collected_field l.fields)
