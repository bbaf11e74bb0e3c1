use Rattle.std.proofs.Common.{◌≡◌, map}
use Rattle.std.specs.List.{filter, range_with_len}
use Rattle.schema_model.specs.Entries.{field_number}
use Rattle.cost_directives.specs.WeightViews.{weights_data}
use Rattle.schema_surprises.specs.Surprises.{hands_some}
use Rattle.schema_surprises.proofs.fields.handing_fields.Given as goal

-- Those of the fields so far.
abbrev pub invariant-loop-number : goal.invariant-loop-number
invariant-loop-number l = map field_number l.handing.items ≡ filter (hands_some (weights_data l.weights)) (range_with_len 0 l.number)
