use Rattle.std.proofs.Common.{◌≡◌, map, take}
use Rattle.collected_fields.specs.Serving.{number_alone}
use Rattle.collected_fields.specs.Walks.{numbered}
use Rattle.collected_fields.proofs.finish.numbers_below.Given as goal

abbrev pub invariant-loop-field : goal.invariant-loop-field
invariant-loop-field l = l.numbers.items ≡ map number_alone (map numbered (take l.field-index l.fields))
