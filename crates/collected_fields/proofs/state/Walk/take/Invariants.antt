use Rattle.std.proofs.Common.{◌≡◌, map, take}
use Rattle.collected_fields.specs.Walks.{walk_data, numbered, taken}
use Rattle.collected_fields.proofs.state.Walk.take.Given as goal

abbrev pub invariant-loop-field : goal.invariant-loop-field
invariant-loop-field l = walk_data l.self ≡ taken (map numbered (take l.field-index l.fields)) (walk_data l.fn.self)
