use Rattle.std.proofs.Common.{◌≡◌, take}
use Rattle.collected_fields.proofs.finish.copied.Given as goal

abbrev pub invariant-loop-field : goal.invariant-loop-field
invariant-loop-field l = l.made.items ≡ take l.field-index l.fields
