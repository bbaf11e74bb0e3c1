use Rattle.std.proofs.Common.{◌≡◌, false}
use Rattle.std.specs.Prelude.{replicate}
use Rattle.operation_class.proofs.root_fields.no_marks.Given as goal

abbrev pub invariant-marks : goal.invariant-marks
invariant-marks l = l.marks.items ≡ replicate l._at false
