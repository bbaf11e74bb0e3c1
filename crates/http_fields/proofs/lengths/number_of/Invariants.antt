-- The number of the digits so far, and its bound.
use Rattle.std.proofs.Common.{◌≡◌, ◌<◌, take}
use Rattle.std.specs.Str.Parse.{digits_value}
use Rattle.http_fields.specs.Digits.{tens}
use Rattle.http_fields.proofs.lengths.number_of.Given as goal

abbrev pub invariant-loop-i : goal.invariant-loop-i
invariant-loop-i l = (l.number ≡ digits_value 10 (take l.i l.digits)) × (l.number < tens l.i)
