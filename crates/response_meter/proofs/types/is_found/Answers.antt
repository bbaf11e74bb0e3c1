use Rattle.std.proofs.Common.{◌+◌, ◌-◌, ◌/◌, length}
use Rattle.response_meter.proofs.Possible.{is_among, middle_within}
use Rattle.response_meter.proofs.types.is_found.Goals as goal

pub returns-then-number-wanted : goal.returns-then-number-wanted
returns-then-number-wanted c = λ found.
    is_among c.args.numbers.now (c.halves.low + (c.halves.high - c.halves.low) / 2) c.args.wanted (record { number = 0 })
    (middle_within c.halves.low c.halves.high (length c.args.numbers.now) c.halves-test.true c.halves.invariant) c.if-number-wanted.true
