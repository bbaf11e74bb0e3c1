-- One digit more.
use Rattle.std.proofs.Common.{refl, arith}
use Rattle.std.proofs.lemmas.Int.Digits.{digits_value_more}
use Rattle.http_fields.proofs.Bounds.{at_most_18, tens_more, tens_within, tens_none}
use Rattle.http_fields.proofs.lengths.number_of.Goals as goal

pub loop-i-init : goal.loop-i-init
loop-i-init c = (refl, omega (arith, tens_none))

pub longer-number-requires-clause-number : goal.longer-number-requires-clause-number
longer-number-requires-clause-number c =
    let most = at_most_18 c.args.digits.now c.requires in
    omega (arith, c.loop-i.invariant.1, tens_within c.loop-i.i (omega (arith, most, c.loop-i-test.true)))

pub loop-i-preserved : goal.loop-i-preserved
loop-i-preserved c =
    let more = digits_value_more 10 c.args.digits.now c.loop-i.i c.loop-i-test.true in (
      omega (arith, more, c.longer-number.ensures, c.digit.ensures.value, c.loop-i.invariant.0),
      omega (arith, tens_more c.loop-i.i, c.longer-number.ensures, c.digit.ensures.small, c.loop-i.invariant.1),
    )
