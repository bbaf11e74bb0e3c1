use Rattle.std.proofs.Common.{arith, append-nil, sym}
use Rattle.cost_num.proofs.Digits.{last_digits_none, last_digits_step, written_twice}
use Rattle.cost_num.proofs.printed.+write_last_digits.Goals as goal

pub returns-then-places-eq0-clause-written : goal.returns-then-places-eq0-clause-written
returns-then-places-eq0-clause-written t c = rw (last_digits_none c.args.places c.args.number (omega arith)) (sym (append-nil _))

pub returns-clause-written : goal.returns-clause-written
returns-clause-written t c = rw (last_digits_step c.args.places c.args.number (omega arith)) (written_twice _ _ _ _ _ c.write_digit.ensures.written c.write_last_digits-last.ensures.written)
