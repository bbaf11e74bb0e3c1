use Rattle.std.proofs.Common.{arith}
use Rattle.cost_num.proofs.Digits.{decimal_step, written_twice}
use Rattle.cost_num.proofs.printed.+write_decimal.Goals as goal

pub returns-clause-written : goal.returns-clause-written
returns-clause-written t c = rw (decimal_step c.args.number (omega arith) (omega arith)) (written_twice _ _ _ _ _ c.write_digit-2.ensures.written c.write_decimal-last.ensures.written)
