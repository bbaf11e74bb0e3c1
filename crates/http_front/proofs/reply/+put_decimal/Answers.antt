-- The last digit stands behind the others.
use Rattle.std.proofs.Common.{arith}
use Rattle.std.proofs.lemmas.Fmt.{decimal_step}
use Rattle.cost_num.proofs.Digits.{written_twice}
use Rattle.http_front.proofs.reply.+put_decimal.Goals as goal

pub returns-clause-written : goal.returns-clause-written
returns-clause-written t c = rw (decimal_step c.args.number (omega arith) (omega arith)) (written_twice _ _ _ _ _ c.put_digit-2.ensures.written c.put_decimal-last.ensures.written)
