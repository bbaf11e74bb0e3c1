-- A number below 2 ^ 64 has at most 20 digits.
use Rattle.std.proofs.Common.{arith}
use Rattle.std.proofs.lemmas.Fmt.{length-decimal-le}
use Rattle.http_front.proofs.reply.put_length.Goals as goal

pub put_decimal-requires : goal.put_decimal-requires
put_decimal-requires c = omega (arith, length-decimal-le 20 c.args.number (omega arith) (omega arith) (omega arith))

pub returns-clause-end : goal.returns-clause-end
returns-clause-end c = omega (arith, c.put_decimal.ensures.end, length-decimal-le 20 c.args.number (omega arith) (omega arith) (omega arith))
