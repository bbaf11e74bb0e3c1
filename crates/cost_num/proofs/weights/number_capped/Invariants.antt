use Rattle.std.specs.Str.Parse.{digits_value}
use Rattle.cost_num.specs.Capped.{capped}
use Rattle.cost_num.proofs.Values.{ReadsOn}
use Rattle.cost_num.proofs.weights.number_capped.Given as goal

abbrev pub invariant-loop-digit : goal.invariant-loop-digit
invariant-loop-digit l = ReadsOn l.digits l.digit-index l.number (capped (digits_value 10 l.digits))
