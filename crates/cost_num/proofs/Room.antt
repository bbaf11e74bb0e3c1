-- When one cost has room for another: simple facts.
use Rattle.std.proofs.Common.{arith}
use Rattle.cost_num.specs.declared.Cost.{Cost}
use Rattle.cost_num.specs.Within.{Within}

pub within_itself : (cost : Cost) → Within cost cost
within_itself cost = record { types = omega arith; fields = omega arith }

pub within_further : (limit middle cost : Cost) → Within limit middle → Within middle cost → Within limit cost
within_further limit middle cost outer inner = record { types = omega arith; fields = omega arith }
