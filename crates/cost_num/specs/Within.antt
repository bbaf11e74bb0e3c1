-- When one cost has room for another.
use Rattle.std.specs.Prelude.{◌≤◌}
use Rattle.cost_num.specs.declared.Cost.{Cost}

-- each component of `cost` is at most that of `limit`
pub record Within (limit cost : Cost) : Type 0 where
  pub types : cost.types ≤ limit.types
  pub fields : cost.fields ≤ limit.fields
