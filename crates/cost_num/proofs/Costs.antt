-- Costs, part by part.
use Rattle.std.proofs.Common.{◌≡◌}
use Rattle.cost_num.specs.declared.Cost.{Cost}

pub cost_eq : (a b : Cost) → a.types ≡ b.types → a.fields ≡ b.fields → a ≡ b
cost_eq a b of_types of_fields = λ i. record {
  types = of_types i;
  fields = of_fields i;
}
