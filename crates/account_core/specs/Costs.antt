-- Costs of two components: sums, differences, and whether one is within another.
use Rattle.std.specs.Prelude.{ℕ, min, ◌+◌, ◌-◌, Bool, nat_le, ◌&&◌, ◌==◌, if◌then◌else◌}
use Rattle.cost_num.specs.declared.Cost.{Cost}

abbrev pub cost : ℕ → ℕ → Cost
cost types fields = record { types = types; fields = fields }

abbrev pub nothing : Cost
nothing = cost 0 0

-- two costs added up, component by component
abbrev pub together : Cost → Cost → Cost
together a b = cost (a.types + b.types) (a.fields + b.fields)

-- what is left of a whole when a part is taken off it, and zero in a component that has no more
abbrev pub remaining : Cost → Cost → Cost
remaining whole part = cost (whole.types - part.types) (whole.fields - part.fields)

-- the smaller of two costs, component by component
abbrev pub smaller : Cost → Cost → Cost
smaller a b = cost (min a.types b.types) (min a.fields b.fields)

-- whether a cost is within a limit, in both components
abbrev pub is_within : Cost → Cost → Bool
is_within limit c = nat_le c.types limit.types && nat_le c.fields limit.fields

-- a cost that belongs to one window, as another window counts it: not at all, unless they are the same
abbrev pub counted_in : ℕ → ℕ → Cost → Cost
counted_in window own c = if own == window then c else nothing
