use Rattle.std.proofs.Common.{◌≡◌, ◌++◌, drop, map}
use Rattle.schema_model.specs.SchemaViews.{schema_data}
use Rattle.schema_model.specs.Numbers.{type_number}
use Rattle.cost_directives.specs.Weights.{type_weight_at}
use Rattle.cost_directives.specs.WeightViews.{type_weight}
use Rattle.cost_directives.proofs.build.type_weights.Given as goal

-- Those so far, and then those of what is left.
abbrev pub invariant-loop-of : goal.invariant-loop-of
invariant-loop-of l = map type_weight l.made.items ++ map (type_weight_at (schema_data l.schema)) (map type_number (drop l.of-index l.types)) ≡ map (type_weight_at (schema_data l.schema)) (map type_number l.types)
