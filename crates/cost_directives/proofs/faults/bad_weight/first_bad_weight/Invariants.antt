use Rattle.std.proofs.Common.{◌≡◌, drop, map}
use Rattle.schema_rules.specs.First.{first_of}
use Rattle.schema_model.specs.SchemaViews.{schema_data}
use Rattle.schema_model.specs.Numbers.{type_number}
use Rattle.cost_directives.specs.BadWeight.{bad_type_at}
use Rattle.cost_directives.proofs.faults.bad_weight.first_bad_weight.Given as goal

-- What is left answers as the whole.
abbrev pub invariant-loop-of : goal.invariant-loop-of
invariant-loop-of l = first_of (bad_type_at (schema_data l.schema)) (map type_number (drop l.of-index l.types)) ≡ first_of (bad_type_at (schema_data l.schema)) (map type_number l.types)
