use Rattle.std.proofs.Common.{◌≡◌, drop, map}
use Rattle.schema_model.specs.SchemaViews.{schema_data}
use Rattle.schema_model.specs.Numbers.{type_number}
use Rattle.cost_directives.specs.Weighing.{own_size, carried_in, first_carried}
use Rattle.cost_directives.proofs.above.first_size.Given as goal

-- What is left answers as the whole.
abbrev pub invariant-loop-interface : goal.invariant-loop-interface
invariant-loop-interface l = first_carried (map (carried_in (schema_data l.schema) own_size l.name) (map type_number (drop l.interface-index l.interfaces))) ≡ first_carried (map (carried_in (schema_data l.schema) own_size l.name) (map type_number l.interfaces))
