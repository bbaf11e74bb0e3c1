use Rattle.std.proofs.Common.{◌≡◌, drop, map}
use Rattle.std.specs.List.{list_all}
use Rattle.schema_model.specs.SchemaViews.{schema_data}
use Rattle.schema_model.specs.Numbers.{type_number}
use Rattle.schema_model.specs.Entries.{size_data}
use Rattle.cost_directives.specs.Weighing.{own_size, carried_in, carries_like}
use Rattle.cost_directives.specs.Disagree.{same_size}
use Rattle.cost_directives.proofs.above.all_size.Given as goal

-- What is left answers as the whole.
abbrev pub invariant-loop-interface : goal.invariant-loop-interface
invariant-loop-interface l = list_all (carries_like same_size (size_data l.size)) (map (carried_in (schema_data l.schema) own_size l.name) (map type_number (drop l.interface-index l.interfaces))) ≡ list_all (carries_like same_size (size_data l.size)) (map (carried_in (schema_data l.schema) own_size l.name) (map type_number l.interfaces))
