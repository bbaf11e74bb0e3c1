use Rattle.std.proofs.Common.{map, drop}
use Rattle.schema_model.specs.Numbers.{type_number}
use Rattle.schema_model.specs.SchemaViews.{schema_data}
use Rattle.collected_fields.specs.Kinds.{AreAlike}
use Rattle.collected_fields.proofs.kinds.are_alike.Given as goal

-- Where those that are left are so, all are.
abbrev pub invariant-loop-condition : goal.invariant-loop-condition
invariant-loop-condition l = AreAlike (schema_data l.schema) l.one.number l.other.number (map type_number (drop l.condition-index l.conditions)) → AreAlike (schema_data l.schema) l.one.number l.other.number (map type_number l.conditions)
