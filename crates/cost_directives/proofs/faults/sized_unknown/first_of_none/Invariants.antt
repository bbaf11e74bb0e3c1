use Rattle.std.proofs.Common.{◌≡◌, drop, find}
use Rattle.schema_model.specs.SchemaViews.{schema_data}
use Rattle.cost_directives.specs.SizedUnknown.{is_no_list_field}
use Rattle.cost_directives.proofs.faults.sized_unknown.first_of_none.Given as goal

-- What is left answers as the whole.
abbrev pub invariant-loop-name : goal.invariant-loop-name
invariant-loop-name l = find (is_no_list_field (schema_data l.schema) l.of.number) (drop l.name-index l.names) ≡ find (is_no_list_field (schema_data l.schema) l.of.number) l.names
