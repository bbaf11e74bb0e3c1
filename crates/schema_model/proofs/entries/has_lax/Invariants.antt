use Rattle.std.proofs.Common.{◌≡◌, drop, map}
use Rattle.schema_model.specs.Entries.{type_data}
use Rattle.schema_model.specs.SchemaData.{has_lax}
use Rattle.schema_model.proofs.entries.has_lax.Given as goal

-- What is left answers as the whole.
abbrev pub invariant-loop-entry : goal.invariant-loop-entry
invariant-loop-entry l = has_lax (map type_data (drop l.entry-index l.types)) ≡ has_lax (map type_data l.types)
