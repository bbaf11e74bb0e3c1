use Rattle.std.proofs.Common.{◌≡◌, map}
use Rattle.std.specs.List.{range_with_len}
use Rattle.schema_model.specs.Entries.{field_number}
use Rattle.cost_directives.proofs.build.fields_of.Given as goal

-- The numbers so far.
abbrev pub invariant-loop-number : goal.invariant-loop-number
invariant-loop-number l = map field_number l.fields.items ≡ range_with_len 0 l.number
