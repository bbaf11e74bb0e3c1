use Rattle.std.proofs.Common.{◌≡◌, ◌++◌, ◌-◌, map}
use Rattle.schema_model.specs.Entries.{field_number}
use Rattle.schema_model.specs.Schemas.{numbers}
use Rattle.schema_model.proofs.finish.ids_of.Given as goal

-- Those so far, and then those of what is left.
abbrev pub invariant-loop-number : goal.invariant-loop-number
invariant-loop-number l = map field_number l.ids.items ++ numbers l.number (l.end - l.number) ≡ numbers l.first (l.end - l.first)
