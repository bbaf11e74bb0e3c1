use Rattle.std.proofs.Common.{◌≡◌, drop}
use Rattle.schema_surprises.specs.Surprises.{is_named}
use Rattle.schema_surprises.proofs.fields.is_named.Given as goal

-- What is left answers as the whole.
abbrev pub invariant-names : goal.invariant-names
invariant-names l = is_named (drop l.other-index l.names) l.name ≡ is_named l.names l.name
