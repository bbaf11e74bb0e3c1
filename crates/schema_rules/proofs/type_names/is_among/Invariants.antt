use Rattle.std.proofs.Common.{◌≡◌, drop, map}
use Rattle.schema_rules.specs.Views.{named_kind}
use Rattle.gql_base.specs.names.Names.{has_name}
use Rattle.schema_rules.specs.TypeNames.{name_of}
use Rattle.schema_rules.proofs.type_names.is_among.Given as goal

-- What is left answers as the whole.
abbrev pub invariant-loop-known : goal.invariant-loop-known
invariant-loop-known l = has_name name_of (map named_kind (drop l.known-index l.types)) l.name ≡ has_name name_of (map named_kind l.types) l.name
