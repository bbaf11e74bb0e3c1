use Rattle.std.proofs.Common.{◌≡◌, drop, map}
use Rattle.schema_model.specs.Schemas.{value_named}
use Rattle.gql_base.specs.parts.Trees.{named_value}
use Rattle.schema_model.proofs.sizes.value_named.Given as goal

-- What is left answers as the whole.
abbrev pub invariant-loop-argument : goal.invariant-loop-argument
invariant-loop-argument l = value_named l.name (map named_value (drop l.argument-index l.arguments)) ≡ value_named l.name (map named_value l.arguments)
