use Rattle.std.proofs.Common.{◌≡◌, drop, map}
use Rattle.gql_base.specs.parts.Trees.{named_value}
use Rattle.gql_base.specs.names.Names.{are_distinct}
use Rattle.schema_rules.specs.DirectiveUses.{argument_name}
use Rattle.schema_rules.proofs.directive_uses.are_distinct.Given as goal

-- What is left answers as the whole.
abbrev pub invariant-loop-at : goal.invariant-loop-at
invariant-loop-at l = are_distinct (map argument_name (map named_value (drop l.at l.arguments))) ≡ are_distinct (map argument_name (map named_value l.arguments))
