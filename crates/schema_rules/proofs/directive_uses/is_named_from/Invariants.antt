use Rattle.std.proofs.Common.{◌≡◌, drop, map}
use Rattle.gql_base.specs.parts.Trees.{named_value}
use Rattle.std.specs.List.{list_any}
use Rattle.std.specs.Str.{bytes_eq}
use Rattle.schema_rules.specs.DirectiveUses.{argument_name}
use Rattle.schema_rules.proofs.directive_uses.is_named_from.Given as goal

-- What is left answers as the whole.
abbrev pub invariant-loop-at : goal.invariant-loop-at
invariant-loop-at l = list_any (bytes_eq l.name) (map argument_name (map named_value (drop l.at l.arguments))) ≡ list_any (bytes_eq l.name) (map argument_name (map named_value (drop l.from l.arguments)))
