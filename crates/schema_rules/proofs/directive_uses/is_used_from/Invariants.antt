use Rattle.std.proofs.Common.{◌≡◌, drop, map}
use Rattle.gql_base.specs.parts.Trees.{directive_tree}
use Rattle.std.specs.List.{list_any}
use Rattle.schema_rules.specs.DirectiveUses.{is_use_of}
use Rattle.schema_rules.proofs.directive_uses.is_used_from.Given as goal

-- What is left answers as the whole.
abbrev pub invariant-loop-at : goal.invariant-loop-at
invariant-loop-at l = list_any (is_use_of l.name) (map directive_tree (drop l.at l.directives)) ≡ list_any (is_use_of l.name) (map directive_tree (drop l.from l.directives))
