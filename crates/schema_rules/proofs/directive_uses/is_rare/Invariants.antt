use Rattle.std.proofs.Common.{◌≡◌, drop, map}
use Rattle.gql_base.specs.parts.Trees.{directive_tree}
use Rattle.schema_rules.specs.DirectiveUses.{is_rare}
use Rattle.schema_rules.proofs.directive_uses.is_rare.Given as goal

-- What is left answers as the whole.
abbrev pub invariant-loop-at : goal.invariant-loop-at
invariant-loop-at l = is_rare l.name (map directive_tree (drop l.at l.directives)) ≡ is_rare l.name (map directive_tree l.directives)
