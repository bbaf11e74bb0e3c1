use Rattle.std.proofs.Common.{◌≡◌, drop, map}
use Rattle.gql_base.specs.parts.Trees.{directive_tree}
use Rattle.std.specs.List.{list_all}
use Rattle.schema_rules.specs.DirectiveUses.{is_right}
use Rattle.schema_rules.proofs.directive_uses.all_right.Given as goal

-- What is left answers as the whole.
abbrev pub invariant-loop-directive : goal.invariant-loop-directive
invariant-loop-directive l = list_all (is_right l.may_cost l.may_size l.may_float) (map directive_tree (drop l.directive-index l.directives)) ≡ list_all (is_right l.may_cost l.may_size l.may_float) (map directive_tree l.directives)
