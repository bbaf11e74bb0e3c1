use Rattle.std.proofs.Common.{◌≡◌, drop, map}
use Rattle.gql_base.specs.parts.Trees.{named_value}
use Rattle.std.specs.List.{list_all}
use Rattle.schema_rules.specs.DirectiveUses.{is_size_argument}
use Rattle.schema_rules.proofs.directive_uses.all_fit.Given as goal

-- What is left answers as the whole.
abbrev pub invariant-loop-argument : goal.invariant-loop-argument
invariant-loop-argument l = list_all is_size_argument (map named_value (drop l.argument-index l.arguments)) ≡ list_all is_size_argument (map named_value l.arguments)
