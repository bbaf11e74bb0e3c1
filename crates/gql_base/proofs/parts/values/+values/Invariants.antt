use Rattle.std.proofs.Common.{◌≡◌, ◌≤◌, ◌+◌, ◌*◌, ◌-◌, length, map}
use Rattle.gql_base.specs.declared.lexical.token.TokenKind.TheVariants.{CloseBracket, CloseBrace}
use Rattle.gql_base.specs.ways.Reading.{repeated, up_to}
use Rattle.gql_base.specs.parts.Values.{value_at, named_value_at}
use Rattle.gql_base.specs.parts.Trees.{value_tree, named_value}
use Rattle.gql_base.specs.ways.Sources.{ahead}
use Rattle.gql_base.proofs.WayLaws.Loops.{joined}
use Rattle.gql_base.proofs.parts.values.+values.Given as goal

abbrev pub decreases-value : goal.decreases-value
decreases-value l = 4 * l.levels + 2

abbrev pub decreases-list : goal.decreases-list
decreases-list l = 4 * l.levels + 1

abbrev pub decreases-object : goal.decreases-object
decreases-object l = 4 * l.levels + 1

abbrev pub decreases-items : goal.decreases-items
decreases-items l = 4 * l.levels + 4

abbrev pub decreases-fields : goal.decreases-fields
decreases-fields l = 4 * l.levels + 4

abbrev pub decreases-argument : goal.decreases-argument
decreases-argument l = 4 * l.levels + 3

abbrev pub invariant-items-items : goal.invariant-items-items
invariant-items-items l = record {
  whole : joined (map value_tree l.items.items) (repeated (up_to CloseBracket) (value_at l.constant l.levels) (ahead l.source l.at)) ≡ repeated (up_to CloseBracket) (value_at l.constant l.levels) (ahead l.source l.start);
  onward : l.start ≤ l.at;
}

abbrev pub decreases-items-items : goal.decreases-items-items
decreases-items-items l = length l.source.tokens.now - l.at

abbrev pub invariant-fields-fields : goal.invariant-fields-fields
invariant-fields-fields l = record {
  whole : joined (map named_value l.fields.items) (repeated (up_to CloseBrace) (named_value_at (value_at l.constant l.levels)) (ahead l.source l.at)) ≡ repeated (up_to CloseBrace) (named_value_at (value_at l.constant l.levels)) (ahead l.source l.start);
  onward : l.start ≤ l.at;
}

abbrev pub decreases-fields-fields : goal.decreases-fields-fields
decreases-fields-fields l = length l.source.tokens.now - l.at
