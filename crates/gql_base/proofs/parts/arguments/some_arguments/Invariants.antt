use Rattle.std.proofs.Common.{◌≡◌, ◌<◌, ◌-◌, length, map}
use Rattle.gql_base.specs.declared.lexical.token.TokenKind.TheVariants.{CloseParen}
use Rattle.gql_base.specs.ways.Reading.{repeated, one_or_more, up_to}
use Rattle.gql_base.specs.parts.Values.{value_at, named_value_at}
use Rattle.gql_base.specs.parts.Trees.{named_value}
use Rattle.gql_base.specs.ways.Sources.{ahead}
use Rattle.gql_base.proofs.WayLaws.Loops.{joined}
use Rattle.gql_base.proofs.parts.arguments.some_arguments.Given as goal

abbrev pub invariant-rest : goal.invariant-rest
invariant-rest l = record {
  whole : joined (map named_value l.arguments.items) (repeated (up_to CloseParen) (named_value_at (value_at l.constant l.levels)) (ahead l.source l.at)) ≡ one_or_more (up_to CloseParen) (named_value_at (value_at l.constant l.levels)) (ahead l.source l.start);
  onward : l.start < l.at;
}

abbrev pub decreases-rest : goal.decreases-rest
decreases-rest l = length l.source.tokens.now - l.at
