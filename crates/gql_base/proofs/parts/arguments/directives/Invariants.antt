use Rattle.std.proofs.Common.{◌≡◌, ◌≤◌, ◌-◌, length, map}
use Rattle.gql_base.specs.declared.lexical.token.TokenKind.TheVariants.{At}
use Rattle.gql_base.specs.ways.Reading.{repeated, takes, exact}
use Rattle.gql_base.specs.ways.Sources.{ahead}
use Rattle.gql_base.proofs.WayLaws.Loops.{joined}
use Rattle.gql_base.specs.parts.Arguments.{directive_at, directives_at}
use Rattle.gql_base.specs.parts.Trees.{directive_tree}
use Rattle.gql_base.proofs.parts.arguments.directives.Given as goal

abbrev pub invariant-rest : goal.invariant-rest
invariant-rest l = record {
  whole : joined (map directive_tree l.directives.items) (repeated (takes (exact At)) (directive_at l.constant l.levels) (ahead l.source l.at)) ≡ directives_at l.constant l.levels (ahead l.source l.start);
  onward : l.start ≤ l.at;
  short : l.start ≤ length l.source.tokens.now → l.at ≤ length l.source.tokens.now;
}

abbrev pub decreases-rest : goal.decreases-rest
decreases-rest l = length l.source.tokens.now - l.at
