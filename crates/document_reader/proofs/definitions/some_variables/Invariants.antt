use Rattle.std.proofs.Common.{◌≡◌, ◌<◌, ◌-◌, length, map}
use Rattle.gql_base.specs.declared.lexical.token.TokenKind.TheVariants.{CloseParen}
use Rattle.gql_base.specs.ways.Reading.{repeated, one_or_more, up_to}
use Rattle.document_reader.specs.DocumentReading.{variable_at}
use Rattle.document_reader.specs.Trees.{variable_tree}
use Rattle.gql_base.specs.ways.Sources.{ahead}
use Rattle.gql_base.proofs.WayLaws.Loops.{joined}
use Rattle.document_reader.proofs.definitions.some_variables.Given as goal

abbrev pub invariant-rest : goal.invariant-rest
invariant-rest l = record {
  whole : joined (map variable_tree l.variables.items) (repeated (up_to CloseParen) (variable_at l.levels) (ahead l.source l.at)) ≡ one_or_more (up_to CloseParen) (variable_at l.levels) (ahead l.source l.start);
  onward : l.start < l.at;
}

abbrev pub decreases-rest : goal.decreases-rest
decreases-rest l = length l.source.tokens.now - l.at
