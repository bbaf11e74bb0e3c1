use Rattle.std.proofs.Common.{◌≡◌, ◌<◌, ◌-◌, length, map}
use Rattle.gql_base.specs.declared.lexical.token.TokenKind.TheVariants.{CloseBrace}
use Rattle.gql_base.specs.ways.Reading.{repeated, one_or_more, up_to}
use Rattle.schema_reader.specs.SchemaReading.{enum_value_at}
use Rattle.schema_reader.specs.Trees.{enum_value_tree}
use Rattle.gql_base.specs.ways.Sources.{ahead}
use Rattle.gql_base.proofs.WayLaws.Loops.{joined}
use Rattle.schema_reader.proofs.enum_parts.some_enum_values.Given as goal

abbrev pub invariant-rest : goal.invariant-rest
invariant-rest l = record {
  whole : joined (map enum_value_tree l.values.items) (repeated (up_to CloseBrace) (enum_value_at l.levels) (ahead l.source l.at)) ≡ one_or_more (up_to CloseBrace) (enum_value_at l.levels) (ahead l.source l.start);
  onward : l.start < l.at;
}

abbrev pub decreases-rest : goal.decreases-rest
decreases-rest l = length l.source.tokens.now - l.at
