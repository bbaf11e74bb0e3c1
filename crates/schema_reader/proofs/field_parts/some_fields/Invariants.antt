use Rattle.std.proofs.Common.{◌≡◌, ◌<◌, ◌-◌, length, map}
use Rattle.gql_base.specs.declared.lexical.token.TokenKind.TheVariants.{CloseBrace}
use Rattle.gql_base.specs.ways.Reading.{repeated, one_or_more, up_to}
use Rattle.schema_reader.specs.SchemaReading.{field_definition_at}
use Rattle.schema_reader.specs.Trees.{field_tree}
use Rattle.gql_base.specs.ways.Sources.{ahead}
use Rattle.gql_base.proofs.WayLaws.Loops.{joined}
use Rattle.schema_reader.proofs.field_parts.some_fields.Given as goal

abbrev pub invariant-rest : goal.invariant-rest
invariant-rest l = record {
  whole : joined (map field_tree l.fields.items) (repeated (up_to CloseBrace) (field_definition_at l.levels) (ahead l.source l.at)) ≡ one_or_more (up_to CloseBrace) (field_definition_at l.levels) (ahead l.source l.start);
  onward : l.start < l.at;
}

abbrev pub decreases-rest : goal.decreases-rest
decreases-rest l = length l.source.tokens.now - l.at
