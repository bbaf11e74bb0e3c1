use Rattle.std.proofs.Common.{◌≡◌, ◌<◌, ◌-◌, length, map}
use Rattle.gql_base.specs.ways.Reading.{repeated, one_or_more, up_to}
use Rattle.schema_reader.specs.SchemaReading.{input_at}
use Rattle.schema_reader.specs.Trees.{input_tree}
use Rattle.gql_base.specs.ways.Sources.{ahead}
use Rattle.gql_base.proofs.WayLaws.Loops.{joined}
use Rattle.schema_reader.proofs.field_parts.some_inputs.Given as goal

abbrev pub invariant-rest : goal.invariant-rest
invariant-rest l = record {
  whole : joined (map input_tree l.inputs.items) (repeated (up_to l.close) (input_at l.levels) (ahead l.source l.at)) ≡ one_or_more (up_to l.close) (input_at l.levels) (ahead l.source l.start);
  onward : l.start < l.at;
}

abbrev pub decreases-rest : goal.decreases-rest
decreases-rest l = length l.source.tokens.now - l.at
