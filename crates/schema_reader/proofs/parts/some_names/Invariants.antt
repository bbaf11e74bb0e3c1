use Rattle.std.proofs.Common.{◌≡◌, ◌<◌, ◌≤◌, ◌-◌, length}
use Rattle.gql_base.specs.ways.Reading.{repeated, takes, exact}
use Rattle.gql_base.specs.ways.Sources.{ahead}
use Rattle.gql_base.proofs.WayLaws.Loops.{joined}
use Rattle.schema_reader.specs.SchemaReading.{other_name_at, some_names_at}
use Rattle.schema_reader.proofs.parts.some_names.Given as goal

abbrev pub invariant-rest : goal.invariant-rest
invariant-rest l = record {
  whole : joined l.names.items (repeated (takes (exact l.mark)) (other_name_at l.mark) (ahead l.source l.at)) ≡ some_names_at l.mark (ahead l.source l.start);
  onward : l.start < l.at;
  short : l.at ≤ length l.source.tokens.now;
}

abbrev pub decreases-rest : goal.decreases-rest
decreases-rest l = length l.source.tokens.now - l.at
