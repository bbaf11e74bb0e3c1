use Rattle.std.proofs.Common.{◌≡◌, ◌≤◌, ◌-◌, length, map}
use Rattle.gql_base.specs.ways.Reading.{repeated, is_there}
use Rattle.gql_base.specs.ways.FirstFaults.{level_limit}
use Rattle.gql_base.specs.ways.Sources.{ahead}
use Rattle.gql_base.proofs.WayLaws.Loops.{joined}
use Rattle.document_reader.specs.DocumentReading.{definition_at, document_at}
use Rattle.document_reader.specs.Trees.{definition_tree}
use Rattle.document_reader.specs.Places.{AllStandFrom}
use Rattle.document_reader.proofs.document.definitions.Given as goal

abbrev pub invariant-rest : goal.invariant-rest
invariant-rest l = record {
  whole : joined (map definition_tree l.definitions.items) (repeated is_there (definition_at level_limit) (ahead l.source l.at)) ≡ document_at level_limit (ahead l.source 0);
  places : AllStandFrom l.source.text.now l.source.tokens.now 0 l.at l.definitions.items;
  short : l.at ≤ length l.source.tokens.now;
}

abbrev pub decreases-rest : goal.decreases-rest
decreases-rest l = length l.source.tokens.now - l.at
