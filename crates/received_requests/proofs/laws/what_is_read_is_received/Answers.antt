use Rattle.std.proofs.Common.{map}
use Rattle.document_reader.specs.Trees.{definition_tree}
use Rattle.received_requests.proofs.laws.what_is_read_is_received.Goals as goal

pub returns : goal.returns
returns c r p alias text q free is read = record {
  schema = read.schema;
  weights = read.weights;
  document = c.what_is_sent_reads_back.ensures.only r p alias text free is (map definition_tree q.document) read.document;
  name = read.operation_name;
  given = read.variables;
}
