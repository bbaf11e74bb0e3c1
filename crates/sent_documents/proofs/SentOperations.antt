-- A request is prepared, so its operation breaks no rule, and stands in its document.
use Rattle.std.proofs.Common.{ℕ, List}
use Rattle.variable_coercion.specs.Variables.{values_by_name}
use Rattle.stripped_responses.specs.Stripping.{SentOperation}
use Rattle.acceptance.specs.Requests.{RequestData, Prepared}
use Rattle.acceptance.specs.Forwarding.{IsFreeIn}

-- the operation of a request, as one that is sent
unfoldable pub operation_of : (r : RequestData) → Prepared r → (alias : List ℕ) → IsFreeIn r alias → SentOperation alias
operation_of r p alias free = record {
  schema = r.schema;
  weights = r.weights;
  values = values_by_name p.values;
  document = r.document;
  root = p.root;
  operation = p.operation;
  free = record {
    place = p.keeps.0.0;
    stands = p.keeps.0.2;
    free = free.free;
  };
}
