-- When two requests of the gateway's own schema ask the same.
use Rattle.std.specs.Prelude.{◌≡◌, map}
use Rattle.document_reader.specs.Trees.{definition_tree}
use Rattle.document_reader.specs.Places.{operation_offset}
use Rattle.local_introspection.specs.LocalRequests.{LocalRequest}

-- They differ in their documents alone, whose definitions have the same trees, and whose operations have the same offsets. So
-- it is with two documents that are read from one text.
pub record AskAlike (r q : LocalRequest) : Type 0 where
  pub facts : r.facts ≡ q.facts
  pub schema : r.schema ≡ q.schema
  pub weights : r.weights ≡ q.weights
  pub most : r.most ≡ q.most
  pub place : r.place ≡ q.place
  pub given : r.given ≡ q.given
  pub trees : map definition_tree r.document ≡ map definition_tree q.document
  pub offsets : map operation_offset r.document ≡ map operation_offset q.document
