-- The request that whoever receives what is sent for a request has, and what is picked by it.
use Rattle.std.specs.Prelude.{◌≡◌, ℕ, List, map, Option, Some, option_map}
use Rattle.serde_json.specs.Data.{Data, object}
use Rattle.document_reader.specs.declared.trees.Operation.{Operation}
use Rattle.document_reader.specs.Documents.{SelectionTrees}
use Rattle.document_reader.specs.DocumentAnswers.{HasDocument}
use Rattle.document_reader.specs.Trees.{definition_tree, maybe_identifier, variable_tree, set_tree}
use Rattle.document_reader.specs.PlacelessDocuments.{selections_placeless, document_placeless}
use Rattle.schema_model.specs.SchemaData.{has_floats}
use Rattle.input_values.specs.coercion.Literals.{Environment}
use Rattle.document_rules.specs.Parts.{FragmentData, name_text}
use Rattle.plan_model.specs.SelectedFields.{Setting}
use Rattle.plan_model.specs.Operations.{setting_of}
use Rattle.typename_rewrite.specs.Rewriting.{rewritten_selections, rewritten_fragment}
use Rattle.typename_rewrite.specs.ForwardedBodies.{sent_variables}
use Rattle.acceptance.specs.Requests.{RequestData, Prepared, setting}
use Rattle.acceptance.specs.Forwarding.{sent_document, sent_text}
use Rattle.received_requests.specs.Offsets.{fragment_placeless}

-- ---- what is sent

-- the variables that are sent: those of the given values whose variables the operation defines
abbrev pub variables_sent : (r : RequestData) → Prepared r → Data
variables_sent r p = object (sent_variables (map variable_tree p.operation.variables.items) r.given)

-- the operation's name, where it has one
abbrev pub name_sent : (r : RequestData) → Prepared r → Option (List ℕ)
name_sent r p = option_map name_text (maybe_identifier p.operation.name)

module _ (r : RequestData) (p : Prepared r) (alias : List ℕ) where
  -- the rewritten selections of the request's operation
  abbrev pub selections_sent : SelectionTrees
  selections_sent = rewritten_selections r.schema alias (Some p.root) (set_tree p.operation.selections.items)

  -- the rewritten fragments that it reaches
  abbrev pub fragments_sent : List FragmentData
  fragments_sent = map (rewritten_fragment r.schema alias) (setting r p).fragments

-- ---- what is received

-- It has the schema and the weights of the request, the document that is sent but for the offsets of names, the name of the
-- operation where that has one, and the variables that are sent.
pub record IsReceived (r : RequestData) (p : Prepared r) (alias : List ℕ) (q : RequestData) : Type 0 where
  pub schema : q.schema ≡ r.schema
  pub weights : q.weights ≡ r.weights
  pub document : document_placeless (map definition_tree q.document) ≡ document_placeless (sent_document r p alias)
  pub name : q.name ≡ name_sent r p
  pub given : q.given ≡ variables_sent r p

-- The same as whoever reads it has it: the document is one of the text that is sent.
pub record IsReadOf (r : RequestData) (p : Prepared r) (alias : List ℕ) (q : RequestData) : Type 0 where
  pub schema : q.schema ≡ r.schema
  pub weights : q.weights ≡ r.weights
  pub document : HasDocument (has_floats r.schema) (sent_text r p alias) (map definition_tree q.document)
  pub operation_name : q.name ≡ name_sent r p
  pub variables : q.given ≡ variables_sent r p

-- An operation has these selections, but for the offsets of names.
abbrev pub HasSelections : Operation → SelectionTrees → Type 0
HasSelections o below = selections_placeless (set_tree o.selections.items) ≡ selections_placeless below

-- by what an operation of a received request is answered, with these values of its variables
abbrev pub received_setting : RequestData → Environment → Operation → Setting
received_setting q values o = setting_of q.schema q.weights values q.document o

-- A setting has these fragments in their order, but for the offsets of names.
abbrev pub HasFragments : Setting → List FragmentData → Type 0
HasFragments e fragments = map fragment_placeless e.fragments ≡ map fragment_placeless fragments

-- Whatever the values of its variables, the fragments that an operation of a received request reaches are the rewritten ones.
abbrev pub ReachesSent : (r : RequestData) → Prepared r → List ℕ → RequestData → Operation → Type 0
ReachesSent r p alias q o = (values : Environment) → HasFragments (received_setting q values o) (fragments_sent r p alias)
