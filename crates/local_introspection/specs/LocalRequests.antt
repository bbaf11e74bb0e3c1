-- What is asked of the gateway's own schema, and what becomes of it stage by stage: the rules, the variables, the plan, and the
-- answer, all over the schema of schemas.
use Rattle.std.specs.Prelude.{◌≡◌, ℕ, ◌≤◌, List, [], true, Option, None, Some, Ok}
use Rattle.serde_json.specs.Data.{Data}
use Rattle.gql_base.specs.names.Names.{place_of_name}
use Rattle.document_reader.specs.declared.trees.Definition.{Definition}
use Rattle.document_reader.specs.declared.trees.Operation.{Operation}
use Rattle.response_model.specs.Plan.{single}
use Rattle.response_model.specs.Response.{Tree}
use Rattle.response_model.specs.ResponseText.{response_text}
use Rattle.response_model.specs.Cost.{Part, types, fields}
use Rattle.schema_model.specs.SchemaData.{SchemaData}
use Rattle.schema_model.specs.SchemaViews.{schema_data}
use Rattle.cost_directives.specs.Weights.{WeightsData}
use Rattle.cost_directives.specs.WeightViews.{weights_data}
use Rattle.variable_coercion.specs.Variables.{VariableData, values_by_name, variables_answer}
use Rattle.operation_class.specs.declared.classes.Class.TheVariants.{Local as LocalClass}
use Rattle.operation_class.specs.Classes.{class_at}
use Rattle.document_rules.specs.declared.checking.Checked.{Checked}
use Rattle.document_rules.specs.Parts.{operation_at}
use Rattle.document_rules.specs.Sites.{type_of_kind}
use Rattle.document_rules.specs.Checking.{first_broken, IsCheckOf}
use Rattle.plan_model.specs.SelectedFields.{Setting}
use Rattle.plan_model.specs.Responses.{FitsSelections, response_cost}
use Rattle.plan_model.specs.Visits.{PlanAnswer, planned_well}
use Rattle.plan_model.specs.Operations.{setting_of, root_place, root_position, operation_answer}
use Rattle.meta_schema.specs.PassedOn.{AskedNodes, asked_operation, kept_below}
use Rattle.schema_facts.specs.Facts.{FactsData, known_name}
use Rattle.schema_facts.specs.FactsViews.{facts_data}
use Rattle.schema_facts.specs.Things.{one, the_root}
use Rattle.meta_schema.specs.MetaSchemas.{IsMetaSchema}
use Rattle.local_introspection.specs.declared.facts.Facts.{Facts}
use Rattle.local_introspection.specs.declared.walk.Local.{Local}
use Rattle.local_introspection.specs.Answers.{Gives, values_in}
use Rattle.local_introspection.specs.Lengths.{IsShort}

-- What is known of the schema, the schema of schemas with its weights, how long the text of an answer may be, the definitions of a document with the place of the operation
-- among them, and what is given for its variables.
pub record LocalRequest : Type 0 where
  pub facts : FactsData
  pub schema : SchemaData
  pub weights : WeightsData
  pub most : Option ℕ
  pub document : List Definition
  pub place : ℕ
  pub given : Data

abbrev pub local_request : Facts → List Definition → ℕ → Data → LocalRequest
local_request f document place given = record { facts = facts_data f.known; schema = schema_data f.meta.schema; weights = weights_data f.meta.weights; most = f.most; document = document; place = place; given = given }

-- The schema of schemas is built of the text with the name of the type of queries.
abbrev pub IsMade : Facts → Type 0
IsMade f = IsMetaSchema (facts_data f.known).query_name f.meta

-- The gateway answers the operation at the place.
abbrev pub IsLocal : LocalRequest → Type 0
IsLocal r = class_at r.document r.place ≡ LocalClass

-- the operation that is asked for, which the gateway answers
abbrev pub AsksFor : LocalRequest → Operation → Type 0
AsksFor r o = (operation_at r.document r.place ≡ Some o) × IsLocal r

-- It breaks no rule.
abbrev pub KeepsRules : LocalRequest → Operation → Type 0
KeepsRules r o = AsksFor r o × (first_broken r.schema r.document o ≡ None)

-- It was checked, and breaks no rule.
pub record IsCheckFor (r : LocalRequest) (c : Checked) : Type 0 where
  pub keeps : KeepsRules r c.operation.now
  pub of : IsCheckOf r.schema r.document c.operation.now c

-- the values of its variables
abbrev pub AreValues : LocalRequest → Operation → List VariableData → Type 0
AreValues r o values = variables_answer r.schema o.variables.items r.given ≡ Ok values

-- What is planned: the operation, where it breaks no rule, on the type of its kind, with the values of its variables.
pub record Prepared (r : LocalRequest) : Type 0 where
  pub operation : Operation
  pub root : ℕ
  pub values : List VariableData
  pub keeps : KeepsRules r operation
  pub on_root : type_of_kind r.schema operation.kind ≡ Some root
  pub are_values : AreValues r operation values

module _ (r : LocalRequest) (p : Prepared r) where
  -- by what it is planned
  abbrev pub setting : Setting
  setting = setting_of r.schema r.weights (values_by_name p.values) r.document p.operation

  -- whether it is planned, or the first fault
  abbrev pub plan_answer : PlanAnswer
  plan_answer = operation_answer setting p.root p.operation

  abbrev pub IsPlannedWell : Type 0
  IsPlannedWell = plan_answer ≡ planned_well

-- where a name stands among those of the types that are known
abbrev pub place_in : FactsData → List ℕ → Option ℕ
place_in f name = place_of_name known_name f.types name

module _ (r : LocalRequest) (p : Prepared r) where
  -- what it asks, with what is kept of the arguments of each field
  abbrev pub nodes_asked : AskedNodes
  nodes_asked = kept_below (place_in r.facts) (asked_operation (setting r p) p.root p.operation)

  -- The tree fits the operation over the schema of schemas. Each entry is what the facts give for its field, and each list has just
  -- the items that they give.
  pub record IsTheAnswer (t : Tree) : Type 0 where
    pub fits : FitsSelections (setting r p) (single true) (root_place p.root) (root_position p.root p.operation) t
    pub given : Gives r.facts (one the_root) nodes_asked t

  -- what the tree costs as a response to the operation
  abbrev pub cost_of_response : Tree → Part → ℕ
  cost_of_response t part = response_cost (setting r p) part (root_place p.root) (root_position p.root p.operation) t

  -- The text is that of the tree, which has at most 1,000,000 values, and it isn't longer than it may be. The cost is what the tree costs.
  pub record IsWritten (t : Tree) (local : Local) : Type 0 where
    pub few : values_in t ≤ 1000000
    pub text : local.text ≡ response_text (Some t) []
    pub short : IsShort r.most (response_text (Some t) [])
    pub of_types : local.cost.types ≡ cost_of_response t types
    pub of_fields : local.cost.fields ≡ cost_of_response t fields
