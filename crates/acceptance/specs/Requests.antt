-- What is asked of a schema, and what becomes of it test by test (GraphQL October 2021, 6.1).
use Rattle.std.specs.Prelude.{◌≡◌, ℕ, List, Option, None, Some, Ok}
use Rattle.serde_json.specs.Data.{Data}
use Rattle.serde_json.specs.View.{view}
use Rattle.document_reader.specs.declared.trees.Definition.{Definition}
use Rattle.document_reader.specs.declared.trees.Operation.{Operation}
use Rattle.document_reader.specs.Picking.{picked, asked}
use Rattle.response_model.specs.Plan.{Plan as PlanTree}
use Rattle.schema_model.specs.SchemaData.{SchemaData}
use Rattle.schema_model.specs.SchemaViews.{schema_data}
use Rattle.cost_directives.specs.Weights.{WeightsData, weights_of}
use Rattle.cost_directives.specs.WeightViews.{weights_data}
use Rattle.variable_coercion.specs.Variables.{VariableData, values_by_name, variables_answer}
use Rattle.document_rules.specs.declared.checking.Checked.{Checked}
use Rattle.document_rules.specs.Parts.{operation_at}
use Rattle.document_rules.specs.Sites.{type_of_kind}
use Rattle.document_rules.specs.Checking.{first_broken, IsCheckOf}
use Rattle.plan_model.specs.SelectedFields.{Setting}
use Rattle.plan_model.specs.Sound.{CanBeFilled}
use Rattle.plan_model.specs.Visits.{PlanAnswer}
use Rattle.plan_model.specs.Operations.{setting_of, operation_answer, planned_operation}
use Rattle.acceptance.specs.declared.request.Request.{Request}

-- A schema with its weights, the definitions of a document, the name of an operation or none, and what is given for its
-- variables.
pub record RequestData : Type 0 where
  pub schema : SchemaData
  pub weights : WeightsData
  pub document : List Definition
  pub name : Option (List ℕ)
  pub given : Data

abbrev pub request_data : Request → RequestData
request_data r = record {
  schema = schema_data r.schema.now;
  weights = weights_data r.weights.now;
  document = r.document.now.definitions.items;
  name = asked r.name;
  given = view r.given.now;
}

-- The weights are those of the schema, and its leaves can be filled.
abbrev pub IsOfSchema : RequestData → Type 0
IsOfSchema r = ((undeclared : ℕ) × (r.weights ≡ weights_of r.schema undeclared)) × CanBeFilled r.schema

-- The operation that the request asks for.
abbrev pub AsksFor : RequestData → Operation → Type 0
AsksFor r o = (place : ℕ) × (picked r.name r.document ≡ Ok place) × (operation_at r.document place ≡ Some o)

-- It breaks no rule.
abbrev pub KeepsRules : RequestData → Operation → Type 0
KeepsRules r o = AsksFor r o × (first_broken r.schema r.document o ≡ None)

-- It was checked, and breaks no rule.
pub record IsCheckFor (r : RequestData) (c : Checked) : Type 0 where
  pub keeps : KeepsRules r c.operation.now
  pub of : IsCheckOf r.schema r.document c.operation.now c

-- The values of its variables.
abbrev pub AreValues : RequestData → Operation → List VariableData → Type 0
AreValues r o values = variables_answer r.schema o.variables.items r.given ≡ Ok values

-- What is planned: the operation, where it breaks no rule, on the type of its kind, with the values of its variables.
pub record Prepared (r : RequestData) : Type 0 where
  pub operation : Operation
  pub root : ℕ
  pub values : List VariableData
  pub keeps : KeepsRules r operation
  pub on_root : type_of_kind r.schema operation.kind ≡ Some root
  pub are_values : AreValues r operation values

-- by what it is planned
abbrev pub setting : (r : RequestData) → Prepared r → Setting
setting r p = setting_of r.schema r.weights (values_by_name p.values) r.document p.operation

-- whether it is planned, or the first fault
abbrev pub plan_answer : (r : RequestData) → Prepared r → PlanAnswer
plan_answer r p = operation_answer (setting r p) p.root p.operation

abbrev pub plan_tree : (r : RequestData) → Prepared r → PlanTree
plan_tree r p = planned_operation (setting r p) p.root p.operation
