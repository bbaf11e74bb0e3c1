-- What the laws on plans say of a place, its selections and their plan.
use Rattle.std.specs.Prelude.{◌≡◌, ◌↔◌, ◌≤◌, ℕ, false, List, Option, None}
use Rattle.cost_num.specs.declared.TheConstants.{CAP}
use Rattle.cost_num.specs.Capped.{capped}
use Rattle.response_model.specs.Plan.{Form, Plan}
use Rattle.response_model.specs.Response.{Tree, SizesKept}
use Rattle.response_model.specs.Cost.{Part, cost}
use Rattle.response_model.specs.Bound.{greatest_cost, IsSound}
use Rattle.document_reader.specs.declared.trees.Definition.{Definition}
use Rattle.document_reader.specs.declared.trees.Operation.{Operation}
use Rattle.input_values.specs.coercion.Literals.{Environment}
use Rattle.schema_rules.specs.First.{first_of}
use Rattle.schema_model.specs.SchemaData.{SchemaData}
use Rattle.cost_directives.specs.Weights.{WeightsData}
use Rattle.plan_model.specs.SelectedFields.{Setting, Place, types_of, lacks_types, holds}
use Rattle.plan_model.specs.Collecting.{CollectedField}
use Rattle.plan_model.specs.Merging.{Position, fields_of_key, position_below}
use Rattle.plan_model.specs.MergingWalk.{IsAcyclic}
use Rattle.plan_model.specs.Responses.{FitsSelections, KeepsSizes, response_cost, IsBoundOf}
use Rattle.plan_model.specs.Visits.{visits, fault_at, planned}
use Rattle.plan_model.specs.Operations.{setting_of, root_position}
use Rattle.plan_model.specs.Sound.{IsSoundPlace}

-- Where the tree fits the selections, it keeps their sizes exactly where it keeps those of the plan.
abbrev pub KeepsAsPlanned : Setting → Form → Option ℕ → Place → Position → Plan → Tree → Type 0
KeepsAsPlanned e form size place p plan t = FitsSelections e form place p t → KeepsSizes e size place p t ↔ SizesKept size plan t

-- Where the tree fits the selections, it costs what it costs by the plan, up to just above the cap.
abbrev pub CostsAsPlanned : Setting → Part → Form → Place → Position → Plan → Tree → Type 0
CostsAsPlanned e part form place p plan t = FitsSelections e form place p t → capped (cost part plan t) ≡ capped (response_cost e part place p t)

-- A number within the cap is the bound of the selections exactly where it is the greatest cost of the plan.
abbrev pub IsBoundByPlan : Setting → Part → Place → Position → Plan → ℕ → Type 0
IsBoundByPlan e part place p plan n = n ≤ CAP → IsBoundOf e part place p n ↔ (greatest_cost part plan ≡ n)

-- No node that is visited has a fault.
abbrev pub IsFaultless : Setting → ℕ → Place → Position → Type 0
IsFaultless e levels place p = first_of fault_at (visits e levels (types_of place) p) ≡ None

-- Where a sound place has types and no node that is visited has a fault, what is planned is sound.
abbrev pub PlansSoundly : Setting → ℕ → Place → Position → Type 0
PlansSoundly e levels place p = IsSoundPlace e place → lacks_types place ≡ false → IsFaultless e levels place p → IsSound (holds e.schema) (planned e levels place p)

-- What stands below the fields of each key is acyclic.
abbrev pub AreAcyclicBelow : Setting → ℕ → List CollectedField → Type 0
AreAcyclicBelow e T fields = (key : List ℕ) → IsAcyclic e (position_below e T (fields_of_key key fields))

-- The selections of an operation are acyclic, whatever weighs its fields, whichever values its variables have, and on whichever type it is written.
abbrev pub IsAcyclicOperation : SchemaData → List Definition → Operation → Type 0
IsAcyclicOperation s ds o = (w : WeightsData) (values : Environment) (root : ℕ) → IsAcyclic (setting_of s w values ds o) (root_position root o)
