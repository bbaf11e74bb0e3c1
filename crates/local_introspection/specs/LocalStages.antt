-- What the stages of an answer hand on.
use Rattle.std.specs.Prelude.{◌≡◌, List}
use Rattle.serde_json.specs.View.{view}
use Rattle.document_rules.specs.declared.checking.Checked.{Checked}
use Rattle.variable_coercion.specs.declared.variables.Variables.{Variables}
use Rattle.plan_model.specs.Visits.{planned_well}
use Rattle.acceptance.specs.PassedOn.{answer_for}
use Rattle.local_introspection.specs.declared.answering.Asking.{Asking}
use Rattle.local_introspection.specs.declared.facts.Facts.{Facts}
use Rattle.local_introspection.specs.declared.fault.LocalFault.{LocalFault}
use Rattle.local_introspection.specs.declared.fault.LocalFault.TheVariants.{TooLarge, Memory}
use Rattle.local_introspection.specs.declared.counting.Stop.{Stop}
use Rattle.local_introspection.specs.declared.counting.Stop.TheVariants.{TooLarge as LargeStop, Memory as MemoryStop}
use Rattle.meta_schema.specs.PassedOn.{AskedNode, asked_nodes, kept_below, asked_for}
use Rattle.schema_facts.specs.FactsViews.{facts_data}
use Rattle.local_introspection.specs.LocalRequests.{LocalRequest, local_request, place_in}

abbrev pub ask_data : Asking → LocalRequest
ask_data a = local_request a.facts.now a.document.now.definitions.items a.place (view a.given.now)

-- What was checked is planned well over the schema of schemas.
abbrev pub IsPlannedOver : Facts → Checked → Variables → Type 0
IsPlannedOver facts checked variables = answer_for facts.meta.schema facts.meta.weights checked variables ≡ planned_well

-- These nodes are what it asks.
abbrev pub AreAsked : Facts → Checked → Variables → List AskedNode → Type 0
AreAsked facts checked variables nodes = asked_nodes nodes ≡ kept_below (place_in (facts_data facts.known)) (asked_for facts.meta.schema facts.meta.weights checked variables)

-- why the walk stopped, as a fault
abbrev pub stop_told : Stop → LocalFault
stop_told LargeStop = TooLarge
stop_told MemoryStop = Memory
