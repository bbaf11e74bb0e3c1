-- What is written is the answer to the request.
use Rattle.std.specs.Prelude.{Result, IfOk}
use Rattle.std.specs.declared.alloc.AllocError.{AllocError}
use Rattle.std.proofs.Common.{◌≡◌, ◌∙◌, ℕ, List, Vec, Global, map, Ok, Err, sym, ap, subst}
use Rattle.serde_json.specs.Data.{Data}
use Rattle.gql_base.specs.names.Names.{place_of_name}
use Rattle.document_reader.specs.declared.trees.Definition.{Definition}
use Rattle.document_rules.specs.declared.checking.Checked.{Checked}
use Rattle.variable_coercion.specs.declared.variables.Variables.{Variables}
use Rattle.variable_coercion.specs.Variables.{values_by_name}
use Rattle.variable_coercion.specs.Calls.{variables_data, environment}
use Rattle.plan_model.specs.SelectedFields.{Setting}
use Rattle.plan_model.specs.Operations.{setting_of, operation_answer}
use Rattle.schema_facts.specs.declared.known.KnownType.{KnownType}
use Rattle.schema_facts.specs.Facts.{KnownTree, known_name, known_type}
use Rattle.schema_facts.specs.FactsViews.{facts_data}
use Rattle.meta_schema.specs.PassedOn.{AskedNode, AskedNodes, asked_nodes, asked_operation, kept_below, asked_for}
use Rattle.local_introspection.specs.declared.facts.Facts.{Facts}
use Rattle.local_introspection.specs.declared.fault.LocalFault.{LocalFault}
use Rattle.cost_num.specs.declared.Cost.{Cost}
use Rattle.local_introspection.specs.declared.counting.Stop.{Stop}
use Rattle.local_introspection.specs.declared.counting.Stop.TheVariants.{TooLarge as LargeStop, Memory as MemoryStop}
use Rattle.local_introspection.specs.Measuring.{IsSized}
use Rattle.local_introspection.specs.Walking.{answer_text}
use Rattle.local_introspection.specs.Counted.{answer_at}
use Rattle.local_introspection.specs.LocalRequests.{LocalRequest, local_request, IsCheckFor, AreValues, Prepared, setting, IsPlannedWell, place_in, nodes_asked}
use Rattle.local_introspection.specs.LocalAnswers.{IsAnsweredWith, IsRefusedFor}
use Rattle.local_introspection.specs.LocalStages.{IsPlannedOver, AreAsked, stop_told}
use Rattle.local_introspection.proofs.KeptPlaces.{below_alike, place_alike}
use Rattle.local_introspection.proofs.OverMeta.{AskLaws}
use Rattle.local_introspection.proofs.PreparedAnswers.{HaveTheirForms, is_written, is_too_large}
use Rattle.local_introspection.proofs.Stages.{prepared_by, same_setting}

-- what is asked by the places of names that the program knows
pub are_asked : (facts : Facts) (c : Checked) (variables : Variables) (types_held : List KnownType) (nodes : List AskedNode) → map known_type types_held ≡ (facts_data facts.known).types
    → asked_nodes nodes ≡ kept_below (place_of_name (λ t. known_name (known_type t)) types_held) (asked_for facts.meta.schema facts.meta.weights c variables) → AreAsked facts c variables nodes
are_asked facts c variables types_held nodes known asked =
    asked
    ∙ below_alike (place_of_name (λ t. known_name (known_type t)) types_held) (place_in (facts_data facts.known))
    (λ name. place_alike types_held name ∙ ap (λ (ts : List KnownTree). place_of_name known_name ts name) known) (asked_for facts.meta.schema facts.meta.weights c variables)

pub found_asked : (facts : Facts) (c : Checked) (variables : Variables) (types_held : List KnownType) → map known_type types_held ≡ (facts_data facts.known).types
    → (found : Result (Vec AskedNode Global) AllocError) → IfOk found (λ nodes. asked_nodes nodes.items ≡ kept_below (place_of_name (λ t. known_name (known_type t)) types_held) (asked_for facts.meta.schema facts.meta.weights c variables))
    → IfOk found (λ nodes. AreAsked facts c variables nodes.items)
found_asked facts c variables types_held known (Ok nodes) asked = are_asked facts c variables types_held nodes.items known asked
found_asked facts c variables types_held known (Err failed) asked = tt

module _ (laws : AskLaws) (forms : HaveTheirForms) (facts : Facts) (document : List Definition) (place : ℕ) (given : Data) (c : Checked) (variables : Variables) where
  abbrev r : LocalRequest
  r = local_request facts document place given

  module _ (of : IsCheckFor r c) (are : AreValues r c.operation.now (variables_data variables)) (sees : environment variables ≡ values_by_name (variables_data variables)) (planned : IsPlannedOver facts c variables)
      (nodes : List AskedNode) (asked : AreAsked facts c variables nodes) where
    abbrev p : Prepared r
    p = prepared_by r c (variables_data variables) of are

    same : setting_of r.schema r.weights (environment variables) c.document.now.definitions.items c.operation.now ≡ setting r p
    same = same_setting r c (environment variables) (variables_data variables) of are sees

    well : IsPlannedWell r p
    well = ap (λ (s : Setting). operation_answer s c.root.number c.operation.now) (sym same) ∙ planned

    same_nodes : asked_nodes nodes ≡ nodes_asked r p
    same_nodes = asked ∙ ap (λ (s : Setting). kept_below (place_in r.facts) (asked_operation s c.root.number c.operation.now)) same

    pub is_answered : (cost : Cost) → IsSized r.facts (asked_nodes nodes) r.most (Ok cost) → IsAnsweredWith r (answer_at facts nodes cost)
    is_answered cost is =
        let sized = subst (λ (ns : AskedNodes). IsSized r.facts ns r.most (Ok cost)) same_nodes is in
        subst (λ (ns : AskedNodes). IsAnsweredWith r (record { cost = cost; text = answer_text r.facts ns })) (sym same_nodes)
        (is_written laws forms facts document place given p well cost sized.0 sized.1)

    pub is_stopped : (stop : Stop) (fault : LocalFault) → fault ≡ stop_told stop → IsSized r.facts (asked_nodes nodes) r.most (Err stop) → IsRefusedFor r fault
    is_stopped LargeStop fault told is =
        subst (IsRefusedFor r) (sym told) (is_too_large laws forms facts document place given p well (subst (λ (ns : AskedNodes). IsSized r.facts ns r.most (Err LargeStop)) same_nodes is))
    is_stopped MemoryStop fault told is = subst (IsRefusedFor r) (sym told) tt
