-- What a request comes to, each that asks the same comes to.
use Rattle.std.proofs.Common.{◌≡◌, ◌∙◌, inl, inr, ℕ, true, List, [], ◌∷◌, map, Some, Result, Ok, Err, sym, ap, ap₂, subst}
use Rattle.response_model.specs.Plan.{single}
use Rattle.response_model.specs.Response.{Tree}
use Rattle.response_model.specs.Cost.{Part, types, fields}
use Rattle.document_reader.specs.declared.trees.Definition.{Definition}
use Rattle.document_reader.specs.declared.trees.Operation.{Operation}
use Rattle.document_reader.specs.Trees.{definition_tree}
use Rattle.operation_class.specs.Classes.{class_at}
use Rattle.document_rules.specs.Parts.{operation_at}
use Rattle.document_rules.specs.Sites.{type_of_kind}
use Rattle.document_rules.specs.Checking.{first_broken}
use Rattle.variable_coercion.specs.Variables.{values_by_name, variables_answer}
use Rattle.plan_model.specs.SelectedFields.{Setting}
use Rattle.plan_model.specs.Merging.{Position}
use Rattle.plan_model.specs.Responses.{FitsSelections, response_cost}
use Rattle.plan_model.specs.Visits.{visits, level_limit, node_limit, PlanAnswer, answer_of}
use Rattle.plan_model.specs.Operations.{setting_of, root_position, root_place}
use Rattle.meta_schema.specs.PassedOn.{AskedNodes, asked, kept_below}
use Rattle.schema_facts.specs.Facts.{FactsData}
use Rattle.schema_facts.specs.Things.{one, the_root}
use Rattle.acceptance.specs.Refusals.{NamesBreach, NamesVariable, NamesNode}
use Rattle.acceptance.proofs.AlikeDocuments.{seen_in, seen_together, operation_alike}
use Rattle.acceptance.proofs.AlikeOperations.{AreAlike, parts_alike, broken_alike, values_alike, setting_alike, position_alike}
use Rattle.local_introspection.specs.declared.fault.LocalFault.{LocalFault}
use Rattle.local_introspection.specs.declared.fault.LocalFault.TheVariants.{Mixed, Rule, Variable, Plan, TooLarge, Memory}
use Rattle.local_introspection.specs.declared.walk.Local.{Local}
use Rattle.response_model.specs.ResponseText.{response_text}
use Rattle.local_introspection.specs.Answers.{Gives}
use Rattle.local_introspection.specs.Lengths.{IsShort, IsLong}
use Rattle.local_introspection.specs.LocalRequests.{LocalRequest, AsksFor, KeepsRules, Prepared, setting, IsPlannedWell, place_in, nodes_asked, IsTheAnswer}
use Rattle.local_introspection.specs.LocalAnswers.{IsAnsweredWith, IsRefusedFor, ComesTo}
use Rattle.local_introspection.specs.AskAlike.{AskAlike}

abbrev pub OneClass : Type 0
OneClass = (ds es : List Definition) (place : ℕ) → map definition_tree ds ≡ map definition_tree es → class_at ds place ≡ class_at es place

-- ---- by what an operation is planned, whether it is, what it asks, and what fits

record Planning : Type 0 where
  setting : Setting
  root : ℕ
  position : Position

abbrev planning : (r : LocalRequest) → Prepared r → Planning
planning r p = record { setting = setting r p; root = p.root; position = root_position p.root p.operation }

abbrev answer_by : Planning → PlanAnswer
answer_by x = answer_of node_limit (visits x.setting level_limit (x.root ∷ []) x.position)

abbrev nodes_by : FactsData → Planning → AskedNodes
nodes_by f x = kept_below (place_in f) (asked x.setting level_limit (root_place x.root) x.position)

abbrev FitsBy : Tree → Planning → Type 0
FitsBy t x = FitsSelections x.setting (single true) (root_place x.root) x.position t

abbrev cost_by : Tree → Part → Planning → ℕ
cost_by t part x = response_cost x.setting part (root_place x.root) x.position t

module _ (classes : OneClass) (r q : LocalRequest) (alike : AskAlike r q) where
  class_alike : class_at r.document r.place ≡ class_at q.document q.place
  class_alike = classes r.document q.document r.place alike.trees ∙ ap (class_at q.document) alike.place

  -- ---- the operation that is asked for

  documents_alike : map seen_in r.document ≡ map seen_in q.document
  documents_alike = seen_together r.document q.document alike.trees alike.offsets

  asked_alike : (o : Operation) → AsksFor r o → (p : Operation) × AsksFor q p × AreAlike o p
  asked_alike o asks =
      let found = operation_alike r.document q.document r.place o documents_alike asks.0 in
      (found.0, (ap (operation_at q.document) (sym alike.place) ∙ found.1, sym class_alike ∙ asks.1), parts_alike o found.0 found.2)

  breach_alike : (o p : Operation) → AreAlike o p → first_broken r.schema r.document o ≡ first_broken q.schema q.document p
  breach_alike o p same = ap (λ s. first_broken s r.document o) alike.schema ∙ broken_alike q.schema r.document q.document o p documents_alike alike.trees same

  kept_alike : (o : Operation) → KeepsRules r o → (p : Operation) × KeepsRules q p × AreAlike o p
  kept_alike o keeps =
      let found = asked_alike o keeps.0 in
      (found.0, (found.1, sym (breach_alike o found.0 found.2) ∙ keeps.1), found.2)

  answer_alike : (o p : Operation) → AreAlike o p → variables_answer r.schema o.variables.items r.given ≡ variables_answer q.schema p.variables.items q.given
  answer_alike o p same = ap₂ (λ s given. variables_answer s o.variables.items given) alike.schema alike.given ∙ values_alike q.schema q.given o p same

  -- ---- what is planned

  module _ (p : Prepared r) where
    abbrev other : Prepared q
    other =
        let kept = kept_alike p.operation p.keeps in
        record {
          operation = kept.0;
          root = p.root;
          values = p.values;
          keeps = kept.1;
          on_root = sym (ap₂ type_of_kind alike.schema kept.2.kind) ∙ p.on_root;
          are_values = sym (answer_alike p.operation kept.0 kept.2) ∙ p.are_values;
        }

    planned_alike : planning r p ≡ planning q other
    planned_alike =
        let kept = kept_alike p.operation p.keeps in
        ap₂ (λ e position. record { setting = e; root = p.root; position = position })
        (ap₂ (λ s w. setting_of s w (values_by_name p.values) r.document p.operation) alike.schema alike.weights
        ∙ setting_alike q.schema q.weights (values_by_name p.values) r.document q.document p.operation kept.0 alike.trees kept.2)
        (position_alike p.root p.operation kept.0 kept.2)

    well_alike : IsPlannedWell r p → IsPlannedWell q other
    well_alike well = sym (ap answer_by planned_alike) ∙ well

    nodes_alike : nodes_asked r p ≡ nodes_asked q other
    nodes_alike = ap₂ nodes_by alike.facts planned_alike

    tree_alike : (t : Tree) → IsTheAnswer r p t → IsTheAnswer q other t
    tree_alike t is = record {
      fits = subst (FitsBy t) planned_alike is.fits;
      given = subst (λ nodes. Gives q.facts (one the_root) nodes t) nodes_alike (subst (λ f. Gives f (one the_root) (nodes_asked r p) t) alike.facts is.given);
    }

  -- ---- what it comes to

  answered_alike : (local : Local) → IsAnsweredWith r local → IsAnsweredWith q local
  answered_alike local (p, well, t, is, written) = (
    other p,
    well_alike p well,
    t,
    tree_alike p t is,
    record {
      few = written.few;
      text = written.text;
      short = subst (λ most. IsShort most (response_text (Some t) [])) alike.most written.short;
      of_types = written.of_types ∙ ap (cost_by t types) (planned_alike p);
      of_fields = written.of_fields ∙ ap (cost_by t fields) (planned_alike p);
    },
  )

  refused_alike : (fault : LocalFault) → IsRefusedFor r fault → IsRefusedFor q fault
  refused_alike (Mixed at) refused = sym class_alike ∙ refused
  refused_alike (Rule fault) (o, asks, broken) =
      let found = asked_alike o asks in
      (found.0, found.1, subst (NamesBreach fault) (breach_alike o found.0 found.2) broken)
  refused_alike (Variable fault) (o, keeps, refused) =
      let kept = kept_alike o keeps in
      (kept.0, kept.1, subst (NamesVariable fault) (answer_alike o kept.0 kept.2) refused)
  refused_alike (Plan fault) (p, named) = (other p, subst (NamesNode fault) (ap answer_by (planned_alike p)) named)
  refused_alike TooLarge (p, well, t, is, inl many) = (other p, well_alike p well, t, tree_alike p t is, inl many)
  refused_alike TooLarge (p, well, t, is, inr long) = (other p, well_alike p well, t, tree_alike p t is, inr (subst (λ most. IsLong most (response_text (Some t) [])) alike.most long))
  refused_alike Memory refused = tt

  pub comes_alike : (result : Result Local LocalFault) → ComesTo r result → ComesTo q result
  comes_alike (Ok local) = answered_alike local
  comes_alike (Err fault) = refused_alike fault
