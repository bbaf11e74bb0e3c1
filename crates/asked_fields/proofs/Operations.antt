-- What is asked of an operation, from what is found at its root.
use Rattle.std.proofs.Common.{◌≡◌, ℕ, ◌<◌, List, [], ◌∷◌, map, Option, Some, None, Bor, append-nil, arith, refl, sym, ap, ◌∙◌, subst}
use Rattle.std.proofs.lemmas.List.Elements.{All-cons}
use Rattle.document_reader.specs.declared.trees.Fragment.{Fragment}
use Rattle.document_reader.specs.Trees.{set_tree}
use Rattle.schema_model.specs.declared.schema.Schema.{Schema}
use Rattle.schema_model.specs.SchemaViews.{schema_data}
use Rattle.cost_directives.specs.declared.weights.Weights.{Weights}
use Rattle.cost_directives.specs.WeightViews.{weights_data}
use Rattle.variable_coercion.specs.declared.variables.Variables.{Variables}
use Rattle.variable_coercion.specs.Calls.{environment}
use Rattle.document_rules.specs.declared.checking.Checked.{Checked}
use Rattle.document_rules.specs.Parts.{FragmentData, fragment_data, fragments_of}
use Rattle.document_rules.specs.Met.{fragments_met}
use Rattle.document_rules.specs.Checking.{IsChecked, reached_by}
use Rattle.plan_model.specs.SelectedFields.{Setting}
use Rattle.plan_model.specs.Collecting.{WrittenSelections}
use Rattle.plan_model.specs.Merging.{Position}
use Rattle.plan_model.specs.MergingWalk.{IsAcyclic}
use Rattle.plan_model.specs.Visits.{level_limit}
use Rattle.plan_model.specs.Operations.{root_position}
use Rattle.plan_model.proofs.CheckedRanks.{checked_is_acyclic}
use Rattle.collected_fields.specs.declared.planning.Planning.{Planning}
use Rattle.collected_fields.specs.declared.collector.Collector.{Collector}
use Rattle.collected_fields.specs.Views.{setting_of_planning, fragment_seen}
use Rattle.collected_fields.specs.Gathering.{planning_of, setting_at, meaning_at, IsNumber, position_at, HasOne}
use Rattle.asked_fields.specs.declared.asked.AskedNode.{AskedNode}
use Rattle.asked_fields.specs.AskedNodes.{asked_nodes}
use Rattle.asked_fields.specs.Asked.{asked_operation}
use Rattle.asked_fields.specs.Asking.{kept_below, asked_for_type, CanAsk, setting_for}
use Rattle.asked_fields.proofs.Steps.{root_there}

seen_fragments : (fs : List (Bor Fragment)) → map fragment_seen fs ≡ map fragment_data (map (λ f. f.now) fs)
seen_fragments [] = refl
seen_fragments (f ∷ fs) = ap (λ ds. fragment_data f.now ∷ ds) (seen_fragments fs)

module _ (schema : Schema) (weights : Weights) (checked : Checked) (variables : Variables) (kept : IsChecked (schema_data schema) checked) (planning : Planning) (c : Collector) (list : ℕ)
    (is_planning : planning_of c ≡ planning) (of_schema : planning.schema.now ≡ schema) (of_weights : planning.weights.now ≡ weights) (of_variables : planning.variables.now ≡ variables) (of_fragments : planning.fragments.now ≡ checked.fragments.items)
    (one : HasOne c list (Some checked.root.number, set_tree checked.operation.now.selections.items)) where
  abbrev e : Setting
  e = setting_for schema weights checked variables

  abbrev root : ℕ
  root = checked.root.number

  fragments_there : map fragment_seen planning.fragments.now ≡ map fragment_data (fragments_met (fragments_of checked.document.now.definitions.items) (reached_by checked.document.now.definitions.items checked.operation.now))
  fragments_there = ap (map fragment_seen) of_fragments ∙ (seen_fragments checked.fragments.items ∙ ap (map fragment_data) kept.of.fragments)

  setting_there : setting_at c ≡ e
  setting_there =
      ap setting_of_planning is_planning
      ∙ (ap (λ (s : Schema). record { schema = schema_data s; weights = weights_data planning.weights.now; values = environment planning.variables.now; fragments = map fragment_seen planning.fragments.now }) of_schema
      ∙ (ap (λ (w : Weights). record { schema = schema_data schema; weights = weights_data w; values = environment planning.variables.now; fragments = map fragment_seen planning.fragments.now }) of_weights
      ∙ (ap (λ (v : Variables). record { schema = schema_data schema; weights = weights_data weights; values = environment v; fragments = map fragment_seen planning.fragments.now }) of_variables
      ∙ ap (λ (fs : List FragmentData). record { schema = schema_data schema; weights = weights_data weights; values = environment variables; fragments = fs }) fragments_there)))

  position_there : position_at c (list ∷ []) ≡ root_position root checked.operation.now
  position_there = ap (λ (ws : List WrittenSelections). record { selections = ws; handed = None }) (append-nil (meaning_at c list) ∙ one.1)

  pub root_may_be_asked : CanAsk c (list ∷ [])
  root_may_be_asked = (
    All-cons (IsNumber c) list [] one.0 (λ k d lt. absurd (none k lt)),
    subst (λ (x : Setting). IsAcyclic x (position_at c (list ∷ []))) (sym setting_there)
        (subst (λ (p : Position). IsAcyclic e p) (sym position_there) (checked_is_acyclic (schema_data schema) (weights_data weights) (environment variables) checked.document.now.definitions.items checked.operation.now root kept.kept)),
  )
    where
      none : (k : ℕ) → k < 0 → ⊥
      none k lt = omega arith

  pub operation_found : (place : List ℕ → Option ℕ) (T : ℕ) (nodes : List AskedNode) → T ≡ root → asked_nodes nodes ≡ asked_for_type place (setting_at c) level_limit T (position_at c (list ∷ [])) → asked_nodes nodes ≡ kept_below place (asked_operation e root checked.operation.now)
  operation_found place T nodes is h =
      h ∙ (ap (λ U. asked_for_type place (setting_at c) level_limit U (position_at c (list ∷ []))) is
      ∙ (ap (λ (x : Setting). asked_for_type place x level_limit root (position_at c (list ∷ []))) setting_there
      ∙ (ap (λ (p : Position). asked_for_type place e level_limit root p) position_there ∙ root_there place e level_limit root (root_position root checked.operation.now))))
