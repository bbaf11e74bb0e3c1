-- The plan of an operation, from what is built at its root.
use Rattle.std.proofs.Common.{◌≡◌, ℕ, suc, ◌<◌, append-nil, arith, List, [], ◌∷◌, ◌++◌, map, Some, None, Result, Ok, Err, Bor, refl, sym, ap, ◌∙◌, subst}
use Rattle.std.specs.Prelude.{All}
use Rattle.std.proofs.lemmas.List.Elements.{All-cons}
use Rattle.document_reader.specs.declared.trees.Fragment.{Fragment}
use Rattle.document_reader.specs.declared.trees.Selection.{Selection}
use Rattle.document_reader.specs.Documents.{SelectionTrees}
use Rattle.document_reader.specs.Trees.{set_tree}
use Rattle.schema_model.specs.declared.schema.Schema.{Schema}
use Rattle.schema_model.specs.SchemaViews.{schema_data}
use Rattle.schema_model.specs.Numbers.{type_number}
use Rattle.input_values.specs.declared.inputs.shape.TypeId.{TypeId}
use Rattle.cost_directives.specs.declared.weights.Weights.{Weights}
use Rattle.cost_directives.specs.WeightViews.{weights_data}
use Rattle.variable_coercion.specs.declared.variables.Variables.{Variables}
use Rattle.variable_coercion.specs.Calls.{environment}
use Rattle.document_rules.specs.declared.checking.Checked.{Checked}
use Rattle.document_rules.specs.Parts.{FragmentData, fragment_data}
use Rattle.document_rules.specs.Checking.{IsChecked}
use Rattle.plan_model.specs.SelectedFields.{Setting, object_place}
use Rattle.plan_model.specs.Collecting.{WrittenSelections}
use Rattle.plan_model.specs.Merging.{Position}
use Rattle.plan_model.specs.MergingWalk.{IsAcyclic}
use Rattle.plan_model.specs.Plans.{type_weight}
use Rattle.plan_model.specs.Visits.{planned, visits, node_limit, level_limit, PlanAnswer, planned_well, answer_of}
use Rattle.plan_model.specs.Operations.{root_place}
use Rattle.plan_model.specs.Shortening.{AreShortened, AreShortenedFragments, with_fragments, position_on, IsShorter}
use Rattle.plan_model.proofs.ShortenedSets.{same_visits_shortened, same_plan_shortened, shorter_is_acyclic}
use Rattle.plan_model.proofs.CheckedRanks.{checked_is_acyclic}
use Rattle.plan_table.specs.declared.table.Plan.{Plan}
use Rattle.plan_table.specs.Tables.{setting_without_values, setting_in, table_rows, HasRows}
use Rattle.collected_fields.specs.Views.{fragment_seen}
use Rattle.collected_fields.specs.Gathering.{IsReady, meaning_at, IsNumber, HasOne}
use Rattle.merged_selections.specs.declared.stop.Stop.{Stop}
use Rattle.merged_selections.specs.declared.fault.PlanFault.{PlanFault}
use Rattle.merged_selections.specs.declared.building.Building.{Building}
use Rattle.merged_selections.specs.Faults.{IsTold, AnswersPlan}
use Rattle.merged_selections.specs.Building.{setting_for, answer_for, IsPlanned, setting_beside, answer_on, planned_on, AnswersSelections}
use Rattle.merged_selections.specs.Outcomes.{Outcome, has_left, outcome, answer_from, IsStop}
use Rattle.merged_selections.specs.NodeTests.{AreKept}
use Rattle.merged_selections.specs.Again.{AreKnown}
use Rattle.merged_selections.specs.Stages.{types_rows, Frame, frame, setting_built, position_built, CanBuild, BuildsRows, BuildsTypes}
use Rattle.merged_selections.proofs.VisitedParts.{answer_of_outcome}

pub seen_fragments : (fs : List (Bor Fragment)) → map fragment_seen fs ≡ map fragment_data (map (λ f. f.now) fs)
seen_fragments [] = refl
seen_fragments (f ∷ fs) = ap (λ ds. fragment_data f.now ∷ ds) (seen_fragments fs)

has_rows : (e : Setting) (l root : ℕ) (p : Position) (plan : Plan) → plan.root.number ≡ root → type_weight e root ≡ type_weight (setting_in plan) plan.root.number → table_rows plan ≡ types_rows e (suc l) 1 p (root ∷ []) → HasRows plan (planned e (suc l) (object_place (root ∷ [])) p)
unfolding planned
has_rows e l root p plan is weighs rows = ((sym is, weighs), rows)

module _ (e : Setting) (root : ℕ) (selections : SelectionTrees) (building new : Building) (list : ℕ) (setting_there : setting_built building ≡ e) (acyclic : IsAcyclic e (position_on root selections))
    (ready : IsReady building.collector) (has : HasOne building.collector list (Some root, selections)) (tied : setting_in building.plan ≡ setting_without_values e.schema e.weights)
    (plan_root : building.plan.root.number ≡ root) (no_rows : table_rows building.plan ≡ []) (left : building.left ≡ node_limit) (no_call : AreKept (setting_built building) building.calls) (none_known : AreKnown building.collector building.known) (same : frame new ≡ frame building) where
  position_there : position_built building (list ∷ []) None ≡ position_on root selections
  position_there = ap (λ (ws : List WrittenSelections). record { selections = ws; handed = None }) (append-nil (meaning_at building.collector list) ∙ has.1)

  number_there : All (IsNumber building.collector) (list ∷ [])
  number_there = All-cons (IsNumber building.collector) list [] has.0 (λ k d lt. absurd (none k lt))
    where
      none : (k : ℕ) → k < 0 → ⊥
      none k lt = omega arith

  can_begin : CanBuild building
  can_begin = record { collector = ready; plan = tied ∙ ap (λ (x : Setting). setting_without_values x.schema x.weights) (sym setting_there); calls = no_call; known = none_known }

  acyclic_there : IsAcyclic (setting_built building) (position_built building (list ∷ []) None)
  acyclic_there = subst (λ (x : Setting). IsAcyclic x (position_built building (list ∷ []) None)) (sym setting_there) (subst (λ (p : Position). IsAcyclic e p) (sym position_there) acyclic)

  abbrev Built : Result (Unit {0}) Stop → Type 0
  Built result = BuildsRows result building new (visits e level_limit (root ∷ []) (position_on root selections)) (types_rows e level_limit 1 (position_on root selections) (root ∷ []))

  built : (result : Result (Unit {0}) Stop) (types : List TypeId) (lists : List ℕ) → map type_number types ≡ root ∷ [] → lists ≡ list ∷ [] → BuildsTypes building 1 result new types lists None → Built result
  built result types lists is_root is_list h =
      subst (λ (x : Setting). BuildsRows result building new (visits x level_limit (root ∷ []) (position_on root selections)) (types_rows x level_limit 1 (position_on root selections) (root ∷ []))) setting_there
      (subst (λ (p : Position). BuildsRows result building new (visits (setting_built building) level_limit (root ∷ []) p) (types_rows (setting_built building) level_limit 1 p (root ∷ []))) position_there
      (subst (λ (Ts : List ℕ). BuildsRows result building new (visits (setting_built building) level_limit Ts (position_built building (list ∷ []) None)) (types_rows (setting_built building) level_limit 1 (position_built building (list ∷ []) None) Ts)) is_root
      (subst (λ (ls : List ℕ). BuildsTypes building 1 result new types ls None) is_list h (can_begin, (number_there, acyclic_there)))))

  abbrev nodes_there : ℕ → Outcome
  nodes_there n = outcome n (visits e level_limit (root ∷ []) (position_on root selections))

  answer_there : (o : Outcome) → nodes_there building.left ≡ o → answer_on e root selections ≡ answer_from o
  answer_there o is = answer_of_outcome node_limit (visits e level_limit (root ∷ []) (position_on root selections)) ∙ ap answer_from (ap nodes_there (sym left) ∙ is)

  same_setting : setting_in new.plan ≡ setting_in building.plan
  same_setting = ap (λ (f : Frame). f.2) same

  same_root : new.plan.root.number ≡ root
  same_root = ap (λ (f : Frame). f.3) same ∙ plan_root

  pub is_answered : (types : List TypeId) (lists : List ℕ) (done : Unit {0}) → map type_number types ≡ root ∷ [] → lists ≡ list ∷ [] → BuildsTypes building 1 (Ok done) new types lists None
      → (answer_on e root selections ≡ planned_well) × HasRows new.plan (planned_on e root selections)
  is_answered types lists done is_root is_list h =
      let b = built (Ok done) types lists is_root is_list h in (
        answer_there (has_left new.left) b.0,
        has_rows e 49 root (position_on root selections) new.plan same_root
            (ap (λ (x : Setting). type_weight x root) (sym (same_setting ∙ tied)) ∙ ap (λ n. type_weight (setting_in new.plan) n) (sym same_root))
            (b.1 ∙ ap (λ rows. rows ++ types_rows e level_limit 1 (position_on root selections) (root ∷ [])) no_rows),
      )

  pub is_told : (types : List TypeId) (lists : List ℕ) (stop : Stop) (fault : PlanFault) → map type_number types ≡ root ∷ [] → lists ≡ list ∷ [] → BuildsTypes building 1 (Err stop) new types lists None
      → ((o : Outcome) → IsStop stop o → IsTold (answer_from o) fault) → IsTold (answer_on e root selections) fault
  is_told types lists stop fault is_root is_list h tells =
      subst (λ a. IsTold a fault) (sym (answer_there (nodes_there building.left) refl)) (tells (nodes_there building.left) (built (Err stop) types lists is_root is_list h))

-- ---- what is built of the shortened selections

answers_same : {X : Type 0} (P Q : X → Type 0) (result : Result X PlanFault) (a b : PlanAnswer) → ((x : X) → P x → Q x) → a ≡ b → AnswersPlan P result a → AnswersPlan Q result b
answers_same P Q (Ok x) a b through same h = (sym same ∙ h.0, through x h.1)
answers_same P Q (Err fault) a b through same h = subst (λ answer. IsTold answer fault) same h

module _ (schema : Schema) (weights : Weights) (checked : Checked) (variables : Variables) (keeps : IsChecked (schema_data schema) checked) where
  abbrev whole : Setting
  whole = setting_for schema weights checked variables

  fragments_there : map fragment_seen checked.fragments.items ≡ whole.fragments
  fragments_there = seen_fragments checked.fragments.items ∙ ap (map fragment_data) keeps.of.fragments

  acyclic_itself : IsAcyclic whole (position_on checked.root.number (set_tree checked.operation.now.selections.items))
  acyclic_itself = checked_is_acyclic (schema_data schema) (weights_data weights) (environment variables) checked.document.now.definitions.items checked.operation.now checked.root.number keeps.kept

  -- of the selections as they are
  pub own_answers : (given : List (Bor Fragment)) (selections : List Selection) (root : ℕ) (result : Result Plan PlanFault) → given ≡ checked.fragments.items → selections ≡ checked.operation.now.selections.items → root ≡ checked.root.number
      → AnswersSelections (setting_beside schema weights variables (map fragment_seen given)) root (set_tree selections) result → AnswersPlan (IsPlanned schema weights checked variables) result (answer_for schema weights checked variables)
  own_answers given selections root result same_fragments same_selections same_root answers =
      subst (λ (n : ℕ). AnswersSelections whole n (set_tree checked.operation.now.selections.items) result) same_root
      (subst (λ (xs : List Selection). AnswersSelections whole root (set_tree xs) result) same_selections
      (subst (λ (fs : List FragmentData). AnswersSelections (setting_beside schema weights variables fs) root (set_tree selections) result) (ap (map fragment_seen) same_fragments ∙ fragments_there) answers)) acyclic_itself

  pub shorter_answers : (given : List (Bor Fragment)) (seen fragments : List FragmentData) (selections lent kept : List Selection) (root : ℕ) (result : Result Plan PlanFault) → given ≡ checked.fragments.items → selections ≡ checked.operation.now.selections.items → root ≡ checked.root.number → seen ≡ fragments → lent ≡ kept
      → AreShortened (environment variables) (set_tree selections) (set_tree kept) → AreShortenedFragments (environment variables) (map fragment_seen given) fragments → AnswersSelections (setting_beside schema weights variables seen) root (set_tree lent) result
      → AnswersPlan (IsPlanned schema weights checked variables) result (answer_for schema weights checked variables)
  shorter_answers given seen fragments selections lent kept root result same_fragments same_selections same_root is_seen is_lent below inside answers =
      let top : ℕ = checked.root.number in
      let ss : SelectionTrees = set_tree checked.operation.now.selections.items in
      let others : SelectionTrees = set_tree kept in
      let shorter : IsShorter whole ss fragments others = record {
        below = subst (λ (xs : List Selection). AreShortened (environment variables) (set_tree xs) others) same_selections below;
        inside = subst (λ (fs : List FragmentData). AreShortenedFragments (environment variables) fs fragments) (ap (map fragment_seen) same_fragments ∙ fragments_there) inside;
      } in
      let acyclic = shorter_is_acyclic whole top ss others fragments shorter acyclic_itself in
      answers_same (λ plan. HasRows plan (planned_on (with_fragments whole fragments) top others)) (IsPlanned schema weights checked variables) result (answer_on (with_fragments whole fragments) top others) (answer_for schema weights checked variables)
      (λ plan h. subst (λ p. HasRows plan p) (sym (same_plan_shortened whole fragments shorter.inside top ss others shorter.below level_limit (root_place top))) h)
      (ap (answer_of node_limit) (sym (same_visits_shortened whole fragments shorter.inside top ss others shorter.below level_limit (top ∷ []))))
      (subst (λ (n : ℕ). AnswersSelections (setting_beside schema weights variables fragments) n others result) same_root
      (subst (λ (xs : List Selection). AnswersSelections (setting_beside schema weights variables fragments) root (set_tree xs) result) is_lent
      (subst (λ (fs : List FragmentData). AnswersSelections (setting_beside schema weights variables fs) root (set_tree lent) result) is_seen answers)) acyclic)
