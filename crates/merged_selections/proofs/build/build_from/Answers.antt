use Rattle.std.proofs.Common.{Bor, [], ◌∷◌, refl, sym, ap, subst, ◌∙◌, map}
use Rattle.document_reader.specs.Trees.{set_tree}
use Rattle.schema_model.specs.SchemaViews.{schema_data}
use Rattle.schema_model.specs.declared.schema.Schema.{Schema}
use Rattle.input_values.specs.declared.inputs.shape.TypeId.{TypeId}
use Rattle.cost_directives.specs.declared.weights.Weights.{Weights}
use Rattle.cost_directives.specs.WeightViews.{weights_data}
use Rattle.plan_model.specs.SelectedFields.{Setting}
use Rattle.plan_table.specs.declared.table.Plan.{Plan}
use Rattle.plan_table.specs.Tables.{setting_without_values, HasRows}
use Rattle.collected_fields.specs.Views.{setting_of_planning, fragment_seen}
use Rattle.merged_selections.specs.Building.{setting_beside, planned_on}
use Rattle.merged_selections.specs.NodeTests.{AreKept}
use Rattle.merged_selections.specs.Stages.{Frame}
use Rattle.merged_selections.proofs.BuiltPlans.{is_answered, is_told}
use Rattle.merged_selections.proofs.build.build_from.Goals as goal

pub returns-in-Ok-clause-answer : goal.returns-in-Ok-clause-answer
returns-in-Ok-clause-answer c = λ acyclic.
    let answered = is_answered (setting_beside c.args.schema.now c.args.weights.now c.args.variables.now (map fragment_seen c.args.fragments.now)) c.args.root.number (set_tree c.args.selections.now) (record { collector = c.in_ok-collector.collector; plan = c.new.result; left = 20000; calls = c.new-2.result; keys = c.new-3.result; known = c.new-4.result }) c.build_types.new.self c.in_ok-collector.list
    (ap setting_of_planning c.in_ok-collector.ensures.planning) acyclic c.in_ok-collector.ensures.ready c.in_ok-collector.ensures.root
    (ap (λ (b : Bor Schema). setting_without_values (schema_data b.now) (weights_data c.new.result.weights.now)) c.new.ensures.schema ∙ ap (λ (b : Bor Weights). setting_without_values (schema_data c.args.schema.now) (weights_data b.now)) c.new.ensures.weights)
    (ap (λ (r : TypeId). r.number) c.new.ensures.root) c.new.ensures.none refl (subst (λ (s : Setting). AreKept s c.new-2.result) (sym (ap setting_of_planning c.in_ok-collector.ensures.planning)) c.new-2.ensures) (c.new-4.ensures _) c.in-Ok.ensures.frame (c.args.root ∷ []) (c.in_ok-collector.list ∷ []) c.in-Ok.field-0 refl refl c.in-Ok.ensures.built in
    (answered.0, subst (λ (plan : Plan). HasRows plan (planned_on (setting_beside c.args.schema.now c.args.weights.now c.args.variables.now (map fragment_seen c.args.fragments.now)) c.args.root.number (set_tree c.args.selections.now))) (sym c.into_plan.ensures) answered.1)

pub returns-in-Ok-clause-schema : goal.returns-in-Ok-clause-schema
returns-in-Ok-clause-schema c = ap (λ (plan : Plan). plan.schema.now) c.into_plan.ensures ∙ (ap (λ (f : Frame). f.4) c.in-Ok.ensures.frame ∙ ap (λ (b : Bor Schema). b.now) c.new.ensures.schema)

pub returns-in-Ok-clause-weights : goal.returns-in-Ok-clause-weights
returns-in-Ok-clause-weights c = ap (λ (plan : Plan). plan.weights.now) c.into_plan.ensures ∙ (ap (λ (f : Frame). f.5) c.in-Ok.ensures.frame ∙ ap (λ (b : Bor Weights). b.now) c.new.ensures.weights)

pub returns-clause-answer : goal.returns-clause-answer
returns-clause-answer c = λ acyclic.
    is_told (setting_beside c.args.schema.now c.args.weights.now c.args.variables.now (map fragment_seen c.args.fragments.now)) c.args.root.number (set_tree c.args.selections.now) (record { collector = c.in_ok-collector.collector; plan = c.new.result; left = 20000; calls = c.new-2.result; keys = c.new-3.result; known = c.new-4.result }) c.build_types.new.self c.in_ok-collector.list
    (ap setting_of_planning c.in_ok-collector.ensures.planning) acyclic c.in_ok-collector.ensures.ready c.in_ok-collector.ensures.root
    (ap (λ (b : Bor Schema). setting_without_values (schema_data b.now) (weights_data c.new.result.weights.now)) c.new.ensures.schema ∙ ap (λ (b : Bor Weights). setting_without_values (schema_data c.args.schema.now) (weights_data b.now)) c.new.ensures.weights)
    (ap (λ (r : TypeId). r.number) c.new.ensures.root) c.new.ensures.none refl (subst (λ (s : Setting). AreKept s c.new-2.result) (sym (ap setting_of_planning c.in_ok-collector.ensures.planning)) c.new-2.ensures) (c.new-4.ensures _) c.in-Err.ensures.frame (c.args.root ∷ []) (c.in_ok-collector.list ∷ []) c.in-Err.stop c.fault_of.result refl refl c.in-Err.ensures.built c.fault_of.ensures
