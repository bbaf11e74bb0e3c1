use Rattle.std.proofs.Common.{sym, ◌∙◌, map}
use Rattle.std.proofs.lemmas.Result.{on_ok_weaker}
use Rattle.schema_model.specs.SchemaViews.{schema_data}
use Rattle.collected_fields.specs.Prepared.{entry_data}
use Rattle.collected_fields.specs.Walks.{walk_data, walk_fragment, list_steps, known_for}
use Rattle.collected_fields.proofs.WalkSteps.{at_no_depth, passed_over, gone_into, next_step}
use Rattle.collected_fields.proofs.walk.+walk.Goals as goal

pub walk_fragment-returns-then-depth-eq0 : goal.walk_fragment-returns-then-depth-eq0
walk_fragment-returns-then-depth-eq0 t c = at_no_depth _ _ _ _ _ c.args.depth c.args.number (walk_data c.args.walk.now) c.if-depth-eq0.true

pub walk_fragment-returns-then-is_marked : goal.walk_fragment-returns-then-is_marked
walk_fragment-returns-then-is_marked t c = passed_over _ _ _ _ _ c.args.depth c.args.number (walk_data c.args.walk.now) (sym c.is_marked.ensures ∙ c.if-is_marked.true)

pub walk_fragment-returns : goal.walk_fragment-returns
walk_fragment-returns t c = on_ok_weaker c.note.result (λ same. same ∙ gone_into (schema_data c.args.tables.now.planning.schema.now) c.args.of.number (list_steps c.args.tables.now c.args.known.now c.args.reaches.now c.args.of.number c.args.depth) (known_for c.args.known.now c.args.of.number) (map entry_data c.args.tables.now.entries.items) c.args.depth c.args.number (walk_data c.args.walk.now) (walk_data c.mark.new.self) (walk_data c.walk_entry.new.walk)
    c.if-depth-eq0.false (sym c.is_marked.ensures ∙ c.if-is_marked.false) c.in_ok-mark.ensures c.in_ok-walk_entry.ensures) c.note.ensures

pub walk_steps-loop-at-preserved : goal.walk_steps-loop-at-preserved
walk_steps-loop-at-preserved t c = next_step (schema_data c.args.tables.now.planning.schema.now) c.args.of.number (walk_fragment (schema_data c.args.tables.now.planning.schema.now) c.args.of.number (list_steps c.args.tables.now c.args.known.now c.args.reaches.now c.args.of.number c.args.depth) (known_for c.args.known.now c.args.of.number) (map entry_data c.args.tables.now.entries.items) c.args.depth)
    c.args.steps.now c.loop-at.at c.in_ok-skip.skip c.place_behind-at.result c.index-steps-at.result (walk_data c.loop-at.walk) (walk_data c.walk_step.new.walk) _ c.loop-at-test.true c.index-steps-at.is c.place_behind-at.ensures.some c.place_behind-at.ensures.all c.in_ok-skip.ensures c.loop-at.invariant
