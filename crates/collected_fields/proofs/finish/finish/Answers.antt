use Rattle.std.proofs.Common.{◌∙◌, subst, map}
use Rattle.schema_model.specs.SchemaViews.{schema_data}
use Rattle.collected_fields.specs.Walks.{numbered}
use Rattle.collected_fields.specs.Lists.{Finishes}
use Rattle.collected_fields.proofs.ListLaws.{more_again}
use Rattle.collected_fields.proofs.FinishLaws.{finished_next}
use Rattle.collected_fields.proofs.finish.finish.Goals as goal

pub returns-in_err-group-clause-more : goal.returns-in_err-group-clause-more
returns-in_err-group-clause-more c = more_again c.args.joins.now c.loop-of_key.joins c.finish_one.new.joins c.loop-of_key.invariant.1.0 c.finish_one.ensures.more

pub returns-in_err-push-clause-more : goal.returns-in_err-push-clause-more
returns-in_err-push-clause-more c = more_again c.args.joins.now c.loop-of_key.joins c.finish_one.new.joins c.loop-of_key.invariant.1.0 c.finish_one.ensures.more

pub loop-of_key-preserved : goal.loop-of_key-preserved
loop-of_key-preserved c = (
  c.finish_one.ensures.count ∙ c.loop-of_key.invariant.0,
  (
    more_again c.args.joins.now c.loop-of_key.joins c.finish_one.new.joins c.loop-of_key.invariant.1.0 c.finish_one.ensures.more,
    finished_next (schema_data c.args.schema.now) c.args.fields.now c.loop-of_key.of_key-index c.of_key-item.result c.loop-of_key-test.true c.of_key-item.is c.args.joins.now c.loop-of_key.joins c.finish_one.new.joins c.loop-of_key.groups.items c.push.new.self.items c.in_ok-group.group
        c.in_ok-push.ensures.items c.loop-of_key.invariant.1.0 c.finish_one.ensures.more c.loop-of_key.invariant.1.1
        (subst (λ fs. Finishes (schema_data c.args.schema.now) c.loop-of_key.joins c.finish_one.new.joins (map numbered fs) c.in_ok-group.group) c.as_slice.ensures.value c.in_ok-group.ensures.finishes),
  ),
)
