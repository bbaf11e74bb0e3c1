use Rattle.std.proofs.Common.{◌∙◌, sym, subst, ap, map, option_map, ◌++◌}
use Rattle.schema_model.specs.SchemaViews.{schema_data}
use Rattle.collected_fields.specs.Walks.{numbered, numbered_group}
use Rattle.collected_fields.specs.Lists.{Shortens, MayShorten}
use Rattle.collected_fields.proofs.ListLaws.{more_again}
use Rattle.collected_fields.proofs.FinishLaws.{shortened_next}
use Rattle.collected_fields.proofs.finish.shortened_by_key.Goals as goal

pub loop-of_key-preserved : goal.loop-of_key-preserved
loop-of_key-preserved c =
    let one = subst (λ o. MayShorten (schema_data c.args.schema.now) c.loop-of_key.joins c.shortened.new.joins (map numbered c.as_slice.result.now) (option_map numbered_group o)) c.in-Some.is c.in_ok-made.ensures.shortened in (
      c.shortened.ensures.count ∙ c.loop-of_key.invariant.0,
      (
        more_again c.args.joins.now c.loop-of_key.joins c.shortened.new.joins c.loop-of_key.invariant.1.0 c.shortened.ensures.more,
        shortened_next (schema_data c.args.schema.now) c.args.fields.now c.loop-of_key.of_key-index c.of_key-item.result c.loop-of_key-test.true c.of_key-item.is c.args.joins.now c.loop-of_key.joins c.shortened.new.joins c.loop-of_key.all.items c.in-Some.made.items c.append.new.fields.items
            (c.in_ok-append-in-Some.ensures ∙ ap (λ cs. c.loop-of_key.all.items ++ cs) c.as_slice-in-Some.ensures.value) (sym c.loop-of_key.invariant.0) c.loop-of_key.invariant.1.0 c.shortened.ensures.more c.loop-of_key.invariant.1.1
            (subst (λ fs. Shortens (schema_data c.args.schema.now) c.loop-of_key.joins c.shortened.new.joins (map numbered fs) (numbered_group c.in-Some.made)) c.as_slice.ensures.value one),
      ),
    )
