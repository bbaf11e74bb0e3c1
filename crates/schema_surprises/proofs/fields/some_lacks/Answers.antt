use Rattle.std.proofs.Common.{◌∙◌, sym, false}
use Rattle.std.specs.List.{list_any, range_with_len}
use Rattle.schema_model.specs.SchemaViews.{schema_data}
use Rattle.cost_directives.specs.WeightViews.{weights_data}
use Rattle.schema_surprises.specs.Surprises.{is_way}
use Rattle.schema_surprises.proofs.Left.{passed_left}
use Rattle.schema_surprises.proofs.fields.some_lacks.Goals as goal

pub loop-number-preserved : goal.loop-number-preserved
loop-number-preserved c =
    let way = is_way false (schema_data c.args.schema.now) (weights_data c.args.weights.now) c.args.of.number c.args.name.now in
    passed_left way c.loop-number.number c.counts-fields.result.1 (list_any way (range_with_len 0 c.counts-fields.result.1)) c.loop-number-test.true
    (sym c.is_way.ensures ∙ c.if-is_way.false) c.loop-number.invariant
