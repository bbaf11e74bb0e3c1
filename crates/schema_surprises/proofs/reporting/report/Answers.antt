use Rattle.std.proofs.Common.{◌∙◌}
use Rattle.schema_model.specs.SchemaViews.{schema_data}
use Rattle.cost_directives.specs.WeightViews.{weights_data}
use Rattle.schema_surprises.specs.Surprises.{found_told}
use Rattle.schema_surprises.proofs.Reports.{reported, counted_alike}
use Rattle.schema_surprises.proofs.reporting.report.Goals as goal

pub returns : goal.returns
returns c =
    let s = schema_data c.args.schema.now in
    let w = weights_data c.args.weights.now in
    let f = c.in_ok-found.found in
    let held = c.in_ok-found.ensures in
    reported s w c.undeclared-usual.result c.deref.result.now c.deref-2.result.now c.deref-3.result.now c.deref-4.result.now c.deref-5.result.now
    c.new-text.result.items c.push_sized.new.into.items c.push_sized-2.new.into.items c.push_group.new.into.items c.push_group-2.new.into.items c.push_group-3.new.into.items c.push_size.new.into.items
    c.push_found.new.into.items (found_told f.unsized_lists.items f.unsliced.items f.must_slice.items f.inherited.items f.scalars.items) c.undeclared-usual.ensures (c.deref.ensures.value ∙ held.lists)
    (c.deref-2.ensures.value ∙ held.unsliced) (c.deref-3.ensures.value ∙ held.must_slice) (c.deref-4.ensures.value ∙ held.inherited) (c.deref-5.ensures.value ∙ held.scalars)
    (counted_alike s w f.unsized_lists.items f.unsliced.items f.must_slice.items f.inherited.items f.scalars.items held.lists held.unsliced held.must_slice held.inherited held.scalars) c.new-text.ensures.items
    c.in_ok-push_sized.ensures c.in_ok-push_sized-2.ensures c.in_ok-push_group.ensures c.in_ok-push_group-2.ensures c.in_ok-push_group-3.ensures c.in_ok-push_size.ensures c.in_ok-push_found.ensures
