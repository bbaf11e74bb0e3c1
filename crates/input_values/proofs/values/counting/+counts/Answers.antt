use Rattle.std.proofs.Common.{ap, ◌∙◌, arith}
use Rattle.input_values.specs.values.Coerced.{coerced_tree, nodes}
use Rattle.input_values.proofs.Counted.{field_counted, list_nodes_are, object_nodes_are}
use Rattle.input_values.proofs.values.counting.+counts.Goals as goal

pub count_fields-fields-preserved : goal.count_fields-fields-preserved
count_fields-fields-preserved t c =
    field_counted c.args.fields.now c.fields.field-index c.args.limit c.args.count.now c.fields.count c.count_nodes.new.count c.field-item.result c.fields-test.true c.field-item.is c.count_nodes.ensures c.fields.invariant

pub count_nodes-returns-in-List : goal.count_nodes-returns-in-List
count_nodes-returns-in-List t c =
    let all = ap (λ v. nodes (coerced_tree v)) c.in-List.is ∙ list_nodes_are c.in-List.items c.as_slice.result.now c.as_slice.ensures.value in
    omega (arith, all, c.count_node.ensures, c.count_items.ensures)

pub count_nodes-returns-in-Object : goal.count_nodes-returns-in-Object
count_nodes-returns-in-Object t c =
    let all = ap (λ v. nodes (coerced_tree v)) c.in-Object.is ∙ object_nodes_are c.in-Object.fields c.as_slice-in-Object.result.now c.as_slice-in-Object.ensures.value in
    omega (arith, all, c.count_node-in-Object.ensures, c.count_fields.ensures)
