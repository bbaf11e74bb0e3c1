use Rattle.std.proofs.Common.{◌+◌, ◌*◌, ◌<◌, arith, rules}
use Rattle.gql_base.specs.parts.Trees.{value_tree}
use Rattle.input_values.specs.coercion.Sizes.{items_written, fields_written, tree_size, items_size, fields_size}
use Rattle.input_values.proofs.CoercionSteps.Literals.{item_smaller, field_smaller}
use Rattle.literal_loads.proofs.loads.Loads.+needs.Goals as goal

pub learn_items-learn-requires : goal.learn_items-learn-requires
learn_items-learn-requires t c =
    let s = item_smaller c.args.items.now c.items.item-index c.item-item.result c.items-test.true c.item-item.is in
    let less : 2 * tree_size (value_tree c.item-item.result) < 2 * items_size (items_written c.args.items.now) + 1 = omega (arith, s) in
    search (rules, less)

pub learn_inputs-learn_input-requires : goal.learn_inputs-learn_input-requires
learn_inputs-learn_input-requires t c =
    let s = field_smaller c.args.written.now c.written.argument-index c.argument-item.result c.written-test.true c.argument-item.is in
    let less : 2 * tree_size (value_tree c.argument-item.result.value) + 1 < 2 * fields_size (fields_written c.args.written.now) + 1 = omega (arith, s) in
    search (rules, less)
