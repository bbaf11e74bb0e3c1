use Rattle.std.proofs.Common.{◌+◌, ◌*◌, ◌<◌, true, false, sym, ◌∙◌, map, subst, arith, rules}
use Rattle.gql_base.specs.parts.Trees.{value_tree}
use Rattle.input_values.specs.values.Coerced.{CoercedTree, coerced_tree, named_tree, coerced_object}
use Rattle.input_values.specs.coercion.Customs.{any_fields}
use Rattle.input_values.specs.coercion.Literals.{no_variables, literal_fields}
use Rattle.input_values.specs.coercion.Sizes.{items_written, fields_written, tree_size, items_size, fields_size}
use Rattle.input_values.specs.coercion.Calls.{Tells, Coerces}
use Rattle.input_values.proofs.CoercionSteps.Places.{mapped_tells, tells_here}
use Rattle.input_values.proofs.CoercionSteps.Literals.{any_item_left, any_field_left, any_field_refused, object_if_distinct, item_smaller, field_smaller}
use Rattle.input_values.proofs.coercion.customs.+any.Goals as goal

pub any_list-items-preserved : goal.any_list-items-preserved
any_list-items-preserved t c =
    any_item_left c.args.lax c.args.limit c.args.items.now c.items.item-index c.item-item.result (map coerced_tree c.items.built.items) _ c.args.count.now c.items.count c.any_literal.new.count c.in_ok-value.value _
    c.items-test.true c.item-item.is c.items.invariant c.in_ok-value.ensures c.in_ok-push_item.ensures

pub any_fields-fields-preserved : goal.any_fields-fields-preserved
any_fields-fields-preserved t c =
    any_field_left c.args.lax c.args.limit c.args.fields.now c.fields.field-index c.field-item.result c.as_str-in-Ok.result.now (map named_tree c.fields.built.items) _ c.args.count.now c.fields.count c.any_literal.new.count c.in-Ok.value _
    c.fields-test.true c.field-item.is c.as_str-in-Ok.ensures c.fields.invariant c.in-Ok.ensures c.in_ok-push_field-in-Ok.ensures

pub any_fields-returns-in-Err : goal.any_fields-returns-in-Err
any_fields-returns-in-Err t c =
    mapped_tells coerced_object c.in-Err.fault (any_fields c.args.lax (literal_fields no_variables (fields_written c.args.fields.now)))
    (any_field_refused c.args.lax c.args.limit c.args.fields.now c.fields.field-index c.field-item.result (map named_tree c.fields.built.items) c.args.count.now c.fields.count c.in-Err.fault _ c.fields-test.true c.field-item.is c.fields.invariant c.in-Err.ensures)

pub any_object-returns-then-branch : goal.any_object-returns-then-branch
any_object-returns-then-branch t c =
    subst (λ a. Coerces c.args.limit c.args.count.now c.any_fields.new.count c.any_fields.result a) (sym (object_if_distinct c.args.lax no_variables c.args.fields.now true (sym c.if-branch.true ∙ c.in_ok-are_distinct.ensures))) c.any_fields.ensures

pub any_object-returns-else-branch : goal.any_object-returns-else-branch
any_object-returns-else-branch t c = subst (λ a. Tells c.bad_value.result a) (sym (object_if_distinct c.args.lax no_variables c.args.fields.now false (sym c.if-branch.false ∙ c.in_ok-are_distinct.ensures))) (tells_here CoercedTree c.bad_value.result c.bad_value.ensures)

pub any_list-any_literal-requires : goal.any_list-any_literal-requires
any_list-any_literal-requires t c =
    let s = item_smaller c.args.items.now c.items.item-index c.item-item.result c.items-test.true c.item-item.is in
    let less : 3 * tree_size (value_tree c.item-item.result) < 3 * items_size (items_written c.args.items.now) + 1 = omega (arith, s) in
    search (rules, less)

pub any_fields-any_literal-requires : goal.any_fields-any_literal-requires
any_fields-any_literal-requires t c =
    let s = field_smaller c.args.fields.now c.fields.field-index c.field-item.result c.fields-test.true c.field-item.is in
    let less : 3 * tree_size (value_tree c.field-item.result.value) < 3 * fields_size (fields_written c.args.fields.now) + 1 = omega (arith, s) in
    search (rules, less)
