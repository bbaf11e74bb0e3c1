use Rattle.std.proofs.Common.{refl}
use Rattle.gql_base.specs.parts.Trees.{value_tree, named_value}
use Rattle.input_values.specs.coercion.Literals.{literal_given}
use Rattle.variable_coercion.specs.Calls.{environment}
use Rattle.plan_model.specs.GivenAlike.{given_argument}
use Rattle.distinct_selections.proofs.WrittenAlike.{copied_more, copied_whole, list_copied, object_copied}
use Rattle.distinct_selections.proofs.copying.+copy.Goals as goal

pub copy_items-items-preserved : goal.copy_items-items-preserved
copy_items-items-preserved t c = λ right. copied_more value_tree (literal_given (environment c.args.stand_ins.now.variables.now)) c.args.items.now c.items.item-index c.item-item.result c.items.copies.items c.push.new.self.items c.in_ok-copy_value.field-0
    c.items-test.true c.item-item.is c.in_ok-push.ensures.items (c.items.invariant right) (c.in_ok-copy_value.ensures right)

pub copy_items-returns : goal.copy_items-returns
copy_items-returns t c = λ right. copied_whole value_tree (literal_given (environment c.args.stand_ins.now.variables.now)) c.args.items.now c.items.copies.items c.items.item-index c.items-test.false (c.items.invariant right)

pub copy_arguments-arguments-preserved : goal.copy_arguments-arguments-preserved
copy_arguments-arguments-preserved t c = λ right. copied_more named_value (given_argument (environment c.args.stand_ins.now.variables.now)) c.args.arguments.now c.arguments.argument-index c.argument-item.result c.arguments.copies.items c.push.new.self.items c.in_ok-copy_argument.field-0
    c.arguments-test.true c.argument-item.is c.in_ok-push.ensures.items (c.arguments.invariant right) (c.in_ok-copy_argument.ensures right)

pub copy_arguments-returns : goal.copy_arguments-returns
copy_arguments-returns t c = λ right. copied_whole named_value (given_argument (environment c.args.stand_ins.now.variables.now)) c.args.arguments.now c.arguments.copies.items c.arguments.argument-index c.arguments-test.false (c.arguments.invariant right)

pub copy_value-returns-in_ok-copy_items-in-List : goal.copy_value-returns-in_ok-copy_items-in-List
copy_value-returns-in_ok-copy_items-in-List t c = λ right. list_copied (environment c.args.stand_ins.now.variables.now) c.args.value.now _ c.in-List.items c.in_ok-copy_items-in-List.field-0 c.as_slice.result.now c.in-List.is refl c.as_slice.ensures.value (c.in_ok-copy_items-in-List.ensures right)

pub copy_value-returns-in_ok-copy_arguments-in-Object : goal.copy_value-returns-in_ok-copy_arguments-in-Object
copy_value-returns-in_ok-copy_arguments-in-Object t c = λ right. object_copied (environment c.args.stand_ins.now.variables.now) c.args.value.now _ c.in-Object.fields c.in_ok-copy_arguments-in-Object.field-0 c.as_slice-in-Object.result.now c.in-Object.is refl c.as_slice-in-Object.ensures.value (c.in_ok-copy_arguments-in-Object.ensures right)
