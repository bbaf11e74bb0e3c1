use Rattle.std.proofs.Common.{◌+◌, ◌*◌, map, drop}
use Rattle.gql_base.specs.parts.Trees.{value_tree}
use Rattle.input_values.specs.values.Coerced.{coerced_tree, named_tree}
use Rattle.input_values.specs.coercion.Customs.{any_items, any_fields}
use Rattle.input_values.specs.coercion.Literals.{no_variables, literal_items, literal_fields}
use Rattle.input_values.specs.coercion.Sizes.{items_written, fields_written, tree_size, items_size, fields_size}
use Rattle.input_values.specs.coercion.Left.{ItemsLeft, FieldsLeft}
use Rattle.input_values.proofs.coercion.customs.+any.Given as goal

abbrev pub invariant-any_list-items : goal.invariant-any_list-items
invariant-any_list-items l = ItemsLeft l.limit (map coerced_tree l.built.items) l.fn.count l.count (any_items l.lax (literal_items no_variables (items_written (drop l.item-index l.items)))) (any_items l.lax (literal_items no_variables (items_written l.items)))

abbrev pub invariant-any_fields-fields : goal.invariant-any_fields-fields
invariant-any_fields-fields l = FieldsLeft l.limit (map named_tree l.built.items) l.fn.count l.count (any_fields l.lax (literal_fields no_variables (fields_written (drop l.field-index l.fields)))) (any_fields l.lax (literal_fields no_variables (fields_written l.fields)))

abbrev pub decreases-any_literal : goal.decreases-any_literal
decreases-any_literal l = 3 * tree_size (value_tree l.value.now)

abbrev pub decreases-any_list : goal.decreases-any_list
decreases-any_list l = 3 * items_size (items_written l.items.now) + 1

abbrev pub decreases-any_object : goal.decreases-any_object
decreases-any_object l = 3 * fields_size (fields_written l.fields.now) + 2

abbrev pub decreases-any_fields : goal.decreases-any_fields
decreases-any_fields l = 3 * fields_size (fields_written l.fields.now) + 1
