use Rattle.std.proofs.Common.{◌≡◌, ◌+◌, ◌*◌, map, drop}
use Rattle.gql_base.specs.parts.Trees.{value_tree}
use Rattle.input_values.specs.values.Coerced.{coerced_tree, named_tree}
use Rattle.input_values.specs.inputs.Shapes.{shape_tree}
use Rattle.input_values.specs.coercion.Coercion.{items_coerced}
use Rattle.input_values.specs.coercion.Literals.{values_of, literal_items}
use Rattle.input_values.specs.coercion.Sizes.{items_written, fields_written, tree_size, items_size, fields_size}
use Rattle.input_values.specs.coercion.Left.{ItemsLeft, FieldsLeft}
use Rattle.input_values.specs.coercion.Written.{written_fields}
use Rattle.input_values.proofs.coercion.literals.+literals.Given as goal

abbrev pub invariant-coerce_items-items : goal.invariant-coerce_items-items
invariant-coerce_items-items g l = (l.index ≡ l.item-index) × ItemsLeft l.scope.limit (map coerced_tree l.built.items) l.fn.count l.count
    (items_coerced (g.T.InputTypes.forms l.scope.types.now) l.item-index (literal_items (values_of l.scope.variables.now.items.items) (items_written (drop l.item-index l.items))) (shape_tree l.item_shape))
    (items_coerced (g.T.InputTypes.forms l.scope.types.now) 0 (literal_items (values_of l.scope.variables.now.items.items) (items_written l.items)) (shape_tree l.item_shape))

abbrev pub invariant-coerce_fields-inputs : goal.invariant-coerce_fields-inputs
invariant-coerce_fields-inputs g l = FieldsLeft l.scope.limit (map named_tree l.built.items) l.fn.count l.count
    (written_fields (g.T.InputTypes.forms l.scope.types.now) l.scope.variables.now.items.items l.of.number l.given.items.now l.at)
    (written_fields (g.T.InputTypes.forms l.scope.types.now) l.scope.variables.now.items.items l.of.number l.given.items.now 0)

abbrev pub decreases-coerce_literal : goal.decreases-coerce_literal
decreases-coerce_literal g l = 8 * tree_size (value_tree l.value.now)

abbrev pub decreases-coerce_list : goal.decreases-coerce_list
decreases-coerce_list g l = 8 * items_size (items_written l.items.now) + 2

abbrev pub decreases-coerce_items : goal.decreases-coerce_items
decreases-coerce_items g l = 8 * items_size (items_written l.items.now) + 1

abbrev pub decreases-coerce_object : goal.decreases-coerce_object
decreases-coerce_object g l = 8 * fields_size (fields_written l.fields.now) + 6

abbrev pub decreases-object_at : goal.decreases-object_at
decreases-object_at g l = 8 * fields_size (fields_written l.fields.now) + 5

abbrev pub decreases-input_object : goal.decreases-input_object
decreases-input_object g l = 8 * fields_size (fields_written l.fields.now) + 4

abbrev pub decreases-coerce_fields : goal.decreases-coerce_fields
decreases-coerce_fields g l = 8 * fields_size (fields_written l.given.now.items.now) + 3

abbrev pub decreases-push_field_at : goal.decreases-push_field_at
decreases-push_field_at g l = 8 * fields_size (fields_written l.given.now.items.now) + 2

abbrev pub decreases-coerce_field : goal.decreases-coerce_field
decreases-coerce_field g l = 8 * fields_size (fields_written l.given.now.items.now) + 1

abbrev pub decreases-written_field : goal.decreases-written_field
decreases-written_field g l = 8 * tree_size (value_tree l.value.now) + 1
