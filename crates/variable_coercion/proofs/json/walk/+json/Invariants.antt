use Rattle.std.proofs.Common.{◌≡◌, ◌+◌, ◌*◌, map, drop}
use Rattle.serde_json.specs.View.{view, items_view, members_view}
use Rattle.input_values.specs.values.Coerced.{coerced_tree, named_tree}
use Rattle.input_values.specs.inputs.Shapes.{shape_tree}
use Rattle.input_values.specs.coercion.Coercion.{items_coerced}
use Rattle.input_values.specs.coercion.Left.{ItemsLeft, FieldsLeft}
use Rattle.variable_coercion.specs.Json.{json_items}
use Rattle.variable_coercion.specs.Sizes.{json_size, items_size, members_size}
use Rattle.variable_coercion.specs.Members.{members_from}
use Rattle.variable_coercion.proofs.json.walk.+json.Given as goal

abbrev pub invariant-coerce_items-items : goal.invariant-coerce_items-items
invariant-coerce_items-items g l = (l.index ≡ l.item-index) × ItemsLeft l.scope.limit (map coerced_tree l.built.items) l.fn.count l.count
    (items_coerced (g.T.InputTypes.forms l.scope.types.now) l.item-index (json_items (items_view (drop l.item-index l.items))) (shape_tree l.item_shape))
    (items_coerced (g.T.InputTypes.forms l.scope.types.now) 0 (json_items (items_view l.items)) (shape_tree l.item_shape))

abbrev pub invariant-coerce_fields-inputs : goal.invariant-coerce_fields-inputs
invariant-coerce_fields-inputs g l = FieldsLeft l.scope.limit (map named_tree l.built.items) l.fn.count l.count
    (members_from (g.T.InputTypes.forms l.scope.types.now) (members_view l.members.entries) l.of.number l.at) (members_from (g.T.InputTypes.forms l.scope.types.now) (members_view l.members.entries) l.of.number 0)

abbrev pub decreases-coerce_json : goal.decreases-coerce_json
decreases-coerce_json g l = 8 * json_size (view l.value.now)

abbrev pub decreases-coerce_array : goal.decreases-coerce_array
decreases-coerce_array g l = 8 * items_size (items_view l.items.now) + 2

abbrev pub decreases-coerce_items : goal.decreases-coerce_items
decreases-coerce_items g l = 8 * items_size (items_view l.items.now) + 1

abbrev pub decreases-coerce_object : goal.decreases-coerce_object
decreases-coerce_object g l = 8 * members_size (members_view l.members.now.entries) + 6

abbrev pub decreases-object_at : goal.decreases-object_at
decreases-object_at g l = 8 * members_size (members_view l.members.now.entries) + 5

abbrev pub decreases-input_object : goal.decreases-input_object
decreases-input_object g l = 8 * members_size (members_view l.members.now.entries) + 4

abbrev pub decreases-coerce_fields : goal.decreases-coerce_fields
decreases-coerce_fields g l = 8 * members_size (members_view l.members.now.entries) + 3

abbrev pub decreases-push_field_at : goal.decreases-push_field_at
decreases-push_field_at g l = 8 * members_size (members_view l.members.now.entries) + 2

abbrev pub decreases-coerce_field : goal.decreases-coerce_field
decreases-coerce_field g l = 8 * members_size (members_view l.members.now.entries) + 1
