use Rattle.std.proofs.Common.{map, drop}
use Rattle.serde_json.specs.View.{items_view, members_view}
use Rattle.input_values.specs.values.Coerced.{coerced_tree, named_tree}
use Rattle.input_values.specs.coercion.Customs.{any_items, any_fields}
use Rattle.input_values.specs.coercion.Left.{ItemsLeft, FieldsLeft}
use Rattle.variable_coercion.specs.Json.{json_items, json_members}
use Rattle.variable_coercion.proofs.json.customs.+any.Given as goal

abbrev pub invariant-any_array-items : goal.invariant-any_array-items
invariant-any_array-items l = ItemsLeft l.limit (map coerced_tree l.built.items) l.fn.count l.count (any_items l.lax (json_items (items_view (drop l.item-index l.items)))) (any_items l.lax (json_items (items_view l.items)))

abbrev pub invariant-any_members-members : goal.invariant-any_members-members
invariant-any_members-members l = FieldsLeft l.limit (map named_tree l.built.items) l.fn.count l.count (any_fields l.lax (json_members (members_view l.name-iterator))) (any_fields l.lax (json_members (members_view l.members.entries)))
