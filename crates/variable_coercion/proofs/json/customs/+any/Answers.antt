use Rattle.std.proofs.Common.{string_bytes, map, subst}
use Rattle.serde_json.specs.View.{view, items_view, members_view}
use Rattle.input_values.specs.values.Coerced.{coerced_tree, named_tree}
use Rattle.input_values.specs.coercion.Customs.{any_value, any_items, any_fields}
use Rattle.input_values.specs.coercion.Left.{ItemsLeft, FieldsLeft}
use Rattle.input_values.proofs.CoercionSteps.Pieces.{item_left, member_left}
use Rattle.variable_coercion.specs.Json.{json_given, json_items, json_members}
use Rattle.variable_coercion.proofs.JsonSteps.{json_front}
use Rattle.variable_coercion.proofs.json.customs.+any.Goals as goal

pub any_array-items-preserved : goal.any_array-items-preserved
any_array-items-preserved t c =
    let whole = any_items c.args.lax (json_items (items_view c.args.items.now)) in
    item_left c.args.limit (map coerced_tree c.items.built.items) _ c.args.count.now c.items.count c.any_json.new.count c.in_ok-value.value (any_value c.args.lax (json_given (view c.item-item.result))) _ whole
    (subst (λ gs. ItemsLeft c.args.limit (map coerced_tree c.items.built.items) c.args.count.now c.items.count (any_items c.args.lax gs) whole) (json_front c.args.items.now c.items.item-index c.item-item.result c.items-test.true c.item-item.is) c.items.invariant)
    c.in_ok-value.ensures c.in_ok-push_item.ensures

pub any_members-members-preserved : goal.any_members-members-preserved
any_members-members-preserved t c =
    let whole = any_fields c.args.lax (json_members (members_view c.args.members.now.entries)) in
    member_left c.args.limit (map named_tree c.members.built.items) _ (string_bytes c.in-Some.name.now) c.as_str.result.now c.args.count.now c.members.count c.any_json.new.count c.in_ok-value.value (any_value c.args.lax (json_given (view c.in-Some.member.now))) _ whole
    c.as_str.ensures.value
    (subst (λ ms. FieldsLeft c.args.limit (map named_tree c.members.built.items) c.args.count.now c.members.count (any_fields c.args.lax (json_members (members_view ms))) whole) c.in-Some.ensures.steps c.members.invariant)
    c.in_ok-value.ensures c.in_ok-push_field.ensures
