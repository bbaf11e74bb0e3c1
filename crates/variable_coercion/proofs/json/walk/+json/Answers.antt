use Rattle.std.proofs.Common.{◌+◌, ◌*◌, ◌<◌, refl, sym, ap, map, subst, arith, rules}
use Rattle.serde_json.specs.View.{view, items_view, members_view}
use Rattle.input_values.specs.values.Coerced.{coerced_tree, named_tree, coerced_object}
use Rattle.input_values.specs.inputs.Shapes.{shape_tree}
use Rattle.input_values.specs.coercion.Forms.{fields_of}
use Rattle.input_values.specs.coercion.Kinds.{field_seen}
use Rattle.input_values.specs.coercion.Coercion.{items_coerced}
use Rattle.input_values.specs.coercion.Left.{ItemsLeft}
use Rattle.input_values.proofs.CoercionSteps.Pieces.{items_start}
use Rattle.input_values.proofs.CoercionSteps.Places.{mapped_tells}
use Rattle.input_values.proofs.CoercionSteps.Lists.{same_answer, no_field_left}
use Rattle.input_values.proofs.CoercionSteps.Fields.{one_field_more, no_field_more, one_field_refused}
use Rattle.variable_coercion.specs.Json.{json_items}
use Rattle.variable_coercion.specs.Sizes.{json_size, items_size, members_size}
use Rattle.variable_coercion.specs.Members.{member_under, members_from}
use Rattle.variable_coercion.proofs.JsonSteps.{json_item_left, no_json_left, field_given, field_absent, json_object, json_custom, json_lax, json_item_smaller, member_smaller}
use Rattle.variable_coercion.proofs.json.walk.+json.Goals as goal

pub coerce_items-items-preserved : goal.coerce_items-items-preserved
coerce_items-items-preserved g t c = (
  ap (λ n. n + 1) c.items.invariant.0,
  json_item_left c.args.scope.now.limit (g.T.InputTypes.forms c.args.scope.now.types.now) (shape_tree c.args.item_shape.now) c.args.items.now c.items.item-index c.item-item.result
      (map coerced_tree c.items.built.items) _ c.args.count.now c.items.count c.coerce_json.new.count c.in-Ok.value _ c.items-test.true c.item-item.is c.items.invariant.1 c.in-Ok.ensures c.in_ok-push_item-in-Ok.ensures,
)

pub coerce_items-items-init : goal.coerce_items-items-init
coerce_items-items-init g t c =
    let whole = items_coerced (g.T.InputTypes.forms c.args.scope.now.types.now) 0 (json_items (items_view c.args.items.now)) (shape_tree c.args.item_shape.now) in
    (refl, subst (λ l. ItemsLeft c.args.scope.now.limit (map coerced_tree l) c.args.count.now c.count_node.new.count whole whole) (sym c.new-built.ensures.items) (items_start c.args.scope.now.limit c.args.count.now c.count_node.new.count whole c.count_node.ensures))

pub coerce_items-returns : goal.coerce_items-returns
coerce_items-returns g t c =
    let form = g.T.InputTypes.forms c.args.scope.now.types.now in
    c.list_within.ensures c.args.count.now (items_coerced form 0 (json_items (items_view c.args.items.now)) (shape_tree c.args.item_shape.now))
    (no_json_left c.args.scope.now.limit form (shape_tree c.args.item_shape.now) c.args.items.now c.items.item-index (map coerced_tree c.items.built.items) c.args.count.now c.items.count _ c.items-test.false c.items.invariant.1)

pub coerce_items-coerce_json-requires : goal.coerce_items-coerce_json-requires
coerce_items-coerce_json-requires g t c =
    let s = json_item_smaller c.args.items.now c.items.item-index c.item-item.result c.items-test.true c.item-item.is in
    let less : 8 * json_size (view c.item-item.result) < 8 * items_size (items_view c.args.items.now) + 1 = omega (arith, s) in
    search (rules, less)

pub coerce_field-coerce_json-requires : goal.coerce_field-coerce_json-requires
coerce_field-coerce_json-requires g t c =
    let s = member_smaller c.args.input.now.name.now (members_view c.args.members.now.entries) (view c.in-Some.value.now) c.in-Some.ensures in
    let less : 8 * json_size (view c.in-Some.value.now) < 8 * members_size (members_view c.args.members.now.entries) + 1 = omega (arith, s) in
    search (rules, less)

pub coerce_field-returns-in-Some : goal.coerce_field-returns-in-Some
coerce_field-returns-in-Some g t c =
    field_given c.args.scope.now.limit (g.T.InputTypes.forms c.args.scope.now.types.now) (field_seen c.args.input.now) (members_view c.args.members.now.entries) (view c.in-Some.value.now) c.args.count.now c.coerce_json.new.count c.coerce_json.result
    c.in-Some.ensures c.coerce_json.ensures

pub coerce_field-returns-in-None : goal.coerce_field-returns-in-None
coerce_field-returns-in-None g t c =
    field_absent c.args.scope.now.limit (g.T.InputTypes.forms c.args.scope.now.types.now) (field_seen c.args.input.now) (members_view c.args.members.now.entries) c.args.count.now c.absent_field.new.count c.absent_field.result
    c.in-None.ensures c.absent_field.ensures

pub push_field_at-returns-in_ok-push_field-in-Ok : goal.push_field_at-returns-in_ok-push_field-in-Ok
push_field_at-returns-in_ok-push_field-in-Ok g t c =
    let form = g.T.InputTypes.forms c.args.scope.now.types.now in
    one_field_more c.args.scope.now.limit (fields_of (form c.args.of.number)) (member_under form (members_view c.args.members.now.entries)) c.args.at (field_seen c.in-Some.input) c.in-Some.input.name.now
    (map named_tree c.args.built.now.items) _ c.args.count.now c.coerce_field.new.count c.in-Ok.value c.in-Some.ensures refl c.in-Ok.ensures c.in_ok-push_field-in-Ok.ensures

pub push_field_at-returns-in-Err : goal.push_field_at-returns-in-Err
push_field_at-returns-in-Err g t c =
    let form = g.T.InputTypes.forms c.args.scope.now.types.now in
    one_field_refused c.args.scope.now.limit (fields_of (form c.args.of.number)) (member_under form (members_view c.args.members.now.entries)) c.args.at (field_seen c.in-Some.input) c.in-Some.input.name.now
    (map named_tree c.args.built.now.items) c.args.count.now c.in-Err.fault c.at_key.result c.in-Some.ensures refl c.in-Err.ensures c.at_key.ensures

pub push_field_at-returns-in-None : goal.push_field_at-returns-in-None
push_field_at-returns-in-None g t c =
    let form = g.T.InputTypes.forms c.args.scope.now.types.now in
    no_field_more c.args.scope.now.limit (fields_of (form c.args.of.number)) (member_under form (members_view c.args.members.now.entries)) c.args.at (map named_tree c.args.built.now.items) c.args.count.now c.in-None.ensures

pub coerce_fields-returns-in-Err : goal.coerce_fields-returns-in-Err
coerce_fields-returns-in-Err g t c = mapped_tells coerced_object c.in-Err.fault _ (c.in-Err.ensures c.args.count.now _ c.inputs.invariant)

pub coerce_fields-returns : goal.coerce_fields-returns
coerce_fields-returns g t c =
    let form = g.T.InputTypes.forms c.args.scope.now.types.now in
    let fields = fields_of (form c.args.of.number) in
    c.object_within.ensures c.args.count.now (members_from form (members_view c.args.members.now.entries) c.args.of.number 0)
    (no_field_left c.args.scope.now.limit fields (member_under form (members_view c.args.members.now.entries)) c.inputs.at (map named_tree c.inputs.built.items) c.args.count.now c.inputs.count _
    (let n = c.field_count-at-end.ensures in let e = c.inputs-test.false in omega (arith, n, e)) c.inputs.invariant)

pub object_at-returns-in-Object : goal.object_at-returns-in-Object
object_at-returns-in-Object g t c =
    let form = g.T.InputTypes.forms c.args.scope.now.types.now in
    let ms = members_view c.args.members.now.entries in
    same_answer c.args.scope.now.limit c.args.count.now c.input_object.new.count c.input_object.result _ _ (json_object (form c.args.of.number) (member_under form ms) ms c.in-Object.ensures) c.input_object.ensures

pub object_at-returns-in-Custom : goal.object_at-returns-in-Custom
object_at-returns-in-Custom g t c =
    let form = g.T.InputTypes.forms c.args.scope.now.types.now in
    let ms = members_view c.args.members.now.entries in
    same_answer c.args.scope.now.limit c.args.count.now c.any_members.new.count c.any_members.result _ _ (json_custom (form c.args.of.number) (member_under form ms) ms c.in-Custom.ensures) c.any_members.ensures

pub object_at-returns-in-Lax : goal.object_at-returns-in-Lax
object_at-returns-in-Lax g t c =
    let form = g.T.InputTypes.forms c.args.scope.now.types.now in
    let ms = members_view c.args.members.now.entries in
    same_answer c.args.scope.now.limit c.args.count.now c.any_members-in-Lax.new.count c.any_members-in-Lax.result _ _ (json_lax (form c.args.of.number) (member_under form ms) ms c.in-Lax.ensures) c.any_members-in-Lax.ensures
