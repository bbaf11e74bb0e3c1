use Rattle.std.proofs.Common.{◌+◌, ◌*◌, ◌<◌, Some, None, refl, sym, ap, ◌∙◌, map, subst, arith, rules}
use Rattle.gql_base.specs.parts.Trees.{value_tree}
use Rattle.input_values.specs.values.Coerced.{coerced_tree, named_tree, coerced_object}
use Rattle.input_values.specs.inputs.Shapes.{shape_tree, list_shape}
use Rattle.input_values.specs.coercion.Forms.{fields_of}
use Rattle.input_values.specs.coercion.Kinds.{field_seen}
use Rattle.input_values.specs.coercion.Objects.{fields_at}
use Rattle.input_values.specs.coercion.Coercion.{coerced, items_coerced, find_coerced}
use Rattle.input_values.specs.coercion.Literals.{values_of, literal_items, literal_fields}
use Rattle.input_values.specs.coercion.Sizes.{items_written, fields_written, tree_size, items_size, fields_size}
use Rattle.input_values.specs.coercion.Left.{ItemsLeft}
use Rattle.input_values.proofs.ShapeTrees.{named_made, list_made}
use Rattle.input_values.proofs.CoercionSteps.Pieces.{items_start}
use Rattle.input_values.proofs.CoercionSteps.Places.{mapped_tells}
use Rattle.input_values.proofs.CoercionSteps.Literals.{item_smaller}
use Rattle.input_values.proofs.CoercionSteps.Lists.{same_answer, list_literal, object_literal, list_named, list_listed, object_fields, object_custom, object_lax, literal_item_left, no_item_left, no_field_left}
use Rattle.input_values.proofs.CoercionSteps.Fields.{found_smaller, field_written, one_field_more, no_field_more, one_field_refused}
use Rattle.input_values.proofs.coercion.literals.+literals.Goals as goal

pub coerce_field-written_field-requires : goal.coerce_field-written_field-requires
coerce_field-written_field-requires g t c =
    let s = found_smaller c.args.input.now.name.now c.args.given.now.items.now c.in-Some.field.now c.in-Some.ensures in
    let less : 8 * tree_size (value_tree c.in-Some.field.now.value) + 1 < 8 * fields_size (fields_written c.args.given.now.items.now) + 1 = omega (arith, s) in
    search (rules, less)

pub coerce_field-returns-in-Some : goal.coerce_field-returns-in-Some
coerce_field-returns-in-Some g t c =
    field_written c.args.scope.now.limit (g.T.InputTypes.forms c.args.scope.now.types.now) (values_of c.args.scope.now.variables.now.items.items) (field_seen c.args.input.now) c.args.input.now.name.now c.args.given.now.items.now (Some c.in-Some.field.now)
    c.args.count.now c.written_field.new.count c.written_field.result refl c.in-Some.ensures c.written_field.ensures

pub coerce_field-returns-in-None : goal.coerce_field-returns-in-None
coerce_field-returns-in-None g t c =
    field_written c.args.scope.now.limit (g.T.InputTypes.forms c.args.scope.now.types.now) (values_of c.args.scope.now.variables.now.items.items) (field_seen c.args.input.now) c.args.input.now.name.now c.args.given.now.items.now None
    c.args.count.now c.absent_field.new.count c.absent_field.result refl c.in-None.ensures c.absent_field.ensures

pub push_field_at-returns-in_ok-push_field-in-Ok : goal.push_field_at-returns-in_ok-push_field-in-Ok
push_field_at-returns-in_ok-push_field-in-Ok g t c =
    let env = values_of c.args.scope.now.variables.now.items.items in
    let form = g.T.InputTypes.forms c.args.scope.now.types.now in
    one_field_more c.args.scope.now.limit (fields_of (form c.args.of.number)) (λ name. find_coerced form name (literal_fields env (fields_written c.args.given.now.items.now))) c.args.at (field_seen c.in-Some.input) c.in-Some.input.name.now
    (map named_tree c.args.built.now.items) _ c.args.count.now c.coerce_field.new.count c.in-Ok.value c.in-Some.ensures refl c.in-Ok.ensures c.in_ok-push_field-in-Ok.ensures

pub push_field_at-returns-in-Err : goal.push_field_at-returns-in-Err
push_field_at-returns-in-Err g t c =
    let env = values_of c.args.scope.now.variables.now.items.items in
    let form = g.T.InputTypes.forms c.args.scope.now.types.now in
    one_field_refused c.args.scope.now.limit (fields_of (form c.args.of.number)) (λ name. find_coerced form name (literal_fields env (fields_written c.args.given.now.items.now))) c.args.at (field_seen c.in-Some.input) c.in-Some.input.name.now
    (map named_tree c.args.built.now.items) c.args.count.now c.in-Err.fault c.at_key.result c.in-Some.ensures refl c.in-Err.ensures c.at_key.ensures

pub push_field_at-returns-in-None : goal.push_field_at-returns-in-None
push_field_at-returns-in-None g t c =
    let env = values_of c.args.scope.now.variables.now.items.items in
    let form = g.T.InputTypes.forms c.args.scope.now.types.now in
    no_field_more c.args.scope.now.limit (fields_of (form c.args.of.number)) (λ name. find_coerced form name (literal_fields env (fields_written c.args.given.now.items.now))) c.args.at (map named_tree c.args.built.now.items) c.args.count.now c.in-None.ensures

pub coerce_fields-returns-in-Err : goal.coerce_fields-returns-in-Err
coerce_fields-returns-in-Err g t c = mapped_tells coerced_object c.in-Err.fault _ (c.in-Err.ensures c.args.count.now _ c.inputs.invariant)

pub coerce_fields-returns : goal.coerce_fields-returns
coerce_fields-returns g t c =
    let env = values_of c.args.scope.now.variables.now.items.items in
    let form = g.T.InputTypes.forms c.args.scope.now.types.now in
    let fields = fields_of (form c.args.of.number) in
    c.object_within.ensures c.args.count.now (fields_at fields (λ name. find_coerced form name (literal_fields env (fields_written c.args.given.now.items.now))))
    (no_field_left c.args.scope.now.limit fields (λ name. find_coerced form name (literal_fields env (fields_written c.args.given.now.items.now))) c.inputs.at (map named_tree c.inputs.built.items) c.args.count.now c.inputs.count _
    (let n = c.field_count-at-end.ensures in let e = c.inputs-test.false in omega (arith, n, e)) c.inputs.invariant)

pub coerce_items-items-init : goal.coerce_items-items-init
coerce_items-items-init g t c =
    let env = values_of c.args.scope.now.variables.now.items.items in
    let whole = items_coerced (g.T.InputTypes.forms c.args.scope.now.types.now) 0 (literal_items env (items_written c.args.items.now)) (shape_tree c.args.item_shape.now) in
    (refl, subst (λ l. ItemsLeft c.args.scope.now.limit (map coerced_tree l) c.args.count.now c.count_node.new.count whole whole) (sym c.new-built.ensures.items) (items_start c.args.scope.now.limit c.args.count.now c.count_node.new.count whole c.count_node.ensures))

pub coerce_items-items-preserved : goal.coerce_items-items-preserved
coerce_items-items-preserved g t c = (
  ap (λ n. n + 1) c.items.invariant.0,
  literal_item_left c.args.scope.now.limit (g.T.InputTypes.forms c.args.scope.now.types.now) (values_of c.args.scope.now.variables.now.items.items) (shape_tree c.args.item_shape.now) c.args.items.now c.items.item-index c.item-item.result
      (map coerced_tree c.items.built.items) _ c.args.count.now c.items.count c.coerce_literal.new.count c.in-Ok.value _ c.items-test.true c.item-item.is c.items.invariant.1 c.in-Ok.ensures c.in_ok-push_item-in-Ok.ensures,
)

pub coerce_items-returns : goal.coerce_items-returns
coerce_items-returns g t c =
    let env = values_of c.args.scope.now.variables.now.items.items in
    let form = g.T.InputTypes.forms c.args.scope.now.types.now in
    c.list_within.ensures c.args.count.now (items_coerced form 0 (literal_items env (items_written c.args.items.now)) (shape_tree c.args.item_shape.now))
    (no_item_left c.args.scope.now.limit form env (shape_tree c.args.item_shape.now) c.args.items.now c.items.item-index (map coerced_tree c.items.built.items) c.args.count.now c.items.count _ c.items-test.false c.items.invariant.1)

pub coerce_items-coerce_literal-requires : goal.coerce_items-coerce_literal-requires
coerce_items-coerce_literal-requires g t c =
    let s = item_smaller c.args.items.now c.items.item-index c.item-item.result c.items-test.true c.item-item.is in
    let less : 8 * tree_size (value_tree c.item-item.result) < 8 * items_size (items_written c.args.items.now) + 1 = omega (arith, s) in
    search (rules, less)

pub coerce_list-returns-in-Named : goal.coerce_list-returns-in-Named
coerce_list-returns-in-Named g t c =
    let env = values_of c.args.scope.now.variables.now.items.items in
    let form = g.T.InputTypes.forms c.args.scope.now.types.now in
    same_answer c.args.scope.now.limit c.args.count.now c.custom_list.new.count c.custom_list.result _ _
    (list_named form env c.args.items.now (shape_tree c.args.shape.now) c.in-Named.of.number c.in-Named.nullable (ap shape_tree c.in-Named.is ∙ named_made c.in-Named.of c.in-Named.nullable)) c.custom_list.ensures

pub coerce_list-returns-in-ListOf : goal.coerce_list-returns-in-ListOf
coerce_list-returns-in-ListOf g t c =
    let env = values_of c.args.scope.now.variables.now.items.items in
    let form = g.T.InputTypes.forms c.args.scope.now.types.now in
    same_answer c.args.scope.now.limit c.args.count.now c.coerce_items.new.count c.coerce_items.result _ _
    (list_listed form env c.args.items.now (shape_tree c.args.shape.now) (shape_tree c.deref.result.now) c.in-ListOf.nullable
    (ap shape_tree c.in-ListOf.is ∙ (list_made c.in-ListOf.item c.in-ListOf.nullable ∙ ap (λ x. list_shape (shape_tree x) c.in-ListOf.nullable) (sym c.deref.ensures)))) c.coerce_items.ensures

pub coerce_literal-returns-in-List : goal.coerce_literal-returns-in-List
coerce_literal-returns-in-List g t c =
    let env = values_of c.args.scope.now.variables.now.items.items in
    let form = g.T.InputTypes.forms c.args.scope.now.types.now in
    same_answer c.args.scope.now.limit c.args.count.now c.coerce_list.new.count c.coerce_list.result _ _
    (ap (λ given. coerced form given (shape_tree c.args.shape.now)) (list_literal env c.args.value.now c.in-List.items c.as_slice.result.now c.in-List.is c.as_slice.ensures.value)) c.coerce_list.ensures

pub coerce_literal-returns-in-Object : goal.coerce_literal-returns-in-Object
coerce_literal-returns-in-Object g t c =
    let env = values_of c.args.scope.now.variables.now.items.items in
    let form = g.T.InputTypes.forms c.args.scope.now.types.now in
    same_answer c.args.scope.now.limit c.args.count.now c.coerce_object.new.count c.coerce_object.result _ _
    (ap (λ given. coerced form given (shape_tree c.args.shape.now)) (object_literal env c.args.value.now c.in-Object.fields c.as_slice-in-Object.result.now c.in-Object.is c.as_slice-in-Object.ensures.value)) c.coerce_object.ensures

pub object_at-returns-in-Object : goal.object_at-returns-in-Object
object_at-returns-in-Object g t c =
    let env = values_of c.args.scope.now.variables.now.items.items in
    let form = g.T.InputTypes.forms c.args.scope.now.types.now in
    same_answer c.args.scope.now.limit c.args.count.now c.input_object.new.count c.input_object.result _ _
    (object_fields (form c.args.of.number) env (λ name. find_coerced form name (literal_fields env (fields_written c.args.fields.now))) c.args.fields.now c.in-Object.ensures) c.input_object.ensures

pub object_at-returns-in-Custom : goal.object_at-returns-in-Custom
object_at-returns-in-Custom g t c =
    let env = values_of c.args.scope.now.variables.now.items.items in
    let form = g.T.InputTypes.forms c.args.scope.now.types.now in
    same_answer c.args.scope.now.limit c.args.count.now c.any_object.new.count c.any_object.result _ _
    (object_custom (form c.args.of.number) env (λ name. find_coerced form name (literal_fields env (fields_written c.args.fields.now))) c.args.fields.now c.in-Custom.ensures) c.any_object.ensures

pub object_at-returns-in-Lax : goal.object_at-returns-in-Lax
object_at-returns-in-Lax g t c =
    let env = values_of c.args.scope.now.variables.now.items.items in
    let form = g.T.InputTypes.forms c.args.scope.now.types.now in
    same_answer c.args.scope.now.limit c.args.count.now c.any_object-in-Lax.new.count c.any_object-in-Lax.result _ _
    (object_lax (form c.args.of.number) env (λ name. find_coerced form name (literal_fields env (fields_written c.args.fields.now))) c.args.fields.now c.in-Lax.ensures) c.any_object-in-Lax.ensures
