-- What each part of the walk measured, put together.
use Rattle.std.proofs.Common.{◌+◌, [], ◌∷◌, length, arith, refl, sym, ap, ◌∙◌, Some, None, string_bytes}
use Rattle.std.proofs.lemmas.Result.{err_from_is_err_and}
use Rattle.serde_json.specs.View.{view, items_view, members_view}
use Rattle.serde_json.proofs.Views.{items_len-items_view}
use Rattle.response_model.specs.Plan.{single, listed}
use Rattle.plan_table.specs.Tables.{row_in}
use Rattle.response_meter.specs.declared.fault.Why.TheVariants.{MissingKey}
use Rattle.response_meter.specs.declared.nested.Node.TheViews.{out-Node}
use Rattle.response_meter.specs.Faults.{not_response}
use Rattle.response_meter.specs.FirstFault.{list_fault}
use Rattle.response_meter.specs.Nested.{types_with, types_of}
use Rattle.response_meter.specs.Types.{possible_below}
use Rattle.response_meter.specs.Walks.{setting, one_node, one_fault, nodes_in}
use Rattle.response_meter.proofs.Depths.{item_less}
use Rattle.response_meter.proofs.Left.{tells_same}
use Rattle.response_meter.proofs.Fields.{entries_step, entries_end, entries_refused}
use Rattle.response_meter.proofs.Elements.{elements_step, elements_refused, elements_end}
use Rattle.response_meter.proofs.NodesSeen.{form_at, key_at, size_at, asked_at, weight_at}
use Rattle.response_meter.proofs.Objects.{extra_key, object_refused, object_closed}
use Rattle.response_meter.proofs.Places.{null_told, value_name, value_of_type, value_object, item_null, item_some, place_single, place_null, place_list, list_broken, size_kept, list_measured, entry_found, entry_measured}
use Rattle.response_meter.proofs.Positions.{no_object, no_type_at, position_measured}
use Rattle.response_meter.proofs.walk.+walk.Goals as goal

pub meter_entries-nodes-preserved : goal.meter_entries-nodes-preserved
unfolding lib.Utf8.encode
meter_entries-nodes-preserved t c = (
  (44 ∷ [], (refl, refl)),
  entries_step c.args.by.now (string_bytes c.args.into.now) (string_bytes c.nodes.into) (string_bytes c.push_str.new.self) (string_bytes c.meter_entry.new.into)
      c.nodes.cost c.in_ok-meter_entry.field-0 c.sum-cost.result c.nodes.front.now c.args.nodes.now c.nodes.node-index c.node-item.result (members_view c.args.members.now.entries)
      c.nodes-test.true c.node-item.is c.nodes.invariant.1 c.in_ok-push_str.ensures.bytes c.in_ok-meter_entry.ensures c.sum-cost.ensures.types c.sum-cost.ensures.fields,
)

pub meter_entries-returns-in_err-meter_entry : goal.meter_entries-returns-in_err-meter_entry
meter_entries-returns-in_err-meter_entry t c =
    let p = err_from_is_err_and c.from_residual-in_err-meter_entry.result c.from_residual-in_err-meter_entry.ensures.1 in
    rw (p.1, p.2) (entries_refused c.args.by.now (string_bytes c.args.into.now) (string_bytes c.nodes.into) c.nodes.cost c.nodes.front.now c.args.nodes.now c.nodes.node-index c.node-item.result
    (members_view c.args.members.now.entries) c.in_err-meter_entry.field-0.0 c.nodes-test.true c.node-item.is c.nodes.invariant.1 c.in_err-meter_entry.ensures)

pub meter_entries-returns : goal.meter_entries-returns
meter_entries-returns t c =
    entries_end c.args.by.now (string_bytes c.args.into.now) (string_bytes c.nodes.into) (string_bytes c.push_str-2.new.self) c.nodes.cost c.nodes.front.now c.args.nodes.now c.nodes.node-index
    (members_view c.args.members.now.entries) c.nodes-test.false c.nodes.invariant.1 c.in_ok-push_str-2.ensures.bytes

pub meter_items-returns-in-Err : goal.meter_items-returns-in-Err
meter_items-returns-in-Err t c =
    elements_refused c.args.by.now (string_bytes c.args.into.now) (string_bytes c.items.into) c.items.cost c.items.front.now c.args.nullable c.items.index (one_node c.args.by.now c.args.node.now) c.args.items.now c.items.item-index
    c.item-item.result c.at_item.result c.items-test.true c.item-item.is c.items.invariant.2 (c.at_item.ensures _ c.in-Err.ensures)

pub meter_items-items-preserved : goal.meter_items-items-preserved
unfolding lib.Utf8.encode
meter_items-items-preserved t c = (
  (44 ∷ [], (refl, refl)),
  ap (λ n. n + 1) c.items.invariant.1,
  elements_step c.args.by.now (string_bytes c.args.into.now) (string_bytes c.items.into) (string_bytes c.push_str.new.self) (string_bytes c.meter_item.new.into)
      c.items.cost c.in-Ok.counted c.sum-cost.result c.items.front.now c.args.nullable c.items.index (one_node c.args.by.now c.args.node.now) c.args.items.now c.items.item-index c.item-item.result
      c.items-test.true c.item-item.is c.items.invariant.2 c.in_ok-push_str.ensures.bytes c.in-Ok.ensures c.sum-cost.ensures.types c.sum-cost.ensures.fields,
)

pub meter_items-returns : goal.meter_items-returns
meter_items-returns t c =
    elements_end c.args.by.now (string_bytes c.args.into.now) (string_bytes c.items.into) (string_bytes c.push_str-2.new.self) c.items.cost c.items.front.now c.args.nullable c.items.index (one_node c.args.by.now c.args.node.now)
    c.args.items.now c.items.item-index c.items-test.false c.items.invariant.2 c.in_ok-push_str-2.ensures.bytes

pub meter_value-returns-in-TypeName : goal.meter_value-returns-in-TypeName
meter_value-returns-in-TypeName t c =
    value_name c.args.by.now (string_bytes c.args.into.now) (string_bytes c.meter_leaf.new.into) c.meter_leaf.result c.args.node.now (view c.args.value.now) c.is_name.result
    c.in-TypeName.ensures c.is_name.ensures c.meter_leaf.ensures

pub meter_value-returns-in-Leaf : goal.meter_value-returns-in-Leaf
meter_value-returns-in-Leaf t c =
    value_of_type c.args.by.now (string_bytes c.args.into.now) (string_bytes c.meter_leaf-in-Leaf.new.into) c.meter_leaf-in-Leaf.result c.args.node.now c.in-Leaf.of c.type_weight.result (view c.args.value.now) c.holds.result
    c.in-Leaf.ensures c.holds.ensures c.type_weight.ensures c.meter_leaf-in-Leaf.ensures

pub meter_value-returns-in-Objects : goal.meter_value-returns-in-Objects
meter_value-returns-in-Objects t c =
    value_object c.args.by.now (string_bytes c.args.into.now) (string_bytes c.meter_position.new.into) c.meter_position.result c.args.node.now _ (view c.args.value.now)
    (sym c.in-Objects.ensures) c.meter_position.ensures

pub meter_position-returns-in_default : goal.meter_position-returns-in_default
meter_position-returns-in_default t c =
    let row = row_in c.args.by.now.of.now (out-Node c.args.node.now).row.now in
    tells_same c.not_response.result _ _
    (no_object c.args.by.now row.selected.asked (types_with (types_of (setting c.args.by.now) (out-Node c.args.node.now).below) (possible_below row.below)) (view c.args.value.now) c.in_default.ensures.found)
    c.not_response.ensures

pub meter_position-returns-in-None : goal.meter_position-returns-in-None
meter_position-returns-in-None t c =
    tells_same c.not_response-in-None.result _ _
    (no_type_at c.args.by.now c.args.node.now (view c.args.value.now) (members_view c.in-Some.members.now.entries) c.in-Some.ensures.found c.in-None.ensures)
    c.not_response-in-None.ensures

pub meter_position-returns-in-Some-type_told : goal.meter_position-returns-in-Some-type_told
meter_position-returns-in-Some-type_told t c =
    position_measured c.args.by.now (string_bytes c.args.into.now) (string_bytes c.meter_object.new.into) c.meter_object.result c.args.node.now (out-Node c.args.node.now).row.now.asked c.in-Some-type_told.on.number
    (nodes_in c.args.by.now c.deref.result.now) (view c.args.value.now) (members_view c.in-Some.members.now.entries)
    c.in-Some.ensures.found c.in-Some-type_told.ensures (ap (nodes_in c.args.by.now) c.deref.ensures.value ∙ c.set-set.ensures (setting c.args.by.now)) (asked_at c.args.by.now (out-Node c.args.node.now).row.now) c.meter_object.ensures

pub meter_object-returns-then-not-branch : goal.meter_object-returns-then-not-branch
meter_object-returns-then-not-branch t c =
    tells_same c.not_response.result _ _
    (extra_key c.args.by.now c.args.asked (nodes_in c.args.by.now c.args.nodes.now) (members_view c.args.members.now.entries) c.in_ok-keys_known.field-0 c.in_ok-keys_known.ensures c.if-not-branch.true)
    c.not_response.ensures

pub meter_object-returns : goal.meter_object-returns
meter_object-returns t c =
    object_closed c.args.by.now c.args.asked (nodes_in c.args.by.now c.args.nodes.now) (members_view c.args.members.now.entries) c.in_ok-keys_known.field-0 c.in_ok-keys_known.ensures
    (string_bytes c.args.into.now) (string_bytes c.push_str.new.self) (string_bytes c.meter_entries.new.into) c.args.on.number c.type_weight.result c.in_ok-meter_entries.field-0 c.sum.result
    c.if-not-branch.false c.in_ok-push_str.ensures.bytes c.type_weight.ensures c.in_ok-meter_entries.ensures c.sum.ensures.types c.sum.ensures.fields

pub meter_object-returns-in_err-meter_entries : goal.meter_object-returns-in_err-meter_entries
meter_object-returns-in_err-meter_entries t c =
    let p = err_from_is_err_and c.from_residual-in_err-meter_entries.result c.from_residual-in_err-meter_entries.ensures.1 in
    rw (p.1, p.2) (object_refused c.args.by.now c.args.asked (nodes_in c.args.by.now c.args.nodes.now) (members_view c.args.members.now.entries) c.in_ok-keys_known.field-0 c.in_ok-keys_known.ensures
    c.in_err-meter_entries.field-0.0 c.if-not-branch.false c.in_err-meter_entries.ensures)

pub meter_items-meter_item-requires : goal.meter_items-meter_item-requires
meter_items-meter_item-requires t c =
    let less = item_less c.args.items.now c.items.item-index c.item-item.result c.items-test.true c.item-item.is in omega arith

pub meter_entry-returns-in_default : goal.meter_entry-returns-in_default
meter_entry-returns-in_default t c =
    tells_same c.at_key.result _ _
    (entry_found c.args.by.now (one_node c.args.by.now c.args.node.now) c.as_str-key.result.now (members_view c.args.members.now.entries) None (c.as_str-key.ensures ∙ key_at c.args.by.now c.args.node.now) c.in_default.ensures.found)
    (c.at_key.ensures (Some (not_response [] MissingKey)) c.not_response.ensures)

pub meter_entry-returns-in-Ok : goal.meter_entry-returns-in-Ok
meter_entry-returns-in-Ok t c =
    entry_measured c.args.by.now (string_bytes c.args.into.now) (string_bytes c.write_key.new.into) (string_bytes c.meter_place.new.into) c.in-Ok.cost c.sum.result (one_node c.args.by.now c.args.node.now)
    c.as_str-key.result.now c.sum_capped.result (view c.in-Some.value.now) (members_view c.args.members.now.entries)
    (c.as_str-key.ensures ∙ key_at c.args.by.now c.args.node.now) c.in-Some.ensures.found c.in_ok-write_key.ensures c.in-Ok.ensures
    (weight_at c.args.by.now c.args.node.now c.field_weight.result c.sum_capped.result c.field_weight.ensures c.sum_capped.ensures) c.sum.ensures.types c.sum.ensures.fields

pub meter_entry-returns-in-Err : goal.meter_entry-returns-in-Err
meter_entry-returns-in-Err t c =
    tells_same c.at_key-in-Err.result _ _
    (entry_found c.args.by.now (one_node c.args.by.now c.args.node.now) c.as_str-key.result.now (members_view c.args.members.now.entries) (Some (view c.in-Some.value.now)) (c.as_str-key.ensures ∙ key_at c.args.by.now c.args.node.now) c.in-Some.ensures.found)
    (c.at_key-in-Err.ensures _ c.in-Err.ensures)

pub meter_place-returns-in-Single : goal.meter_place-returns-in-Single
meter_place-returns-in-Single t c =
    place_single c.args.by.now (string_bytes c.args.into.now) (string_bytes c.meter_item.new.into) c.meter_item.result c.in-Single.nullable (one_node c.args.by.now c.args.node.now) (view c.args.value.now)
    (form_at c.args.by.now c.args.node.now (single c.in-Single.nullable) c.in-Single.ensures) c.meter_item.ensures

pub meter_place-returns-then-is_null : goal.meter_place-returns-then-is_null
meter_place-returns-then-is_null t c =
    place_null c.args.by.now (string_bytes c.args.into.now) (string_bytes c.meter_null.new.into) c.meter_null.result c.in-Listed.nullable c.in-Listed.item_nullable (one_node c.args.by.now c.args.node.now) (view c.args.value.now)
    (form_at c.args.by.now c.args.node.now (listed c.in-Listed.nullable c.in-Listed.item_nullable) c.in-Listed.ensures)
    (sym (null_told (view c.args.value.now)) ∙ sym c.is_null.ensures ∙ c.if-is_null.true) c.meter_null.ensures

pub meter_place-returns-else-is_null : goal.meter_place-returns-else-is_null
meter_place-returns-else-is_null t c =
    place_list c.args.by.now (string_bytes c.args.into.now) (string_bytes c.meter_list.new.into) c.meter_list.result c.in-Listed.nullable c.in-Listed.item_nullable (one_node c.args.by.now c.args.node.now) (view c.args.value.now)
    (form_at c.args.by.now c.args.node.now (listed c.in-Listed.nullable c.in-Listed.item_nullable) c.in-Listed.ensures)
    (sym (null_told (view c.args.value.now)) ∙ sym c.is_null.ensures ∙ c.if-is_null.false) c.meter_list.ensures

pub meter_list-returns-in-Some-exceeded : goal.meter_list-returns-in-Some-exceeded
meter_list-returns-in-Some-exceeded t c =
    tells_same c.size_broken.result _ _
    (list_broken (λ v. one_fault c.args.by.now (one_node c.args.by.now c.args.node.now) v) c.args.nullable (out-Node c.args.node.now).row.now.size (view c.args.value.now) (items_view c.in-Some.items.now) (length c.in-Some.items.now)
    c.exceeded.result c.in-Some-exceeded.size c.in-Some.ensures.found (items_len-items_view c.in-Some.items.now) c.exceeded.ensures c.in-Some-exceeded.is
    ∙ ap (λ s. list_fault (λ v. one_fault c.args.by.now (one_node c.args.by.now c.args.node.now) v) c.args.nullable s (view c.args.value.now)) (size_at c.args.by.now c.args.node.now))
    c.size_broken.ensures

pub meter_list-returns-in_ok-push_str-in-None : goal.meter_list-returns-in_ok-push_str-in-None
meter_list-returns-in_ok-push_str-in-None t c =
    list_measured c.args.by.now (string_bytes c.args.into.now) (string_bytes c.push_str.new.self) (string_bytes c.meter_items.new.into) c.meter_items.result c.args.nullable (one_node c.args.by.now c.args.node.now)
    (out-Node c.args.node.now).row.now.size (view c.args.value.now) (items_view c.in-Some.items.now) (size_at c.args.by.now c.args.node.now) c.in-Some.ensures.found
    (size_kept (out-Node c.args.node.now).row.now.size (items_view c.in-Some.items.now) (length c.in-Some.items.now) c.exceeded.result (items_len-items_view c.in-Some.items.now) c.exceeded.ensures c.in-None.is)
    c.in_ok-push_str-in-None.ensures.bytes c.meter_items.ensures

pub meter_item-returns-then-is_null : goal.meter_item-returns-then-is_null
meter_item-returns-then-is_null t c =
    item_null c.args.by.now (string_bytes c.args.into.now) (string_bytes c.meter_null.new.into) c.meter_null.result c.args.nullable (one_node c.args.by.now c.args.node.now) (view c.args.item.now)
    (sym (null_told (view c.args.item.now)) ∙ sym c.is_null.ensures ∙ c.if-is_null.true) c.meter_null.ensures

pub meter_item-returns : goal.meter_item-returns
meter_item-returns t c =
    item_some c.args.by.now (string_bytes c.args.into.now) (string_bytes c.meter_value.new.into) c.meter_value.result c.args.nullable (one_node c.args.by.now c.args.node.now) (view c.args.item.now)
    (sym (null_told (view c.args.item.now)) ∙ sym c.is_null.ensures ∙ c.if-is_null.false) c.meter_value.ensures
