-- What was done and what is left give the whole. Each step goes down into the reply.
use Rattle.std.proofs.Common.{◌≡◌, ◌+◌, ◌*◌, drop, string_bytes}
use denote.Text.{Utf8}
use denote.Shadow.{shadow}
use Rattle.serde_json.specs.Data.{depth, items_depth, members_depth}
use Rattle.serde_json.specs.View.{view, members_view, items_view}
use Rattle.response_meter.specs.Walks.{one_node, nodes_in}
use Rattle.response_meter.proofs.Fields.{EntriesLeft}
use Rattle.response_meter.proofs.Elements.{ElementsLeft}
use Rattle.response_meter.proofs.walk.+walk.Given as goal

abbrev pub invariant-meter_entries-nodes : goal.invariant-meter_entries-nodes
invariant-meter_entries-nodes l = shadow (Utf8 l.front)
    × EntriesLeft l.by (string_bytes l.initial.into) (string_bytes l.into) l.cost l.front (nodes_in l.by (drop l.node-index l.nodes)) (nodes_in l.by l.nodes) (members_view l.members.entries)

abbrev pub invariant-meter_items-items : goal.invariant-meter_items-items
invariant-meter_items-items l = shadow (Utf8 l.front)
    × (l.index ≡ l.item-index)
    × ElementsLeft l.by (string_bytes l.initial.into) (string_bytes l.into) l.cost l.front l.nullable l.index (one_node l.by l.node) (items_view (drop l.item-index l.items)) (items_view l.items)

abbrev pub decreases-meter_value : goal.decreases-meter_value
decreases-meter_value l = 10 * depth (view l.value.now) + 2

abbrev pub decreases-meter_position : goal.decreases-meter_position
decreases-meter_position l = 10 * depth (view l.value.now) + 1

abbrev pub decreases-meter_object : goal.decreases-meter_object
decreases-meter_object l = 10 * members_depth (members_view l.members.now.entries) + 7

abbrev pub decreases-meter_entries : goal.decreases-meter_entries
decreases-meter_entries l = 10 * members_depth (members_view l.members.now.entries) + 6

abbrev pub decreases-meter_entry : goal.decreases-meter_entry
decreases-meter_entry l = 10 * members_depth (members_view l.members.now.entries) + 5

abbrev pub decreases-meter_place : goal.decreases-meter_place
decreases-meter_place l = 10 * depth (view l.value.now) + 4

abbrev pub decreases-meter_list : goal.decreases-meter_list
decreases-meter_list l = 10 * depth (view l.value.now) + 3

abbrev pub decreases-meter_items : goal.decreases-meter_items
decreases-meter_items l = 10 * items_depth (items_view l.items.now) + 5

abbrev pub decreases-meter_item : goal.decreases-meter_item
decreases-meter_item l = 10 * depth (view l.item.now) + 3
