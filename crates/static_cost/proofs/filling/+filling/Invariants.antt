use Rattle.std.proofs.Common.{◌+◌, ◌*◌, ◌-◌, length}
use Rattle.static_cost.proofs.Fillings.{FillsOn}
use Rattle.static_cost.proofs.filling.+filling.Given as goal

abbrev pub decreases-fill_entries : goal.decreases-fill_entries
decreases-fill_entries l = 7 * (length l.of.now.rows.items - l.from)

abbrev pub decreases-fill_entry : goal.decreases-fill_entry
decreases-fill_entry l = 7 * (length l.of.now.rows.items - l.node.now.next) + 6

abbrev pub decreases-fill_value : goal.decreases-fill_value
decreases-fill_value l = 7 * (length l.of.now.rows.items - l.node.now.next) + 5

abbrev pub decreases-fill_list : goal.decreases-fill_list
decreases-fill_list l = 7 * (length l.of.now.rows.items - l.node.now.next) + 4

abbrev pub decreases-fill_items : goal.decreases-fill_items
decreases-fill_items l = 7 * (length l.of.now.rows.items - l.node.now.next) + 3

abbrev pub decreases-fill_item : goal.decreases-fill_item
decreases-fill_item l = 7 * (length l.of.now.rows.items - l.node.now.next) + 2

abbrev pub decreases-fill_object : goal.decreases-fill_object
decreases-fill_object l = 7 * (length l.of.now.rows.items - l.node.now.next) + 1

-- What was made so far, and what is left.
abbrev pub invariant-fill_entries-rows : goal.invariant-fill_entries-rows
invariant-fill_entries-rows l = FillsOn l.of l.choices l.from l.at l.depth l.on l.entries.items l.initial.left l.left

abbrev pub decreases-fill_entries-rows : goal.decreases-fill_entries-rows
decreases-fill_entries-rows l = length l.rows - l.at
