-- What was made of rows, and what is made of those that are left, are the whole.
use Rattle.std.proofs.Common.{◌≤◌, ◌+◌, ◌*◌, length}
use Rattle.std.specs.BTreeMap.{get}
use Rattle.std.specs.Ordering.{nat_cmp}
use Rattle.response_meter.proofs.Nesting.{SetOn, TypesOn}
use Rattle.response_meter.proofs.nested.+nesting.Given as goal

abbrev pub decreases-nest_types : goal.decreases-nest_types
decreases-nest_types l = 3 * length l.rows.now.left.now

abbrev pub decreases-nest_node : goal.decreases-nest_node
decreases-nest_node l = 3 * length l.rows.now.left.now + 1

abbrev pub decreases-nest_set : goal.decreases-nest_set
decreases-nest_set l = 3 * length l.rows.now.left.now + 2

abbrev pub decreases-nest_types-types : goal.decreases-nest_types-types
decreases-nest_types-types l = length l.rows.left.now

abbrev pub decreases-nest_set-nodes : goal.decreases-nest_set-nodes
decreases-nest_set-nodes l = length l.rows.left.now

abbrev pub invariant-nest_types-types : goal.invariant-nest_types-types
invariant-nest_types-types l = (length l.rows.left.now ≤ length l.fn.rows.left.now) × TypesOn l.depth l.fn.rows.left.now l.rows.left.now (λ T. get nat_cmp l.places T) l.sets.items

abbrev pub invariant-nest_set-nodes : goal.invariant-nest_set-nodes
invariant-nest_set-nodes l = (length l.rows.left.now ≤ length l.fn.rows.left.now) × SetOn l.first l.fn.rows.left.now l.rows.left.now l.nodes.items
