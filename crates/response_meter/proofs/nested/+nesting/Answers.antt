-- Each row that is taken gives the node that it stands for.
use Rattle.std.proofs.Common.{◌+◌, [], ◌∷◌, ◌++◌, length, ap, ◌∙◌, arith}
use Rattle.std.specs.BTreeMap.{get}
use Rattle.std.specs.Ordering.{nat_cmp}
use Rattle.response_meter.specs.Nested.{types_of}
use Rattle.response_meter.specs.declared.nested.Node.TheViews.{roll-Node, roll-NodeSet, roll-Types}
use Rattle.response_meter.proofs.Opened.{node_made, types_made, set_made}
use Rattle.response_meter.proofs.Nesting.{set_begins, set_step, set_ends, types_step, types_end_here, node_nests_at, has_depth, type_put, no_nodes, types_of_none, fewer_after}
use Rattle.response_meter.proofs.nested.+nesting.Goals as goal

pub nest_node-returns-clause-nested : goal.nest_node-returns-clause-nested
nest_node-returns-clause-nested t c =
    node_nests_at c.args.row.now c.args.rows.now.left.now c.nest_types.new.rows.left.now c.in_ok-below.below (roll-Node record { row = c.args.row; below = c.in_ok-below.below }) (c.args.row.now.depth + 1)
    (omega arith) c.in_ok-below.ensures.nested (λ e. node_made e c.args.row c.in_ok-below.below)

pub nest_set-nodes-init : goal.nest_set-nodes-init
nest_set-nodes-init t c = (
  c.in_ok-nest_node.ensures.fewer,
  set_begins c.args.first.now c.args.rows.now.left.now c.nest_node.new.rows.left.now c.in_ok-nest_node.field-0 c.push.new.self.items c.in_ok-nest_node.ensures.nested
      (c.in_ok-push.ensures.items ∙ ap (λ ns. ns ++ c.in_ok-nest_node.field-0 ∷ []) c.new-nodes.ensures.items),
)

pub nest_set-nodes-preserved : goal.nest_set-nodes-preserved
nest_set-nodes-preserved t c = (
  fewer_after c.args.rows.now.left.now c.nodes.rows.left.now c.next.new.self.left.now c.nest_node-in-Some.new.rows.left.now c.in-Some.row.now c.nodes.invariant.0 c.in-Some.ensures.0 c.in_ok-nest_node-2.ensures.fewer,
  set_step c.args.first.now c.in-Some.row.now c.args.rows.now.left.now c.nodes.rows.left.now c.next.new.self.left.now c.nest_node-in-Some.new.rows.left.now c.in_ok-nest_node-2.field-0 c.nodes.nodes.items c.push-in-Some.new.self.items
      c.nodes.invariant.1 c.in-Some.ensures.0 c.in-Some.ensures.1 c.in_ok-nest_node-2.ensures.nested c.in_ok-push-2.ensures.items,
)

pub nest_set-returns-clause-nested : goal.nest_set-returns-clause-nested
nest_set-returns-clause-nested t c =
    set_ends c.args.first.now c.args.rows.now.left.now c.nodes.rows.left.now c.next.new.self.left.now c.nodes.nodes.items (roll-NodeSet record { nodes = c.nodes.nodes }) c.nodes.invariant.1
    c.in_default.ensures.0 c.in_default.ensures.1 (λ e. set_made e c.nodes.nodes)

pub nest_types-types-preserved : goal.nest_types-types-preserved
nest_types-types-preserved t c = (
  fewer_after c.args.rows.now.left.now c.types.rows.left.now c.next.new.self.left.now c.nest_set.new.rows.left.now c.in-Some.row.now c.types.invariant.0 c.in-Some.ensures.0 c.in_ok-nest_set.ensures.fewer,
  types_step c.args.depth c.in-Some.row.now c.args.rows.now.left.now c.types.rows.left.now c.next.new.self.left.now c.nest_set.new.rows.left.now (λ T. get nat_cmp c.types.places T) (λ T. get nat_cmp c.insert.new.self T)
      c.in_ok-nest_set.field-0 c.types.sets.items c.push.new.self.items c.types.invariant.1 c.in-Some.ensures.0 (has_depth c.args.depth c.in-Some.row.now c.in-Some.ensures.1)
      (type_put c.types.places c.insert.new.self c.in-Some.row.now.on.number c.len.result (length c.types.sets.items) c.in_ok-insert.ensures.updates (c.len.ensures ∙ c.types.sets.ok.0))
      c.in_ok-nest_set.ensures.nested c.in_ok-push.ensures.items,
)

pub nest_types-returns-clause-nested : goal.nest_types-returns-clause-nested
nest_types-returns-clause-nested t c =
    let none = roll-NodeSet record { nodes = c.new.result } in
    let types = roll-Types record { places = c.types.places; sets = c.types.sets; none = none } in
    types_end_here c.args.depth c.args.rows.now.left.now c.types.rows.left.now c.next.new.self.left.now (λ T. get nat_cmp c.types.places T) c.types.sets.items types c.types.invariant.1
    c.in_default.ensures.0 c.in_default.ensures.1
    (λ e T. types_of_none e (λ U. get nat_cmp c.types.places U) c.types.sets.items none (types_of e types T) T (types_made e c.types.places c.types.sets none T)
    (no_nodes e none c.new.result.items (set_made e c.new.result) c.new.ensures.items))
