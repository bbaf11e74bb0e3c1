use Rattle.std.proofs.Common.{rules, ◌<◌, ◌+◌, sym, subst, arith, set}
use Rattle.account_cells.specs.Views.{split_off, after_split}
use Rattle.account_shared.specs.Inside.{lane_cell, lane_view, IsFirst}
use Rattle.account_shared.proofs.Walks.{walk_shows, grown_beside}
use Rattle.account_shared.proofs.Splitting.{IsSplit, SplitTo, split_begins, split_steps, cell_ahead, holds_ahead}
use Rattle.account_shared.proofs.split_lanes.Goals as goal

pub loop-at-init : goal.loop-at-init
loop-at-init c = (split_begins c.args.lanes.now.items c.args.into.now.items c.requires.empty, c.requires.room, search rules, search rules, search rules)

pub split_lane-twin-requires-clause-cell : goal.split_lane-twin-requires-clause-cell
split_lane-twin-requires-clause-cell c =
    let low = subst (λ n. c.loop-at.at < n) c.loop-at.invariant.3 c.loop-at-test.true in
    cell_ahead c.loop-at.at c.args.lanes.now.items c.loop-at.lanes.items c.args.slots.now IsSplit c.index_mut.result.now c.index-slots-at.result c.loop-at.invariant.0.walked c.requires.cells low
    c.index_mut.ensures.value c.index-slots-at.is

pub split_lane-twin-requires-clause-first : goal.split_lane-twin-requires-clause-first
split_lane-twin-requires-clause-first c =
    let low = subst (λ n. c.loop-at.at < n) c.loop-at.invariant.3 c.loop-at-test.true in
    holds_ahead (λ l. IsFirst (lane_view l)) c.loop-at.at c.args.lanes.now.items c.loop-at.lanes.items IsSplit c.index_mut.result.now c.loop-at.invariant.0.walked c.requires.first low c.index_mut.ensures.value

pub push_reserved-requires : goal.push_reserved-requires
push_reserved-requires c =
    let room = c.loop-at.invariant.1 in
    let many = c.loop-at.invariant.2 in
    let low = c.loop-at-test.true in
    let end = c.len-at-end.ensures in
    omega (arith, room, many, low, end)

pub loop-at-preserved : goal.loop-at-preserved
loop-at-preserved c =
    let low = c.loop-at-test.true in
    let room = c.loop-at.invariant.1 in
    let many = c.loop-at.invariant.2 in
    let len = c.push_reserved.ensures.len in
    let capacity = c.push_reserved.ensures.capacity in (
      subst (SplitTo (c.loop-at.at + 1) c.args.lanes.now.items (set c.loop-at.lanes.items c.loop-at.at c.split_lane-twin.new.lane)) (sym c.push_reserved.ensures.items)
          (split_steps c.loop-at.at c.args.lanes.now.items c.loop-at.lanes.items c.loop-at.into.items c.index_mut.result.now c.split_lane-twin.new.lane c.split_lane-twin.result c.loop-at.invariant.0
          (subst (λ n. c.loop-at.at < n) c.loop-at.invariant.3 low) c.index_mut.ensures.value c.split_lane-twin.ensures.old c.split_lane-twin.ensures.new),
      omega (arith, room, capacity),
      omega (arith, many, len),
      c.loop-at.invariant.3,
      omega (arith, low),
    )

pub returns-clause-cells : goal.returns-clause-cells
returns-clause-cells c =
    let over = c.loop-at-test.false in
    let end = c.loop-at.invariant.3 in
    walk_shows IsSplit lane_cell lane_cell c.loop-at.at c.args.lanes.now.items c.loop-at.lanes.items (λ k a b r. r.0) c.loop-at.invariant.0.walked (omega (arith, over, end))

pub returns-clause-views : goal.returns-clause-views
returns-clause-views c =
    let over = c.loop-at-test.false in
    let end = c.loop-at.invariant.3 in
    walk_shows IsSplit lane_view (λ l. after_split (lane_view l)) c.loop-at.at c.args.lanes.now.items c.loop-at.lanes.items (λ k a b r. r.1) c.loop-at.invariant.0.walked (omega (arith, over, end))

pub returns-clause-new_cells : goal.returns-clause-new_cells
returns-clause-new_cells c =
    let over = c.loop-at-test.false in
    let end = c.loop-at.invariant.3 in
    grown_beside lane_cell lane_cell c.loop-at.at c.loop-at.into.items c.args.lanes.now.items c.loop-at.invariant.0.cells (omega (arith, over, end))

pub returns-clause-new_views : goal.returns-clause-new_views
returns-clause-new_views c =
    let over = c.loop-at-test.false in
    let end = c.loop-at.invariant.3 in
    grown_beside lane_view (λ l. split_off (lane_view l)) c.loop-at.at c.loop-at.into.items c.args.lanes.now.items c.loop-at.invariant.0.views (omega (arith, over, end))
