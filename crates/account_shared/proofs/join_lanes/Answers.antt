use Rattle.std.proofs.Common.{rules, ◌<◌, sym, ◌∙◌, subst, arith, map, length, get_or}
use Rattle.account_cells.specs.Views.{no_view}
use Rattle.account_shared.specs.Inside.{lane_cell, lane_view, IsFirst, IsIdleView, JoinsReady}
use Rattle.account_shared.proofs.Walks.{walk_begins, walk_steps, walk_shows, walk_shows_at}
use Rattle.account_shared.proofs.Splitting.{cell_ahead, holds_ahead}
use Rattle.account_shared.proofs.Joining.{IsJoined, Anyhow, as_long, join_steps}
use Rattle.account_shared.proofs.join_lanes.Goals as goal

pub loop-at-init : goal.loop-at-init
loop-at-init g c = (walk_begins (IsJoined (map lane_view c.args.others.now.items)) c.args.lanes.now.items, walk_begins Anyhow c.args.others.now.items, search rules, search rules)

pub join_lane-requires-clause-cell : goal.join_lane-requires-clause-cell
join_lane-requires-clause-cell g c =
    let low = subst (λ n. c.loop-at.at < n) c.loop-at.invariant.2 c.loop-at-test.true in
    cell_ahead c.loop-at.at c.args.lanes.now.items c.loop-at.lanes.items c.args.slots.now (IsJoined (map lane_view c.args.others.now.items)) c.index_mut.result.now c.index-slots-at.result c.loop-at.invariant.0 c.requires.cells low
    c.index_mut.ensures.value c.index-slots-at.is

pub join_lane-requires-clause-first : goal.join_lane-requires-clause-first
join_lane-requires-clause-first g c =
    let low = subst (λ n. c.loop-at.at < n) c.loop-at.invariant.2 c.loop-at-test.true in
    holds_ahead (λ l. IsFirst (lane_view l)) c.loop-at.at c.args.lanes.now.items c.loop-at.lanes.items (IsJoined (map lane_view c.args.others.now.items)) c.index_mut.result.now c.loop-at.invariant.0 c.requires.first low
    c.index_mut.ensures.value

pub join_lane-requires-clause-theirs : goal.join_lane-requires-clause-theirs
join_lane-requires-clause-theirs g c =
    let long = as_long c.args.lanes.now.items c.args.others.now.items c.args.slots.now c.requires.cells c.requires.theirs in
    let low = subst (λ n. c.loop-at.at < n) (c.loop-at.invariant.2 ∙ sym long) c.loop-at-test.true in
    cell_ahead c.loop-at.at c.args.others.now.items c.loop-at.others.items c.args.slots.now Anyhow c.index_mut-in-loop-at.result.now c.index-slots-at.result c.loop-at.invariant.1 c.requires.theirs low
    c.index_mut-in-loop-at.ensures.value c.index-slots-at.is

pub join_lane-requires-clause-idle : goal.join_lane-requires-clause-idle
join_lane-requires-clause-idle g c =
    let long = as_long c.args.lanes.now.items c.args.others.now.items c.args.slots.now c.requires.cells c.requires.theirs in
    let low = subst (λ n. c.loop-at.at < n) (c.loop-at.invariant.2 ∙ sym long) c.loop-at-test.true in
    holds_ahead (λ l. IsIdleView (lane_view l)) c.loop-at.at c.args.others.now.items c.loop-at.others.items Anyhow c.index_mut-in-loop-at.result.now c.loop-at.invariant.1 c.requires.idle low c.index_mut-in-loop-at.ensures.value

pub loop-at-preserved : goal.loop-at-preserved
loop-at-preserved g c =
    let low = c.loop-at-test.true in
    let long = as_long c.args.lanes.now.items c.args.others.now.items c.args.slots.now c.requires.cells c.requires.theirs in
    let here : c.loop-at.at < length c.args.lanes.now.items = subst (λ n. c.loop-at.at < n) c.loop-at.invariant.2 low in
    let there : c.loop-at.at < length c.args.others.now.items = subst (λ n. c.loop-at.at < n) (sym long) here in (
      join_steps c.loop-at.at c.args.lanes.now.items c.args.others.now.items c.loop-at.lanes.items c.loop-at.others.items c.index_mut.result.now c.join_lane.new.lane c.index_mut-in-loop-at.result.now c.loop-at.invariant.0
          c.loop-at.invariant.1 here there c.index_mut.ensures.value c.index_mut-in-loop-at.ensures.value c.join_lane.ensures.joined,
      walk_steps Anyhow c.loop-at.at c.args.others.now.items c.loop-at.others.items c.index_mut-in-loop-at.result.now c.join_lane.new.other c.loop-at.invariant.1 there c.index_mut-in-loop-at.ensures.value tt,
      c.loop-at.invariant.2,
      omega (arith, low),
    )

pub returns-clause-cells : goal.returns-clause-cells
returns-clause-cells g c =
    let over = c.loop-at-test.false in
    let end = c.loop-at.invariant.2 in
    walk_shows (IsJoined (map lane_view c.args.others.now.items)) lane_cell lane_cell c.loop-at.at c.args.lanes.now.items c.loop-at.lanes.items (λ k a b r. r.0) c.loop-at.invariant.0 (omega (arith, over, end))

pub returns-clause-joined : goal.returns-clause-joined
returns-clause-joined g c k low =
    let over = c.loop-at-test.false in
    let end = c.loop-at.invariant.2 in
    walk_shows_at (IsJoined (map lane_view c.args.others.now.items)) lane_view (λ k v new. JoinsReady (get_or (map lane_view c.args.others.now.items) k no_view) v new) c.loop-at.at c.args.lanes.now.items c.loop-at.lanes.items
    (λ k a b r. r.1) c.loop-at.invariant.0 (omega (arith, over, end)) k no_view low
