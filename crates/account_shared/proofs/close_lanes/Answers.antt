use Rattle.std.proofs.Common.{rules, ◌<◌, ◌≤◌, ◌+◌, sym, ◌∙◌, subst, arith, set, map}
use Rattle.std.proofs.lemmas.List.{length-map, take_all}
use Rattle.account_shared.specs.Inside.{lane_view, IsFirst, IsAlone}
use Rattle.account_shared.proofs.Splitting.{cell_ahead, holds_ahead}
use Rattle.account_shared.proofs.Joining.{Anyhow, ClosedTo, closing, close_begins, close_steps}
use Rattle.account_shared.proofs.close_lanes.Goals as goal

pub close_lane-account-requires-clause-cell : goal.close_lane-account-requires-clause-cell
close_lane-account-requires-clause-cell g c =
    let low = subst (λ n. c.loop-at.at < n) c.loop-at.invariant.3 c.loop-at-test.true in
    cell_ahead c.loop-at.at c.args.lanes.now.items c.loop-at.lanes.items c.args.slots.now Anyhow c.index_mut.result.now c.index-slots-at.result c.loop-at.invariant.0.walked c.requires.cells low c.index_mut.ensures.value c.index-slots-at.is

pub close_lane-account-requires-clause-first : goal.close_lane-account-requires-clause-first
close_lane-account-requires-clause-first g c =
    let low = subst (λ n. c.loop-at.at < n) c.loop-at.invariant.3 c.loop-at-test.true in
    holds_ahead (λ l. IsFirst (lane_view l)) c.loop-at.at c.args.lanes.now.items c.loop-at.lanes.items Anyhow c.index_mut.result.now c.loop-at.invariant.0.walked c.requires.first low c.index_mut.ensures.value

pub close_lane-account-requires-clause-alone : goal.close_lane-account-requires-clause-alone
close_lane-account-requires-clause-alone g c =
    let low = subst (λ n. c.loop-at.at < n) c.loop-at.invariant.3 c.loop-at-test.true in
    holds_ahead (λ l. IsAlone (lane_view l)) c.loop-at.at c.args.lanes.now.items c.loop-at.lanes.items Anyhow c.index_mut.result.now c.loop-at.invariant.0.walked c.requires.alone low c.index_mut.ensures.value

pub push_reserved-requires : goal.push_reserved-requires
push_reserved-requires g c =
    let room = c.loop-at.invariant.1 in
    let many = c.loop-at.invariant.2 in
    let low = c.loop-at-test.true in
    let end = c.loop-at.invariant.3 in
    omega (arith, room, many, low, end)

pub loop-at-init : goal.loop-at-init
loop-at-init g c = (close_begins c.args.lanes.now.items c.args.into.now.items c.requires.empty, c.requires.room, search rules, search rules, search rules)

pub loop-at-preserved : goal.loop-at-preserved
loop-at-preserved g c =
    let low = c.loop-at-test.true in
    let room = c.loop-at.invariant.1 in
    let many = c.loop-at.invariant.2 in
    let len = c.push_reserved.ensures.len in
    let capacity = c.push_reserved.ensures.capacity in (
      subst (ClosedTo (c.loop-at.at + 1) c.args.lanes.now.items (set c.loop-at.lanes.items c.loop-at.at c.close_lane-account.new.lane)) (sym c.push_reserved.ensures.items)
          (close_steps c.loop-at.at c.args.lanes.now.items c.loop-at.lanes.items c.loop-at.into.items c.index_mut.result.now c.close_lane-account.new.lane c.close_lane-account.result c.loop-at.invariant.0
          (subst (λ n. c.loop-at.at < n) c.loop-at.invariant.3 low) c.index_mut.ensures.value c.close_lane-account.ensures),
      omega (arith, room, capacity),
      omega (arith, many, len),
      c.loop-at.invariant.3,
      omega (arith, low),
    )

pub returns-clause-accounts : goal.returns-clause-accounts
returns-clause-accounts g c =
    let over = c.loop-at-test.false in
    let end = c.loop-at.invariant.3 in
    c.loop-at.invariant.0.accounts
    ∙ take_all c.loop-at.at (map closing c.args.lanes.now.items) (subst (λ n. n ≤ c.loop-at.at) (sym (length-map c.args.lanes.now.items closing)) (omega (arith, over, end)))

pub returns-clause-closed : goal.returns-clause-closed
returns-clause-closed g c k d low =
    let over = c.loop-at-test.false in
    let end = c.loop-at.invariant.3 in
    c.loop-at.invariant.0.closed k d (omega (arith, over, end, low)) low
