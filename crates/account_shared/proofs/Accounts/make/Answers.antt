use Rattle.std.proofs.Common.{◌≡◌, List, sym, ap, ◌∙◌, subst, arith, refl, length, All}
use Rattle.std.proofs.lemmas.List.{length-map}
use Rattle.cost_num.specs.declared.TheConstants.{CAP}
use Rattle.account_core.specs.declared.Limit.{Limit}
use Rattle.account_core.specs.Costs.{cost}
use Rattle.account_core.specs.Numbers.{FitsCap}
use Rattle.account_shared.specs.Inside.{slot_limit}
use Rattle.account_shared.proofs.Lanes.{all_known}
use Rattle.account_shared.proofs.Making.{first_lanes, slots_fit, limits_made}
use Rattle.account_shared.proofs.Accounts.make.Goals as goal

pub invariant_of-result : goal.invariant_of-result
invariant_of-result c =
    let shows = c.in_ok-open_all.ensures.limits in
    let many : length c.open_all.new.slots.items ≡ length c.deref.result.now = sym (length-map c.open_all.new.slots.items slot_limit) ∙ ap (λ (l : List Limit). length l) shows in
    let long = c.deref.ensures.len in
    let count = c.len-count.ensures in
    let room = c.in_ok-room.ensures.capacity in (
      slots_fit c.deref.result.now c.open_all.new.slots.items shows (subst (λ l. All (FitsCap (cost CAP CAP)) l) (sym c.deref.ensures.value) c.requires.limits),
      c.in_ok-room.ensures.items,
      omega (arith, many, long, count, room),
    )

pub invariant_of-result-2 : goal.invariant_of-result-2
invariant_of-result-2 c =
    let some = c.requires.count.0 in
    let long = c.deref.ensures.len in
    (first_lanes c.deref.result.now c.open_all.new.lanes.items c.in_ok-open_all.ensures.views (omega (arith, some, long))).0

pub returns-clause-belong : goal.returns-clause-belong
returns-clause-belong c =
    let some = c.requires.count.0 in
    let long = c.deref.ensures.len in
    record {
      cells = c.in_ok-open_all.ensures.cells;
      limits = limits_made c.deref.result.now c.open_all.new.lanes.items c.open_all.new.slots.items c.in_ok-open_all.ensures.views c.in_ok-open_all.ensures.limits;
      known = all_known 0 c.open_all.new.lanes.items (first_lanes c.deref.result.now c.open_all.new.lanes.items c.in_ok-open_all.ensures.views (omega (arith, some, long))).0;
    }

pub returns-clause-first : goal.returns-clause-first
returns-clause-first c =
    let some = c.requires.count.0 in
    let long = c.deref.ensures.len in
    (refl, (first_lanes c.deref.result.now c.open_all.new.lanes.items c.in_ok-open_all.ensures.views (omega (arith, some, long))).1)
