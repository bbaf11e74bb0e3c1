use Rattle.std.proofs.Common.{◌∙◌, ◌∷◌, [], sym, ap, subst, map, set, ◌+◌}
use Rattle.account_core.specs.Machine.{reservation}
use Rattle.account_core.specs.Numbers.{reply_of}
use Rattle.account_shared.specs.Views.{PassesView, AccountsView, limit_of}
use Rattle.account_shared.specs.Gains.{Gains, client_call}
use Rattle.account_shared.specs.Inside.{lane_cell, lane_view, slot_cell, label_in}
use Rattle.account_shared.proofs.Lanes.{same_at, has_lane, lane_at, lane_for, all_known, view_now, named_now, lanes_stay, cells_stay, limits_stay, called_gains}
use Rattle.account_shared.proofs.Calls.{OwesIfGranted, owes_if_granted, opens_if_owes}
use Rattle.account_shared.proofs.Accounts.reserve.Goals as goal

pub reserve_in-reply-requires-clause-cell : goal.reserve_in-reply-requires-clause-cell
reserve_in-reply-requires-clause-cell g c =
    let low = has_lane c.passes.inside.lanes.items c.args.client c.args.self.now.limits (ap (λ (p : PassesView). map limit_of p.clients) c.passes.view_is ∙ c.requires.belong.limits) c.requires.client in
    same_at lane_cell slot_cell c.passes.inside.lanes.items c.self.inside.slots.items c.args.client c.index_mut-lane.result.now c.index-slot.result.now
    (ap (λ (p : PassesView). p.cells) c.passes.view_is ∙ (c.requires.belong.cells ∙ ap (λ (a : AccountsView). a.cells) (sym c.self.view_is))) low c.index_mut-lane.ensures.value c.index-slot.ensures

pub reserve_in-reply-requires-clause-ready : goal.reserve_in-reply-requires-clause-ready
reserve_in-reply-requires-clause-ready g c =
    let low = has_lane c.passes.inside.lanes.items c.args.client c.args.self.now.limits (ap (λ (p : PassesView). map limit_of p.clients) c.passes.view_is ∙ c.requires.belong.limits) c.requires.client in
    lane_for c.passes.inside.made c.passes.inside.lanes.items c.self.inside.slots.items c.args.client c.index_mut-lane.result.now c.index-slot.result.now c.passes.invariant
    (ap (λ (p : PassesView). map limit_of p.clients) c.passes.view_is ∙ (c.requires.belong.limits ∙ ap (λ (a : AccountsView). a.limits) (sym c.self.view_is))) low c.index_mut-lane.ensures.value c.index-slot.ensures

pub reserve_in-reply-requires-clause-new : goal.reserve_in-reply-requires-clause-new
reserve_in-reply-requires-clause-new g c =
    let low = has_lane c.passes.inside.lanes.items c.args.client c.args.self.now.limits (ap (λ (p : PassesView). map limit_of p.clients) c.passes.view_is ∙ c.requires.belong.limits) c.requires.client in
    let ready = lane_at c.passes.inside.made c.passes.inside.lanes.items c.args.client c.index_mut-lane.result.now c.passes.invariant low c.index_mut-lane.ensures.value in
    ready.known.numbers

pub invariant_of-passes : goal.invariant_of-passes
invariant_of-passes g c =
    let low = has_lane c.passes.inside.lanes.items c.args.client c.args.self.now.limits (ap (λ (p : PassesView). map limit_of p.clients) c.passes.view_is ∙ c.requires.belong.limits) c.requires.client in
    lanes_stay c.passes.inside.made c.passes.inside.lanes.items c.args.client c.index_mut-lane.result.now c.reserve_in-reply.new.lane (reservation c.args.window c.args.bound) (reply_of c.reserve_in-reply.result) c.passes.invariant low c.index_mut-lane.ensures.value c.reserve_in-reply.ensures.cell c.reserve_in-reply.ensures.call

pub returns-clause-belong : goal.returns-clause-belong
returns-clause-belong g c =
    let low = has_lane c.passes.inside.lanes.items c.args.client c.args.self.now.limits (ap (λ (p : PassesView). map limit_of p.clients) c.passes.view_is ∙ c.requires.belong.limits) c.requires.client in
    record {
      cells = cells_stay c.passes.inside.made c.passes.inside.lanes.items c.args.client c.index_mut-lane.result.now c.reserve_in-reply.new.lane (reservation c.args.window c.args.bound) (reply_of c.reserve_in-reply.result) c.passes.invariant low c.index_mut-lane.ensures.value c.reserve_in-reply.ensures.cell c.reserve_in-reply.ensures.call ∙ (ap (λ (p : PassesView). p.cells) c.passes.view_is ∙ c.requires.belong.cells);
      limits = limits_stay c.passes.inside.made c.passes.inside.lanes.items c.args.client c.index_mut-lane.result.now c.reserve_in-reply.new.lane (reservation c.args.window c.args.bound) (reply_of c.reserve_in-reply.result) c.passes.invariant low c.index_mut-lane.ensures.value c.reserve_in-reply.ensures.cell c.reserve_in-reply.ensures.call ∙ (ap (λ (p : PassesView). map limit_of p.clients) c.passes.view_is ∙ c.requires.belong.limits);
      known = all_known (c.passes.inside.made + 1) (set c.passes.inside.lanes.items c.args.client c.reserve_in-reply.new.lane) (lanes_stay c.passes.inside.made c.passes.inside.lanes.items c.args.client c.index_mut-lane.result.now c.reserve_in-reply.new.lane (reservation c.args.window c.args.bound) (reply_of c.reserve_in-reply.result) c.passes.invariant low c.index_mut-lane.ensures.value c.reserve_in-reply.ensures.cell c.reserve_in-reply.ensures.call);
    }

pub returns-clause-call : goal.returns-clause-call
returns-clause-call g c =
    let low = has_lane c.passes.inside.lanes.items c.args.client c.args.self.now.limits (ap (λ (p : PassesView). map limit_of p.clients) c.passes.view_is ∙ c.requires.belong.limits) c.requires.client in
    subst (λ p. Gains p (record { made = c.passes.inside.made + 1; label = label_in (set c.passes.inside.lanes.items c.args.client c.reserve_in-reply.new.lane); cells = map lane_cell (set c.passes.inside.lanes.items c.args.client c.reserve_in-reply.new.lane); clients = map lane_view (set c.passes.inside.lanes.items c.args.client c.reserve_in-reply.new.lane) }) (client_call c.args.client (reservation c.args.window c.args.bound) (reply_of c.reserve_in-reply.result) ∷ [])) c.passes.view_is
    (called_gains c.passes.inside.made c.passes.inside.lanes.items c.args.client c.index_mut-lane.result.now c.reserve_in-reply.new.lane (reservation c.args.window c.args.bound) (reply_of c.reserve_in-reply.result) c.passes.invariant low c.index_mut-lane.ensures.value c.reserve_in-reply.ensures.cell c.reserve_in-reply.ensures.call)

pub returns-clause-granted : goal.returns-clause-granted
returns-clause-granted g c =
    let low = has_lane c.passes.inside.lanes.items c.args.client c.args.self.now.limits (ap (λ (p : PassesView). map limit_of p.clients) c.passes.view_is ∙ c.requires.belong.limits) c.requires.client in
    let now : PassesView = record { made = c.passes.inside.made + 1; label = label_in (set c.passes.inside.lanes.items c.args.client c.reserve_in-reply.new.lane); cells = map lane_cell (set c.passes.inside.lanes.items c.args.client c.reserve_in-reply.new.lane); clients = map lane_view (set c.passes.inside.lanes.items c.args.client c.reserve_in-reply.new.lane) } in
    opens_if_owes now c.args.client c.reserve_in-reply.result (named_now c.passes.inside.made c.passes.inside.lanes.items c.args.client c.index_mut-lane.result.now c.reserve_in-reply.new.lane (reservation c.args.window c.args.bound) (reply_of c.reserve_in-reply.result) c.passes.invariant low c.index_mut-lane.ensures.value c.reserve_in-reply.ensures.cell c.reserve_in-reply.ensures.call)
    (subst (λ v. OwesIfGranted v c.reserve_in-reply.result) (sym (view_now c.passes.inside.made c.passes.inside.lanes.items c.args.client c.index_mut-lane.result.now c.reserve_in-reply.new.lane (reservation c.args.window c.args.bound) (reply_of c.reserve_in-reply.result) c.passes.invariant low c.index_mut-lane.ensures.value c.reserve_in-reply.ensures.cell c.reserve_in-reply.ensures.call))
    (owes_if_granted (lane_view c.index_mut-lane.result.now) (lane_view c.reserve_in-reply.new.lane) c.args.client c.passes.inside.made c.args.window c.args.bound c.reserve_in-reply.result c.reserve_in-reply.ensures.ticket c.reserve_in-reply.ensures.call))
