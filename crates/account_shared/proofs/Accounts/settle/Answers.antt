use Rattle.std.proofs.Common.{◌∙◌, ◌∷◌, [], sym, ap, subst, map, get_or, set, ◌+◌}
use Rattle.account_core.specs.Machine.{done}
use Rattle.account_core.specs.Numbers.{settlement_of}
use Rattle.account_cells.specs.Views.{View, no_view}
use Rattle.account_cells.specs.Outcomes.{Owes}
use Rattle.account_shared.specs.Views.{PassesView, AccountsView, Label, limit_of}
use Rattle.account_shared.specs.Gains.{Gains, client_call}
use Rattle.account_shared.specs.Inside.{lane_cell, lane_view, slot_cell, label_in}
use Rattle.account_shared.proofs.Lanes.{same_at, has_lane, lane_at, lane_for, all_known, view_at, lanes_stay, cells_stay, limits_stay, called_gains}
use Rattle.account_shared.proofs.Calls.{owes_if_open, limited_if_open}
use Rattle.account_shared.proofs.Accounts.settle.Goals as goal

pub settle_in-requires-clause-cell : goal.settle_in-requires-clause-cell
settle_in-requires-clause-cell g c =
    let low = has_lane c.passes.inside.lanes.items c.args.ticket.client c.args.self.now.limits (ap (λ (p : PassesView). map limit_of p.clients) c.passes.view_is ∙ c.requires.belong.limits) (limited_if_open c.args.passes.now c.args.self.now.limits c.args.ticket.client c.args.ticket.seq c.args.ticket.window c.args.ticket.bound c.requires.belong.limits c.requires.granted) in
    same_at lane_cell slot_cell c.passes.inside.lanes.items c.self.inside.slots.items c.args.ticket.client c.index_mut-lane.result.now c.index-slot.result.now
    (ap (λ (p : PassesView). p.cells) c.passes.view_is ∙ (c.requires.belong.cells ∙ ap (λ (a : AccountsView). a.cells) (sym c.self.view_is))) low c.index_mut-lane.ensures.value c.index-slot.ensures

pub settle_in-requires-clause-ready : goal.settle_in-requires-clause-ready
settle_in-requires-clause-ready g c =
    let low = has_lane c.passes.inside.lanes.items c.args.ticket.client c.args.self.now.limits (ap (λ (p : PassesView). map limit_of p.clients) c.passes.view_is ∙ c.requires.belong.limits) (limited_if_open c.args.passes.now c.args.self.now.limits c.args.ticket.client c.args.ticket.seq c.args.ticket.window c.args.ticket.bound c.requires.belong.limits c.requires.granted) in
    lane_for c.passes.inside.made c.passes.inside.lanes.items c.self.inside.slots.items c.args.ticket.client c.index_mut-lane.result.now c.index-slot.result.now c.passes.invariant
    (ap (λ (p : PassesView). map limit_of p.clients) c.passes.view_is ∙ (c.requires.belong.limits ∙ ap (λ (a : AccountsView). a.limits) (sym c.self.view_is))) low c.index_mut-lane.ensures.value c.index-slot.ensures

pub settle_in-requires-clause-new : goal.settle_in-requires-clause-new
settle_in-requires-clause-new g c =
    let low = has_lane c.passes.inside.lanes.items c.args.ticket.client c.args.self.now.limits (ap (λ (p : PassesView). map limit_of p.clients) c.passes.view_is ∙ c.requires.belong.limits) (limited_if_open c.args.passes.now c.args.self.now.limits c.args.ticket.client c.args.ticket.seq c.args.ticket.window c.args.ticket.bound c.requires.belong.limits c.requires.granted) in
    let ready = lane_at c.passes.inside.made c.passes.inside.lanes.items c.args.ticket.client c.index_mut-lane.result.now c.passes.invariant low c.index_mut-lane.ensures.value in
    ready.known.numbers

pub settle_in-requires-clause-owes : goal.settle_in-requires-clause-owes
settle_in-requires-clause-owes g c =
    let low = has_lane c.passes.inside.lanes.items c.args.ticket.client c.args.self.now.limits (ap (λ (p : PassesView). map limit_of p.clients) c.passes.view_is ∙ c.requires.belong.limits) (limited_if_open c.args.passes.now c.args.self.now.limits c.args.ticket.client c.args.ticket.seq c.args.ticket.window c.args.ticket.bound c.requires.belong.limits c.requires.granted) in
    let ready = lane_at c.passes.inside.made c.passes.inside.lanes.items c.args.ticket.client c.index_mut-lane.result.now c.passes.invariant low c.index_mut-lane.ensures.value in
    let shown = sym (ap (λ (p : PassesView). get_or p.clients c.args.ticket.client no_view) c.passes.view_is) ∙ view_at c.passes.inside.lanes.items c.args.ticket.client c.index_mut-lane.result.now low c.index_mut-lane.ensures.value in
    let named = ap (λ (v : View). v.name) shown ∙ (ap (λ (l : Label). l.name) ready.known.same_label ∙ ap (λ (p : PassesView). p.label.name) c.passes.view_is) in
    subst (λ v. Owes v c.args.ticket.seq c.args.ticket.window c.args.ticket.bound) shown
    (owes_if_open c.args.passes.now c.args.ticket.client c.args.ticket.seq c.args.ticket.window c.args.ticket.bound named c.requires.granted)

pub invariant_of-passes : goal.invariant_of-passes
invariant_of-passes g c =
    let low = has_lane c.passes.inside.lanes.items c.args.ticket.client c.args.self.now.limits (ap (λ (p : PassesView). map limit_of p.clients) c.passes.view_is ∙ c.requires.belong.limits) (limited_if_open c.args.passes.now c.args.self.now.limits c.args.ticket.client c.args.ticket.seq c.args.ticket.window c.args.ticket.bound c.requires.belong.limits c.requires.granted) in
    lanes_stay c.passes.inside.made c.passes.inside.lanes.items c.args.ticket.client c.index_mut-lane.result.now c.settle_in.new.lane (settlement_of c.args.ticket c.args.measured) done c.passes.invariant low c.index_mut-lane.ensures.value c.settle_in.ensures.cell c.settle_in.ensures.call

pub returns-clause-belong : goal.returns-clause-belong
returns-clause-belong g c =
    let low = has_lane c.passes.inside.lanes.items c.args.ticket.client c.args.self.now.limits (ap (λ (p : PassesView). map limit_of p.clients) c.passes.view_is ∙ c.requires.belong.limits) (limited_if_open c.args.passes.now c.args.self.now.limits c.args.ticket.client c.args.ticket.seq c.args.ticket.window c.args.ticket.bound c.requires.belong.limits c.requires.granted) in
    record {
      cells = cells_stay c.passes.inside.made c.passes.inside.lanes.items c.args.ticket.client c.index_mut-lane.result.now c.settle_in.new.lane (settlement_of c.args.ticket c.args.measured) done c.passes.invariant low c.index_mut-lane.ensures.value c.settle_in.ensures.cell c.settle_in.ensures.call ∙ (ap (λ (p : PassesView). p.cells) c.passes.view_is ∙ c.requires.belong.cells);
      limits = limits_stay c.passes.inside.made c.passes.inside.lanes.items c.args.ticket.client c.index_mut-lane.result.now c.settle_in.new.lane (settlement_of c.args.ticket c.args.measured) done c.passes.invariant low c.index_mut-lane.ensures.value c.settle_in.ensures.cell c.settle_in.ensures.call ∙ (ap (λ (p : PassesView). map limit_of p.clients) c.passes.view_is ∙ c.requires.belong.limits);
      known = all_known (c.passes.inside.made + 1) (set c.passes.inside.lanes.items c.args.ticket.client c.settle_in.new.lane) (lanes_stay c.passes.inside.made c.passes.inside.lanes.items c.args.ticket.client c.index_mut-lane.result.now c.settle_in.new.lane (settlement_of c.args.ticket c.args.measured) done c.passes.invariant low c.index_mut-lane.ensures.value c.settle_in.ensures.cell c.settle_in.ensures.call);
    }

pub returns-clause-call : goal.returns-clause-call
returns-clause-call g c =
    let low = has_lane c.passes.inside.lanes.items c.args.ticket.client c.args.self.now.limits (ap (λ (p : PassesView). map limit_of p.clients) c.passes.view_is ∙ c.requires.belong.limits) (limited_if_open c.args.passes.now c.args.self.now.limits c.args.ticket.client c.args.ticket.seq c.args.ticket.window c.args.ticket.bound c.requires.belong.limits c.requires.granted) in
    subst (λ p. Gains p (record { made = c.passes.inside.made + 1; label = label_in (set c.passes.inside.lanes.items c.args.ticket.client c.settle_in.new.lane); cells = map lane_cell (set c.passes.inside.lanes.items c.args.ticket.client c.settle_in.new.lane); clients = map lane_view (set c.passes.inside.lanes.items c.args.ticket.client c.settle_in.new.lane) }) (client_call c.args.ticket.client (settlement_of c.args.ticket c.args.measured) done ∷ [])) c.passes.view_is
    (called_gains c.passes.inside.made c.passes.inside.lanes.items c.args.ticket.client c.index_mut-lane.result.now c.settle_in.new.lane (settlement_of c.args.ticket c.args.measured) done c.passes.invariant low c.index_mut-lane.ensures.value c.settle_in.ensures.cell c.settle_in.ensures.call)
