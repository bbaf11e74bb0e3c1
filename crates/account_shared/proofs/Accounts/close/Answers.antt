use Rattle.std.proofs.Common.{◌≡◌, ◌<◌, ℕ, [], sym, ap, ◌∙◌, subst, map, length, get_or}
use Rattle.std.specs.Prelude.{vec_capacity}
use Rattle.account_core.specs.Sums.{open_grants}
use Rattle.account_cells.specs.Views.{no_view}
use Rattle.account_shared.specs.Views.{PassesView, AccountsView, ClosesTo, account_seen}
use Rattle.account_shared.specs.Inside.{lane_view}
use Rattle.account_shared.proofs.Walks.{map_twice}
use Rattle.account_shared.proofs.Splitting.{lanes_first}
use Rattle.account_shared.proofs.Joining.{room_for_lanes, lanes_alone, each_view, lanes_count}
use Rattle.account_shared.proofs.Accounts.close.Goals as goal

pub close_lanes-requires-clause-first : goal.close_lanes-requires-clause-first
close_lanes-requires-clause-first g c =
    lanes_first c.passes.inside.made c.passes.inside.lanes.items c.passes.invariant (ap (λ (p : PassesView). p.label.name) c.passes.view_is ∙ c.requires.first)

pub close_lanes-requires-clause-alone : goal.close_lanes-requires-clause-alone
close_lanes-requires-clause-alone g c =
    lanes_alone c.passes.inside.made c.passes.inside.lanes.items c.passes.invariant (ap (λ (p : PassesView). p.label.out) c.passes.view_is ∙ c.requires.alone)
    (subst (λ (p : PassesView). (k : ℕ) → k < length p.clients → open_grants (get_or p.clients k no_view).own ≡ []) (sym c.passes.view_is) c.requires.idle)

pub close_lanes-requires-clause-room : goal.close_lanes-requires-clause-room
close_lanes-requires-clause-room g c =
    room_for_lanes c.passes.inside.lanes.items c.self.inside.slots.items (vec_capacity c.self.inside.room)
    (ap (λ (p : PassesView). p.cells) c.passes.view_is ∙ (c.requires.belong.cells ∙ sym (ap (λ (a : AccountsView). a.cells) c.self.view_is))) c.self.invariant.2

pub returns-clause-accounts : goal.returns-clause-accounts
returns-clause-accounts g c =
    c.close_lanes.ensures.accounts ∙ (sym (map_twice lane_view account_seen c.passes.inside.lanes.items) ∙ ap (λ (p : PassesView). map account_seen p.clients) c.passes.view_is)

pub returns-clause-closed : goal.returns-clause-closed
returns-clause-closed g c k low =
    let here : k < length c.passes.inside.lanes.items = subst (λ n. k < n) (lanes_count c.passes.inside.lanes.items c.args.passes.clients (ap (λ (p : PassesView). p.clients) c.passes.view_is)) low in
    subst (λ (p : PassesView). ClosesTo (get_or p.clients k no_view) (account_seen (get_or p.clients k no_view))) c.passes.view_is
    (each_view (λ v. ClosesTo v (account_seen v)) c.passes.inside.lanes.items c.close_lanes.ensures.closed k here)
