use Rattle.std.proofs.Common.{◌≡◌, ◌<◌, ℕ, [], sym, ap, ◌∙◌, subst, map, length, get_or}
use Rattle.std.proofs.lemmas.List.{length-map}
use Rattle.account_core.specs.Sums.{open_grants}
use Rattle.account_cells.specs.Views.{no_view}
use Rattle.account_shared.specs.Views.{label_after_join, limit_of, PassesView, JoinsTo}
use Rattle.account_shared.specs.Inside.{lane_view}
use Rattle.account_shared.proofs.Lanes.{all_known}
use Rattle.account_shared.proofs.Splitting.{lanes_first}
use Rattle.account_shared.proofs.Joining.{cells_count, lanes_after_join, limits_each, limits_after_join, lanes_idle, lanes_count}
use Rattle.account_shared.proofs.Passes.join.Goals as goal

pub join_lanes-requires-clause-first : goal.join_lanes-requires-clause-first
join_lanes-requires-clause-first g c =
    lanes_first c.self.inside.made c.self.inside.lanes.items c.self.invariant (ap (λ (p : PassesView). p.label.name) c.self.view_is ∙ c.requires.first)

pub join_lanes-requires-clause-idle : goal.join_lanes-requires-clause-idle
join_lanes-requires-clause-idle g c =
    lanes_idle c.other.inside.made c.other.inside.lanes.items c.other.invariant
    (subst (λ (p : PassesView). (k : ℕ) → k < length p.clients → open_grants (get_or p.clients k no_view).own ≡ []) (sym c.other.view_is) c.requires.idle)

pub invariant_of-self : goal.invariant_of-self
invariant_of-self g c =
    (lanes_after_join c.self.inside.made c.other.inside.made c.self.inside.lanes.items c.join_lanes.new.lanes.items c.other.inside.lanes.items c.self.invariant c.other.invariant
    (cells_count c.self.inside.lanes.items c.other.inside.lanes.items
    (ap (λ (p : PassesView). p.cells) c.other.view_is ∙ (c.requires.theirs.cells ∙ sym (ap (λ (p : PassesView). p.cells) c.self.view_is ∙ c.requires.belong.cells))))
    (cells_count c.self.inside.lanes.items c.join_lanes.new.lanes.items c.join_lanes.ensures.cells) c.join_lanes.ensures.joined
    (λ k low.
    limits_each (map lane_view c.self.inside.lanes.items) (map lane_view c.other.inside.lanes.items) c.args.accounts.now.limits
    (ap (λ (p : PassesView). map limit_of p.clients) c.self.view_is ∙ c.requires.belong.limits) (ap (λ (p : PassesView). map limit_of p.clients) c.other.view_is ∙ c.requires.theirs.limits)
    k (subst (λ n. k < n) (sym (length-map c.self.inside.lanes.items lane_view)) low))).0

pub returns-clause-label : goal.returns-clause-label
returns-clause-label g c =
    (lanes_after_join c.self.inside.made c.other.inside.made c.self.inside.lanes.items c.join_lanes.new.lanes.items c.other.inside.lanes.items c.self.invariant c.other.invariant
    (cells_count c.self.inside.lanes.items c.other.inside.lanes.items
    (ap (λ (p : PassesView). p.cells) c.other.view_is ∙ (c.requires.theirs.cells ∙ sym (ap (λ (p : PassesView). p.cells) c.self.view_is ∙ c.requires.belong.cells))))
    (cells_count c.self.inside.lanes.items c.join_lanes.new.lanes.items c.join_lanes.ensures.cells) c.join_lanes.ensures.joined
    (λ k low.
    limits_each (map lane_view c.self.inside.lanes.items) (map lane_view c.other.inside.lanes.items) c.args.accounts.now.limits
    (ap (λ (p : PassesView). map limit_of p.clients) c.self.view_is ∙ c.requires.belong.limits) (ap (λ (p : PassesView). map limit_of p.clients) c.other.view_is ∙ c.requires.theirs.limits)
    k (subst (λ n. k < n) (sym (length-map c.self.inside.lanes.items lane_view)) low))).1
    ∙ (λ i. label_after_join (ap (λ (p : PassesView). p.label) c.self.view_is i) (ap (λ (p : PassesView). p.label) c.other.view_is i))

pub returns-clause-belong : goal.returns-clause-belong
returns-clause-belong g c = record {
  cells = c.join_lanes.ensures.cells ∙ (ap (λ (p : PassesView). p.cells) c.self.view_is ∙ c.requires.belong.cells);
  limits = limits_after_join c.self.inside.lanes.items c.join_lanes.new.lanes.items c.other.inside.lanes.items
      (cells_count c.self.inside.lanes.items c.join_lanes.new.lanes.items c.join_lanes.ensures.cells) c.join_lanes.ensures.joined
      ∙ (ap (λ (p : PassesView). map limit_of p.clients) c.self.view_is ∙ c.requires.belong.limits);
  known = all_known c.self.inside.made c.join_lanes.new.lanes.items (lanes_after_join c.self.inside.made c.other.inside.made c.self.inside.lanes.items c.join_lanes.new.lanes.items c.other.inside.lanes.items c.self.invariant c.other.invariant
      (cells_count c.self.inside.lanes.items c.other.inside.lanes.items
      (ap (λ (p : PassesView). p.cells) c.other.view_is ∙ (c.requires.theirs.cells ∙ sym (ap (λ (p : PassesView). p.cells) c.self.view_is ∙ c.requires.belong.cells))))
      (cells_count c.self.inside.lanes.items c.join_lanes.new.lanes.items c.join_lanes.ensures.cells) c.join_lanes.ensures.joined
      (λ k low.
      limits_each (map lane_view c.self.inside.lanes.items) (map lane_view c.other.inside.lanes.items) c.args.accounts.now.limits
      (ap (λ (p : PassesView). map limit_of p.clients) c.self.view_is ∙ c.requires.belong.limits) (ap (λ (p : PassesView). map limit_of p.clients) c.other.view_is ∙ c.requires.theirs.limits)
      k (subst (λ n. k < n) (sym (length-map c.self.inside.lanes.items lane_view)) low))).0;
}

pub returns-clause-joined : goal.returns-clause-joined
returns-clause-joined g c k low =
    let here : k < length c.self.inside.lanes.items = subst (λ n. k < n) (lanes_count c.self.inside.lanes.items c.args.self.now.clients (ap (λ (p : PassesView). p.clients) c.self.view_is)) low in
    let joined = c.join_lanes.ensures.joined k here in
    subst (λ (o : PassesView). JoinsTo (get_or o.clients k no_view) (get_or c.args.self.now.clients k no_view) (get_or (map lane_view c.join_lanes.new.lanes.items) k no_view)) c.other.view_is
    (subst (λ (p : PassesView). JoinsTo (get_or (map lane_view c.other.inside.lanes.items) k no_view) (get_or p.clients k no_view) (get_or (map lane_view c.join_lanes.new.lanes.items) k no_view)) c.self.view_is
    joined.joins)
