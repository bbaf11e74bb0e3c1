use Rattle.std.proofs.Common.{sym, ap, ◌∙◌, refl, map}
use Rattle.account_cells.specs.Views.{after_split, split_off}
use Rattle.account_shared.specs.Views.{PassesView, label_after_split, label_split_off, limit_of}
use Rattle.account_shared.specs.Inside.{lane_view}
use Rattle.account_shared.proofs.Walks.{map_twice}
use Rattle.account_shared.proofs.Lanes.{all_known}
use Rattle.account_shared.proofs.Splitting.{lanes_first, lanes_after_split, lanes_split_off, limits_after_split, limits_split_off}
use Rattle.account_shared.proofs.Passes.split.Goals as goal

pub split_lanes-requires-clause-first : goal.split_lanes-requires-clause-first
split_lanes-requires-clause-first c =
    lanes_first c.self.inside.made c.self.inside.lanes.items c.self.invariant (ap (λ (p : PassesView). p.label.name) c.self.view_is ∙ c.requires.first)

pub invariant_of-self : goal.invariant_of-self
invariant_of-self c = (lanes_after_split c.self.inside.made c.self.inside.lanes.items c.split_lanes.new.lanes.items c.split_lanes.ensures.views c.self.invariant).0

pub invariant_of-result : goal.invariant_of-result
invariant_of-result c =
    (lanes_split_off c.self.inside.made c.self.inside.lanes.items c.split_lanes.new.into.items (ap (λ (p : PassesView). p.label.name) c.self.view_is ∙ c.requires.first) c.split_lanes.ensures.new_views c.self.invariant).0

pub returns-clause-label : goal.returns-clause-label
returns-clause-label c =
    (lanes_after_split c.self.inside.made c.self.inside.lanes.items c.split_lanes.new.lanes.items c.split_lanes.ensures.views c.self.invariant).1
    ∙ ap (λ (p : PassesView). label_after_split p.label) c.self.view_is

pub returns-clause-new_label : goal.returns-clause-new_label
returns-clause-new_label c = (
  refl,
  (lanes_split_off c.self.inside.made c.self.inside.lanes.items c.split_lanes.new.into.items (ap (λ (p : PassesView). p.label.name) c.self.view_is ∙ c.requires.first) c.split_lanes.ensures.new_views c.self.invariant).1
      ∙ ap (λ (p : PassesView). label_split_off p.label) c.self.view_is,
)

pub returns-clause-clients : goal.returns-clause-clients
returns-clause-clients c = c.split_lanes.ensures.views ∙ (sym (map_twice lane_view after_split c.self.inside.lanes.items) ∙ ap (λ (p : PassesView). map after_split p.clients) c.self.view_is)

pub returns-clause-new_clients : goal.returns-clause-new_clients
returns-clause-new_clients c = c.split_lanes.ensures.new_views ∙ (sym (map_twice lane_view split_off c.self.inside.lanes.items) ∙ ap (λ (p : PassesView). map split_off p.clients) c.self.view_is)

pub returns-clause-belong : goal.returns-clause-belong
returns-clause-belong c = record {
  cells = c.split_lanes.ensures.cells ∙ (ap (λ (p : PassesView). p.cells) c.self.view_is ∙ c.requires.belong.cells);
  limits = limits_after_split c.self.inside.lanes.items c.split_lanes.new.lanes.items c.split_lanes.ensures.views ∙ (ap (λ (p : PassesView). map limit_of p.clients) c.self.view_is ∙ c.requires.belong.limits);
  known = all_known c.self.inside.made c.split_lanes.new.lanes.items (lanes_after_split c.self.inside.made c.self.inside.lanes.items c.split_lanes.new.lanes.items c.split_lanes.ensures.views c.self.invariant).0;
}

pub returns-clause-new_belong : goal.returns-clause-new_belong
returns-clause-new_belong c = record {
  cells = c.split_lanes.ensures.new_cells ∙ (ap (λ (p : PassesView). p.cells) c.self.view_is ∙ c.requires.belong.cells);
  limits = limits_split_off c.self.inside.lanes.items c.split_lanes.new.into.items c.split_lanes.ensures.new_views ∙ (ap (λ (p : PassesView). map limit_of p.clients) c.self.view_is ∙ c.requires.belong.limits);
  known = all_known 0 c.split_lanes.new.into.items (lanes_split_off c.self.inside.made c.self.inside.lanes.items c.split_lanes.new.into.items (ap (λ (p : PassesView). p.label.name) c.self.view_is ∙ c.requires.first) c.split_lanes.ensures.new_views
      c.self.invariant).0;
}
