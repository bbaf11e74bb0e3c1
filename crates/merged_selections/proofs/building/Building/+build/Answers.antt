use Rattle.std.proofs.Common.{refl, sym, ap, subst, ◌∙◌, ℕ, List, map, [], ◌∷◌, ◌+◌, Option, Ok, Err}
use Rattle.std.specs.List.{slice_get}
use Rattle.std.proofs.lemmas.List.{drop_more}
use Rattle.merged_selections.specs.NodeParts.{handed_data, types_at}
use Rattle.merged_selections.specs.declared.node.Looked.{Looked}
use Rattle.merged_selections.specs.declared.known.FoundGroups.{FoundGroups}
use Rattle.merged_selections.specs.Again.{name_in, MayBeKnown, FindsFor}
use Rattle.merged_selections.proofs.MetAgain.{told_by_name}
use Rattle.collected_fields.specs.Alone.{SpreadsAlone}
use Rattle.schema_model.specs.SchemaViews.{schema_data}
use Rattle.std.specs.Prelude.{IfSome}
use Rattle.merged_selections.proofs.BuiltSteps.{types_stop, types_go, types_end, groups_stop, groups_go, groups_end, type_built, known_built, built_known}
use Rattle.plan_model.specs.Visits.{fault_of}
use Rattle.collected_fields.specs.declared.planning.Planning.{Planning}
use Rattle.collected_fields.specs.declared.collected.Group.{Group}
use Rattle.collected_fields.specs.Views.{setting_of_planning, collected_field}
use Rattle.merged_selections.specs.NodeTests.{fault_told, IsThere, IsFound}
use Rattle.merged_selections.specs.Outcomes.{outcome, IsStop}
use Rattle.collected_fields.specs.declared.collector.Collector.{Collector}
use Rattle.collected_fields.specs.Lists.{HasMore}
use Rattle.collected_fields.proofs.ListLaws.{more_itself, more_again}
use Rattle.input_values.specs.declared.inputs.shape.TypeId.{TypeId}
use Rattle.merged_selections.specs.Stages.{levels_from, setting_built, node_seen, BuildsGroups, BuildsGroup, BuildsTypes}
use Rattle.merged_selections.proofs.FewerTypes.{objects_at, left_built}
use Rattle.merged_selections.proofs.BuiltNodes.{frames, can_after, kept_before, kept_still, seen_before, can_still, below_visits, below_built, below_stops, below_fine, rows_there, past_limit, too_deep_stops, fault_stops, levels_more, no_levels}
use Rattle.merged_selections.proofs.building.Building.+build.Goals as goal

pub build_position-returns-clause-built : goal.build_position-returns-clause-built
build_position-returns-clause-built t c = λ objects.
    left_built c.args.self.now (record { collector = c.types_with_fields.new.self; plan = c.args.self.now.plan; left = c.args.self.now.left; calls = c.args.self.now.calls; keys = c.args.self.now.keys; known = c.args.self.now.known }) c.build_types.new.self (frames c.args.self.now c.types_with_fields.new.self c.types_with_fields.ensures.grows.planning c.types_with_fields.ensures.grows.written) c.types_with_fields.ensures.grows.numbers
    (can_after c.args.self.now c.types_with_fields.new.self c.types_with_fields.ensures.grows.planning c.types_with_fields.ensures.grows.written c.types_with_fields.ensures.grows.numbers c.types_with_fields.ensures.grows.ready) refl refl c.args.depth c.args.lists.now (handed_data c.args.handed) c.build_types.result c.args.types.now c.in_ok-left.left c.in_ok-left.ensures.left objects
    (subst (λ (ts : List TypeId). BuildsTypes (record { collector = c.types_with_fields.new.self; plan = c.args.self.now.plan; left = c.args.self.now.left; calls = c.args.self.now.calls; keys = c.args.self.now.keys; known = c.args.self.now.known }) c.args.depth c.build_types.result c.build_types.new.self ts c.args.lists.now (handed_data c.args.handed)) c.left_of.ensures c.build_types.ensures.built)

pub build_position-returns-clause-ready : goal.build_position-returns-clause-ready
build_position-returns-clause-ready t c = λ can. c.build_types.ensures.ready (can_after c.args.self.now c.types_with_fields.new.self c.types_with_fields.ensures.grows.planning c.types_with_fields.ensures.grows.written c.types_with_fields.ensures.grows.numbers c.types_with_fields.ensures.grows.ready can)

pub build_position-returns-in_err-left-clause-ready : goal.build_position-returns-in_err-left-clause-ready
build_position-returns-in_err-left-clause-ready t c = λ can. can_after c.args.self.now c.types_with_fields.new.self c.types_with_fields.ensures.grows.planning c.types_with_fields.ensures.grows.written c.types_with_fields.ensures.grows.numbers c.types_with_fields.ensures.grows.ready can

pub build_types-returns-in-Err-clause-built : goal.build_types-returns-in-Err-clause-built
build_types-returns-in-Err-clause-built t c =
    types_stop c.args.self.now c.types.self c.build_type.new.self c.args.depth c.args.types.now c.args.lists.now (handed_data c.args.handed) c.types.of-index c.types.invariant.0 c.types.invariant.1 c.types.invariant.2 c.types.invariant.3 _ (drop_more c.args.types.now c.types.of-index _ c.types-test.true) c.in-Err.stop c.in-Err.ensures.built

pub build_types-returns-in-Err-clause-numbers : goal.build_types-returns-in-Err-clause-numbers
build_types-returns-in-Err-clause-numbers t c = more_again c.args.self.now.collector.joins c.types.self.collector.joins c.build_type.new.self.collector.joins c.types.invariant.1 c.in-Err.ensures.numbers

pub build_types-types-preserved : goal.build_types-types-preserved
build_types-types-preserved t c = (
  c.in-Ok.ensures.frame ∙ c.types.invariant.0,
  more_again c.args.self.now.collector.joins c.types.self.collector.joins c.build_type.new.self.collector.joins c.types.invariant.1 c.in-Ok.ensures.numbers,
  λ can. c.in-Ok.ensures.ready (c.types.invariant.2 can),
  types_go c.args.self.now c.types.self c.build_type.new.self c.args.depth c.args.types.now c.args.lists.now (handed_data c.args.handed) c.types.of-index c.types.invariant.0 c.types.invariant.1 c.types.invariant.2 c.types.invariant.3 _ (drop_more c.args.types.now c.types.of-index _ c.types-test.true) c.in-Ok.field-0 c.in-Ok.ensures.built,
)

pub build_types-returns-clause-built : goal.build_types-returns-clause-built
build_types-returns-clause-built t c =
    types_end c.args.self.now c.types.self c.types.self c.args.depth c.args.types.now c.args.lists.now (handed_data c.args.handed) c.types.of-index c.types.invariant.0 c.types.invariant.1 c.types.invariant.2 c.types.invariant.3 c.types-test.false tt

pub build_groups-returns-in-Err-clause-built : goal.build_groups-returns-in-Err-clause-built
build_groups-returns-in-Err-clause-built t c =
    groups_stop c.args.self.now c.groups.self c.build_group.new.self c.args.depth c.args.of.number c.args.groups.now c.args.looked.now (handed_data c.args.handed) c.groups.group-index c.groups.first c.groups.invariant.0 c.groups.invariant.1 c.groups.invariant.2 c.groups.invariant.4 c.group-item.result c.groups-test.true c.group-item.is c.in-Err.stop
    (subst (λ (one : Option Looked). BuildsGroup c.groups.self c.args.depth (Err c.in-Err.stop) c.build_group.new.self c.args.of.number c.groups.first c.group-item.result one (handed_data c.args.handed)) (c.looked_there-one.ensures ∙ ap (slice_get c.args.looked.now) c.groups.invariant.3) c.in-Err.ensures.built)

pub build_groups-returns-in-Err-clause-numbers : goal.build_groups-returns-in-Err-clause-numbers
build_groups-returns-in-Err-clause-numbers t c = more_again c.args.self.now.collector.joins c.groups.self.collector.joins c.build_group.new.self.collector.joins c.groups.invariant.1 c.in-Err.ensures.numbers

pub build_groups-groups-preserved : goal.build_groups-groups-preserved
build_groups-groups-preserved t c = (
  c.in-Ok.ensures.frame ∙ c.groups.invariant.0,
  more_again c.args.self.now.collector.joins c.groups.self.collector.joins c.build_group.new.self.collector.joins c.groups.invariant.1 c.in-Ok.ensures.numbers,
  λ can. c.in-Ok.ensures.ready (c.groups.invariant.2 can),
  ap (λ (n : ℕ). n + 1) c.groups.invariant.3,
  groups_go c.args.self.now c.groups.self c.build_group.new.self c.args.depth c.args.of.number c.args.groups.now c.args.looked.now (handed_data c.args.handed) c.groups.group-index c.groups.first c.groups.invariant.0 c.groups.invariant.1 c.groups.invariant.2 c.groups.invariant.4 c.group-item.result c.groups-test.true c.group-item.is c.in-Ok.field-0
      (subst (λ (one : Option Looked). BuildsGroup c.groups.self c.args.depth (Ok c.in-Ok.field-0) c.build_group.new.self c.args.of.number c.groups.first c.group-item.result one (handed_data c.args.handed)) (c.looked_there-one.ensures ∙ ap (slice_get c.args.looked.now) c.groups.invariant.3) c.in-Ok.ensures.built),
)

pub build_groups-returns-clause-built : goal.build_groups-returns-clause-built
build_groups-returns-clause-built t c =
    groups_end c.args.self.now c.groups.self c.groups.self c.args.depth c.args.of.number c.args.groups.now c.args.looked.now (handed_data c.args.handed) c.groups.group-index c.groups.first c.groups.invariant.0 c.groups.invariant.1 c.groups.invariant.2 c.groups.invariant.4 c.groups-test.false tt

pub build_type-returns-in-Some-clause-built : goal.build_type-returns-in-Some-clause-built
build_type-returns-in-Some-clause-built t c =
    known_built c.args.self.now c.build_groups.new.self c.args.depth c.args.of.number c.args.lists.now (handed_data c.args.handed) (name_in c.spread_alone-spread.result) c.in-Some.found (schema_data c.planning.result.schema.now) c.build_groups.result
    (ap (λ (pl : Planning). schema_data pl.schema.now) (sym c.planning.ensures))
    (subst (λ (found : Option FoundGroups). IfSome found (FindsFor (schema_data c.planning.result.schema.now) c.args.self.now.known c.args.of.number c.args.lists.now (name_in c.spread_alone-spread.result) (handed_data c.args.handed))) c.in-Some.is c.in_ok-found.ensures)
    (told_by_name (SpreadsAlone c.args.self.now.collector c.args.lists.now) c.spread_alone-spread.result c.spread_alone-spread.ensures)
    (subst (λ (gs : List Group). BuildsGroups c.args.self.now c.args.depth c.build_groups.result c.build_groups.new.self c.args.of.number gs c.in-Some.found.looked.items (handed_data c.args.handed)) c.as_slice.ensures.value
    (subst (λ (ls : List Looked). BuildsGroups c.args.self.now c.args.depth c.build_groups.result c.build_groups.new.self c.args.of.number c.as_slice.result.now ls (handed_data c.args.handed)) c.as_slice-looked.ensures.value c.build_groups.ensures.built))

pub build_anew-returns-in-Err-clause-built : goal.build_anew-returns-in-Err-clause-built
build_anew-returns-in-Err-clause-built t c =
    type_built c.args.self.now (record { collector = c.collect.new.self; plan = c.args.self.now.plan; left = c.args.self.now.left; calls = c.args.self.now.calls; keys = c.args.self.now.keys; known = c.args.self.now.known }) c.build_groups.new.self (frames c.args.self.now c.collect.new.self c.collect.ensures.grows.planning c.collect.ensures.grows.written) refl refl c.args.depth c.args.of.number c.args.lists.now (handed_data c.args.handed) c.in_ok-groups.groups.items (Err c.in-Err.stop)
    (can_after c.args.self.now c.collect.new.self c.collect.ensures.grows.planning c.collect.ensures.grows.written c.collect.ensures.grows.numbers c.collect.ensures.grows.ready) c.in_ok-groups.ensures.gives
    (subst (λ (gs : List Group). BuildsGroups (record { collector = c.collect.new.self; plan = c.args.self.now.plan; left = c.args.self.now.left; calls = c.args.self.now.calls; keys = c.args.self.now.keys; known = c.args.self.now.known }) c.args.depth (Err c.in-Err.stop) c.build_groups.new.self c.args.of.number gs [] (handed_data c.args.handed)) c.as_slice.ensures.value c.in-Err.ensures.built)

pub build_anew-returns-then-not-known-clause-built : goal.build_anew-returns-then-not-known-clause-built
build_anew-returns-then-not-known-clause-built t c =
    type_built c.args.self.now (record { collector = c.collect.new.self; plan = c.args.self.now.plan; left = c.args.self.now.left; calls = c.args.self.now.calls; keys = c.args.self.now.keys; known = c.args.self.now.known }) c.build_groups.new.self (frames c.args.self.now c.collect.new.self c.collect.ensures.grows.planning c.collect.ensures.grows.written) refl refl c.args.depth c.args.of.number c.args.lists.now (handed_data c.args.handed) c.in_ok-groups.groups.items (Ok c.in-Ok.field-0)
    (can_after c.args.self.now c.collect.new.self c.collect.ensures.grows.planning c.collect.ensures.grows.written c.collect.ensures.grows.numbers c.collect.ensures.grows.ready) c.in_ok-groups.ensures.gives
    (subst (λ (gs : List Group). BuildsGroups (record { collector = c.collect.new.self; plan = c.args.self.now.plan; left = c.args.self.now.left; calls = c.args.self.now.calls; keys = c.args.self.now.keys; known = c.args.self.now.known }) c.args.depth (Ok c.in-Ok.field-0) c.build_groups.new.self c.args.of.number gs [] (handed_data c.args.handed)) c.as_slice.ensures.value c.in-Ok.ensures.built)

pub build_anew-returns-clause-built : goal.build_anew-returns-clause-built
build_anew-returns-clause-built t c =
    type_built c.args.self.now (record { collector = c.collect.new.self; plan = c.args.self.now.plan; left = c.args.self.now.left; calls = c.args.self.now.calls; keys = c.args.self.now.keys; known = c.args.self.now.known }) c.build_groups.new.self (frames c.args.self.now c.collect.new.self c.collect.ensures.grows.planning c.collect.ensures.grows.written) refl refl c.args.depth c.args.of.number c.args.lists.now (handed_data c.args.handed) c.in_ok-groups.groups.items (Ok c.in-Ok.field-0)
    (can_after c.args.self.now c.collect.new.self c.collect.ensures.grows.planning c.collect.ensures.grows.written c.collect.ensures.grows.numbers c.collect.ensures.grows.ready) c.in_ok-groups.ensures.gives
    (subst (λ (gs : List Group). BuildsGroups (record { collector = c.collect.new.self; plan = c.args.self.now.plan; left = c.args.self.now.left; calls = c.args.self.now.calls; keys = c.args.self.now.keys; known = c.args.self.now.known }) c.args.depth (Ok c.in-Ok.field-0) c.build_groups.new.self c.args.of.number gs [] (handed_data c.args.handed)) c.as_slice.ensures.value c.in-Ok.ensures.built)

pub build_anew-returns-in-Err-clause-numbers : goal.build_anew-returns-in-Err-clause-numbers
build_anew-returns-in-Err-clause-numbers t c = more_again c.args.self.now.collector.joins c.collect.new.self.joins c.build_groups.new.self.collector.joins c.collect.ensures.grows.numbers c.build_groups.ensures.numbers

pub build_anew-returns-then-not-known-clause-numbers : goal.build_anew-returns-then-not-known-clause-numbers
build_anew-returns-then-not-known-clause-numbers t c = more_again c.args.self.now.collector.joins c.collect.new.self.joins c.build_groups.new.self.collector.joins c.collect.ensures.grows.numbers c.build_groups.ensures.numbers

pub build_anew-returns-in_err-keep-clause-numbers : goal.build_anew-returns-in_err-keep-clause-numbers
build_anew-returns-in_err-keep-clause-numbers t c = more_again c.args.self.now.collector.joins c.collect.new.self.joins c.build_groups.new.self.collector.joins c.collect.ensures.grows.numbers c.build_groups.ensures.numbers

pub build_anew-returns-clause-numbers : goal.build_anew-returns-clause-numbers
build_anew-returns-clause-numbers t c = more_again c.args.self.now.collector.joins c.collect.new.self.joins c.build_groups.new.self.collector.joins c.collect.ensures.grows.numbers c.build_groups.ensures.numbers

pub build_node-returns-then-self-eq0-clause-built : goal.build_node-returns-then-self-eq0-clause-built
build_node-returns-then-self-eq0-clause-built t c = λ seen can. past_limit (setting_built c.args.self.now) c.args.of.number (handed_data c.args.handed) (node_seen c.args.self.now (c.args.field.now ∷ c.args.others.now) c.args.below.now) (levels_from c.args.depth) c.args.self.now.left c.if-self-eq0.true

pub build_node-returns-then-depth-gt-LEVEL_LIMIT-clause-built : goal.build_node-returns-then-depth-gt-LEVEL_LIMIT-clause-built
build_node-returns-then-depth-gt-LEVEL_LIMIT-clause-built t c = λ seen can. too_deep_stops (setting_built c.args.self.now) c.args.of.number (handed_data c.args.handed) (node_seen c.args.self.now (c.args.field.now ∷ c.args.others.now) c.args.below.now) c.args.self.now.left c.if-self-eq0.false c.key_of-key.result.now c.key_of-key.ensures (levels_from c.args.depth) (no_levels c.args.depth c.if-depth-gt-LEVEL_LIMIT.true) c.stopped.result c.stopped.ensures

pub build_node-returns-in-Err-clause-built : goal.build_node-returns-in-Err-clause-built
build_node-returns-in-Err-clause-built t c = λ seen can. fault_stops (setting_built c.args.self.now) c.args.of.number (handed_data c.args.handed) (node_seen c.args.self.now (c.args.field.now ∷ c.args.others.now) c.args.below.now) c.args.self.now.left c.if-self-eq0.false c.key_of-key.result.now c.key_of-key.ensures (levels_from c.args.depth) (levels_from (c.args.depth + 1)) (levels_more c.args.depth c.if-depth-gt-LEVEL_LIMIT.false) _ (fault_told c.in-Err.why)
    (subst (λ (pl : Planning). IsThere (fault_told c.in-Err.why) (fault_of (setting_of_planning pl) c.args.of.number (handed_data c.args.handed) (map collected_field (c.args.field.now ∷ c.args.others.now)))) c.planning-planning.ensures (c.in-Err.ensures.looks (seen_before c.args.self.now _ c.args.of.number (handed_data c.args.handed) (map collected_field (c.args.field.now ∷ c.args.others.now)) c.args.looked c.planning-planning.ensures seen) (kept_before c.args.self.now _ c.planning-planning.ensures can.0)))
    c.stopped-in-Err.ensures

pub build_node-returns-in-Ok-build_position-clause-built : goal.build_node-returns-in-Ok-build_position-clause-built
build_node-returns-in-Ok-build_position-clause-built t c = λ seen can.
    let here = below_built c.args.self.now c.push_row.new.self c.build_position.new.self c.args.depth c.args.of.number c.args.first c.args.field.now c.args.others.now (handed_data c.args.handed) c.in-Ok.looked c.types_at-types.result.now c.args.below.now c.in_ok-push_row-in-Ok.ensures.collector (subst (λ (pl : Planning). IsFound (setting_of_planning pl) c.args.of.number (handed_data c.args.handed) (collected_field c.args.field.now).call c.in-Ok.looked) c.planning-planning.ensures (c.in-Ok.ensures.looks (seen_before c.args.self.now _ c.args.of.number (handed_data c.args.handed) (map collected_field (c.args.field.now ∷ c.args.others.now)) c.args.looked c.planning-planning.ensures seen) (kept_before c.args.self.now _ c.planning-planning.ensures can.0)).1)
    (c.types_at-types.ensures ∙ ap (λ (pl : Planning). types_at (setting_of_planning pl).schema c.in-Ok.looked.field) c.planning-planning.ensures) (Ok c.in-Ok-build_position.field-0) (c.in_ok-push_row-in-Ok.ensures.ready (can_still c.args.self.now _ _ c.look_again.new.calls c.planning-planning.ensures c.in-Ok.ensures.kept can.0)) can.1 (c.in-Ok-build_position.ensures.built (objects_at c.args.self.now _ c.push_row.new.self.collector c.in-Ok.looked.field c.types_at-types.result.now c.planning-planning.ensures c.in_ok-push_row-in-Ok.ensures.collector c.types_at-types.ensures)) in (
      below_fine (setting_built c.args.self.now) c.args.of.number (handed_data c.args.handed) (node_seen c.args.self.now (c.args.field.now ∷ c.args.others.now) c.args.below.now) c.args.self.now.left c.if-self-eq0.false c.key_of-key.result.now c.key_of-key.ensures (levels_from c.args.depth) (levels_from (c.args.depth + 1)) c.build_position.new.self.left (levels_more c.args.depth c.if-depth-gt-LEVEL_LIMIT.false) (ap (λ (pl : Planning). fault_of (setting_of_planning pl) c.args.of.number (handed_data c.args.handed) (map collected_field (c.args.field.now ∷ c.args.others.now))) (sym c.planning-planning.ensures) ∙ (c.in-Ok.ensures.looks (seen_before c.args.self.now _ c.args.of.number (handed_data c.args.handed) (map collected_field (c.args.field.now ∷ c.args.others.now)) c.args.looked c.planning-planning.ensures seen) (kept_before c.args.self.now _ c.planning-planning.ensures can.0)).0)
          (ap (λ n. outcome n (below_visits (setting_built c.args.self.now) c.args.of.number (handed_data c.args.handed) (node_seen c.args.self.now (c.args.field.now ∷ c.args.others.now) c.args.below.now) (levels_from (c.args.depth + 1)))) (sym c.in_ok-push_row-in-Ok.ensures.left) ∙ here.0),
      rows_there c.args.self.now c.push_row.new.self c.build_position.new.self c.args.depth c.args.of.number c.args.first c.args.field.now c.args.others.now (handed_data c.args.handed) c.in-Ok.looked c.types_at-types.result.now c.args.below.now c.in_ok-push_row-in-Ok.ensures.collector (subst (λ (pl : Planning). IsFound (setting_of_planning pl) c.args.of.number (handed_data c.args.handed) (collected_field c.args.field.now).call c.in-Ok.looked) c.planning-planning.ensures (c.in-Ok.ensures.looks (seen_before c.args.self.now _ c.args.of.number (handed_data c.args.handed) (map collected_field (c.args.field.now ∷ c.args.others.now)) c.args.looked c.planning-planning.ensures seen) (kept_before c.args.self.now _ c.planning-planning.ensures can.0)).1)
          (c.types_at-types.ensures ∙ ap (λ (pl : Planning). types_at (setting_of_planning pl).schema c.in-Ok.looked.field) c.planning-planning.ensures) c.if-depth-gt-LEVEL_LIMIT.false can.0.plan c.in_ok-push_row-in-Ok.ensures.pushed here.1,
    )

pub build_node-returns-in-Err-build_position-clause-built : goal.build_node-returns-in-Err-build_position-clause-built
build_node-returns-in-Err-build_position-clause-built t c = λ seen can.
    below_stops (setting_built c.args.self.now) c.args.of.number (handed_data c.args.handed) (node_seen c.args.self.now (c.args.field.now ∷ c.args.others.now) c.args.below.now) c.args.self.now.left c.if-self-eq0.false c.key_of-key.result.now c.key_of-key.ensures (levels_from c.args.depth) (levels_from (c.args.depth + 1)) (levels_more c.args.depth c.if-depth-gt-LEVEL_LIMIT.false) (ap (λ (pl : Planning). fault_of (setting_of_planning pl) c.args.of.number (handed_data c.args.handed) (map collected_field (c.args.field.now ∷ c.args.others.now))) (sym c.planning-planning.ensures) ∙ (c.in-Ok.ensures.looks (seen_before c.args.self.now _ c.args.of.number (handed_data c.args.handed) (map collected_field (c.args.field.now ∷ c.args.others.now)) c.args.looked c.planning-planning.ensures seen) (kept_before c.args.self.now _ c.planning-planning.ensures can.0)).0) c.in-Err-build_position.stop c.under.result
    (subst (λ n. IsStop c.in-Err-build_position.stop (outcome n (below_visits (setting_built c.args.self.now) c.args.of.number (handed_data c.args.handed) (node_seen c.args.self.now (c.args.field.now ∷ c.args.others.now) c.args.below.now) (levels_from (c.args.depth + 1))))) c.in_ok-push_row-in-Ok.ensures.left
    (below_built c.args.self.now c.push_row.new.self c.build_position.new.self c.args.depth c.args.of.number c.args.first c.args.field.now c.args.others.now (handed_data c.args.handed) c.in-Ok.looked c.types_at-types.result.now c.args.below.now c.in_ok-push_row-in-Ok.ensures.collector (subst (λ (pl : Planning). IsFound (setting_of_planning pl) c.args.of.number (handed_data c.args.handed) (collected_field c.args.field.now).call c.in-Ok.looked) c.planning-planning.ensures (c.in-Ok.ensures.looks (seen_before c.args.self.now _ c.args.of.number (handed_data c.args.handed) (map collected_field (c.args.field.now ∷ c.args.others.now)) c.args.looked c.planning-planning.ensures seen) (kept_before c.args.self.now _ c.planning-planning.ensures can.0)).1)
    (c.types_at-types.ensures ∙ ap (λ (pl : Planning). types_at (setting_of_planning pl).schema c.in-Ok.looked.field) c.planning-planning.ensures) (Err c.in-Err-build_position.stop) (c.in_ok-push_row-in-Ok.ensures.ready (can_still c.args.self.now _ _ c.look_again.new.calls c.planning-planning.ensures c.in-Ok.ensures.kept can.0)) can.1 (c.in-Err-build_position.ensures.built (objects_at c.args.self.now _ c.push_row.new.self.collector c.in-Ok.looked.field c.types_at-types.result.now c.planning-planning.ensures c.in_ok-push_row-in-Ok.ensures.collector c.types_at-types.ensures))))
    c.under.ensures

pub build_node-returns-in-Err-clause-ready : goal.build_node-returns-in-Err-clause-ready
build_node-returns-in-Err-clause-ready t c = λ can. can_still c.args.self.now _ _ c.look_again.new.calls c.planning-planning.ensures c.in-Err.ensures.kept can

pub build_node-returns-in_err-push_row-in-Ok-clause-ready : goal.build_node-returns-in_err-push_row-in-Ok-clause-ready
build_node-returns-in_err-push_row-in-Ok-clause-ready t c = λ can. c.in_err-push_row-in-Ok.ensures.ready (can_still c.args.self.now _ _ c.look_again.new.calls c.planning-planning.ensures c.in-Ok.ensures.kept can)

pub build_node-returns-in-Ok-build_position-clause-ready : goal.build_node-returns-in-Ok-build_position-clause-ready
build_node-returns-in-Ok-build_position-clause-ready t c = λ can. c.in-Ok-build_position.ensures.ready (c.in_ok-push_row-in-Ok.ensures.ready (can_still c.args.self.now _ _ c.look_again.new.calls c.planning-planning.ensures c.in-Ok.ensures.kept can))

pub build_node-returns-in-Err-build_position-clause-ready : goal.build_node-returns-in-Err-build_position-clause-ready
build_node-returns-in-Err-build_position-clause-ready t c = λ can. c.in-Err-build_position.ensures.ready (c.in_ok-push_row-in-Ok.ensures.ready (can_still c.args.self.now _ _ c.look_again.new.calls c.planning-planning.ensures c.in-Ok.ensures.kept can))

pub build_anew-returns-in_err-groups-clause-ready : goal.build_anew-returns-in_err-groups-clause-ready
build_anew-returns-in_err-groups-clause-ready t c = λ can. (can_after c.args.self.now c.collect.new.self c.collect.ensures.grows.planning c.collect.ensures.grows.written c.collect.ensures.grows.numbers c.collect.ensures.grows.ready) can

pub build_anew-returns-in-Err-clause-ready : goal.build_anew-returns-in-Err-clause-ready
build_anew-returns-in-Err-clause-ready t c = λ can. c.build_groups.ensures.ready ((can_after c.args.self.now c.collect.new.self c.collect.ensures.grows.planning c.collect.ensures.grows.written c.collect.ensures.grows.numbers c.collect.ensures.grows.ready) can)

pub build_anew-returns-then-not-known-clause-ready : goal.build_anew-returns-then-not-known-clause-ready
build_anew-returns-then-not-known-clause-ready t c = λ can. c.build_groups.ensures.ready ((can_after c.args.self.now c.collect.new.self c.collect.ensures.grows.planning c.collect.ensures.grows.written c.collect.ensures.grows.numbers c.collect.ensures.grows.ready) can)

pub build_anew-returns-in_err-keep-clause-ready : goal.build_anew-returns-in_err-keep-clause-ready
build_anew-returns-in_err-keep-clause-ready t c = λ can.
    let after = c.build_groups.ensures.ready ((can_after c.args.self.now c.collect.new.self c.collect.ensures.grows.planning c.collect.ensures.grows.written c.collect.ensures.grows.numbers c.collect.ensures.grows.ready) can) in record {
      collector = after.collector;
      plan = after.plan;
      calls = kept_still c.build_groups.new.self _ c.keep.new.calls c.planning-planning.ensures c.keep.ensures.kept after;
      known = c.keep.ensures.known c.build_groups.new.self.collector (sym c.planning-planning.ensures) (kept_before c.build_groups.new.self _ c.planning-planning.ensures after)
          (subst (λ (gs : List Group). MayBeKnown c.build_groups.new.self.collector c.args.of.number c.args.lists.now (name_in c.spread_alone-spread.result) gs) (sym c.as_slice-2.ensures.value)
          (built_known c.args.self.now (record { collector = c.collect.new.self; plan = c.args.self.now.plan; left = c.args.self.now.left; calls = c.args.self.now.calls; keys = c.args.self.now.keys; known = c.args.self.now.known }) c.build_groups.new.self (frames c.args.self.now c.collect.new.self c.collect.ensures.grows.planning c.collect.ensures.grows.written) c.build_groups.ensures.frame c.collect.ensures.grows.numbers c.build_groups.ensures.numbers can ((can_after c.args.self.now c.collect.new.self c.collect.ensures.grows.planning c.collect.ensures.grows.written c.collect.ensures.grows.numbers c.collect.ensures.grows.ready) can)
          c.args.depth c.args.of.number c.args.lists.now (handed_data c.args.handed) (name_in c.spread_alone-spread.result) c.in_ok-groups.groups.items c.in-Ok.field-0 (c.knows-known.ensures c.if-not-known.false)
          (told_by_name (SpreadsAlone c.args.self.now.collector c.args.lists.now) c.spread_alone-spread.result c.spread_alone-spread.ensures) c.in_ok-groups.ensures.gives
          (subst (λ (gs : List Group). BuildsGroups (record { collector = c.collect.new.self; plan = c.args.self.now.plan; left = c.args.self.now.left; calls = c.args.self.now.calls; keys = c.args.self.now.keys; known = c.args.self.now.known }) c.args.depth (Ok c.in-Ok.field-0) c.build_groups.new.self c.args.of.number gs [] (handed_data c.args.handed)) c.as_slice.ensures.value c.in-Ok.ensures.built)))
          after.known;
    }

pub build_anew-returns-clause-ready : goal.build_anew-returns-clause-ready
build_anew-returns-clause-ready t c = λ can.
    let after = c.build_groups.ensures.ready ((can_after c.args.self.now c.collect.new.self c.collect.ensures.grows.planning c.collect.ensures.grows.written c.collect.ensures.grows.numbers c.collect.ensures.grows.ready) can) in record {
      collector = after.collector;
      plan = after.plan;
      calls = kept_still c.build_groups.new.self _ c.keep.new.calls c.planning-planning.ensures c.keep.ensures.kept after;
      known = c.keep.ensures.known c.build_groups.new.self.collector (sym c.planning-planning.ensures) (kept_before c.build_groups.new.self _ c.planning-planning.ensures after)
          (subst (λ (gs : List Group). MayBeKnown c.build_groups.new.self.collector c.args.of.number c.args.lists.now (name_in c.spread_alone-spread.result) gs) (sym c.as_slice-2.ensures.value)
          (built_known c.args.self.now (record { collector = c.collect.new.self; plan = c.args.self.now.plan; left = c.args.self.now.left; calls = c.args.self.now.calls; keys = c.args.self.now.keys; known = c.args.self.now.known }) c.build_groups.new.self (frames c.args.self.now c.collect.new.self c.collect.ensures.grows.planning c.collect.ensures.grows.written) c.build_groups.ensures.frame c.collect.ensures.grows.numbers c.build_groups.ensures.numbers can ((can_after c.args.self.now c.collect.new.self c.collect.ensures.grows.planning c.collect.ensures.grows.written c.collect.ensures.grows.numbers c.collect.ensures.grows.ready) can)
          c.args.depth c.args.of.number c.args.lists.now (handed_data c.args.handed) (name_in c.spread_alone-spread.result) c.in_ok-groups.groups.items c.in-Ok.field-0 (c.knows-known.ensures c.if-not-known.false)
          (told_by_name (SpreadsAlone c.args.self.now.collector c.args.lists.now) c.spread_alone-spread.result c.spread_alone-spread.ensures) c.in_ok-groups.ensures.gives
          (subst (λ (gs : List Group). BuildsGroups (record { collector = c.collect.new.self; plan = c.args.self.now.plan; left = c.args.self.now.left; calls = c.args.self.now.calls; keys = c.args.self.now.keys; known = c.args.self.now.known }) c.args.depth (Ok c.in-Ok.field-0) c.build_groups.new.self c.args.of.number gs [] (handed_data c.args.handed)) c.as_slice.ensures.value c.in-Ok.ensures.built)))
          after.known;
    }

pub build_node-returns-in_err-push_row-in-Ok-clause-numbers : goal.build_node-returns-in_err-push_row-in-Ok-clause-numbers
build_node-returns-in_err-push_row-in-Ok-clause-numbers t c = subst (λ (k : Collector). HasMore c.args.self.now.collector.joins k.joins) (sym c.in_err-push_row-in-Ok.ensures.collector) (more_itself c.args.self.now.collector.joins)

pub build_node-returns-in-Ok-build_position-clause-numbers : goal.build_node-returns-in-Ok-build_position-clause-numbers
build_node-returns-in-Ok-build_position-clause-numbers t c = subst (λ (k : Collector). HasMore k.joins c.build_position.new.self.collector.joins) c.in_ok-push_row-in-Ok.ensures.collector c.in-Ok-build_position.ensures.numbers

pub build_node-returns-in-Err-build_position-clause-numbers : goal.build_node-returns-in-Err-build_position-clause-numbers
build_node-returns-in-Err-build_position-clause-numbers t c = subst (λ (k : Collector). HasMore k.joins c.build_position.new.self.collector.joins) c.in_ok-push_row-in-Ok.ensures.collector c.in-Err-build_position.ensures.numbers
