use Rattle.std.proofs.Common.{sym, ap, ◌∙◌, Option}
use Rattle.std.specs.Prelude.{option_map}
use Rattle.gql_base.specs.names.Names.{place_of_name}
use Rattle.input_values.specs.declared.inputs.shape.TypeId.{TypeId}
use Rattle.schema_model.specs.Numbers.{type_number}
use Rattle.plan_model.specs.SelectedFields.{place_at, arguments_at, if_coerced}
use Rattle.collected_fields.specs.declared.planning.Planning.{Planning}
use Rattle.collected_fields.specs.Views.{setting_of_planning, collected_field}
use Rattle.collected_fields.specs.Gathering.{setting_at, position_at}
use Rattle.collected_fields.proofs.ListLaws.{more_again}
use Rattle.asked_fields.specs.Arguments.{argument_kept}
use Rattle.asked_fields.specs.AskedNodes.{asked_nodes}
use Rattle.asked_fields.specs.Asking.{first_type, asked_below}
use Rattle.asked_fields.proofs.Made.{node_made}
use Rattle.asked_fields.proofs.Steps.{type_found, groups_go, groups_end, node_found, none_left, none_there, some_there, frames}
use Rattle.asked_fields.proofs.asking.+ask.Goals as goal

pub ask_type-returns-clause-asked : goal.ask_type-returns-clause-asked
ask_type-returns-clause-asked g t c = λ ready can.
    type_found (place_of_name g.N.Named.name_of c.args.names.now.items.items) c.args.collector.now c.args.levels c.args.of.number c.collect.new.self (frames c.args.collector.now c.collect.new.self c.collect.ensures.grows.planning c.collect.ensures.grows.written) c.args.lists.now c.in_ok-groups.groups.items c.as_slice.result.now c.in_ok-nodes.nodes.items
    c.as_slice.ensures.value c.in_ok-groups.ensures.gives ready can (c.in_ok-nodes.ensures.asked (c.collect.ensures.grows.ready ready))

pub ask_groups-groups-preserved : goal.ask_groups-groups-preserved
ask_groups-groups-preserved g t c = (
  c.in_ok-ask_group.ensures.frame ∙ c.groups.invariant.0,
  more_again c.args.collector.now.joins c.groups.collector.joins c.ask_group.new.collector.joins c.groups.invariant.1 c.in_ok-ask_group.ensures.numbers,
  λ ready. c.in_ok-ask_group.ensures.ready (c.groups.invariant.2 ready),
  λ ready. groups_go (place_of_name g.N.Named.name_of c.args.names.now.items.items) c.args.collector.now c.args.levels c.args.of.number c.args.groups.now c.groups.group-index c.groups.nodes.items (c.groups.invariant.3 ready) c.group-item.result c.groups-test.true c.group-item.is c.groups.collector c.ask_group.new.nodes.items c.groups.invariant.0 c.groups.invariant.1
      (c.in_ok-ask_group.ensures.asked (c.groups.invariant.2 ready)),
)

pub ask_groups-returns-in_err-ask_group-clause-numbers : goal.ask_groups-returns-in_err-ask_group-clause-numbers
ask_groups-returns-in_err-ask_group-clause-numbers g t c = more_again c.args.collector.now.joins c.groups.collector.joins c.ask_group.new.collector.joins c.groups.invariant.1 c.ask_group.ensures.numbers

pub ask_groups-returns-clause-asked : goal.ask_groups-returns-clause-asked
ask_groups-returns-clause-asked g t c = λ ready.
    groups_end (place_of_name g.N.Named.name_of c.args.names.now.items.items) c.args.collector.now c.args.levels c.args.of.number c.args.groups.now c.groups.group-index c.groups.nodes.items (c.groups.invariant.3 ready) c.groups-test.false

pub ask_node-returns-clause-asked : goal.ask_node-returns-clause-asked
ask_node-returns-clause-asked g t c = λ ready can.
    let place = place_of_name g.N.Named.name_of c.args.names.now.items.items in
    let call = (collected_field c.args.first.now).call in
    node_made c.in_ok-key.key c.in_ok-name.name c.in_ok-argument.argument c.in_ok-asked.asked
    ∙ node_found place c.args.collector.now c.args.levels c.args.of.number c.args.first.now c.args.below.now (option_map type_number c.type_below-stands.result) c.in_ok-key.key c.in_ok-name.name c.in_ok-argument.argument (asked_nodes c.in_ok-asked.asked.items)
    (c.in_ok-key.ensures ∙ c.key_of.ensures) (c.in_ok-name.ensures ∙ c.name_of.ensures)
    (c.in_ok-argument.ensures ∙ ap (λ (pl : Planning). argument_kept place (if_coerced (arguments_at (setting_of_planning pl) c.args.of.number call))) c.planning-planning.ensures)
    (c.type_below-stands.ensures ∙ ap (λ (pl : Planning). first_type (place_at (setting_of_planning pl) c.args.of.number call)) c.planning-planning.ensures)
    (c.in_ok-asked.ensures.asked ready can)

pub ask_below-returns-then-levels-eq0-clause-asked : goal.ask_below-returns-then-levels-eq0-clause-asked
ask_below-returns-then-levels-eq0-clause-asked g t c = λ ready can.
    ap asked_nodes c.new.ensures.items ∙ none_left (place_of_name g.N.Named.name_of c.args.names.now.items.items) (setting_at c.args.collector.now) (position_at c.args.collector.now c.args.lists.now) c.args.levels (option_map type_number c.args.of) c.if-levels-eq0.true

pub ask_below-returns-in_ok-nodes-in-Some-clause-asked : goal.ask_below-returns-in_ok-nodes-in-Some-clause-asked
ask_below-returns-in_ok-nodes-in-Some-clause-asked g t c = λ ready can.
    c.in_ok-nodes-in-Some.ensures.asked ready can
    ∙ some_there (place_of_name g.N.Named.name_of c.args.names.now.items.items) (setting_at c.args.collector.now) (position_at c.args.collector.now c.args.lists.now) c.args.levels c.in-Some.of.number c.if-levels-eq0.false
    ∙ ap (λ (o : Option TypeId). asked_below (place_of_name g.N.Named.name_of c.args.names.now.items.items) (setting_at c.args.collector.now) c.args.levels (option_map type_number o) (position_at c.args.collector.now c.args.lists.now)) (sym c.in-Some.is)

pub ask_below-returns-in-None-clause-asked : goal.ask_below-returns-in-None-clause-asked
ask_below-returns-in-None-clause-asked g t c = λ ready can.
    ap asked_nodes c.new-in-None.ensures.items ∙ none_there (place_of_name g.N.Named.name_of c.args.names.now.items.items) (setting_at c.args.collector.now) (position_at c.args.collector.now c.args.lists.now) c.args.levels
    ∙ ap (λ (o : Option TypeId). asked_below (place_of_name g.N.Named.name_of c.args.names.now.items.items) (setting_at c.args.collector.now) c.args.levels (option_map type_number o) (position_at c.args.collector.now c.args.lists.now)) (sym c.in-None.is)
