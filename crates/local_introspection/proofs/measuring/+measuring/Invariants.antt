-- What was measured and what is left give the whole. Each step goes down in the nodes.
use Rattle.std.proofs.Common.{◌+◌, ◌*◌, drop, map}
use denote.Text.{Utf8}
use denote.Shadow.{shadow}
use Rattle.meta_schema.specs.PassedOn.{asked_nodes, asked_node, asked_depth}
use Rattle.schema_facts.specs.FactsViews.{facts_data}
use Rattle.schema_facts.specs.Things.{thing_data}
use Rattle.local_introspection.proofs.MeasureSteps.{EntriesGoOn, ThingsGoOn}
use Rattle.local_introspection.proofs.measuring.+measuring.Given as goal

abbrev pub invariant-measure_entries-nodes : goal.invariant-measure_entries-nodes
invariant-measure_entries-nodes l = shadow (Utf8 l.front)
    × EntriesGoOn (facts_data l.facts) (thing_data l.thing) l.initial.room l.room l.front (asked_nodes (drop l.node-index l.nodes)) (asked_nodes l.nodes)

abbrev pub invariant-measure_things-things : goal.invariant-measure_things-things
invariant-measure_things-things l = shadow (Utf8 l.front)
    × ThingsGoOn (facts_data l.facts) (asked_nodes l.nodes) l.initial.room l.room l.front (map thing_data (drop l.thing-index l.things)) (map thing_data l.things)

abbrev pub decreases-measure_thing : goal.decreases-measure_thing
decreases-measure_thing l = 10 * asked_depth (asked_nodes l.nodes.now) + 7

abbrev pub decreases-measure_entries : goal.decreases-measure_entries
decreases-measure_entries l = 10 * asked_depth (asked_nodes l.nodes.now) + 6

abbrev pub decreases-measure_entry : goal.decreases-measure_entry
decreases-measure_entry l = 10 * asked_depth (asked_node l.node.now).below + 15

abbrev pub decreases-measure_held : goal.decreases-measure_held
decreases-measure_held l = 10 * asked_depth (asked_nodes l.nodes.now) + 9

abbrev pub decreases-measure_things : goal.decreases-measure_things
decreases-measure_things l = 10 * asked_depth (asked_nodes l.nodes.now) + 8
