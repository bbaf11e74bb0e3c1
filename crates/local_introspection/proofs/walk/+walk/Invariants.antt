-- What was written and what is left give the whole. Each step goes down in the nodes.
use Rattle.std.proofs.Common.{◌+◌, ◌*◌, drop, map, string_bytes}
use denote.Text.{Utf8}
use denote.Shadow.{shadow}
use Rattle.meta_schema.specs.PassedOn.{asked_nodes, asked_node, asked_depth}
use Rattle.schema_facts.specs.FactsViews.{facts_data}
use Rattle.schema_facts.specs.Things.{thing_data}
use Rattle.local_introspection.proofs.WalkSteps.{EntriesGoOn, ThingsGoOn}
use Rattle.local_introspection.proofs.walk.+walk.Given as goal

abbrev pub invariant-write_entries-nodes : goal.invariant-write_entries-nodes
invariant-write_entries-nodes l = shadow (Utf8 l.front)
    × EntriesGoOn (facts_data l.facts) (thing_data l.thing) (string_bytes l.initial.into) (string_bytes l.into) l.front (asked_nodes (drop l.node-index l.nodes)) (asked_nodes l.nodes)

abbrev pub invariant-write_things-things : goal.invariant-write_things-things
invariant-write_things-things l = shadow (Utf8 l.front)
    × ThingsGoOn (facts_data l.facts) (asked_nodes l.nodes) (string_bytes l.initial.into) (string_bytes l.into) l.front (map thing_data (drop l.thing-index l.things)) (map thing_data l.things)

abbrev pub decreases-write_thing : goal.decreases-write_thing
decreases-write_thing l = 10 * asked_depth (asked_nodes l.nodes.now) + 7

abbrev pub decreases-write_entries : goal.decreases-write_entries
decreases-write_entries l = 10 * asked_depth (asked_nodes l.nodes.now) + 6

abbrev pub decreases-write_entry : goal.decreases-write_entry
decreases-write_entry l = 10 * asked_depth (asked_node l.node.now).below + 15

abbrev pub decreases-write_held : goal.decreases-write_held
decreases-write_held l = 10 * asked_depth (asked_nodes l.nodes.now) + 9

abbrev pub decreases-write_things : goal.decreases-write_things
decreases-write_things l = 10 * asked_depth (asked_nodes l.nodes.now) + 8
