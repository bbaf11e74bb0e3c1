-- What was counted and what is left give the whole. Each step goes down in the nodes.
use Rattle.std.proofs.Common.{◌+◌, ◌*◌, drop, map}
use Rattle.meta_schema.specs.PassedOn.{asked_nodes, asked_node, asked_depth}
use Rattle.schema_facts.specs.FactsViews.{facts_data}
use Rattle.schema_facts.specs.Things.{thing_data}
use Rattle.local_introspection.proofs.CountSteps.{EntriesGoOn, ThingsGoOn}
use Rattle.local_introspection.proofs.counting.+counting.Given as goal

abbrev pub invariant-count_entries-nodes : goal.invariant-count_entries-nodes
invariant-count_entries-nodes l = EntriesGoOn (facts_data l.facts) (thing_data l.thing) l.initial.left l.left l.cost (asked_nodes (drop l.node-index l.nodes)) (asked_nodes l.nodes)

abbrev pub invariant-count_things-things : goal.invariant-count_things-things
invariant-count_things-things l = ThingsGoOn (facts_data l.facts) (asked_nodes l.nodes) l.initial.left l.left l.cost (map thing_data (drop l.thing-index l.things)) (map thing_data l.things)

abbrev pub decreases-count_thing : goal.decreases-count_thing
decreases-count_thing l = 10 * asked_depth (asked_nodes l.nodes.now) + 7

abbrev pub decreases-count_entries : goal.decreases-count_entries
decreases-count_entries l = 10 * asked_depth (asked_nodes l.nodes.now) + 6

abbrev pub decreases-count_entry : goal.decreases-count_entry
decreases-count_entry l = 10 * asked_depth (asked_node l.node.now).below + 15

abbrev pub decreases-count_held : goal.decreases-count_held
decreases-count_held l = 10 * asked_depth (asked_nodes l.nodes.now) + 9

abbrev pub decreases-count_things : goal.decreases-count_things
decreases-count_things l = 10 * asked_depth (asked_nodes l.nodes.now) + 8
