use Rattle.std.proofs.Common.{◌≡◌, ◌+◌, ◌*◌, ◌++◌, drop, map, All}
use Rattle.gql_base.specs.names.Names.{place_of_name}
use Rattle.collected_fields.specs.Lists.{HasMore}
use Rattle.collected_fields.specs.Gathering.{IsReady, setting_at, groups_seen}
use Rattle.asked_fields.specs.AskedNodes.{asked_node}
use Rattle.asked_fields.specs.Asking.{asked_by, frame, CanAskGroup}
use Rattle.asked_fields.proofs.asking.+ask.Given as goal

abbrev pub decreases-ask_type : goal.decreases-ask_type
decreases-ask_type g l = 5 * l.levels + 4

abbrev pub decreases-ask_groups : goal.decreases-ask_groups
decreases-ask_groups g l = 5 * l.levels + 3

abbrev pub decreases-ask_group : goal.decreases-ask_group
decreases-ask_group g l = 5 * l.levels + 2

abbrev pub decreases-ask_node : goal.decreases-ask_node
decreases-ask_node g l = 5 * l.levels + 1

abbrev pub decreases-ask_below : goal.decreases-ask_below
decreases-ask_below g l = 5 * l.levels

abbrev pub invariant-ask_groups-groups : goal.invariant-ask_groups-groups
invariant-ask_groups-groups g l = (frame l.collector ≡ frame l.fn.collector) × HasMore l.fn.collector.joins l.collector.joins × (IsReady l.fn.collector → IsReady l.collector)
    × (IsReady l.fn.collector → All (CanAskGroup l.fn.collector) l.groups
    → map asked_node l.nodes.items ++ map (asked_by (place_of_name g.N.Named.name_of l.names.items.items) (setting_at l.fn.collector) l.levels l.of.number) (groups_seen l.fn.collector (drop l.group-index l.groups))
    ≡ map (asked_by (place_of_name g.N.Named.name_of l.names.items.items) (setting_at l.fn.collector) l.levels l.of.number) (groups_seen l.fn.collector l.groups))
