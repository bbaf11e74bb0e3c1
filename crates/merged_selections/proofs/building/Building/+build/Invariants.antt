use Rattle.std.proofs.Common.{◌≡◌, ◌+◌, ◌*◌, ◌++◌, true, drop, map, All}
use Rattle.schema_model.specs.Numbers.{type_number}
use Rattle.plan_model.specs.Visits.{visits}
use Rattle.plan_table.specs.Tables.{table_rows}
use Rattle.collected_fields.specs.Gathering.{groups_seen}
use Rattle.collected_fields.specs.Lists.{HasMore}
use Rattle.merged_selections.specs.NodeParts.{handed_data}
use Rattle.merged_selections.specs.Again.{AreLooked}
use Rattle.merged_selections.specs.Outcomes.{outcome}
use Rattle.merged_selections.specs.Stages.{levels_from, types_rows, groups_visits, groups_rows, frame, setting_built, position_built, CanBuild, CanBuildAt, CanBuildGroup}
use Rattle.merged_selections.proofs.building.Building.+build.Given as goal

abbrev pub decreases-build_position : goal.decreases-build_position
decreases-build_position l = 7 * levels_from l.depth + 6

abbrev pub decreases-build_types : goal.decreases-build_types
decreases-build_types l = 7 * levels_from l.depth + 5

abbrev pub decreases-build_type : goal.decreases-build_type
decreases-build_type l = 7 * levels_from l.depth + 4

abbrev pub decreases-build_anew : goal.decreases-build_anew
decreases-build_anew l = 7 * levels_from l.depth + 3

abbrev pub decreases-build_groups : goal.decreases-build_groups
decreases-build_groups l = 7 * levels_from l.depth + 2

abbrev pub decreases-build_group : goal.decreases-build_group
decreases-build_group l = 7 * levels_from l.depth + 1

abbrev pub decreases-build_node : goal.decreases-build_node
decreases-build_node l = 7 * levels_from l.depth

abbrev pub invariant-build_types-types : goal.invariant-build_types-types
invariant-build_types-types l = (frame l.self ≡ frame l.fn.self) × HasMore l.fn.self.collector.joins l.self.collector.joins × (CanBuild l.fn.self → CanBuild l.self)
    × (CanBuildAt l.fn.self l.lists
    → (outcome l.fn.self.left (visits (setting_built l.fn.self) (levels_from l.depth) (map type_number l.types) (position_built l.fn.self l.lists (handed_data l.handed))) ≡ outcome l.self.left (visits (setting_built l.fn.self) (levels_from l.depth) (map type_number (drop l.of-index l.types)) (position_built l.fn.self l.lists (handed_data l.handed))))
    × (table_rows l.self.plan ++ types_rows (setting_built l.fn.self) (levels_from l.depth) l.depth (position_built l.fn.self l.lists (handed_data l.handed)) (map type_number (drop l.of-index l.types)) ≡ table_rows l.fn.self.plan ++ types_rows (setting_built l.fn.self) (levels_from l.depth) l.depth (position_built l.fn.self l.lists (handed_data l.handed)) (map type_number l.types)))

abbrev pub invariant-build_groups-groups : goal.invariant-build_groups-groups
invariant-build_groups-groups l = (frame l.self ≡ frame l.fn.self) × HasMore l.fn.self.collector.joins l.self.collector.joins × (CanBuild l.fn.self → CanBuild l.self)
    × (l.at ≡ l.group-index)
    × (AreLooked (setting_built l.fn.self) l.of.number (handed_data l.handed) l.groups l.looked → CanBuild l.fn.self × All (CanBuildGroup l.fn.self) l.groups
    → (outcome l.fn.self.left (groups_visits (setting_built l.fn.self) l.of.number (handed_data l.handed) (levels_from l.depth) (groups_seen l.fn.self.collector l.groups)) ≡ outcome l.self.left (groups_visits (setting_built l.fn.self) l.of.number (handed_data l.handed) (levels_from l.depth) (groups_seen l.fn.self.collector (drop l.group-index l.groups))))
    × (table_rows l.self.plan ++ groups_rows (setting_built l.fn.self) l.of.number (handed_data l.handed) (levels_from l.depth) l.depth l.first (groups_seen l.fn.self.collector (drop l.group-index l.groups)) ≡ table_rows l.fn.self.plan ++ groups_rows (setting_built l.fn.self) l.of.number (handed_data l.handed) (levels_from l.depth) l.depth true (groups_seen l.fn.self.collector l.groups)))
