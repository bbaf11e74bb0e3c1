-- What is visited and which rows are made while a plan is built: at a position, for a type, for the fields of one key.
use Rattle.std.specs.Prelude.{◌≡◌, ◌<◌, ℕ, length, Bool, true, List, [], ◌∷◌, ◌++◌, map, flat_map, All, IfSome, Option, None, Result, Ok, Err}
use Rattle.std.specs.List.{list_any}
use Rattle.input_values.specs.declared.inputs.shape.TypeId.{TypeId}
use Rattle.schema_model.specs.declared.schema.Schema.{Schema}
use Rattle.cost_directives.specs.declared.weights.Weights.{Weights}
use Rattle.schema_model.specs.Numbers.{type_number}
use Rattle.plan_model.specs.SelectedFields.{Setting, HandedSize, form_of, place_of, meaning_weight}
use Rattle.plan_model.specs.Collecting.{CollectedField, WrittenSelections}
use Rattle.plan_model.specs.Merging.{Position, first_call, asks}
use Rattle.plan_model.specs.MergingWalk.{IsAcyclic}
use Rattle.plan_model.specs.Plans.{type_weight}
use Rattle.plan_model.specs.Visits.{Visit, visits}
use Rattle.collected_fields.specs.declared.planning.Planning.{Planning}
use Rattle.collected_fields.specs.declared.collected.Collected.{Collected}
use Rattle.collected_fields.specs.declared.collected.Group.{Group}
use Rattle.collected_fields.specs.Views.{collected_field}
use Rattle.collected_fields.specs.Groups.{GroupData}
use Rattle.collected_fields.specs.Gathering.{IsReady, planning_of, setting_at, written_at, meaning_at, IsNumber, group_seen, groups_seen}
use Rattle.plan_table.specs.ListSizes.{size_from}
use Rattle.plan_table.specs.Rows.{Row}
use Rattle.plan_table.specs.Tables.{setting_without_values, meaning_of, below_at, setting_in, table_rows}
use Rattle.merged_selections.specs.declared.node.Looked.{Looked}
use Rattle.merged_selections.specs.declared.stop.Stop.{Stop}
use Rattle.merged_selections.specs.declared.building.Building.{Building}
use Rattle.merged_selections.specs.NodeTests.{AreKept, IsLookedAt}
use Rattle.merged_selections.specs.Outcomes.{has_left, outcome, IsStop}
pub use Rattle.merged_selections.specs.Nodes.{levels_from, key_seen, type_visits, planned_below, type_rows, types_planned, types_rows, group_position, node_visits, planned_for_node, node_row, node_rows, groups_visits, groups_rows}
use Rattle.merged_selections.specs.Again.{AreLooked, AreKnown}

-- ---- what stays the same while a plan is built

abbrev pub Frame : Type 0
Frame = Planning × (ℕ → WrittenSelections) × Setting × ℕ × Schema × Weights

abbrev pub frame : Building → Frame
frame b = (planning_of b.collector, written_at b.collector, setting_in b.plan, b.plan.root.number, b.plan.schema.now, b.plan.weights.now)

abbrev pub setting_built : Building → Setting
setting_built b = setting_at b.collector

-- the position of selection sets, and lists of them, by their numbers
abbrev pub position_built : Building → List ℕ → HandedSize → Position
position_built b lists handed = record { selections = flat_map (meaning_at b.collector) lists; handed = handed }

-- fields of one key, with the numbers of what stands below them
abbrev pub node_seen : Building → List Collected → List ℕ → GroupData
node_seen b fields below = record { fields = map collected_field fields; below = flat_map (meaning_at b.collector) below }

-- The collector may be asked, the plan is of the same schema and weights, the calls are what was made of them, and so are the groups
-- that are known.
pub record CanBuild (b : Building) : Type 0 where
  pub collector : IsReady b.collector
  pub plan : setting_in b.plan ≡ setting_without_values (setting_built b).schema (setting_built b).weights
  pub calls : AreKept (setting_built b) b.calls
  pub known : AreKnown b.collector b.known

-- The numbers are those of the collector, and their selections are acyclic.
abbrev pub CanBuildAt : Building → List ℕ → Type 0
CanBuildAt b lists = CanBuild b × (All (IsNumber b.collector) lists × IsAcyclic (setting_built b) (position_built b lists None))

-- the same of what stands below the fields of a group, which has one
pub record CanBuildGroup (b : Building) (g : Group) : Type 0 where
  pub filled : 0 < length g.fields.items
  pub below : All (IsNumber b.collector) g.below.items × IsAcyclic (setting_built b) (position_built b g.below.items None)

-- These are visited, and where none is at fault these rows are added.
abbrev pub BuildsRows : Result (Unit {0}) Stop → Building → Building → List Visit → List Row → Type 0
BuildsRows (Ok done) old new vs rows = (outcome old.left vs ≡ has_left new.left) × (table_rows new.plan ≡ table_rows old.plan ++ rows)
BuildsRows (Err stop) old new vs rows = IsStop stop (outcome old.left vs)

-- the row of a node of which this was found
abbrev pub row_looked : Setting → ℕ → ℕ → Bool → List CollectedField → Looked → Row
row_looked e depth T first fields looked = record {
  depth = depth;
  type = T;
  weight = type_weight e T;
  first = first;
  selected = record {
    key = key_seen fields;
    field = (first_call fields).name;
    asked = list_any (asks e) fields;
    form = form_of e.schema (meaning_of looked.field);
    size = size_from looked.source;
    weight = meaning_weight e (meaning_of looked.field);
    arguments = looked.arguments;
  };
  below = below_at e (place_of e T (meaning_of looked.field));
}

-- ---- what the calls say

module _ (old : Building) (depth : ℕ) (result : Result (Unit {0}) Stop) (new : Building) where
  abbrev pub BuildsTypes : List TypeId → List ℕ → HandedSize → Type 0
  BuildsTypes types lists handed =
      CanBuildAt old lists → BuildsRows result old new (visits (setting_built old) (levels_from depth) (map type_number types) (position_built old lists handed)) (types_rows (setting_built old) (levels_from depth) depth (position_built old lists handed) (map type_number types))

  abbrev pub BuildsType : ℕ → List ℕ → HandedSize → Type 0
  BuildsType T lists handed =
      CanBuildAt old lists → BuildsRows result old new (type_visits (setting_built old) (levels_from depth) (position_built old lists handed) T) (type_rows (setting_built old) (levels_from depth) depth (position_built old lists handed) T)

  abbrev pub BuildsGroups : ℕ → List Group → List Looked → HandedSize → Type 0
  BuildsGroups T groups looked handed =
      AreLooked (setting_built old) T handed groups looked → CanBuild old × All (CanBuildGroup old) groups → BuildsRows result old new (groups_visits (setting_built old) T handed (levels_from depth) (groups_seen old.collector groups)) (groups_rows (setting_built old) T handed (levels_from depth) depth true (groups_seen old.collector groups))

  abbrev pub BuildsNode : ℕ → Bool → List Collected → List ℕ → Option Looked → HandedSize → Type 0
  BuildsNode T first fields below looked handed =
      IfSome looked (IsLookedAt (setting_built old) T handed (map collected_field fields)) → CanBuildAt old below → BuildsRows result old new (node_visits (setting_built old) T handed (levels_from depth) (node_seen old fields below)) (node_rows (setting_built old) T handed (levels_from depth) depth first (node_seen old fields below))

  abbrev pub BuildsGroup : ℕ → Bool → Group → Option Looked → HandedSize → Type 0
  BuildsGroup T first g looked handed =
      IfSome looked (IsLookedAt (setting_built old) T handed (map collected_field g.fields.items)) → CanBuild old × CanBuildGroup old g → BuildsRows result old new (node_visits (setting_built old) T handed (levels_from depth) (group_seen old.collector g)) (node_rows (setting_built old) T handed (levels_from depth) depth first (group_seen old.collector g))

-- The row of a node is added, of which this was found.
abbrev pub PushesRow : Building → ℕ → ℕ → Bool → List Collected → Looked → {E : Type 0} → Result (Unit {0}) E → Building → Type 0
PushesRow old depth T first fields looked (Err none) new = Unit {0}
PushesRow old depth T first fields looked (Ok done) new =
    table_rows new.plan ≡ table_rows old.plan ++ (row_looked (setting_in old.plan) depth T first (map collected_field fields) looked ∷ [])
