-- The fields that are collected at a position, as groups of one response key.
use Rattle.std.specs.Prelude.{◌≡◌, ◌<◌, ℕ, Bool, false, List, [], ◌∷◌, map, flat_map, filter, get_or, length, Option, Some, None, All, option_map, Vec}
use Rattle.std.specs.declared.alloc.Global.{Global}
use Rattle.document_reader.specs.Documents.{no_selection}
use Rattle.document_reader.specs.Trees.{set_tree}
use Rattle.input_values.specs.declared.inputs.shape.TypeId.{TypeId}
use Rattle.schema_model.specs.Numbers.{type_number}
use Rattle.plan_model.specs.SelectedFields.{Setting}
use Rattle.plan_model.specs.Collecting.{CollectedField, WrittenSelections}
use Rattle.plan_model.specs.Merging.{Position, fields_at, keys_of}
use Rattle.plan_model.specs.Repeats.{LeavesOutRepeats}
use Rattle.plan_model.specs.MergingWalk.{IsAcyclic}
use Rattle.collected_fields.specs.declared.planning.Planning.{Planning}
use Rattle.collected_fields.specs.declared.collected.Group.{Group}
use Rattle.collected_fields.specs.declared.collector.Collector.{Collector}
use Rattle.collected_fields.specs.declared.tables.SelectionList.{SelectionList}
use Rattle.collected_fields.specs.Prepared.{list_data, entry_data, AreSound}
use Rattle.collected_fields.specs.Views.{setting_of_planning, collected_field}
use Rattle.collected_fields.specs.Walks.{NumberedField, numbered_by_key, found_in}
use Rattle.collected_fields.specs.Serving.{ComeTo}
use Rattle.collected_fields.specs.Reached.{IsObjectType}
use Rattle.collected_fields.specs.Reaching.{AreAllReached}
use Rattle.collected_fields.specs.Lists.{sets_in_joins, IsNumberIn, HasMore, HasNothing}
use Rattle.collected_fields.specs.Groups.{GroupData, AreGroupsOf}

-- The groups are those of the fields of a position for objects of the type T, where repeats are left out, in the order in which
-- the keys first stand.
pub record Gathers (e : Setting) (T : ℕ) (p : Position) (groups : List GroupData) : Type 0 where
  pub fields : List CollectedField
  pub repeats : LeavesOutRepeats (fields_at e T p) fields
  pub grouped : AreGroupsOf e fields (keys_of fields) groups

-- ---- the selection sets of a collector, by their numbers, and lists of them

abbrev pub planning_of : Collector → Planning
planning_of c = c.tables.planning

abbrev pub setting_at : Collector → Setting
setting_at c = setting_of_planning (planning_of c)

abbrev pub written_in_list : SelectionList → WrittenSelections
written_in_list l = (option_map type_number l.parent, set_tree l.written.now)

-- the selection set of a number, with the type on which it is written
unfoldable pub written_at : Collector → ℕ → WrittenSelections
written_at c number = get_or (map written_in_list c.tables.lists.items) number (None, no_selection)

abbrev pub sets_at : Collector → ℕ → List ℕ
sets_at c number = sets_in_joins c.joins number

-- the selections that a number stands for
abbrev pub meaning_at : Collector → ℕ → List WrittenSelections
meaning_at c number = map (written_at c) (sets_at c number)

abbrev pub IsNumber : Collector → ℕ → Type 0
IsNumber c number = IsNumberIn c.joins number

-- the position of selection sets and lists by their numbers, where no size is handed down
abbrev pub position_at : Collector → List ℕ → Position
position_at c numbers = record { selections = flat_map (meaning_at c) numbers; handed = None }

-- What the selections of these numbers have for objects of the type T: these fields stand in its place, with numbers of the collector.
pub record ComesTo (c : Collector) (T : ℕ) (numbers : List ℕ) (fields : List NumberedField) : Type 0 where
  pub come : ComeTo (setting_at c) (meaning_at c) (fields_at (setting_at c) T (position_at c numbers)) fields
  pub known : All (λ f. IsNumber c f.1) fields

-- So it is where the selections are acyclic.
abbrev pub ComesToAt : Collector → ℕ → List ℕ → List NumberedField → Type 0
ComesToAt c T numbers fields = IsAcyclic (setting_at c) (position_at c numbers) → ComesTo c T numbers fields

-- What is kept for a number and a type is what the selections of the number come to.
abbrev pub IsKeptRightly : Collector → Type 0
IsKeptRightly c = (T number : ℕ) (fields : List NumberedField) → found_in c.kept T number ≡ Some fields → IsNumber c number × ComesToAt c T (number ∷ []) fields

-- What a collector keeps, from the time it is made.
pub record IsReadyCollector (c : Collector) : Type 0 where
  pub sound : AreSound (setting_at c) (map list_data c.tables.lists.items) (map entry_data c.tables.entries.items)
  pub counted : c.joins.count ≡ length c.tables.lists.items
  pub nothing : HasNothing c.joins
  pub kept : IsKeptRightly c
  pub reached : AreAllReached c.tables c.joins c.reaches

unfoldable pub IsReady : Collector → Type 0
IsReady c = IsReadyCollector c

-- The collector is planned by the same, and its numbers stand for the same.
pub record Grows (old new : Collector) : Type 0 where
  pub planning : planning_of new ≡ planning_of old
  pub written : written_at new ≡ written_at old
  pub numbers : HasMore old.joins new.joins
  pub ready : IsReady old → IsReady new

-- ---- groups by their numbers

abbrev pub group_seen : Collector → Group → GroupData
group_seen c g = record { fields = map collected_field g.fields.items; below = flat_map (meaning_at c) g.below.items }

abbrev pub groups_seen : Collector → List Group → List GroupData
groups_seen c groups = map (group_seen c) groups

-- A collector that is ready gathers the fields of these numbers for objects of the type T, where they are acyclic.
abbrev pub GathersAt : Collector → Collector → ℕ → List ℕ → List Group → Type 0
GathersAt old new T numbers groups = IsReady old → IsAcyclic (setting_at old) (position_at old numbers) → Gathers (setting_at old) T (position_at old numbers) (groups_seen new groups)

-- There is a field, and the numbers below are among those of the collector.
pub record IsGroupAt (c : Collector) (g : Group) : Type 0 where
  pub filled : 0 < length g.fields.items
  pub known : All (IsNumber c) g.below.items

abbrev pub AreGroupsAt : Collector → List Group → Type 0
AreGroupsAt c groups = All (IsGroupAt c) groups

-- So it is of a collector that is ready.
abbrev pub AreComeTo : Collector → ℕ → List ℕ → List NumberedField → Type 0
AreComeTo c T numbers fields = IsReady c → ComesToAt c T numbers fields

-- The fields of each key are those to which the selections of these numbers come.
pub record AreFoundAt (c : Collector) (T : ℕ) (numbers : List ℕ) (of_keys : List (List NumberedField)) : Type 0 where
  pub fields : List NumberedField
  pub grouped : of_keys ≡ numbered_by_key fields
  pub found : AreComeTo c T numbers fields

-- What is given for objects of the type T: the groups of these numbers, each with a field and with numbers of the collector.
pub record GivesGroups (old new : Collector) (T : ℕ) (numbers : List ℕ) (groups : List Group) : Type 0 where
  pub found : GathersAt old new T numbers groups
  pub right : IsReady old → IsAcyclic (setting_at old) (position_at old numbers) → AreGroupsAt new groups

-- The number is that of this selection set.
abbrev pub HasOne : Collector → ℕ → WrittenSelections → Type 0
HasOne c number written = IsNumber c number × (meaning_at c number ≡ written ∷ [])

-- ---- types without fields

-- The selections of these numbers have no fields for objects of the type T.
abbrev pub LackFieldsAt : Collector → List ℕ → ℕ → Type 0
LackFieldsAt c numbers T = IsReady c → IsAcyclic (setting_at c) (position_at c numbers) → IsObjectType (setting_at c).schema T → fields_at (setting_at c) T (position_at c numbers) ≡ []

-- Of some types those are left out that a test doesn't pass; for objects of these there are no fields.
pub record LeavesOutFieldless (c : Collector) (numbers types left : List ℕ) : Type 0 where
  pub passes : ℕ → Bool
  pub left_over : left ≡ filter passes types
  pub fieldless : (T : ℕ) → passes T ≡ false → LackFieldsAt c numbers T

abbrev pub MayLeaveOut : Collector → List ℕ → List TypeId → Option (Vec TypeId Global) → Type 0
MayLeaveOut c numbers types None = Unit {0}
MayLeaveOut c numbers types (Some left) = LeavesOutFieldless c numbers (map type_number types) (map type_number left.items)
