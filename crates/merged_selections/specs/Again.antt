-- Positions that are met again: groups that come to what a position comes to.
use Rattle.std.specs.Prelude.{◌≡◌, ◌<◌, ℕ, length, Bool, true, false, List, [], ◌∷◌, map, option_map, All, IfSome, Option, None, Some}
use Rattle.std.specs.Borrow.{Bor}
use Rattle.std.specs.List.{list_any, slice_get}
use Rattle.schema_model.specs.SchemaData.{SchemaData}
use Rattle.schema_rules.specs.First.{first_of}
use Rattle.plan_model.specs.SelectedFields.{Setting, HandedSize}
use Rattle.plan_model.specs.Collecting.{CollectedField}
use Rattle.plan_model.specs.Merging.{Position, first_call}
use Rattle.plan_model.specs.MergingWalk.{IsAcyclic}
use Rattle.plan_model.specs.Visits.{names_differ, argument_fault, arguments_differ}
use Rattle.collected_fields.specs.declared.collector.Collector.{Collector}
use Rattle.collected_fields.specs.declared.collected.Group.{Group}
use Rattle.collected_fields.specs.Views.{collected_field, asks_in}
use Rattle.collected_fields.specs.Groups.{GroupData}
use Rattle.collected_fields.specs.Gathering.{setting_at, position_at, IsNumber, IsGroupAt, groups_seen}
use Rattle.collected_fields.specs.Alone.{SpreadsAlone}
use Rattle.merged_selections.specs.declared.known.Known.{Known}
use Rattle.merged_selections.specs.declared.known.KnownGroups.{KnownGroups}
use Rattle.merged_selections.specs.declared.known.FoundGroups.{FoundGroups}
use Rattle.merged_selections.specs.declared.node.Looked.{Looked}
use Rattle.merged_selections.specs.NodeParts.{handed_data}
use Rattle.merged_selections.specs.NodeTests.{IsLookedAt}
use Rattle.merged_selections.specs.Nodes.{key_seen, type_visits, type_rows, groups_visits, groups_rows}

-- ---- fields of one key of which the first says all

-- Their names and their arguments are equal, and no argument is refused.
pub record AreEqualFields (e : Setting) (T : ℕ) (fields : List CollectedField) : Type 0 where
  pub names : names_differ fields ≡ false
  pub coerced : first_of (argument_fault e T) fields ≡ None
  pub arguments : arguments_differ e T fields ≡ false

abbrev pub AreEqualGroups : Setting → ℕ → List GroupData → Type 0
AreEqualGroups e T groups = All (λ g. AreEqualFields e T g.fields) groups

-- Some of the fields, with the first of them, and with one that asks for the names of types where one asks.
pub record AreSome (s : SchemaData) (fields some : List CollectedField) : Type 0 where
  pub key : key_seen some ≡ key_seen fields
  pub call : first_call some ≡ first_call fields
  pub asked : list_any (asks_in s) some ≡ list_any (asks_in s) fields
  pub among : (test : CollectedField → Bool) → list_any test fields ≡ false → list_any test some ≡ false

-- one of the fields that asks for the names of types, if one does
abbrev pub IsFirstAsking : SchemaData → List CollectedField → Option CollectedField → Type 0
IsFirstAsking s fields None = list_any (asks_in s) fields ≡ false
IsFirstAsking s fields (Some f) = (asks_in s f ≡ true) × (list_any (asks_in s) fields ≡ true) × ((test : CollectedField → Bool) → list_any test fields ≡ false → test f ≡ false)

-- A group has some of the fields of another one, and the same selections below.
pub record HasSome (s : SchemaData) (g some : Group) : Type 0 where
  pub fields : AreSome s (map collected_field g.fields.items) (map collected_field some.fields.items)
  pub filled : 0 < length g.fields.items → 0 < length some.fields.items
  pub below : some.below.items ≡ g.below.items

abbrev pub HaveSome : SchemaData → List Group → List Group → Type 0
HaveSome s [] [] = Unit {0}
HaveSome s [] (h ∷ others) = ⊥
HaveSome s (g ∷ groups) [] = ⊥
HaveSome s (g ∷ groups) (h ∷ others) = HasSome s g h × HaveSome s groups others

-- ---- groups that stand for a position

-- They are visited and planned as the position is for objects of the type T, whatever size is handed down.
pub record ComeToSame (e : Setting) (T : ℕ) (groups : List GroupData) (p : Position) : Type 0 where
  pub visits : (handed : HandedSize) (levels : ℕ) → groups_visits e T handed levels groups ≡ type_visits e levels (record p { handed = handed }) T
  pub rows : (handed : HandedSize) (levels depth : ℕ) → groups_rows e T handed levels depth true groups ≡ type_rows e levels depth (record p { handed = handed }) T

-- A group that has a field, and numbers of acyclic selections below it.
abbrev pub IsSound : Collector → Group → Type 0
IsSound c g = IsGroupAt c g × IsAcyclic (setting_at c) (position_at c g.below.items)

pub record StandFor (c : Collector) (T : ℕ) (numbers : List ℕ) (groups : List Group) : Type 0 where
  pub sound : All (IsSound c) groups
  pub equal : AreEqualGroups (setting_at c) T (groups_seen c groups)
  pub come : ComeToSame (setting_at c) T (groups_seen c groups) (position_at c numbers)

abbrev pub name_in : Option (Bor (List ℕ)) → Option (List ℕ)
name_in spread = option_map (λ name. name.now) spread

-- The selections of these numbers are known, and spread this fragment alone, if one is told; the groups stand for them.
pub record MayBeKnown (c : Collector) (T : ℕ) (lists : List ℕ) (name : Option (List ℕ)) (groups : List Group) : Type 0 where
  pub numbers : All (IsNumber c) lists
  pub spread : IfSome name (SpreadsAlone c lists)
  pub stand : IsAcyclic (setting_at c) (position_at c lists) → StandFor c T lists groups

-- This was found of the nodes of the first of the groups.
abbrev pub AreLooked : Setting → ℕ → HandedSize → List Group → List Looked → Type 0
AreLooked e T handed groups looked =
    (at : ℕ) (g : Group) (one : Looked) → slice_get groups at ≡ Some g → slice_get looked at ≡ Some one → IsLookedAt e T handed (map collected_field g.fields.items) one

pub record IsKnown (c : Collector) (k : KnownGroups) : Type 0 where
  pub groups : MayBeKnown c k.of.number k.lists.items (name_in k.spread) k.groups.items
  pub looked : AreLooked (setting_at c) k.of.number (handed_data k.handed) k.groups.items k.looked.items

abbrev pub AreKnown : Collector → Known → Type 0
AreKnown c known = All (IsKnown c) known.made.items

-- The position is that of these groups: it spreads their fragment alone, or is of the same numbers where they have none.
abbrev pub IsSamePlace : Option (List ℕ) → List ℕ → List ℕ → Option (List ℕ) → Type 0
IsSamePlace None numbers others spread = numbers ≡ others
IsSamePlace (Some name) numbers others spread = spread ≡ Some name

abbrev pub IsFor : KnownGroups → ℕ → List ℕ → Option (List ℕ) → Type 0
IsFor k T numbers spread = (k.of.number ≡ T) × IsSamePlace (name_in k.spread) k.lists.items numbers spread

-- What was found where this size was handed down, or nothing.
abbrev pub TakesLooked : KnownGroups → HandedSize → List Looked → Type 0
TakesLooked k handed [] = Unit {0}
TakesLooked k handed (looked ∷ others) = (handed_data k.handed ≡ handed) × (k.looked.items ≡ looked ∷ others)

-- Some of the fields of groups that are known for a position, and what was found of their nodes.
pub record FindsFor (s : SchemaData) (known : Known) (T : ℕ) (numbers : List ℕ) (spread : Option (List ℕ)) (handed : HandedSize) (found : FoundGroups) : Type 0 where
  pub at : ℕ
  pub one : KnownGroups
  pub there : slice_get known.made.items at ≡ Some one
  pub for_it : IsFor one T numbers spread
  pub some : HaveSome s one.groups.items found.groups.items
  pub looked : TakesLooked one handed found.looked.items
