-- One node: its outcome, its row, and what stands below it.
use Rattle.std.proofs.Common.{◌≡◌, ℕ, zero, suc, ◌+◌, ◌-◌, ◌<◌, ◌≤◌, List, [], ◌∷◌, ◌++◌, map, flat_map, Bool, true, false, append_assoc, Option, Some, None, Result, Ok, Err, OnOk, refl, sym, ap, ◌∙◌, subst, arith, if◌then◌else◌}
use Rattle.std.specs.List.{list_any}
use Rattle.std.specs.Prelude.{All, IfSome}
use Rattle.cost_num.specs.Capped.{capped}
use Rattle.response_model.specs.Plan.{Form}
use Rattle.input_values.specs.declared.inputs.shape.TypeId.{TypeId}
use Rattle.schema_model.specs.Numbers.{type_number}
use Rattle.schema_model.specs.declared.entries.FieldId.{FieldId}
use Rattle.schema_model.specs.SchemaData.{possible}
use Rattle.document_rules.specs.Sites.{Meaning, is_composite, type_of_field}
use Rattle.plan_model.specs.SelectedFields.{Setting, HandedSize, FieldCall, leaf_of, object_place, types_of, form_of, place_of, meaning_weight, meaning_at, form_at, place_at, size_at, weight_at, cost_at}
use Rattle.plan_model.specs.Collecting.{CollectedField, WrittenSelections}
use Rattle.plan_model.specs.Merging.{Position, first_call, asks}
use Rattle.plan_model.specs.MergingWalk.{IsAcyclic}
use Rattle.plan_model.specs.Plans.{type_weight}
use Rattle.plan_model.specs.Visits.{NodeFault, too_deep, fault_of, Visit, visits, planned}
use Rattle.plan_table.specs.declared.rows.NodeRow.{NodeRow}
use Rattle.plan_table.specs.ListSizes.{size_from}
use Rattle.plan_table.specs.Rows.{Below, Row, rows_below}
use Rattle.plan_table.specs.Tables.{setting_without_values, meaning_of, below_at, setting_in, row_in, row_of, table_rows}
use Rattle.collected_fields.specs.declared.planning.Planning.{Planning}
use Rattle.collected_fields.specs.declared.collected.Collected.{Collected}
use Rattle.collected_fields.specs.declared.collector.Collector.{Collector}
use Rattle.collected_fields.specs.Views.{setting_of_planning, collected_field}
use Rattle.collected_fields.specs.Groups.{GroupData}
use Rattle.collected_fields.specs.Lists.{HasMore}
use Rattle.collected_fields.specs.Gathering.{IsReady, planning_of, setting_at, written_at, meaning_at as selections_at, IsNumber}
use Rattle.merged_selections.specs.declared.stop.Stop.{Stop}
use Rattle.merged_selections.specs.declared.node.Looked.{Looked}
use Rattle.merged_selections.specs.declared.building.Building.{Building}
use Rattle.merged_selections.specs.declared.calls.Calls.{Calls}
use Rattle.merged_selections.specs.NodeParts.{handed_data, types_at, when_true}
use Rattle.merged_selections.specs.NodeTests.{IsThere, IsFound, IsLookedAt, AreKept}
use Rattle.merged_selections.specs.Outcomes.{Outcome, has_left, used_up, unless_fault, outcome, under_outcome, IsStop}
use Rattle.merged_selections.specs.Stages.{levels_from, key_seen, types_rows, node_visits, node_row, node_rows, frame, setting_built, position_built, node_seen, group_position, CanBuild, BuildsRows, BuildsTypes, row_looked, PushesRow}
use Rattle.merged_selections.proofs.VisitedParts.{node_past_limit, deep_past_limit, deep_outcome, node_outcome, same_stop}
use Rattle.merged_selections.proofs.BuiltParts.{rows_of_place, below_of_place}
use Rattle.merged_selections.proofs.MetAgain.{known_still}

positive : (n : ℕ) → (n ≡ 0 → ⊥) → suc (n - 1) ≡ n
positive zero h = absurd (h refl)
positive (suc n) h = ap suc (less n)
  where
    less : (n : ℕ) → suc n - 1 ≡ n
    less n = omega arith

pub levels_more : (depth : ℕ) → depth ≤ 50 → levels_from depth ≡ suc (levels_from (depth + 1))
levels_more depth h = omega arith

pub no_levels : (depth : ℕ) → 50 < depth → levels_from depth ≡ 0
no_levels depth h = omega arith

-- ---- outcomes

module _ (e : Setting) (T : ℕ) (handed : HandedSize) (g : GroupData) where
  abbrev fields : List CollectedField
  fields = g.fields

  abbrev pub below_visits : ℕ → List Visit
  below_visits levels = visits e levels (types_of (place_at e T (first_call fields))) (group_position e T handed g)

  none_left_at : (levels : ℕ) → outcome 0 (node_visits e T handed levels g) ≡ used_up
  none_left_at zero = deep_past_limit (key_seen fields)
  none_left_at (suc levels) = node_past_limit (key_seen fields) (fault_of e T handed fields) (below_visits levels)

  pub past_limit : (levels n : ℕ) → n ≡ 0 → outcome n (node_visits e T handed levels g) ≡ used_up
  past_limit levels n is = ap (λ m. outcome m (node_visits e T handed levels g)) is ∙ none_left_at levels

  module _ (n : ℕ) (some : n ≡ 0 → ⊥) (key : List ℕ) (is_key : key ≡ key_seen fields) where
    pub too_deep_stops : (levels : ℕ) → levels ≡ 0 → (stop : Stop) → ((fault : Option NodeFault) (o : Outcome) → IsThere (Some too_deep) fault → IsStop stop (unless_fault (key ∷ []) fault o)) → IsStop stop (outcome n (node_visits e T handed levels g))
    too_deep_stops levels none stop h = same_stop stop (unless_fault (key ∷ []) (Some too_deep) used_up) (outcome n (node_visits e T handed levels g))
        (ap (λ k. unless_fault (k ∷ []) (Some too_deep) used_up) is_key ∙ (sym (deep_outcome (n - 1) (key_seen fields)) ∙ (ap (λ m. outcome m (node_visits e T handed zero g)) (positive n some) ∙ ap (λ l. outcome n (node_visits e T handed l g)) (sym none))))
        (h (Some too_deep) used_up refl)

    parts : (levels l : ℕ) → levels ≡ suc l → unless_fault (key ∷ []) (fault_of e T handed fields) (under_outcome key (outcome (n - 1) (below_visits l))) ≡ outcome n (node_visits e T handed levels g)
    parts levels l is =
        ap (λ k. unless_fault (k ∷ []) (fault_of e T handed fields) (under_outcome k (outcome (n - 1) (below_visits l)))) is_key
        ∙ (sym (node_outcome (n - 1) (key_seen fields) (fault_of e T handed fields) (below_visits l))
        ∙ (ap (λ m. outcome m (node_visits e T handed (suc l) g)) (positive n some) ∙ ap (λ x. outcome n (node_visits e T handed x g)) (sym is)))

    pub fault_stops : (levels l : ℕ) → levels ≡ suc l → (stop : Stop) (told : Option NodeFault) → IsThere told (fault_of e T handed fields)
        → ((fault : Option NodeFault) (o : Outcome) → IsThere told fault → IsStop stop (unless_fault (key ∷ []) fault o)) → IsStop stop (outcome n (node_visits e T handed levels g))
    fault_stops levels l is stop told there h = same_stop stop (unless_fault (key ∷ []) (fault_of e T handed fields) (under_outcome key (outcome (n - 1) (below_visits l)))) (outcome n (node_visits e T handed levels g)) (parts levels l is)
        (h (fault_of e T handed fields) (under_outcome key (outcome (n - 1) (below_visits l))) there)

    faultless_parts : (levels l : ℕ) → levels ≡ suc l → fault_of e T handed fields ≡ None → under_outcome key (outcome (n - 1) (below_visits l)) ≡ outcome n (node_visits e T handed levels g)
    faultless_parts levels l is none = ap (λ o. unless_fault (key ∷ []) o (under_outcome key (outcome (n - 1) (below_visits l)))) (sym none) ∙ parts levels l is

    pub below_stops : (levels l : ℕ) → levels ≡ suc l → fault_of e T handed fields ≡ None → (stop above : Stop) → IsStop stop (outcome (n - 1) (below_visits l)) → ((o : Outcome) → IsStop stop o → IsStop above (under_outcome key o)) → IsStop above (outcome n (node_visits e T handed levels g))
    below_stops levels l is none stop above h under = same_stop above (under_outcome key (outcome (n - 1) (below_visits l))) (outcome n (node_visits e T handed levels g)) (faultless_parts levels l is none) (under (outcome (n - 1) (below_visits l)) h)

    pub below_fine : (levels l m : ℕ) → levels ≡ suc l → fault_of e T handed fields ≡ None → outcome (n - 1) (below_visits l) ≡ has_left m → outcome n (node_visits e T handed levels g) ≡ has_left m
    below_fine levels l m is none h = sym (faultless_parts levels l is none) ∙ ap (λ o. under_outcome key o) h

-- ---- what stands below

types_there : (e : Setting) (T : ℕ) (field : Option FieldId) → types_of (place_of e T (meaning_of field)) ≡ types_at e.schema field
types_there e T None = refl
types_there e T (Some f) = by_kind (is_composite e.schema (type_of_field e.schema f.number))
  where
    by_kind : (b : Bool) → types_of (if b then object_place (possible e.schema (type_of_field e.schema f.number)) else leaf_of e (type_of_field e.schema f.number)) ≡ when_true b (possible e.schema (type_of_field e.schema f.number))
    by_kind true = refl
    by_kind false = refl

own_place : (e : Setting) (T : ℕ) (c : FieldCall) → place_at e T c ≡ place_of e T (meaning_at e T c)
unfolding place_at
own_place e T c = refl

-- the row of a node of which this was found
module _ (e : Setting) (depth T : ℕ) (first : Bool) (handed : HandedSize) (g : GroupData) where
  abbrev own_fields : List CollectedField
  own_fields = g.fields

  abbrev own : Meaning
  own = meaning_at e T (first_call own_fields)

  abbrev row_by : Form → ℕ → Option ℕ → ℕ → Below → Row
  row_by form weight size arguments below = record {
    depth = depth;
    type = T;
    weight = type_weight e T;
    first = first;
    selected = record { key = key_seen own_fields; field = (first_call own_fields).name; asked = list_any (asks e) own_fields; form = form; size = size; weight = weight; arguments = arguments };
    below = below;
  }

  abbrev row_by_call : Option ℕ → ℕ → Row
  row_by_call size arguments = row_by (form_of e.schema own) (meaning_weight e own) size arguments (below_at e (place_of e T own))

  row_there : (looked : Looked) (l : ℕ) → IsFound e T handed (first_call own_fields) looked → row_looked (setting_without_values e.schema e.weights) depth T first own_fields looked ≡ node_row e T handed (suc l) depth first g
  unfolding form_at weight_at
  row_there looked l found =
      ap (λ m. row_by (form_of e.schema m) (meaning_weight e m) (size_from looked.source) looked.arguments (below_at e (place_of e T m))) found.meaning
      ∙ (ap (λ s. row_by_call s looked.arguments) found.size
      ∙ (ap (λ a. row_by_call (size_at e T (first_call own_fields) handed) a) found.arguments
      ∙ ap (λ b. row_by (form_at e T (first_call own_fields)) (weight_at e T (first_call own_fields)) (size_at e T (first_call own_fields) handed) (capped (cost_at e T (first_call own_fields))) b)
      (ap (λ p. below_at e p) (sym (own_place e T (first_call own_fields))) ∙ sym (below_of_place e l (place_at e T (first_call own_fields)) (group_position e T handed g)))))

module _ (old mid new : Building) (depth T : ℕ) (first : Bool) (field : Collected) (others : List Collected) (handed : HandedSize) (looked : Looked) (types : List TypeId) (lists : List ℕ) where
  abbrev e : Setting
  e = setting_built old

  abbrev g : GroupData
  g = node_seen old (field ∷ others) lists

  abbrev call : FieldCall
  call = (collected_field field).call

  module _ (collector : mid.collector ≡ old.collector) (found : IsFound e T handed call looked) (is_types : map type_number types ≡ types_at e.schema looked.field) where
    position_there : position_built old lists (handed_data looked.hands) ≡ group_position e T handed g
    position_there = ap (λ (h : HandedSize). record { selections = flat_map (selections_at old.collector) lists; handed = h }) found.hands

    place_types : map type_number types ≡ types_of (place_at e T call)
    place_types = is_types ∙ (sym (types_there e T looked.field) ∙ (ap (λ m. types_of (place_of e T m)) found.meaning ∙ ap types_of (sym (own_place e T call))))

    abbrev BuiltBelow : Result (Unit {0}) Stop → Collector → Position → List ℕ → Type 0
    BuiltBelow result c p Ts = BuildsRows result mid new (visits (setting_at c) (levels_from (depth + 1)) Ts p) (types_rows (setting_at c) (levels_from (depth + 1)) (depth + 1) p Ts)

    pub below_built : (result : Result (Unit {0}) Stop) → CanBuild mid → All (IsNumber old.collector) lists × IsAcyclic e (position_built old lists None) → BuildsTypes mid (depth + 1) result new types lists (handed_data looked.hands)
        → BuildsRows result mid new (visits e (levels_from (depth + 1)) (types_of (place_at e T call)) (group_position e T handed g)) (types_rows e (levels_from (depth + 1)) (depth + 1) (group_position e T handed g) (types_of (place_at e T call)))
    below_built result can_mid known h =
        subst (λ (p : Position). BuiltBelow result old.collector p (types_of (place_at e T call))) position_there
        (subst (λ (Ts : List ℕ). BuiltBelow result old.collector (position_built old lists (handed_data looked.hands)) Ts) place_types
        (subst (λ (c : Collector). BuiltBelow result c (record { selections = flat_map (selections_at c) lists; handed = handed_data looked.hands }) (map type_number types)) collector
        (h (can_mid, subst (λ (c : Collector). All (IsNumber c) lists × IsAcyclic (setting_at c) (record { selections = flat_map (selections_at c) lists; handed = None })) (sym collector) known))))

    -- its rows
    pub rows_there : depth ≤ 50 → setting_in old.plan ≡ setting_without_values e.schema e.weights → table_rows mid.plan ≡ table_rows old.plan ++ (row_looked (setting_in old.plan) depth T first g.fields looked ∷ [])
        → table_rows new.plan ≡ table_rows mid.plan ++ types_rows e (levels_from (depth + 1)) (depth + 1) (group_position e T handed g) (types_of (place_at e T call)) → table_rows new.plan ≡ table_rows old.plan ++ node_rows e T handed (levels_from depth) depth first g
    rows_there within tied pushed grown =
        let l : ℕ = levels_from (depth + 1) in
        let below : List Row = types_rows e l (depth + 1) (group_position e T handed g) (types_of (place_at e T call)) in
        grown ∙ (ap (λ rows. rows ++ below) pushed ∙ (append_assoc (table_rows old.plan) (row_looked (setting_in old.plan) depth T first g.fields looked ∷ []) below
        ∙ ap (λ rows. table_rows old.plan ++ rows)
        (ap (λ r. r ∷ below) (ap (λ s. row_looked s depth T first g.fields looked) tied ∙ row_there e depth T first handed g looked l found)
        ∙ (ap (λ rows. node_row e T handed (suc l) depth first g ∷ rows) (sym (rows_of_place e l (depth + 1) (place_at e T call) (group_position e T handed g)) ∙ ap (λ d. rows_below d (planned e l (place_at e T call) (group_position e T handed g))) (next depth))
        ∙ ap (λ levels. node_rows e T handed levels depth first g) (sym (levels_more depth within))))))
      where
        next : (n : ℕ) → n + 1 ≡ suc n
        next n = omega arith

-- ---- rows that are pushed

pub row_alike : (e : Setting) (row : NodeRow) (depth T : ℕ) (first : Bool) (fields : List CollectedField) (looked : Looked) → row.key ≡ key_seen fields → row.name ≡ (first_call fields).name → row.asked ≡ list_any (asks e) fields
    → row.depth ≡ depth → row.on.number ≡ T → row.first ≡ first → row.field ≡ looked.field → row.size ≡ size_from looked.source → row.arguments ≡ looked.arguments → row_of e row ≡ row_looked e depth T first fields looked
unfolding row_of
row_alike e row depth T first fields looked a b c d g h i j k = rw (a) (rw (b) (rw (c) (rw (d) (rw (g) (rw (h) (rw (i) (rw (j) (rw (k) refl))))))))

pub row_pushed : {E : Type 0} (old new : Building) (depth T : ℕ) (first : Bool) (fields : List Collected) (looked : Looked) (result : Result (Unit {0}) E) (row : NodeRow)
    → OnOk result (table_rows new.plan ≡ table_rows old.plan ++ (row_in old.plan row ∷ [])) → row_in old.plan row ≡ row_looked (setting_in old.plan) depth T first (map collected_field fields) looked
    → PushesRow old depth T first fields looked result new
row_pushed old new depth T first all looked (Ok done) row h is = h ∙ ap (λ r. table_rows old.plan ++ (r ∷ [])) is
row_pushed old new depth T first all looked (Err failed) row h is = tt

-- ---- frames

pub frames : (old : Building) (c : Collector) → planning_of c ≡ planning_of old.collector → written_at c ≡ written_at old.collector → frame (record { collector = c; plan = old.plan; left = old.left; calls = old.calls; keys = old.keys; known = old.known }) ≡ frame old
frames old c planning written = ap (λ (pl : Planning). (pl, written_at c, setting_in old.plan, old.plan.root.number, old.plan.schema.now, old.plan.weights.now)) planning ∙ ap (λ (w : ℕ → WrittenSelections). (planning_of old.collector, w, setting_in old.plan, old.plan.root.number, old.plan.schema.now, old.plan.weights.now)) written

pub can_after : (old : Building) (c : Collector) → planning_of c ≡ planning_of old.collector → written_at c ≡ written_at old.collector → HasMore old.collector.joins c.joins → (IsReady old.collector → IsReady c) → CanBuild old → CanBuild (record { collector = c; plan = old.plan; left = old.left; calls = old.calls; keys = old.keys; known = old.known })
can_after old c planning written more ready can = record {
  collector = ready can.collector;
  plan = can.plan ∙ ap (λ (pl : Planning). setting_without_values (setting_of_planning pl).schema (setting_of_planning pl).weights) (sym planning);
  calls = subst (λ (pl : Planning). AreKept (setting_of_planning pl) old.calls) (sym planning) can.calls;
  known = known_still old.collector c planning written more old.known can.known;
}

-- the calls that were made, where a node is looked at
pub kept_before : (old : Building) (pl : Planning) → pl ≡ planning_of old.collector → CanBuild old → AreKept (setting_of_planning pl) old.calls
kept_before old pl is can = subst (λ (x : Planning). AreKept (setting_of_planning x) old.calls) (sym is) can.calls

pub kept_still : (old : Building) (pl : Planning) (calls : Calls) → pl ≡ planning_of old.collector → (AreKept (setting_of_planning pl) old.calls → AreKept (setting_of_planning pl) calls) → CanBuild old → AreKept (setting_built old) calls
kept_still old pl calls is kept can = subst (λ (x : Planning). AreKept (setting_of_planning x) calls) is (kept (kept_before old pl is can))

-- what was found of it before
pub seen_before : (old : Building) (pl : Planning) (T : ℕ) (handed : HandedSize) (fields : List CollectedField) (looked : Option Looked) → pl ≡ planning_of old.collector → IfSome looked (IsLookedAt (setting_built old) T handed fields) → IfSome looked (IsLookedAt (setting_of_planning pl) T handed fields)
seen_before old pl T handed fields looked is seen = subst (λ (x : Planning). IfSome looked (IsLookedAt (setting_of_planning x) T handed fields)) (sym is) seen

pub can_still : (old : Building) (pl : Planning) (left : ℕ) (calls : Calls) → pl ≡ planning_of old.collector → (AreKept (setting_of_planning pl) old.calls → AreKept (setting_of_planning pl) calls) → CanBuild old
    → CanBuild (record { collector = old.collector; plan = old.plan; left = left; calls = calls; keys = old.keys; known = old.known })
can_still old pl left calls is kept can = record {
  collector = can.collector;
  plan = can.plan;
  calls = kept_still old pl calls is kept can;
  known = can.known;
}
