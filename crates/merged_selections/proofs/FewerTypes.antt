-- A position where types are left out for whose objects it has no fields.
use Rattle.std.proofs.Common.{◌≡◌, ⊎_elim, ℕ, List, [], ◌∷◌, ◌++◌, map, filter, Bool, true, false, true≢false, ◌||◌, nat_eq, Option, Some, None, Result, Ok, Err, refl, sym, ap, ◌∙◌, subst}
use Rattle.std.specs.List.{list_any}
use Rattle.std.specs.Prelude.{Vec}
use Rattle.std.specs.declared.alloc.Global.{Global}
use Rattle.std.proofs.lemmas.Bool.{cases_Bool, eq-eqb}
use Rattle.input_values.specs.declared.inputs.shape.TypeId.{TypeId}
use Rattle.schema_model.specs.Numbers.{type_number}
use Rattle.schema_model.specs.SchemaData.{SchemaData, possible, IsPossibleType}
use Rattle.schema_model.specs.SchemaViews.{schema_data}
use Rattle.schema_model.specs.declared.entries.FieldId.{FieldId}
use Rattle.schema_model.proofs.PossibleLaws.{possible_iff}
use Rattle.document_rules.specs.Sites.{is_composite, type_of_field}
use Rattle.plan_model.specs.SelectedFields.{Setting, HandedSize}
use Rattle.plan_model.specs.Collecting.{CollectedField}
use Rattle.plan_model.specs.Merging.{Position, fields_at}
use Rattle.plan_model.specs.Repeats.{LeavesOutRepeats}
use Rattle.plan_model.specs.Visits.{Visit, visits}
use Rattle.plan_table.specs.Rows.{Row}
use Rattle.plan_table.specs.Tables.{table_rows}
use Rattle.collected_fields.specs.declared.planning.Planning.{Planning}
use Rattle.collected_fields.specs.declared.collector.Collector.{Collector}
use Rattle.collected_fields.specs.Views.{setting_of_planning}
use Rattle.collected_fields.specs.Reached.{IsObjectType}
use Rattle.collected_fields.specs.Lists.{HasMore}
use Rattle.collected_fields.specs.Gathering.{Gathers, planning_of, setting_at, LeavesOutFieldless, MayLeaveOut}
use Rattle.merged_selections.specs.declared.stop.Stop.{Stop}
use Rattle.merged_selections.specs.declared.building.Building.{Building}
use Rattle.merged_selections.specs.NodeParts.{types_at, when_true, types_left, AreObjectTypes}
use Rattle.merged_selections.specs.Outcomes.{outcome}
use Rattle.merged_selections.specs.Stages.{levels_from, type_visits, type_rows, types_rows, frame, setting_built, position_built, CanBuild, CanBuildAt, BuildsRows, BuildsTypes}
use Rattle.merged_selections.proofs.VisitedParts.{same_stop}
use Rattle.merged_selections.proofs.BuiltParts.{visits_next, rows_next, gathered_visits, gathered_rows}
use Rattle.merged_selections.proofs.BuiltSteps.{same_setting, same_position, can_at}

-- ---- types without fields

module _ (e : Setting) (p : Position) where
  gathers_none : (T : ℕ) → fields_at e T p ≡ [] → Gathers e T p []
  gathers_none T none = record { fields = []; repeats = subst (λ (fs : List CollectedField). LeavesOutRepeats fs []) (sym none) tt; grouped = tt }

  no_type_visits : (levels T : ℕ) → fields_at e T p ≡ [] → type_visits e levels p T ≡ []
  no_type_visits levels T none = sym (gathered_visits e T p [] (gathers_none T none) levels)

  no_type_rows : (levels depth T : ℕ) → fields_at e T p ≡ [] → type_rows e levels depth p T ≡ []
  no_type_rows levels depth T none = sym (gathered_rows e T p [] (gathers_none T none) levels depth)

  module _ (passes : ℕ → Bool) where
    abbrev LackFields : List ℕ → Type 0
    LackFields [] = Unit {0}
    LackFields (T ∷ Ts) = (passes T ≡ false → fields_at e T p ≡ []) × LackFields Ts

    fewer_visits : (levels : ℕ) (Ts : List ℕ) → LackFields Ts → visits e levels (filter passes Ts) p ≡ visits e levels Ts p
    fewer_visits levels [] h = refl
    fewer_visits levels (T ∷ Ts) h = ⊎_elim
        (λ (is : passes T ≡ true). rw (is) (visits_next e levels p T (filter passes Ts) ∙ (ap (λ vs. type_visits e levels p T ++ vs) (fewer_visits levels Ts h.1) ∙ sym (visits_next e levels p T Ts))))
        (λ (isnt : passes T ≡ false). rw (isnt) (fewer_visits levels Ts h.1 ∙ (ap (λ vs. vs ++ visits e levels Ts p) (sym (no_type_visits levels T (h.0 isnt))) ∙ sym (visits_next e levels p T Ts))))
        (cases_Bool (passes T))

    fewer_rows : (levels depth : ℕ) (Ts : List ℕ) → LackFields Ts → types_rows e levels depth p (filter passes Ts) ≡ types_rows e levels depth p Ts
    fewer_rows levels depth [] h = refl
    fewer_rows levels depth (T ∷ Ts) h = ⊎_elim
        (λ (is : passes T ≡ true). rw (is) (rows_next e levels depth p T (filter passes Ts) ∙ (ap (λ rows. type_rows e levels depth p T ++ rows) (fewer_rows levels depth Ts h.1) ∙ sym (rows_next e levels depth p T Ts))))
        (λ (isnt : passes T ≡ false). rw (isnt) (fewer_rows levels depth Ts h.1 ∙ (ap (λ rows. rows ++ types_rows e levels depth p Ts) (sym (no_type_rows levels depth T (h.0 isnt))) ∙ sym (rows_next e levels depth p T Ts))))
        (cases_Bool (passes T))

    all_lack : (Ts : List ℕ) → ((T : ℕ) → list_any (nat_eq T) Ts ≡ true → passes T ≡ false → fields_at e T p ≡ []) → LackFields Ts
    all_lack [] h = tt
    all_lack (T ∷ Ts) h = (h T (ap (λ b. b || list_any (nat_eq T) Ts) (eq-eqb T T refl)), all_lack Ts (λ U there. h U (later (nat_eq U T) (list_any (nat_eq U) Ts) there)))
      where
        later : (a b : Bool) → b ≡ true → (a || b) ≡ true
        later true b is = refl
        later false b is = is

-- ---- types of objects

are_possible : (s : SchemaData) (c : ℕ) (b : Bool) (T : ℕ) → list_any (nat_eq T) (when_true b (possible s c)) ≡ true → IsObjectType s T
are_possible s c true T there = let is : IsPossibleType s c T = (possible_iff s c T).0 there in record { there = is.type; object = is.object }
are_possible s c false T there = absurd (true≢false (sym there))

pub objects_there : (s : SchemaData) (field : Option FieldId) (T : ℕ) → list_any (nat_eq T) (types_at s field) ≡ true → IsObjectType s T
objects_there s None T there = absurd (true≢false (sym there))
objects_there s (Some field) T there = are_possible s (type_of_field s field.number) (is_composite s (type_of_field s field.number)) T there

pub objects_at : (old : Building) (pl : Planning) (k : Collector) (field : Option FieldId) (types : List TypeId) → pl ≡ planning_of old.collector → k ≡ old.collector → map type_number types ≡ types_at (schema_data pl.schema.now) field → AreObjectTypes (setting_at k).schema types
objects_at old pl k field types planning same is = subst (λ (x : Collector). AreObjectTypes (setting_at x).schema types) (sym same)
    (subst (λ (x : Planning). AreObjectTypes (setting_of_planning x).schema types) planning (λ T there. objects_there (schema_data pl.schema.now) field T (subst (λ (Ts : List ℕ). list_any (nat_eq T) Ts ≡ true) is there)))

-- ---- a position

module _ (old mid new : Building) (same : frame mid ≡ frame old) (more : HasMore old.collector.joins mid.collector.joins) (ready : CanBuild old → CanBuild mid) (left : mid.left ≡ old.left) (table : table_rows mid.plan ≡ table_rows old.plan) (depth : ℕ) (lists : List ℕ) (handed : HandedSize) where
  abbrev own : Setting
  own = setting_built old

  abbrev there : Position
  there = position_built old lists handed

  abbrev Built : Result (Unit {0}) Stop → Setting → Position → List ℕ → Type 0
  Built result x q Ts = BuildsRows result mid new (visits x (levels_from depth) Ts q) (types_rows x (levels_from depth) depth q Ts)

  built_there : (result : Result (Unit {0}) Stop) (types : List TypeId) → BuildsTypes mid depth result new types lists handed → CanBuildAt old lists → Built result own there (map type_number types)
  built_there result types h can =
      subst (λ (x : Setting). Built result x there (map type_number types)) (same_setting old mid same more) (subst (λ (q : Position). Built result (setting_built mid) q (map type_number types)) (same_position old mid same more lists handed can.1.0) (h (can_at old mid same more lists ready can)))

  from_old : (result : Result (Unit {0}) Stop) (vs us : List Visit) (rows others : List Row) → BuildsRows result mid new vs rows → vs ≡ us → rows ≡ others → BuildsRows result old new us others
  from_old (Ok done) vs us rows others b v r = (ap (λ n. outcome n us) (sym left) ∙ (ap (λ x. outcome mid.left x) (sym v) ∙ b.0), b.1 ∙ (ap (λ x. x ++ rows) table ∙ ap (λ x. table_rows old.plan ++ x) r))
  from_old (Err stop) vs us rows others b v r = same_stop stop (outcome mid.left vs) (outcome old.left us) (ap (λ x. outcome mid.left x) v ∙ ap (λ n. outcome n us) left) b

  all_built : (result : Result (Unit {0}) Stop) (types : List TypeId) → BuildsTypes mid depth result new types lists handed → BuildsTypes old depth result new types lists handed
  all_built result types h can = from_old result (visits own (levels_from depth) (map type_number types) there) (visits own (levels_from depth) (map type_number types) there) (types_rows own (levels_from depth) depth there (map type_number types)) (types_rows own (levels_from depth) depth there (map type_number types)) (built_there result types h can) refl refl

  fewer_built : (result : Result (Unit {0}) Stop) (types few : List TypeId) → LeavesOutFieldless old.collector lists (map type_number types) (map type_number few) → AreObjectTypes own.schema types → BuildsTypes mid depth result new few lists handed → BuildsTypes old depth result new types lists handed
  fewer_built result types few less objects h can =
      let Ts : List ℕ = map type_number types in
      let lack = all_lack own there less.passes Ts (λ T among isnt. less.fieldless T isnt can.0.collector can.1.1 (objects T among)) in
      from_old result (visits own (levels_from depth) (filter less.passes Ts) there) (visits own (levels_from depth) Ts there) (types_rows own (levels_from depth) depth there (filter less.passes Ts)) (types_rows own (levels_from depth) depth there Ts)
      (subst (λ (Us : List ℕ). Built result own there Us) less.left_over (built_there result few h can)) (fewer_visits own there less.passes (levels_from depth) Ts lack) (fewer_rows own there less.passes (levels_from depth) depth Ts lack)

  pub left_built : (result : Result (Unit {0}) Stop) (types : List TypeId) (left : Option (Vec TypeId Global)) → MayLeaveOut old.collector lists types left → AreObjectTypes own.schema types → BuildsTypes mid depth result new (types_left left types) lists handed → BuildsTypes old depth result new types lists handed
  left_built result types None may objects h = all_built result types h
  left_built result types (Some few) may objects h = fewer_built result types few.items may objects h
