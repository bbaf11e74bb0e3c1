-- Building goes on, stops and ends.
use Rattle.std.proofs.Common.{◌≡◌, inl, inr, ℕ, ◌+◌, ◌<◌, ◌≤◌, List, [], ◌∷◌, ◌++◌, map, flat_map, drop, length, get_or, All, Bool, true, false, append_assoc, append-nil, Option, None, Result, Ok, Err, refl, sym, ap, ◌∙◌, subst, arith}
use Rattle.std.specs.Prelude.{IfSome}
use Rattle.std.specs.List.{slice_get}
use Rattle.std.proofs.lemmas.List.{drop_all}
use Rattle.std.proofs.lemmas.List.Elements.{All-head, All-tail, All-cons, All-get_or}
use Rattle.gql_base.proofs.Lists.{at_front}
use Rattle.input_values.specs.declared.inputs.shape.TypeId.{TypeId}
use Rattle.schema_model.specs.Numbers.{type_number}
use Rattle.plan_model.specs.SelectedFields.{Setting, HandedSize}
use Rattle.plan_model.specs.Collecting.{CollectedField, WrittenSelections, nesting}
use Rattle.plan_model.specs.Merging.{Position, fields_at, keys_of, fields_of_key, selections_below, position_below}
use Rattle.plan_model.specs.MergingWalk.{IsAcyclic, AreRanked, AllRanked}
use Rattle.plan_model.specs.Repeats.{IsThinned, LeavesOutRepeats}
use Rattle.plan_model.specs.Visits.{Visit, visits}
use Rattle.plan_model.proofs.RankedBelow.{acyclic_below}
use Rattle.plan_table.specs.Rows.{Row}
use Rattle.plan_table.specs.Tables.{table_rows}
use Rattle.collected_fields.specs.declared.collector.Collector.{Collector}
use Rattle.collected_fields.specs.declared.collected.Group.{Group}
use Rattle.collected_fields.specs.Views.{setting_of_planning, collected_field}
use Rattle.collected_fields.specs.Groups.{GroupData, AreGroupsOf}
use Rattle.collected_fields.specs.Lists.{HasMore}
use Rattle.collected_fields.specs.Gathering.{Gathers, IsReady, setting_at, IsNumber, meaning_at, written_at, group_seen, groups_seen, IsGroupAt, GivesGroups}
use Rattle.collected_fields.specs.Alone.{SpreadsAlone}
use Rattle.schema_model.specs.SchemaData.{SchemaData}
use Rattle.collected_fields.proofs.GrowingLaws.{same_meanings, still_known}
use Rattle.merged_selections.specs.declared.stop.Stop.{Stop}
use Rattle.merged_selections.specs.declared.building.Building.{Building}
use Rattle.merged_selections.specs.Outcomes.{has_left, outcome, IsStop}
use Rattle.merged_selections.specs.Stages.{levels_from, type_visits, type_rows, types_rows, node_visits, node_rows, groups_visits, groups_rows, Frame, frame, setting_built, position_built, CanBuild, CanBuildAt, CanBuildGroup, BuildsRows, BuildsTypes, BuildsType, BuildsGroups, BuildsGroup}
use Rattle.merged_selections.proofs.VisitedParts.{goes_on, stays_stopped, same_stop, none_visited}
use Rattle.merged_selections.specs.declared.node.Looked.{Looked}
use Rattle.merged_selections.specs.declared.known.FoundGroups.{FoundGroups}
use Rattle.merged_selections.specs.NodeTests.{IsLookedAt}
use Rattle.merged_selections.specs.Again.{ComeToSame, IsSound, StandFor, AreLooked, MayBeKnown, FindsFor}
use Rattle.merged_selections.proofs.LookedNodes.{none_looked, looked_here}
use Rattle.merged_selections.proofs.MetAgain.{visited_equal, position_still, acyclic_before, told_still, may_still, found_looked, found_stand}
use Rattle.merged_selections.proofs.BuiltParts.{visits_next, no_visits, rows_next, no_rows, gathered_visits, gathered_rows}

-- ---- lists of visits, and of rows

module _ (n m : ℕ) (all here one rest : List Visit) (before : outcome n all ≡ outcome m here) (parts : here ≡ one ++ rest) where
  visits_stop : (stop : Stop) → IsStop stop (outcome m one) → IsStop stop (outcome n all)
  visits_stop stop h = same_stop stop (outcome m (one ++ rest)) (outcome n all) (ap (λ vs. outcome m vs) (sym parts) ∙ sym before) (stays_stopped stop m one rest h)

  visits_go : (k : ℕ) → outcome m one ≡ has_left k → outcome n all ≡ outcome k rest
  visits_go k h = before ∙ (ap (λ vs. outcome m vs) parts ∙ goes_on m k one rest h)

rows_go : (old now new all here one rest : List Row) → now ++ here ≡ old ++ all → here ≡ one ++ rest → new ≡ now ++ one → new ++ rest ≡ old ++ all
rows_go old now new all here one rest before parts grown = ap (λ rows. rows ++ rest) grown ∙ (append_assoc now one rest ∙ (ap (λ rows. now ++ rows) (sym parts) ∙ before))

rows_end : (old now all here : List Row) → now ++ here ≡ old ++ all → here ≡ [] → now ≡ old ++ all
rows_end old now all here before none = sym (append-nil now) ∙ (ap (λ rows. now ++ rows) (sym none) ∙ before)

-- ---- by frames

abbrev pub setting_of : Frame → Setting
setting_of f = setting_of_planning f.0

module _ (old now : Building) (same : frame now ≡ frame old) (more : HasMore old.collector.joins now.collector.joins) where
  pub same_setting : setting_built now ≡ setting_built old
  same_setting = ap setting_of same

  same_written : written_at now.collector ≡ written_at old.collector
  same_written = ap (λ (f : Frame). f.1) same

  same_below : (numbers : List ℕ) → All (IsNumber old.collector) numbers → flat_map (meaning_at now.collector) numbers ≡ flat_map (meaning_at old.collector) numbers
  same_below numbers known = same_meanings old.collector now.collector same_written more numbers known

  pub same_position : (numbers : List ℕ) (handed : HandedSize) → All (IsNumber old.collector) numbers → position_built now numbers handed ≡ position_built old numbers handed
  same_position numbers handed known = ap (λ (ws : List WrittenSelections). record { selections = ws; handed = handed }) (same_below numbers known)

  same_group : (g : Group) → All (IsNumber old.collector) g.below.items → group_seen now.collector g ≡ group_seen old.collector g
  same_group g known = ap (λ (ws : List WrittenSelections). record { fields = map collected_field g.fields.items; below = ws }) (same_below g.below.items known)

  known_acyclic : (numbers : List ℕ) → All (IsNumber old.collector) numbers × IsAcyclic (setting_built old) (position_built old numbers None) → All (IsNumber now.collector) numbers × IsAcyclic (setting_built now) (position_built now numbers None)
  known_acyclic numbers can = (
    still_known old.collector now.collector same_written more numbers can.0,
    subst (λ (x : Setting). IsAcyclic x (position_built now numbers None)) (sym same_setting) (subst (λ (p : Position). IsAcyclic (setting_built old) p) (sym (same_position numbers None can.0)) can.1),
  )

  pub can_at : (lists : List ℕ) → (CanBuild old → CanBuild now) → CanBuildAt old lists → CanBuildAt now lists
  can_at lists ready can = (ready can.0, known_acyclic lists can.1)

  pub can_group : (g : Group) → CanBuildGroup old g → CanBuildGroup now g
  can_group g can = record { filled = can.filled; below = known_acyclic g.below.items can.below }

  pub same_groups : (groups : List Group) → All (CanBuildGroup old) groups → groups_seen now.collector groups ≡ groups_seen old.collector groups
  same_groups [] all = refl
  same_groups (g ∷ groups) all =
      ap (λ x. x ∷ groups_seen now.collector groups) (same_group g (All-head (CanBuildGroup old) g groups all).below.0) ∙ ap (λ xs. group_seen old.collector g ∷ xs) (same_groups groups (All-tail (CanBuildGroup old) g groups all))

  -- a type
  module _ (depth : ℕ) (result : Result (Unit {0}) Stop) (new : Building) where
    abbrev TypeRows : ℕ → Setting → Position → Type 0
    TypeRows T x p = BuildsRows result now new (type_visits x (levels_from depth) p T) (type_rows x (levels_from depth) depth p T)

    one_type : (T : ℕ) (lists : List ℕ) (handed : HandedSize) → (CanBuild old → CanBuild now) → BuildsType now depth result new T lists handed → CanBuildAt old lists
        → BuildsRows result now new (type_visits (setting_built old) (levels_from depth) (position_built old lists handed) T) (type_rows (setting_built old) (levels_from depth) depth (position_built old lists handed) T)
    one_type T lists handed ready h can =
        subst (λ (x : Setting). TypeRows T x (position_built old lists handed)) same_setting (subst (λ (p : Position). TypeRows T (setting_built now) p) (same_position lists handed can.1.0) (h (can_at lists ready can)))

    abbrev GroupRows : ℕ → Bool → HandedSize → Setting → GroupData → Type 0
    GroupRows T first handed x g = BuildsRows result now new (node_visits x T handed (levels_from depth) g) (node_rows x T handed (levels_from depth) depth first g)

    one_group : (T : ℕ) (first : Bool) (g : Group) (looked : Option Looked) (handed : HandedSize) → (CanBuild old → CanBuild now) → BuildsGroup now depth result new T first g looked handed → IfSome looked (IsLookedAt (setting_built old) T handed (map collected_field g.fields.items)) → CanBuild old → CanBuildGroup old g
        → BuildsRows result now new (node_visits (setting_built old) T handed (levels_from depth) (group_seen old.collector g)) (node_rows (setting_built old) T handed (levels_from depth) depth first (group_seen old.collector g))
    one_group T first g looked handed ready h seen can can_g =
        subst (λ (x : Setting). GroupRows T first handed x (group_seen old.collector g)) same_setting (subst (λ (d : GroupData). GroupRows T first handed (setting_built now) d) (same_group g can_g.below.0) (h (subst (λ (x : Setting). IfSome looked (IsLookedAt x T handed (map collected_field g.fields.items))) (sym same_setting) seen) (ready can, can_group g can_g)))

-- ---- types one after another

module _ (old now new : Building) (depth : ℕ) (types : List TypeId) (lists : List ℕ) (handed : HandedSize) (at : ℕ) where
  abbrev e : Setting
  e = setting_built old

  abbrev p : Position
  p = position_built old lists handed

  abbrev visits_of_types : List TypeId → List Visit
  visits_of_types ts = visits e (levels_from depth) (map type_number ts) p

  abbrev rows_of : List TypeId → List Row
  rows_of ts = types_rows e (levels_from depth) depth p (map type_number ts)

  abbrev SoFar : ℕ → Building → Type 0
  SoFar i b = CanBuildAt old lists → (outcome old.left (visits_of_types types) ≡ outcome b.left (visits_of_types (drop i types))) × (table_rows b.plan ++ rows_of (drop i types) ≡ table_rows old.plan ++ rows_of types)

  module _ (same : frame now ≡ frame old) (more : HasMore old.collector.joins now.collector.joins) (ready : CanBuild old → CanBuild now) (so_far : SoFar at now) where
    module _ (of : TypeId) (front : drop at types ≡ of ∷ drop (at + 1) types) where
      visits_parts : visits_of_types (drop at types) ≡ type_visits e (levels_from depth) p of.number ++ visits_of_types (drop (at + 1) types)
      visits_parts = ap visits_of_types front ∙ visits_next e (levels_from depth) p of.number (map type_number (drop (at + 1) types))

      rows_parts : rows_of (drop at types) ≡ type_rows e (levels_from depth) depth p of.number ++ rows_of (drop (at + 1) types)
      rows_parts = ap rows_of front ∙ rows_next e (levels_from depth) depth p of.number (map type_number (drop (at + 1) types))

      pub types_stop : (stop : Stop) → BuildsType now depth (Err stop) new of.number lists handed → BuildsTypes old depth (Err stop) new types lists handed
      types_stop stop h can = visits_stop old.left now.left (visits_of_types types) (visits_of_types (drop at types)) (type_visits e (levels_from depth) p of.number) (visits_of_types (drop (at + 1) types)) ((so_far can).0) visits_parts stop
          (one_type old now same more depth (Err stop) new of.number lists handed ready h can)

      pub types_go : (done : Unit {0}) → BuildsType now depth (Ok done) new of.number lists handed → SoFar (at + 1) new
      types_go done h can =
          let here = one_type old now same more depth (Ok done) new of.number lists handed ready h can in (
            visits_go old.left now.left (visits_of_types types) (visits_of_types (drop at types)) (type_visits e (levels_from depth) p of.number) (visits_of_types (drop (at + 1) types)) ((so_far can).0) visits_parts new.left here.0,
            rows_go (table_rows old.plan) (table_rows now.plan) (table_rows new.plan) (rows_of types) (rows_of (drop at types)) (type_rows e (levels_from depth) depth p of.number) (rows_of (drop (at + 1) types)) ((so_far can).1) rows_parts here.1,
          )

    pub types_end : length types ≤ at → (done : Unit {0}) → BuildsTypes old depth (Ok done) now types lists handed
    types_end past done can = (
      (so_far can).0 ∙ (ap (λ ts. outcome now.left (visits_of_types ts)) (drop_all at types past) ∙ (ap (λ vs. outcome now.left vs) (no_visits e (levels_from depth) p) ∙ none_visited now.left)),
      rows_end (table_rows old.plan) (table_rows now.plan) (rows_of types) (rows_of (drop at types)) ((so_far can).1) (ap rows_of (drop_all at types past) ∙ no_rows e (levels_from depth) depth p),
    )

-- ---- keys one after another

module _ (old now new : Building) (depth T : ℕ) (groups : List Group) (looked : List Looked) (handed : HandedSize) (at : ℕ) (first : Bool) where
  abbrev e' : Setting
  e' = setting_built old

  abbrev visits_of_groups : List Group → List Visit
  visits_of_groups gs = groups_visits e' T handed (levels_from depth) (groups_seen old.collector gs)

  abbrev rows_from : Bool → List Group → List Row
  rows_from start gs = groups_rows e' T handed (levels_from depth) depth start (groups_seen old.collector gs)

  abbrev GroupsSoFar : ℕ → Bool → Building → Type 0
  GroupsSoFar i start b = AreLooked e' T handed groups looked → CanBuild old × All (CanBuildGroup old) groups → (outcome old.left (visits_of_groups groups) ≡ outcome b.left (visits_of_groups (drop i groups))) × (table_rows b.plan ++ rows_from start (drop i groups) ≡ table_rows old.plan ++ rows_from true groups)

  module _ (same : frame now ≡ frame old) (more : HasMore old.collector.joins now.collector.joins) (ready : CanBuild old → CanBuild now) (so_far : GroupsSoFar at first now) where
    module _ (g : Group) (within : at < length groups) (is : g ≡ get_or groups at g) where
      abbrev one_visits : List Visit
      one_visits = node_visits e' T handed (levels_from depth) (group_seen old.collector g)

      abbrev one_rows : List Row
      one_rows = node_rows e' T handed (levels_from depth) depth first (group_seen old.collector g)

      can_here : All (CanBuildGroup old) groups → CanBuildGroup old g
      can_here all = subst (λ x. CanBuildGroup old x) (sym is) (All-get_or (CanBuildGroup old) groups at g within all)

      seen_here : AreLooked e' T handed groups looked → IfSome (slice_get looked at) (IsLookedAt e' T handed (map collected_field g.fields.items))
      seen_here seen = looked_here e' T handed groups looked at g within is seen

      pub groups_stop : (stop : Stop) → BuildsGroup now depth (Err stop) new T first g (slice_get looked at) handed → BuildsGroups old depth (Err stop) new T groups looked handed
      groups_stop stop h seen can = visits_stop old.left now.left (visits_of_groups groups) (visits_of_groups (drop at groups)) one_visits (visits_of_groups (drop (at + 1) groups)) ((so_far seen can).0) (ap visits_of_groups (at_front groups at g within is)) stop
          (one_group old now same more depth (Err stop) new T first g (slice_get looked at) handed ready h (seen_here seen) can.0 (can_here can.1))

      pub groups_go : (done : Unit {0}) → BuildsGroup now depth (Ok done) new T first g (slice_get looked at) handed → GroupsSoFar (at + 1) false new
      groups_go done h seen can =
          let here = one_group old now same more depth (Ok done) new T first g (slice_get looked at) handed ready h (seen_here seen) can.0 (can_here can.1) in (
            visits_go old.left now.left (visits_of_groups groups) (visits_of_groups (drop at groups)) one_visits (visits_of_groups (drop (at + 1) groups)) ((so_far seen can).0) (ap visits_of_groups (at_front groups at g within is)) new.left here.0,
            rows_go (table_rows old.plan) (table_rows now.plan) (table_rows new.plan) (rows_from true groups) (rows_from first (drop at groups)) one_rows (rows_from false (drop (at + 1) groups)) ((so_far seen can).1) (ap (rows_from first) (at_front groups at g within is)) here.1,
          )

    pub groups_end : length groups ≤ at → (done : Unit {0}) → BuildsGroups old depth (Ok done) now T groups looked handed
    groups_end past done seen can = (
      (so_far seen can).0 ∙ (ap (λ gs. outcome now.left (visits_of_groups gs)) (drop_all at groups past) ∙ none_visited now.left),
      rows_end (table_rows old.plan) (table_rows now.plan) (rows_from true groups) (rows_from first (drop at groups)) ((so_far seen can).1) (ap (rows_from first) (drop_all at groups past)),
    )

-- ---- the keys of a type

-- what stands below the groups is acyclic
acyclic_groups : (e : Setting) (T : ℕ) (p : Position) (fields : List CollectedField) → LeavesOutRepeats (fields_at e T p) fields → IsAcyclic e p → (c : Collector) (keys : List (List ℕ)) (groups : List Group) → AreGroupsOf e fields keys (groups_seen c groups) → All (IsGroupAt c) groups
    → All (λ (g : Group). (0 < length g.fields.items) × (All (IsNumber c) g.below.items × IsAcyclic e (record { selections = flat_map (meaning_at c) g.below.items; handed = None }))) groups
acyclic_groups e T p fields less acyclic c [] [] of at = λ k d lt. absurd (none k lt)
  where
    none : (k : ℕ) → k < 0 → ⊥
    none k lt = omega arith
acyclic_groups e T p fields less acyclic c [] (g ∷ groups) of at = absurd of
acyclic_groups e T p fields less acyclic c (key ∷ keys) [] of at = absurd of
acyclic_groups e T p fields less acyclic c (key ∷ keys) (g ∷ groups) of at =
    let below : IsAcyclic e (position_below e T (fields_of_key key fields)) = acyclic_below acyclic.rank e T acyclic.fragments p fields less acyclic.spreads key in
    let here : IsGroupAt c g = All-head (IsGroupAt c) g groups at in
    All-cons (λ (x : Group). (0 < length x.fields.items) × (All (IsNumber c) x.below.items × IsAcyclic e (record { selections = flat_map (meaning_at c) x.below.items; handed = None }))) g groups (
      here.filled,
      (
        here.known,
        record {
          rank = below.rank;
          fragments = below.fragments;
          spreads = ranked_left below.rank (nesting e) (map (selections_below e) (fields_of_key key fields)) (flat_map (meaning_at c) g.below.items) [] of.0.below below.spreads;
        },
      ),
    )
    (acyclic_groups e T p fields less acyclic c keys groups of.1 (All-tail (IsGroupAt c) g groups at))
  where
    ranked_left : (rank : List ℕ → ℕ) (bound : ℕ) (xs ys seen : List WrittenSelections) → IsThinned seen xs ys → AllRanked rank bound xs → AllRanked rank bound ys
    ranked_left rank bound [] [] seen t r = tt
    ranked_left rank bound [] (y ∷ ys) seen t r = absurd t
    ranked_left rank bound (x ∷ xs) [] seen t r = tt
    ranked_left rank bound (x ∷ xs) (y ∷ ys) seen (inl stays) r = (subst (λ (w : WrittenSelections). AreRanked rank bound w.1) stays.0 r.0, ranked_left rank bound xs ys (x ∷ seen) stays.1 r.1)
    ranked_left rank bound (x ∷ xs) (y ∷ ys) seen (inr goes) r = ranked_left rank bound xs (y ∷ ys) seen goes.1 r.1

-- they are groups of which nodes can be built
pub gathered_can : (old mid : Building) → frame mid ≡ frame old → (T : ℕ) (lists : List ℕ) (groups : List Group) → GivesGroups old.collector mid.collector T lists groups → IsReady old.collector → IsAcyclic (setting_built old) (position_built old lists None)
    → All (CanBuildGroup mid) groups
gathered_can old mid same T lists groups gives ready acyclic =
    let e : Setting = setting_built old in
    let none : Position = position_built old lists None in
    let g : Gathers e T none (groups_seen mid.collector groups) = gives.found ready acyclic in
    all_can groups (acyclic_groups e T none g.fields g.repeats acyclic mid.collector (keys_of g.fields) groups g.grouped (gives.right ready acyclic))
  where
    all_can : (gs : List Group) → All (λ (g : Group). (0 < length g.fields.items) × (All (IsNumber mid.collector) g.below.items × IsAcyclic (setting_built old) (record { selections = flat_map (meaning_at mid.collector) g.below.items; handed = None }))) gs → All (CanBuildGroup mid) gs
    all_can [] a = λ k d lt. absurd (none_less k lt)
      where
        none_less : (k : ℕ) → k < 0 → ⊥
        none_less k lt = omega arith
    all_can (x ∷ gs) a =
        let P : Group → Type 0 = λ (g : Group). (0 < length g.fields.items) × (All (IsNumber mid.collector) g.below.items × IsAcyclic (setting_built old) (record { selections = flat_map (meaning_at mid.collector) g.below.items; handed = None })) in
        let here = All-head P x gs a in
        All-cons (CanBuildGroup mid) x gs (record { filled = here.0; below = (here.1.0, subst (λ (s : Setting). IsAcyclic s (position_built mid x.below.items None)) (sym (ap setting_of same)) here.1.1) }) (all_can gs (All-tail P x gs a))

module _ (old mid new : Building) (same : frame mid ≡ frame old) (left : mid.left ≡ old.left) (table : table_rows mid.plan ≡ table_rows old.plan) (depth T : ℕ) (lists : List ℕ) (handed : HandedSize) (groups : List Group) where
  pub type_built : (result : Result (Unit {0}) Stop) → (CanBuild old → CanBuild mid) → GivesGroups old.collector mid.collector T lists groups → BuildsGroups mid depth result new T groups [] handed → BuildsType old depth result new T lists handed
  type_built result ready gives h can =
      let e : Setting = setting_built old in
      let none : Position = position_built old lists None in
      let g : Gathers e T none (groups_seen mid.collector groups) = gives.found can.0.collector can.1.1 in
      let p : Position = position_built old lists handed in
      let gathers : Gathers e T p (groups_seen mid.collector groups) = record { fields = g.fields; repeats = g.repeats; grouped = g.grouped } in
      let setting_there : setting_built mid ≡ e = ap setting_of same in
      let can_groups : All (CanBuildGroup mid) groups = gathered_can old mid same T lists groups gives can.0.collector can.1.1 in
      moved result (groups_visits e T handed (levels_from depth) (groups_seen mid.collector groups)) (type_visits e (levels_from depth) p T) (groups_rows e T handed (levels_from depth) depth true (groups_seen mid.collector groups)) (type_rows e (levels_from depth) depth p T)
      (subst (λ (x : Setting). BuildsRows result mid new (groups_visits x T handed (levels_from depth) (groups_seen mid.collector groups)) (groups_rows x T handed (levels_from depth) depth true (groups_seen mid.collector groups))) setting_there (h (none_looked (setting_built mid) T handed groups) (ready can.0, can_groups)))
      (gathered_visits e T p (groups_seen mid.collector groups) gathers (levels_from depth)) (gathered_rows e T p (groups_seen mid.collector groups) gathers (levels_from depth) depth)
    where
      moved : (result : Result (Unit {0}) Stop) (vs us : List Visit) (rows others : List Row) → BuildsRows result mid new vs rows → vs ≡ us → rows ≡ others → BuildsRows result old new us others
      moved (Ok done) vs us rows others b v r = (ap (λ n. outcome n us) (sym left) ∙ (ap (λ x. outcome mid.left x) (sym v) ∙ b.0), b.1 ∙ (ap (λ x. x ++ rows) table ∙ ap (λ x. table_rows old.plan ++ x) r))
      moved (Err stop) vs us rows others b v r = same_stop stop (outcome mid.left vs) (outcome old.left us) (ap (λ x. outcome mid.left x) v ∙ ap (λ n. outcome n us) left) b

-- ---- groups that are known

sound_groups : (b : Building) (groups : List Group) → All (CanBuildGroup b) groups → All (IsSound b.collector) groups
sound_groups b groups can = λ k d less. let here = can k d less in (record { filled = here.filled; known = here.below.0 }, here.below.1)

can_groups : (b : Building) (groups : List Group) → All (IsSound b.collector) groups → All (CanBuildGroup b) groups
can_groups b groups sound = λ k d less. let here = sound k d less in record { filled = here.0.filled; below = (here.0.known, here.1) }

-- of a position that is met again
pub known_built : (old new : Building) (depth T : ℕ) (lists : List ℕ) (handed : HandedSize) (spread : Option (List ℕ)) (f : FoundGroups) (s : SchemaData) (result : Result (Unit {0}) Stop) → (setting_at old.collector).schema ≡ s → FindsFor s old.known T lists spread handed f
    → IfSome spread (SpreadsAlone old.collector lists) → BuildsGroups old depth result new T f.groups.items f.looked.items handed → BuildsType old depth result new T lists handed
known_built old new depth T lists handed spread f s result schema found alone h can =
    let groups : List Group = f.groups.items in
    let stand : StandFor old.collector T lists groups = found_stand old.collector old.known s T lists spread handed f schema can.0.known found alone can.1.1 in
    subst (λ (vs : List Visit). BuildsRows result old new vs (type_rows (setting_built old) (levels_from depth) depth (position_built old lists handed) T)) (stand.come.visits handed (levels_from depth))
    (subst (λ (rows : List Row). BuildsRows result old new (groups_visits (setting_built old) T handed (levels_from depth) (groups_seen old.collector groups)) rows) (stand.come.rows handed (levels_from depth) depth)
    (h (found_looked old.collector old.known s T lists spread handed f schema can.0.known found) (can.0, can_groups old groups stand.sound)))

-- Where nodes were built of the groups of a position, these stand for it.
module _ (old mid new : Building) (same : frame mid ≡ frame old) (after : frame new ≡ frame mid) (more : HasMore old.collector.joins mid.collector.joins) (more_after : HasMore mid.collector.joins new.collector.joins) (ready : CanBuild old) (can : CanBuild mid) where
  pub built_known : (depth T : ℕ) (lists : List ℕ) (handed : HandedSize) (spread : Option (List ℕ)) (groups : List Group) (done : Unit {0}) → All (IsNumber old.collector) lists → IfSome spread (SpreadsAlone old.collector lists) → GivesGroups old.collector mid.collector T lists groups
      → BuildsGroups mid depth (Ok done) new T groups [] handed → MayBeKnown new.collector T lists spread groups
  built_known depth T lists handed spread groups done known alone gives built =
      may_still mid.collector new.collector (ap (λ (f : Frame). f.0) after) (ap (λ (f : Frame). f.1) after) more_after T lists spread groups (record {
        numbers = still_known old.collector mid.collector (ap (λ (f : Frame). f.1) same) more lists known;
        spread = told_still old.collector mid.collector (ap (λ (f : Frame). f.0) same) (ap (λ (f : Frame). f.1) same) more lists spread known alone;
        stand = λ acyclic.
            let before : IsAcyclic (setting_built old) (position_built old lists None) = acyclic_before old.collector mid.collector (ap (λ (f : Frame). f.0) same) (ap (λ (f : Frame). f.1) same) more lists known acyclic in
            let groups_can : All (CanBuildGroup mid) groups = gathered_can old mid same T lists groups gives ready.collector before in
            let e : Setting = setting_built old in
            let none : Position = position_built old lists None in
            let g : Gathers e T none (groups_seen mid.collector groups) = gives.found ready.collector before in
            record {
              sound = sound_groups mid groups groups_can;
              equal = visited_equal (setting_built mid) T handed mid.left new.left (levels_from depth) (groups_seen mid.collector groups) (built (none_looked (setting_built mid) T handed groups) (can, groups_can)).0;
              come = subst (λ (x : Setting). ComeToSame x T (groups_seen mid.collector groups) (position_built mid lists None)) (sym (ap setting_of same))
                  (subst (λ (p : Position). ComeToSame e T (groups_seen mid.collector groups) p) (sym (position_still old.collector mid.collector (ap (λ (f : Frame). f.0) same) (ap (λ (f : Frame). f.1) same) more lists known)) (record {
                    visits = λ h levels. gathered_visits e T (position_built old lists h) (groups_seen mid.collector groups) (record { fields = g.fields; repeats = g.repeats; grouped = g.grouped }) levels;
                    rows = λ h levels d. gathered_rows e T (position_built old lists h) (groups_seen mid.collector groups) (record { fields = g.fields; repeats = g.repeats; grouped = g.grouped }) levels d;
                  }));
            };
      })
