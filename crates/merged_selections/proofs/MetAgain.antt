-- Groups that are known for positions, while there come to be more numbers, and where a position is met again.
use Rattle.std.proofs.Common.{◌≡◌, ◌<◌, ℕ, zero, suc, true, List, [], ◌∷◌, ◌++◌, map, flat_map, All, Option, Some, None, refl, sym, ap, ◌∙◌, subst, arith}
use Rattle.std.specs.Prelude.{IfSome}
use Rattle.std.specs.Borrow.{Bor}
use Rattle.std.specs.List.{slice_get}
use Rattle.std.proofs.lemmas.List.Elements.{All-head, All-tail, All-cons}
use Rattle.std.proofs.lemmas.Option.{slice_get_within, get_or_from_slice_get}
use Rattle.response_model.specs.Plan.{Plan as PlanTree, Nodes, node}
use Rattle.schema_model.specs.SchemaData.{SchemaData}
use Rattle.plan_model.specs.SelectedFields.{Setting, HandedSize, Place, types_of, place_at}
use Rattle.plan_model.specs.Collecting.{CollectedField, WrittenSelections, fields_spread, nesting}
use Rattle.plan_model.specs.Merging.{Position, fields_at, keys_of, fields_of_key, first_call, selected_by, position_below}
use Rattle.plan_model.specs.MergingWalk.{IsAcyclic, AllRanked}
use Rattle.plan_model.specs.Plans.{with_capped, type_weight}
use Rattle.plan_model.specs.Visits.{NodeFault, fault_of, Visit, visits_of, visits, too_deep_at, planned_nodes}
use Rattle.plan_table.specs.Rows.{rows_of_nodes}
use Rattle.collected_fields.specs.declared.collector.Collector.{Collector}
use Rattle.collected_fields.specs.declared.collected.Group.{Group}
use Rattle.collected_fields.specs.Views.{setting_of_planning, collected_field}
use Rattle.collected_fields.specs.Groups.{GroupData}
use Rattle.collected_fields.specs.Lists.{HasMore}
use Rattle.collected_fields.specs.Gathering.{planning_of, setting_at, written_at, position_at, IsNumber, group_seen, groups_seen}
use Rattle.collected_fields.specs.Alone.{SpreadsAlone}
use Rattle.collected_fields.proofs.GrowingLaws.{same_meanings, still_known}
use Rattle.merged_selections.specs.declared.known.Known.{Known}
use Rattle.merged_selections.specs.declared.known.KnownGroups.{KnownGroups}
use Rattle.merged_selections.specs.Outcomes.{Outcome, has_left, outcome, unless_fault}
use Rattle.merged_selections.specs.Nodes.{type_visits, planned_below, type_rows, node_visits, groups_visits}
use Rattle.merged_selections.specs.declared.known.FoundGroups.{FoundGroups}
use Rattle.merged_selections.specs.NodeParts.{handed_data}
use Rattle.merged_selections.specs.Again.{AreEqualFields, AreEqualGroups, HaveSome, ComeToSame, IsSound, StandFor, AreLooked, MayBeKnown, IsKnown, AreKnown, name_in, IsSamePlace, FindsFor}
use Rattle.merged_selections.proofs.SomeFields.{faultless_equal, stand_shorter}
use Rattle.merged_selections.proofs.LookedNodes.{looked_shorter, taken}

-- ---- nodes that have no fault

abbrev NoFaults : List Visit → Type 0
NoFaults [] = Unit {0}
NoFaults (v ∷ vs) = (v.fault ≡ None) × NoFaults vs

unless_none : (path : List (List ℕ)) (fault : Option NodeFault) (o : Outcome) (m : ℕ) → unless_fault path fault o ≡ has_left m → (fault ≡ None) × (o ≡ has_left m)
unless_none path None o m h = (refl, h)
unless_none path (Some fault) o m h = absurd (cc)

none_at_fault : (n m : ℕ) (vs : List Visit) → outcome n vs ≡ has_left m → NoFaults vs
unfolding outcome
none_at_fault n m [] h = tt
none_at_fault zero m (v ∷ vs) h = absurd (cc)
none_at_fault (suc n) m (v ∷ vs) h = let b = unless_none v.path v.fault (outcome n vs) m h in (b.0, none_at_fault n m vs b.1)

front : (vs ws : List Visit) → NoFaults (vs ++ ws) → NoFaults vs
front [] ws h = tt
front (v ∷ vs) ws h = (h.0, front vs ws h.1)

back : (vs ws : List Visit) → NoFaults (vs ++ ws) → NoFaults ws
back [] ws h = h
back (v ∷ vs) ws h = back vs ws h.1

module _ (e : Setting) (T : ℕ) (handed : HandedSize) where
  own_fault : (key : List ℕ) (fault : Option NodeFault) (below : List Visit) → NoFaults (visits_of key fault below) → fault ≡ None
  own_fault key None below h = refl
  own_fault key (Some fault) below h = h.0

  one_equal : (levels : ℕ) (g : GroupData) → NoFaults (node_visits e T handed levels g) → AreEqualFields e T g.fields
  one_equal zero g h = absurd (never h.0)
    where
      never : {A : Type 0} {x : A} → Some x ≡ None → ⊥
      never h = cc
  one_equal (suc levels) g h = faultless_equal e T handed g.fields (own_fault _ (fault_of e T handed g.fields) _ h)

  all_equal : (levels : ℕ) (groups : List GroupData) → NoFaults (groups_visits e T handed levels groups) → AreEqualGroups e T groups
  all_equal levels [] h = λ k d less. absurd (none_less k less)
    where
      none_less : (k : ℕ) → k < 0 → ⊥
      none_less k less = omega arith
  all_equal levels (g ∷ groups) h = All-cons (λ (d : GroupData). AreEqualFields e T d.fields) g groups
      (one_equal levels g (front (node_visits e T handed levels g) (groups_visits e T handed levels groups) h))
      (all_equal levels groups (back (node_visits e T handed levels g) (groups_visits e T handed levels groups) h))

  -- where nodes are visited and none is at fault, the fields of each key are equal
  pub visited_equal : (n m levels : ℕ) (groups : List GroupData) → outcome n (groups_visits e T handed levels groups) ≡ has_left m → AreEqualGroups e T groups
  visited_equal n m levels groups h = all_equal levels groups (none_at_fault n m (groups_visits e T handed levels groups) h)

-- ---- positions of the same fields

module _ (e : Setting) (T : ℕ) (p q : Position) (same : fields_at e T p ≡ fields_at e T q) (handed : HandedSize) where
  abbrev p' : Position
  p' = record p { handed = handed }

  abbrev q' : Position
  q' = record q { handed = handed }

  abbrev visits_from : ℕ → List CollectedField → List Visit
  visits_from zero fields = map too_deep_at (keys_of fields)
  visits_from (suc l) fields = flat_map (λ (key : List ℕ). visits_of key (fault_of e T handed (fields_of_key key fields)) (visits e l (types_of (place_at e T (first_call (fields_of_key key fields)))) (position_below e T (fields_of_key key fields)))) (keys_of fields)

  same_visits : (levels : ℕ) → type_visits e levels p' T ≡ type_visits e levels q' T
  same_visits zero = ap (visits_from zero) same
  same_visits (suc l) = ap (visits_from (suc l)) same

  module _ (deeper : Place → Position → PlanTree) where
    abbrev one_node : List ℕ → Nodes → List CollectedField → Nodes
    one_node key nodes fields = node (with_capped (selected_by e T key handed (fields_of_key key fields))) (deeper (place_at e T (first_call (fields_of_key key fields))) (position_below e T (fields_of_key key fields))) nodes

    same_planned : (keys : List (List ℕ)) → planned_nodes e deeper p' T keys ≡ planned_nodes e deeper q' T keys
    same_planned [] = refl
    same_planned (key ∷ keys) = ap (one_node key (planned_nodes e deeper p' T keys)) same ∙ ap (λ (nodes : Nodes). one_node key nodes (fields_at e T q)) (same_planned keys)

  same_type_rows : (levels depth : ℕ) → type_rows e levels depth p' T ≡ type_rows e levels depth q' T
  same_type_rows levels depth = ap (rows_of_nodes depth T (type_weight e T) true)
      (ap (λ (fields : List CollectedField). planned_nodes e (planned_below e levels) p' T (keys_of fields)) same ∙ same_planned (planned_below e levels) (keys_of (fields_at e T q)))

come_there : (e : Setting) (T : ℕ) (groups : List GroupData) (p q : Position) → fields_at e T p ≡ fields_at e T q → ComeToSame e T groups p → ComeToSame e T groups q
come_there e T groups p q same come = record {
  visits = λ handed levels. come.visits handed levels ∙ same_visits e T p q same handed levels;
  rows = λ handed levels depth. come.rows handed levels depth ∙ same_type_rows e T p q same handed levels depth;
}

-- ---- more numbers

module _ (c d : Collector) (planning : planning_of d ≡ planning_of c) (written : written_at d ≡ written_at c) (more : HasMore c.joins d.joins) where
  setting_still : setting_at d ≡ setting_at c
  setting_still = ap setting_of_planning planning

  pub position_still : (numbers : List ℕ) → All (IsNumber c) numbers → position_at d numbers ≡ position_at c numbers
  position_still numbers known = ap (λ (ws : List WrittenSelections). record { selections = ws; handed = None }) (same_meanings c d written more numbers known)

  pub acyclic_before : (numbers : List ℕ) → All (IsNumber c) numbers → IsAcyclic (setting_at d) (position_at d numbers) → IsAcyclic (setting_at c) (position_at c numbers)
  acyclic_before numbers known acyclic = subst (λ (p : Position). IsAcyclic (setting_at c) p) (position_still numbers known) (subst (λ (x : Setting). IsAcyclic x (position_at d numbers)) setting_still acyclic)

  acyclic_still : (numbers : List ℕ) → All (IsNumber c) numbers → IsAcyclic (setting_at c) (position_at c numbers) → IsAcyclic (setting_at d) (position_at d numbers)
  acyclic_still numbers known acyclic = subst (λ (x : Setting). IsAcyclic x (position_at d numbers)) (sym setting_still) (subst (λ (p : Position). IsAcyclic (setting_at c) p) (sym (position_still numbers known)) acyclic)

  sound_still : (groups : List Group) → All (IsSound c) groups → All (IsSound d) groups
  sound_still groups sound = λ k default less.
      let here = sound k default less in
      (record { filled = here.0.filled; known = still_known c d written more _ here.0.known }, acyclic_still _ here.0.known here.1)

  groups_still : (groups : List Group) → All (IsSound c) groups → groups_seen d groups ≡ groups_seen c groups
  groups_still [] sound = refl
  groups_still (g ∷ groups) sound =
      let known : All (IsNumber c) g.below.items = (All-head (IsSound c) g groups sound).0.known in
      ap (λ (ws : List WrittenSelections). record { fields = map collected_field g.fields.items; below = ws } ∷ groups_seen d groups) (same_meanings c d written more g.below.items known)
      ∙ ap (λ (gs : List GroupData). group_seen c g ∷ gs) (groups_still groups (All-tail (IsSound c) g groups sound))

  alone_still : (numbers name : List ℕ) → All (IsNumber c) numbers → SpreadsAlone c numbers name → SpreadsAlone d numbers name
  alone_still numbers name known alone = record {
    fields = λ T. subst (λ (x : Setting). fields_at x T (position_at d numbers) ≡ fields_spread x T (nesting x) name) (sym setting_still)
        (subst (λ (p : Position). fields_at (setting_at c) T p ≡ fields_spread (setting_at c) T (nesting (setting_at c)) name) (sym (position_still numbers known)) (alone.fields T));
    above = λ rank. subst (λ (x : Setting). AllRanked rank (nesting x) (position_at d numbers).selections → rank name < nesting x) (sym setting_still)
        (subst (λ (p : Position). AllRanked rank (nesting (setting_at c)) p.selections → rank name < nesting (setting_at c)) (sym (position_still numbers known)) (alone.above rank));
    below = λ rank. subst (λ (x : Setting). rank name < nesting x → AllRanked rank (nesting x) (position_at d numbers).selections) (sym setting_still)
        (subst (λ (p : Position). rank name < nesting (setting_at c) → AllRanked rank (nesting (setting_at c)) p.selections) (sym (position_still numbers known)) (alone.below rank));
  }

  pub told_still : (numbers : List ℕ) (spread : Option (List ℕ)) → All (IsNumber c) numbers → IfSome spread (SpreadsAlone c numbers) → IfSome spread (SpreadsAlone d numbers)
  told_still numbers None known alone = tt
  told_still numbers (Some name) known alone = alone_still numbers name known alone

  abbrev StandThere : ℕ → Setting → List GroupData → Position → Type 0
  StandThere T x groups p = AreEqualGroups x T groups × ComeToSame x T groups p

  stand_still : (T : ℕ) (numbers : List ℕ) (groups : List Group) → All (IsNumber c) numbers → StandFor c T numbers groups → StandFor d T numbers groups
  stand_still T numbers groups known stand =
      let there : StandThere T (setting_at d) (groups_seen d groups) (position_at d numbers) =
      subst (λ (x : Setting). StandThere T x (groups_seen d groups) (position_at d numbers)) (sym setting_still)
      (subst (λ (gs : List GroupData). StandThere T (setting_at c) gs (position_at d numbers)) (sym (groups_still groups stand.sound))
      (subst (λ (p : Position). StandThere T (setting_at c) (groups_seen c groups) p) (sym (position_still numbers known)) (stand.equal, stand.come))) in
      record { sound = sound_still groups stand.sound; equal = there.0; come = there.1 }

  pub may_still : (T : ℕ) (numbers : List ℕ) (spread : Option (List ℕ)) (groups : List Group) → MayBeKnown c T numbers spread groups → MayBeKnown d T numbers spread groups
  may_still T numbers spread groups may = record {
    numbers = still_known c d written more numbers may.numbers;
    spread = told_still numbers spread may.numbers may.spread;
    stand = λ acyclic. stand_still T numbers groups may.numbers (may.stand (acyclic_before numbers may.numbers acyclic));
  }

  known_one : (k : KnownGroups) → IsKnown c k → IsKnown d k
  known_one k is = record {
    groups = may_still k.of.number k.lists.items (name_in k.spread) k.groups.items is.groups;
    looked = subst (λ (x : Setting). AreLooked x k.of.number (handed_data k.handed) k.groups.items k.looked.items) (sym setting_still) is.looked;
  }

  pub known_still : (known : Known) → AreKnown c known → AreKnown d known
  known_still known all = λ k default less. known_one _ (all k default less)

-- ---- groups that are kept

pub may_shorter : (c : Collector) (s : SchemaData) (T : ℕ) (numbers kept : List ℕ) (spread : Option (List ℕ)) (groups others : List Group) → (setting_at c).schema ≡ s → kept ≡ numbers → HaveSome s groups others → MayBeKnown c T numbers spread groups → MayBeKnown c T kept spread others
may_shorter c s T numbers kept spread groups others schema same some may = subst (λ (ns : List ℕ). MayBeKnown c T ns spread others) (sym same) (record {
  numbers = may.numbers;
  spread = may.spread;
  stand = λ acyclic. stand_shorter c T numbers groups others (subst (λ (x : SchemaData). HaveSome x groups others) (sym schema) some) (may.stand acyclic);
})

-- ---- a position that is met again

module _ (c : Collector) (own numbers : List ℕ) where
  abbrev e : Setting
  e = setting_at c

  -- what is acyclic is so where it was found, and comes to the same fields there
  abbrev IsThere : Type 0
  IsThere = IsAcyclic e (position_at c own) × ((T : ℕ) → fields_at e T (position_at c own) ≡ fields_at e T (position_at c numbers))

  there : (told spread : Option (List ℕ)) → IfSome told (SpreadsAlone c own) → IsSamePlace told own numbers spread → IfSome spread (SpreadsAlone c numbers) → IsAcyclic e (position_at c numbers) → IsThere
  there None spread alone same alone_too acyclic = (subst (λ (ns : List ℕ). IsAcyclic e (position_at c ns)) (sym same) acyclic, λ T. ap (λ (ns : List ℕ). fields_at e T (position_at c ns)) same)
  there (Some name) spread alone same alone_too acyclic =
      let here : SpreadsAlone c numbers name = subst (λ (o : Option (List ℕ)). IfSome o (SpreadsAlone c numbers)) same alone_too in (
        record { rank = acyclic.rank; fragments = acyclic.fragments; spreads = alone.below acyclic.rank (here.above acyclic.rank acyclic.spreads) },
        λ T. alone.fields T ∙ sym (here.fields T),
      )

known_at : (c : Collector) (all : List KnownGroups) (at : ℕ) (k : KnownGroups) → slice_get all at ≡ Some k → All (IsKnown c) all → IsKnown c k
known_at c all at k is known = subst (IsKnown c) (get_or_from_slice_get all at k k is) (known at k (slice_get_within all at k is))

-- what is found of their nodes
pub found_looked : (c : Collector) (known : Known) (s : SchemaData) (T : ℕ) (numbers : List ℕ) (spread : Option (List ℕ)) (handed : HandedSize) (f : FoundGroups) → (setting_at c).schema ≡ s → AreKnown c known → FindsFor s known T numbers spread handed f
    → AreLooked (setting_at c) T handed f.groups.items f.looked.items
found_looked c known s T numbers spread handed f schema all found =
    let k : KnownGroups = found.one in
    let is : IsKnown c k = known_at c known.made.items found.at k found.there all in
    subst (λ (n : ℕ). AreLooked (setting_at c) n handed f.groups.items f.looked.items) found.for_it.0
    (looked_shorter (setting_at c) k.of.number handed k.groups.items f.groups.items f.looked.items (subst (λ (x : SchemaData). HaveSome x k.groups.items f.groups.items) (sym schema) found.some)
    (taken (setting_at c) k handed k.groups.items f.looked.items found.looked is.looked))

pub found_stand : (c : Collector) (known : Known) (s : SchemaData) (T : ℕ) (numbers : List ℕ) (spread : Option (List ℕ)) (handed : HandedSize) (f : FoundGroups) → (setting_at c).schema ≡ s → AreKnown c known → FindsFor s known T numbers spread handed f
    → IfSome spread (SpreadsAlone c numbers) → IsAcyclic (setting_at c) (position_at c numbers) → StandFor c T numbers f.groups.items
found_stand c known s T numbers spread handed f schema all found alone acyclic =
    let k : KnownGroups = found.one in
    let own : List ℕ = k.lists.items in
    let groups : List Group = f.groups.items in
    let is : IsKnown c k = known_at c known.made.items found.at k found.there all in
    let may : MayBeKnown c k.of.number own (name_in k.spread) k.groups.items = is.groups in
    let is_there = there c own numbers (name_in k.spread) spread may.spread found.for_it.1 alone acyclic in
    let stand : StandFor c k.of.number own groups = stand_shorter c k.of.number own k.groups.items groups (subst (λ (x : SchemaData). HaveSome x k.groups.items groups) (sym schema) found.some) (may.stand is_there.0) in
    subst (λ (n : ℕ). StandFor c n numbers groups) found.for_it.0 (record {
      sound = stand.sound;
      equal = stand.equal;
      come = come_there (setting_at c) k.of.number (groups_seen c groups) (position_at c own) (position_at c numbers) (is_there.1 k.of.number) stand.come;
    })

pub told_by_name : (P : List ℕ → Type 0) (spread : Option (Bor (List ℕ))) → IfSome spread (λ name. P name.now) → IfSome (name_in spread) P
told_by_name P None h = tt
told_by_name P (Some name) h = h
