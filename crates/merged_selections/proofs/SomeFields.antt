-- Fields of one key without those that change nothing, and what is visited and planned of them.
use Rattle.std.proofs.Common.{◌≡◌, ◌<◌, ◌≤◌, ◌+◌, ◌||◌, ℕ, zero, suc, drop, take, get_or, Bool, true, false, not, true≢false, List, [], ◌∷◌, ◌++◌, map, flat_map, length, All, Option, Some, None, refl, sym, ap, ◌∙◌, subst}
use Rattle.std.specs.List.{list_any}
use Rattle.std.specs.Prelude.{option_to_list, is_some}
use Rattle.std.proofs.lemmas.Bool.{or_parts, or_from}
use Rattle.std.specs.Str.{bytes_eq}
use Rattle.std.proofs.lemmas.List.Elements.{All-head, All-tail, All-cons}
use Rattle.std.proofs.lemmas.List.{drop_all, take_more, take_all}
use Rattle.gql_base.proofs.Lists.{at_front}
use Rattle.schema_model.specs.SchemaData.{SchemaData}
use Rattle.schema_rules.specs.First.{or_else, fault_where, first_of}
use Rattle.schema_rules.proofs.FirstFaults.{neither, not_told}
use Rattle.response_model.specs.Plan.{Plan as PlanTree}
use Rattle.plan_model.specs.SelectedFields.{Setting, FieldCall, HandedSize, types_of, lacks_types, place_at, form_at, size_at, weight_at, cost_at, hands_at, arguments_at, if_coerced}
use Rattle.plan_model.specs.Collecting.{CollectedField, WrittenSelections}
use Rattle.plan_model.specs.SameArguments.{same_arguments}
use Rattle.plan_model.specs.Merging.{first_call}
use Rattle.plan_model.specs.MergingWalk.{IsAcyclic}
use Rattle.plan_model.specs.Plans.{with_capped, type_weight}
use Rattle.plan_model.specs.Visits.{NodeFault, conflict, no_possible_type, argument_fault, arguments_differ, names_differ, size_fault, fault_of, Visit, visits_of, visits, too_deep_at}
use Rattle.plan_table.specs.Rows.{Row, below_in, rows_below}
use Rattle.collected_fields.specs.declared.collector.Collector.{Collector}
use Rattle.collected_fields.specs.declared.collected.Collected.{Collected}
use Rattle.collected_fields.specs.declared.collected.Group.{Group}
use Rattle.collected_fields.specs.Views.{collected_field, asks_in}
use Rattle.collected_fields.specs.Groups.{GroupData}
use Rattle.collected_fields.specs.Gathering.{setting_at, position_at, meaning_at, IsNumber, group_seen, groups_seen}
use Rattle.merged_selections.specs.declared.node.Looked.{Looked}
use Rattle.merged_selections.specs.NodeTests.{IsFound, IsLookedAt}
use Rattle.merged_selections.specs.Nodes.{key_seen, planned_below, node_visits, node_rows, groups_visits, groups_rows}
use Rattle.merged_selections.specs.Again.{AreEqualFields, AreEqualGroups, AreSome, IsFirstAsking, HasSome, HaveSome, IsSound, StandFor}

-- ---- the first of some fields, and one that asks

module _ (s : SchemaData) (f : CollectedField) (others : List CollectedField) where
  abbrev others_ask : Bool
  others_ask = list_any (asks_in s) others

  first_passes : (test : CollectedField → Bool) → list_any test (f ∷ others) ≡ false → list_any test (f ∷ []) ≡ false
  first_passes test none = or_from (test f) false (or_parts (test f) (list_any test others) none).0 refl

  pub first_alone : asks_in s f ≡ true → AreSome s (f ∷ others) (f ∷ [])
  first_alone asks = record {
    key = refl;
    call = refl;
    asked = ap (λ (b : Bool). b || false) asks ∙ ap (λ (b : Bool). b || others_ask) (sym asks);
    among = first_passes;
  }

  pub first_with : (one : Option CollectedField) → asks_in s f ≡ false → IsFirstAsking s others one → AreSome s (f ∷ others) (f ∷ option_to_list one)
  first_with None isnt none = record {
    key = refl;
    call = refl;
    asked = ap (λ (b : Bool). b || false) isnt ∙ sym (ap (λ (b : Bool). b || others_ask) isnt ∙ none);
    among = first_passes;
  }
  first_with (Some g) isnt is = record {
    key = refl;
    call = refl;
    asked = ap (λ (b : Bool). b || (asks_in s g || false)) isnt ∙ (ap (λ (b : Bool). b || false) is.0 ∙ sym (ap (λ (b : Bool). b || others_ask) isnt ∙ is.1));
    among = λ test none. let h = or_parts (test f) (list_any test others) none in or_from (test f) (test g || false) h.0 (or_from (test g) false (is.2 test h.1) refl);
  }

-- one of the fields asks, or none of them does
pub asks_first : (s : SchemaData) (f : CollectedField) (fields : List CollectedField) → asks_in s f ≡ true → IsFirstAsking s (f ∷ fields) (Some f)
asks_first s f fields asks = (asks, ap (λ (b : Bool). b || list_any (asks_in s) fields) asks, λ test none. (or_parts (test f) (list_any test fields) none).0)

pub asks_later : (s : SchemaData) (f : CollectedField) (fields : List CollectedField) (one : Option CollectedField) → asks_in s f ≡ false → IsFirstAsking s fields one → IsFirstAsking s (f ∷ fields) one
asks_later s f fields None isnt none = or_from (asks_in s f) (list_any (asks_in s) fields) isnt none
asks_later s f fields (Some g) isnt is = (is.0, ap (λ (b : Bool). b || list_any (asks_in s) fields) isnt ∙ is.1, λ test none. is.2 test (or_parts (test f) (list_any test fields) none).1)

-- ---- no fault

not_there : {A B : Type 0} (p : A → Option B) (xs : List A) → first_of p xs ≡ None → list_any (λ x. is_some (p x)) xs ≡ false
not_there p [] h = refl
not_there p (x ∷ xs) h = let b = neither (p x) (first_of p xs) h in or_from (is_some (p x)) (list_any (λ x. is_some (p x)) xs) (ap is_some b.0) (not_there p xs b.1)

none_there : {B : Type 0} (o : Option B) → is_some o ≡ false → o ≡ None
none_there None h = refl
none_there (Some x) h = absurd (true≢false h)

none_first : {A B : Type 0} (p : A → Option B) (xs : List A) → list_any (λ x. is_some (p x)) xs ≡ false → first_of p xs ≡ None
none_first {B = B} p [] h = refl
none_first {B = B} p (x ∷ xs) h = let b = or_parts (is_some (p x)) (list_any (λ x. is_some (p x)) xs) h in ap (λ (o : Option B). or_else o (first_of p xs)) (none_there (p x) b.0) ∙ none_first p xs b.1

module _ (e : Setting) (T : ℕ) where
  abbrev fault_left : HandedSize → FieldCall → Option NodeFault
  fault_left handed c = or_else (size_fault e T handed c) (fault_where (lacks_types (place_at e T c)) no_possible_type)

  -- fields that have no fault are equal
  pub faultless_equal : (handed : HandedSize) (fields : List CollectedField) → fault_of e T handed fields ≡ None → AreEqualFields e T fields
  faultless_equal handed fields none =
      let after_arguments : Option NodeFault = or_else (fault_where (arguments_differ e T fields) conflict) (fault_left handed (first_call fields)) in
      let names = neither (fault_where (names_differ fields) conflict) (or_else (first_of (argument_fault e T) fields) after_arguments) none in
      let coerced = neither (first_of (argument_fault e T) fields) after_arguments names.1 in
      let arguments = neither (fault_where (arguments_differ e T fields) conflict) (fault_left handed (first_call fields)) coerced.1 in
      record { names = not_told (names_differ fields) conflict names.0; coerced = coerced.0; arguments = not_told (arguments_differ e T fields) conflict arguments.0 }

  -- and the fault of equal ones is that of the first
  equal_fault : (handed : HandedSize) (fields : List CollectedField) → AreEqualFields e T fields → fault_of e T handed fields ≡ fault_left handed (first_call fields)
  equal_fault handed fields h =
      let left : Option NodeFault = fault_left handed (first_call fields) in
      ap (λ (b : Bool). or_else (fault_where b conflict) (or_else (first_of (argument_fault e T) fields) (or_else (fault_where (arguments_differ e T fields) conflict) left))) h.names
      ∙ (ap (λ (o : Option NodeFault). or_else o (or_else (fault_where (arguments_differ e T fields) conflict) left)) h.coerced
      ∙ ap (λ (b : Bool). or_else (fault_where b conflict) left) h.arguments)

  pub some_equal : (fields some : List CollectedField) → AreEqualFields e T fields → AreSome e.schema fields some → AreEqualFields e T some
  some_equal fields some h s = record {
    names = ap (λ (c : FieldCall). list_any (λ f. not (bytes_eq f.call.name c.name)) some) s.call ∙ s.among (λ f. not (bytes_eq f.call.name (first_call fields).name)) h.names;
    coerced = none_first (argument_fault e T) some (s.among (λ f. is_some (argument_fault e T f)) (not_there (argument_fault e T) fields h.coerced));
    arguments = ap (λ (c : FieldCall). list_any (λ f. not (same_arguments (if_coerced (arguments_at e T c)) (if_coerced (arguments_at e T f.call)))) some) s.call
        ∙ s.among (λ f. not (same_arguments (if_coerced (arguments_at e T (first_call fields))) (if_coerced (arguments_at e T f.call)))) h.arguments;
  }

  -- what is found of a node is found by some of its fields
  pub looked_by_some : (handed : HandedSize) (fields some : List CollectedField) (looked : Looked) → AreSome e.schema fields some → IsLookedAt e T handed fields looked → IsLookedAt e T handed some looked
  looked_by_some handed fields some looked s h =
      let equal : AreEqualFields e T fields = faultless_equal handed fields h.0 in (
        (equal_fault handed some (some_equal fields some equal s) ∙ (ap (fault_left handed) s.call ∙ sym (equal_fault handed fields equal))) ∙ h.0,
        subst (λ (c : FieldCall). IsFound e T handed c looked) (sym s.call) h.1,
      )

  -- ---- one node

  module _ (handed : HandedSize) (g h : GroupData) (equal : AreEqualFields e T g.fields) (some : AreSome e.schema g.fields h.fields) (below : h.below ≡ g.below) where
    same_fault : fault_of e T handed h.fields ≡ fault_of e T handed g.fields
    same_fault = equal_fault handed h.fields (some_equal g.fields h.fields equal some) ∙ (ap (fault_left handed) some.call ∙ sym (equal_fault handed g.fields equal))

    abbrev visits_by : ℕ → List ℕ → Option NodeFault → FieldCall → List WrittenSelections → List Visit
    visits_by l key fault c inside = visits_of key fault (visits e l (types_of (place_at e T c)) (record { selections = inside; handed = hands_at e T c }))

    same_node : (levels : ℕ) → node_visits e T handed levels h ≡ node_visits e T handed levels g
    same_node zero = ap (λ (k : List ℕ). too_deep_at k ∷ []) some.key
    same_node (suc l) =
        ap (λ (k : List ℕ). visits_by l k (fault_of e T handed h.fields) (first_call h.fields) h.below) some.key
        ∙ (ap (λ (o : Option NodeFault). visits_by l (key_seen g.fields) o (first_call h.fields) h.below) same_fault
        ∙ (ap (λ (c : FieldCall). visits_by l (key_seen g.fields) (fault_of e T handed g.fields) c h.below) some.call
        ∙ ap (λ (ws : List WrittenSelections). visits_by l (key_seen g.fields) (fault_of e T handed g.fields) (first_call g.fields) ws) below))

    abbrev plan_by : ℕ → FieldCall → List WrittenSelections → PlanTree
    plan_by levels c inside = planned_below e levels (place_at e T c) (record { selections = inside; handed = hands_at e T c })

    abbrev rows_by : ℕ → ℕ → Bool → List ℕ → FieldCall → Bool → List WrittenSelections → List Row
    rows_by levels depth first key c asked inside = record {
      depth = depth;
      type = T;
      weight = type_weight e T;
      first = first;
      selected = with_capped (record { key = key; field = c.name; asked = asked; form = form_at e T c; size = size_at e T c handed; weight = weight_at e T c; arguments = cost_at e T c });
      below = below_in (plan_by levels c inside);
    } ∷ rows_below (suc depth) (plan_by levels c inside)

    same_rows : (levels depth : ℕ) (first : Bool) → node_rows e T handed levels depth first h ≡ node_rows e T handed levels depth first g
    same_rows levels depth first =
        ap (λ (k : List ℕ). rows_by levels depth first k (first_call h.fields) (list_any (asks_in e.schema) h.fields) h.below) some.key
        ∙ (ap (λ (c : FieldCall). rows_by levels depth first (key_seen g.fields) c (list_any (asks_in e.schema) h.fields) h.below) some.call
        ∙ (ap (λ (b : Bool). rows_by levels depth first (key_seen g.fields) (first_call g.fields) b h.below) some.asked
        ∙ ap (λ (ws : List WrittenSelections). rows_by levels depth first (key_seen g.fields) (first_call g.fields) (list_any (asks_in e.schema) g.fields) ws) below))

-- ---- the groups of a collector

module _ (c : Collector) (T : ℕ) where
  abbrev e' : Setting
  e' = setting_at c

  same_below : (g h : Group) → h.below.items ≡ g.below.items → (group_seen c h).below ≡ (group_seen c g).below
  same_below g h is = ap (λ (numbers : List ℕ). flat_map (meaning_at c) numbers) is

  some_equal_groups : (groups others : List Group) → HaveSome e'.schema groups others → AreEqualGroups e' T (groups_seen c groups) → AreEqualGroups e' T (groups_seen c others)
  some_equal_groups [] [] some equal = equal
  some_equal_groups [] (h ∷ others) some equal = absurd some
  some_equal_groups (g ∷ groups) [] some equal = absurd some
  some_equal_groups (g ∷ groups) (h ∷ others) some equal = All-cons (λ (d : GroupData). AreEqualFields e' T d.fields) (group_seen c h) (groups_seen c others)
      (some_equal e' T (group_seen c g).fields (group_seen c h).fields (All-head (λ (d : GroupData). AreEqualFields e' T d.fields) (group_seen c g) (groups_seen c groups) equal) some.0.fields)
      (some_equal_groups groups others some.1 (All-tail (λ (d : GroupData). AreEqualFields e' T d.fields) (group_seen c g) (groups_seen c groups) equal))

  some_visits : (handed : HandedSize) (levels : ℕ) (groups others : List Group) → HaveSome e'.schema groups others → AreEqualGroups e' T (groups_seen c groups) → groups_visits e' T handed levels (groups_seen c others) ≡ groups_visits e' T handed levels (groups_seen c groups)
  some_visits handed levels [] [] some equal = refl
  some_visits handed levels [] (h ∷ others) some equal = absurd some
  some_visits handed levels (g ∷ groups) [] some equal = absurd some
  some_visits handed levels (g ∷ groups) (h ∷ others) some equal =
      ap (λ (vs : List Visit). vs ++ groups_visits e' T handed levels (groups_seen c others))
      (same_node e' T handed (group_seen c g) (group_seen c h) (All-head (λ (d : GroupData). AreEqualFields e' T d.fields) (group_seen c g) (groups_seen c groups) equal) some.0.fields (same_below g h some.0.below) levels)
      ∙ ap (λ (vs : List Visit). node_visits e' T handed levels (group_seen c g) ++ vs) (some_visits handed levels groups others some.1 (All-tail (λ (d : GroupData). AreEqualFields e' T d.fields) (group_seen c g) (groups_seen c groups) equal))

  some_rows : (handed : HandedSize) (levels depth : ℕ) (first : Bool) (groups others : List Group) → HaveSome e'.schema groups others → AreEqualGroups e' T (groups_seen c groups)
      → groups_rows e' T handed levels depth first (groups_seen c others) ≡ groups_rows e' T handed levels depth first (groups_seen c groups)
  some_rows handed levels depth first [] [] some equal = refl
  some_rows handed levels depth first [] (h ∷ others) some equal = absurd some
  some_rows handed levels depth first (g ∷ groups) [] some equal = absurd some
  some_rows handed levels depth first (g ∷ groups) (h ∷ others) some equal =
      ap (λ (rows : List Row). rows ++ groups_rows e' T handed levels depth false (groups_seen c others))
      (same_rows e' T handed (group_seen c g) (group_seen c h) (All-head (λ (d : GroupData). AreEqualFields e' T d.fields) (group_seen c g) (groups_seen c groups) equal) some.0.fields (same_below g h some.0.below) levels depth first)
      ∙ ap (λ (rows : List Row). node_rows e' T handed levels depth first (group_seen c g) ++ rows) (some_rows handed levels depth false groups others some.1 (All-tail (λ (d : GroupData). AreEqualFields e' T d.fields) (group_seen c g) (groups_seen c groups) equal))

  some_sound : (groups others : List Group) → HaveSome e'.schema groups others → All (IsSound c) groups → All (IsSound c) others
  some_sound [] [] some sound = sound
  some_sound [] (h ∷ others) some sound = absurd some
  some_sound (g ∷ groups) [] some sound = absurd some
  some_sound (g ∷ groups) (h ∷ others) some sound =
      let here : IsSound c g = All-head (IsSound c) g groups sound in
      All-cons (IsSound c) h others (
        record { filled = some.0.filled here.0.filled; known = subst (λ (numbers : List ℕ). All (IsNumber c) numbers) (sym some.0.below) here.0.known },
        subst (λ (numbers : List ℕ). IsAcyclic e' (position_at c numbers)) (sym some.0.below) here.1,
      )
      (some_sound groups others some.1 (All-tail (IsSound c) g groups sound))

  -- they stand for what the others stand for
  pub stand_shorter : (numbers : List ℕ) (groups others : List Group) → HaveSome e'.schema groups others → StandFor c T numbers groups → StandFor c T numbers others
  stand_shorter numbers groups others some stand = record {
    sound = some_sound groups others some stand.sound;
    equal = some_equal_groups groups others some stand.equal;
    come = record {
      visits = λ handed levels. some_visits handed levels groups others some stand.equal ∙ stand.come.visits handed levels;
      rows = λ handed levels depth. some_rows handed levels depth true groups others some stand.equal ∙ stand.come.rows handed levels depth;
    };
  }

pub one_more_has_some : (s : SchemaData) (groups some : List Group) (g h : Group) → HaveSome s groups some → HasSome s g h → HaveSome s (groups ++ (g ∷ [])) (some ++ (h ∷ []))
one_more_has_some s [] [] g h some last = (last, tt)
one_more_has_some s [] (x ∷ others) g h some last = absurd some
one_more_has_some s (x ∷ groups) [] g h some last = absurd some
one_more_has_some s (x ∷ groups) (y ∷ others) g h some last = (some.0, one_more_has_some s groups others g h some.1 last)

-- ---- lists that are gone through

pub asks_here : (s : SchemaData) (fields : List Collected) (i : ℕ) (f : Collected) → i < length fields → f ≡ get_or fields i f → asks_in s (collected_field f) ≡ true → IsFirstAsking s (map collected_field (drop i fields)) (Some (collected_field f))
asks_here s fields i f within is asks = subst (λ (fs : List Collected). IsFirstAsking s (map collected_field fs) (Some (collected_field f))) (sym (at_front fields i f within is)) (asks_first s (collected_field f) (map collected_field (drop (i + 1) fields)) asks)

pub asks_behind : (s : SchemaData) (fields : List Collected) (i : ℕ) (f : Collected) → i < length fields → f ≡ get_or fields i f → (one : Option CollectedField) → asks_in s (collected_field f) ≡ false → IsFirstAsking s (map collected_field (drop (i + 1) fields)) one → IsFirstAsking s (map collected_field (drop i fields)) one
asks_behind s fields i f within is one isnt behind = subst (λ (fs : List Collected). IsFirstAsking s (map collected_field fs) one) (sym (at_front fields i f within is)) (asks_later s (collected_field f) (map collected_field (drop (i + 1) fields)) one isnt behind)

pub none_asks : (s : SchemaData) (fields : List Collected) (i : ℕ) → length fields ≤ i → list_any (asks_in s) (map collected_field (drop i fields)) ≡ false
none_asks s fields i past = ap (λ (fs : List Collected). list_any (asks_in s) (map collected_field fs)) (drop_all i fields past)

pub some_next : (s : SchemaData) (groups : List Group) (i : ℕ) (g : Group) → i < length groups → g ≡ get_or groups i g → (some now : List Group) (h : Group) → now ≡ some ++ (h ∷ []) → HaveSome s (take i groups) some → HasSome s g h → HaveSome s (take (i + 1) groups) now
some_next s groups i g within is some now h pushed before one =
    subst (λ (gs : List Group). HaveSome s gs now) (sym (take_more groups i g within ∙ ap (λ (x : Group). take i groups ++ (x ∷ [])) (sym is)))
    (subst (λ (hs : List Group). HaveSome s (take i groups ++ (g ∷ [])) hs) (sym pushed) (one_more_has_some s (take i groups) some g h before one))

pub some_whole : (s : SchemaData) (groups : List Group) (i : ℕ) (some : List Group) → length groups ≤ i → HaveSome s (take i groups) some → HaveSome s groups some
some_whole s groups i some past h = subst (λ (gs : List Group). HaveSome s gs some) (take_all i groups past) h
