-- Walks that collect nothing.
use Rattle.std.proofs.Common.{◌≡◌, ⊎_elim, ◌<◌, ◌≤◌, ◌+◌, ◌-◌, ℕ, zero, suc, List, [], ◌∷◌, ◌++◌, map, flat_map, take, drop, length, get_or, slice_get, Bool, true, false, true≢false, Option, Some, None, refl, sym, ap, ◌∙◌, subst, append_assoc, append-nil, arith, if◌then◌else◌}
use Rattle.std.proofs.lemmas.Bool.{cases_Bool, lt-ltb}
use Rattle.std.proofs.lemmas.List.{take-append-drop, drop_all, drop_more, length-map}
use Rattle.std.proofs.lemmas.Option.{none-some}
use Rattle.gql_base.proofs.Lists.{at_front}
use Rattle.schema_model.specs.SchemaData.{SchemaData, applies}
use Rattle.schema_model.specs.SchemaViews.{schema_data}
use Rattle.plan_model.specs.Collecting.{applies_where}
use Rattle.collected_fields.specs.declared.joins.Joins.{Joins}
use Rattle.collected_fields.specs.declared.reach.Reach.{Reach}
use Rattle.collected_fields.specs.declared.reaching.AllReaches.{AllReaches}
use Rattle.collected_fields.specs.declared.reaching.Reaches.{Reaches}
use Rattle.collected_fields.specs.declared.tables.Tables.{Tables}
use Rattle.collected_fields.specs.Prepared.{EntryData, list_data, entry_data}
use Rattle.collected_fields.specs.Reached.{IsObjectType, found_of, reaches, Misses, MissesMore, MissesWhere}
use Rattle.collected_fields.specs.Reaching.{steps_listed, enter_plain, CollectNothing, FragmentCollectsNothing, SetsCollectNothing, Passes, Reaching, ReachesSteps, ReachesStep, ReachesFragment, ReachesWhere, ReachesSets, AreReached, AreListsReached, AreAllReached, FindsOne}
use Rattle.collected_fields.specs.Kinds.{KnowsKinds}
use Rattle.collected_fields.specs.Lists.{lists_of_joins, sets_in_joins, IsNumberIn, HasMore}
use Rattle.collected_fields.specs.Serving.{sets_of}
use Rattle.collected_fields.specs.declared.steps.Step.{Step}
use Rattle.collected_fields.specs.declared.tables.SelectionList.{SelectionList}
use Rattle.collected_fields.specs.Steps.{StepData, spread_step, inline_step, step_data}
use Rattle.collected_fields.specs.Walks.{NumberedField, WalkData, is_marked, marked, steps_at, walk_steps, walk_sets, walk_entry, walk_fragment, walk_numbers}
use Rattle.collected_fields.proofs.WalkSteps.{behind}

-- ---- steps

module _ (t : Tables) (T : ℕ) where
  abbrev s : SchemaData
  s = schema_data t.planning.schema.now

  pub none_at_end : CollectNothing t T []
  unfolding CollectNothing
  none_at_end depth w = refl

  pub spread_passes : (number : ℕ) (rest : List StepData) → FragmentCollectsNothing t T number → Passes t T (spread_step number ∷ rest) rest
  unfolding CollectNothing FragmentCollectsNothing
  spread_passes number rest nothing others none depth w = none depth (enter_plain t T depth number w) ∙ nothing depth w

  skipped : (enter : ℕ → WalkData → WalkData) (count : ℕ) (rest others : List StepData) (w : WalkData) → count ≤ length rest → walk_steps s T enter count (rest ++ others) w ≡ walk_steps s T enter 0 (drop count rest ++ others) w
  skipped enter zero rest others w within = refl
  skipped enter (suc n) [] others w within = absurd (none_less n within)
    where
      none_less : (n : ℕ) → suc n ≤ 0 → ⊥
      none_less n h = omega (arith, h)
  skipped enter (suc n) (x ∷ rest) others w within = skipped enter n rest others w (omega (arith, within))

  pub inline_passes : (on count : ℕ) (rest : List StepData) → count ≤ length rest → (applies s on T ≡ true → Passes t T (take count rest) []) → Passes t T (inline_step on count ∷ rest) (drop count rest)
  unfolding CollectNothing
  inline_passes on count rest within under others none depth w = ⊎_elim
      (λ (is : applies s on T ≡ true). ap (walked 0) is ∙ inside is)
      (λ (isnt : applies s on T ≡ false). ap (walked 0) isnt ∙ (ap (λ (v : WalkData). v.fields) (skipped (enter_plain t T depth) count rest others w within) ∙ none depth w))
      (cases_Bool (applies s on T))
    where
      walked : ℕ → Bool → List NumberedField
      walked n b = (walk_steps s T (enter_plain t T depth) (if b then n else count) (rest ++ others) w).fields

      parts : take count rest ++ (drop count rest ++ others) ≡ rest ++ others
      parts = sym (append_assoc (take count rest) (drop count rest) others) ∙ ap (λ xs. xs ++ others) (take-append-drop count rest)

      inside : applies s on T ≡ true → (walk_steps s T (enter_plain t T depth) 0 (rest ++ others) w).fields ≡ w.fields
      inside is = subst (λ xs. (walk_steps s T (enter_plain t T depth) 0 xs w).fields ≡ w.fields) parts (under is (drop count rest ++ others) none depth w)

  -- ---- fragments

  entries : List EntryData
  entries = map entry_data t.entries.items

  entered_once : (b : Bool) (w v : WalkData) → v.fields ≡ w.fields → (if b then w else v).fields ≡ w.fields
  entered_once true w v h = refl
  entered_once false w v h = h

  pub no_fragment : (number : ℕ) → slice_get (map entry_data t.entries.items) number ≡ None → FragmentCollectsNothing t T number
  unfolding FragmentCollectsNothing walk_fragment
  no_fragment number none zero w = refl
  no_fragment number none (suc depth) w = entered_once (is_marked number w) w _ (ap (λ (o : Option EntryData). (walk_entry s T (steps_listed t T) (λ n. None) (map entry_data t.entries.items) (enter_plain t T depth) o (marked number w)).fields) none)

  pub fragment_nothing : (number : ℕ) (entry : EntryData) → slice_get (map entry_data t.entries.items) number ≡ Some entry → (applies_where s T entry.0 ≡ true → CollectNothing t T (steps_listed t T entry.1)) → FragmentCollectsNothing t T number
  unfolding CollectNothing FragmentCollectsNothing walk_fragment
  fragment_nothing number entry there nothing zero w = refl
  fragment_nothing number entry there nothing (suc depth) w = entered_once (is_marked number w) w _
      (ap (λ (o : Option EntryData). (walk_entry s T (steps_listed t T) (λ n. None) (map entry_data t.entries.items) (enter_plain t T depth) o (marked number w)).fields) there ∙ where_so (applies_where s T entry.0) refl)
    where
      where_so : (b : Bool) → applies_where s T entry.0 ≡ b → (if b then walk_steps s T (enter_plain t T depth) 0 (steps_listed t T entry.1) (marked number w) else marked number w).fields ≡ w.fields
      where_so true is = nothing is depth (marked number w)
      where_so false is = refl

  -- ---- selection sets

  pub both_nothing : (sets others : List ℕ) → SetsCollectNothing t T sets → SetsCollectNothing t T others → SetsCollectNothing t T (sets ++ others)
  both_nothing [] others a b = b
  both_nothing (set ∷ sets) others a b = (a.0, both_nothing sets others a.1 b)

  front_nothing : (sets others : List ℕ) → SetsCollectNothing t T (sets ++ others) → SetsCollectNothing t T sets × SetsCollectNothing t T others
  front_nothing [] others h = (tt, h)
  front_nothing (set ∷ sets) others h = let rest = front_nothing sets others h.1 in ((h.0, rest.0), rest.1)

  sets_walked : (depth : ℕ) (sets : List ℕ) (w : WalkData) → SetsCollectNothing t T sets → (walk_sets s T (steps_listed t T) (enter_plain t T depth) sets w).fields ≡ w.fields
  unfolding CollectNothing
  sets_walked depth [] w h = refl
  sets_walked depth (set ∷ sets) w h = sets_walked depth sets (walk_steps s T (enter_plain t T depth) 0 (steps_listed t T set) w) h.1 ∙ h.0 depth w

  pub numbers_walked : (sets : ℕ → List ℕ) (depth : ℕ) (numbers : List ℕ) (w : WalkData) → SetsCollectNothing t T (flat_map sets numbers) → (walk_numbers s T (steps_listed t T) (λ n. None) (map entry_data t.entries.items) (λ n. false) sets depth numbers w).fields ≡ w.fields
  numbers_walked sets depth [] w h = refl
  numbers_walked sets depth (number ∷ numbers) w h =
      let both = front_nothing (sets number) (flat_map sets numbers) h in
      numbers_walked sets depth numbers (walk_sets s T (steps_listed t T) (enter_plain t T depth) (sets number) w) both.1 ∙ sets_walked depth (sets number) w both.0

-- ---- what is missed

module _ (t : Tables) where
  -- nothing more
  pub still_missed : (r : Reach) (Nothing : ℕ → Type 0) → ((T : ℕ) → Nothing T) → Reaching t r r Nothing
  still_missed r Nothing all T object misses = (misses, all T)

  -- where no type is missed
  pub none_missed : (old new : Reach) (Nothing : ℕ → Type 0) → ((T : ℕ) → reaches new T ≡ true) → Reaching t old new Nothing
  none_missed old new Nothing every T object misses = absurd (true≢false (sym (every T) ∙ misses))

  pub spread_reached : (old new : Reach) (number : ℕ) (rest : List StepData) → ReachesFragment t old new number → ReachesStep t old new (spread_step number) rest 0
  spread_reached old new number rest h T object misses = let here = h T object misses in (here.0, spread_passes t T number rest here.1)

  pub inline_reached : (old new none under : Reach) (on count : ℕ) (rest : List Step) → count ≤ length rest → ReachesSteps t none under (map step_data (take count rest)) → MissesWhere (schema_data t.planning.schema.now) on old new under → ReachesStep t old new (inline_step on count) (map step_data rest) count
  inline_reached old new none under on count rest within inside h T object misses =
      let here = h T object misses in (
        here.0,
        inline_passes t T on count (map step_data rest) (subst (λ n. count ≤ n) (sym (length-map rest step_data)) within)
            (λ applied. subst (λ xs. Passes t T xs []) (taken count rest) (inside T object (here.1 applied)).1),
      )
    where
      taken : (n : ℕ) (xs : List Step) → map step_data (take n xs) ≡ take n (map step_data xs)
      taken zero xs = refl
      taken (suc n) [] = refl
      taken (suc n) (x ∷ xs) = ap (λ ys. step_data x ∷ ys) (taken n xs)

  pub fragment_reached : (old new : Reach) (number on set : ℕ) → slice_get (map entry_data t.entries.items) number ≡ Some (Some on, set) → ReachesWhere t old new on set → ReachesFragment t old new number
  fragment_reached old new number on set there h T object misses = let here = h T object misses in (here.0, fragment_nothing t T number (Some on, set) there here.1)

  pub fragment_on_none : (number set : ℕ) → slice_get (map entry_data t.entries.items) number ≡ Some (None, set) → (T : ℕ) → FragmentCollectsNothing t T number
  fragment_on_none number set there T = fragment_nothing t T number (None, set) there (λ applied. absurd (true≢false (sym applied)))

  pub where_reached : (old new other : Reach) (on set : ℕ) (found : Reaches) → AreReached t found → found_of found set ≡ Some other → MissesWhere (schema_data t.planning.schema.now) on old new other → ReachesWhere t old new on set
  where_reached old new other on set found right is h T object misses = let here = h T object misses in (here.0, λ applied. right set other is T object (here.1 applied))

  pub set_reached : (old new other : Reach) (set : ℕ) (found : Reaches) → AreReached t found → found_of found set ≡ Some other → MissesMore old new (reaches other) → ReachesSets t old new (set ∷ [])
  set_reached old new other set found right is h T object misses = let here = h T misses in (here.0, (right set other is T object here.1, tt))

  -- what was found of a selection set is right
  pub found_right : (old new : Reaches) (none reach : Reach) (set : ℕ) → AreReached t old → FindsOne old new set reach → ReachesSets t none reach (set ∷ []) → AreReached t new
  found_right old new none reach set right one reached place r h T object misses = ⊎_elim
      (λ (before : found_of old place ≡ Some r). right place r before T object misses)
      (λ (is : (place ≡ set) × (r ≡ reach)). subst (λ (p : ℕ). CollectNothing t T (steps_listed t T p)) (sym is.0) (reached T object (subst (λ (x : Reach). Misses x T) is.1 misses)).1.0)
      (one place r h)

  -- what was found of lists
  pub lists_right : (j : Joins) (old new : Reaches) (none reach : Reach) (number : ℕ) (sets : List ℕ) → AreListsReached t j old → FindsOne old new number reach → IsNumberIn j number → sets ≡ sets_in_joins j number → ReachesSets t none reach sets → AreListsReached t j new
  lists_right j old new none reach number sets right one there is reached place r h = ⊎_elim
      (λ (before : found_of old place ≡ Some r). right place r before)
      (λ (new_one : (place ≡ number) × (r ≡ reach)). subst (λ (p : ℕ). IsNumberIn j p × ((T : ℕ) → IsObjectType (schema_data t.planning.schema.now) T → Misses r T → SetsCollectNothing t T (sets_in_joins j p))) (sym new_one.0)
      (there, λ T object misses. subst (λ (xs : List ℕ). SetsCollectNothing t T xs) is (reached T object (subst (λ (x : Reach). Misses x T) new_one.1 misses)).1))
      (one place r h)

  pub list_reached : (j : Joins) (old new other : Reach) (number : ℕ) (found : Reaches) → AreListsReached t j found → found_of found number ≡ Some other → MissesMore old new (reaches other) → ReachesSets t old new (sets_in_joins j number)
  list_reached j old new other number found right is h T object misses = let here = h T misses in (here.0, (right number other is).1 T object here.1)

  -- nothing was found
  pub none_found : (j : Joins) (all : AllReaches) → ((set : ℕ) → found_of all.sets set ≡ None) → ((number : ℕ) → found_of all.lists number ≡ None) → KnowsKinds t all.kinds → AreAllReached t j all
  none_found j all no_sets no_lists kinds = record {
    sets = λ set reach h. absurd (none-some reach (sym (no_sets set) ∙ h));
    lists = λ number reach h. absurd (none-some reach (sym (no_lists number) ∙ h));
    kinds = kinds;
  }

  pub reached_still : (a b : Joins) (all : AllReaches) → HasMore a b → AreAllReached t a all → AreAllReached t b all
  reached_still a b all more right = record {
    sets = right.sets;
    lists = λ number reach h.
        let here = right.lists number reach h in
        let there = more number here.0 in
        (there.0, λ T object misses. subst (λ (xs : List ℕ). SetsCollectNothing t T xs) (sym there.1) (here.1 T object misses));
    kinds = right.kinds;
  }

  -- of sets alone more was found
  pub more_sets : (j : Joins) (old new : AllReaches) → new.lists ≡ old.lists → new.kinds ≡ old.kinds → (AreReached t old.sets → AreReached t new.sets) → AreAllReached t j old → AreAllReached t j new
  more_sets j old new same kinds still right = record { sets = still right.sets; lists = subst (λ (r : Reaches). AreListsReached t j r) (sym same) right.lists; kinds = subst (KnowsKinds t) (sym kinds) right.kinds }

  -- of sets more was found, and then of a list
  pub list_more : (j : Joins) (old new : AllReaches) (none reach : Reach) (number : ℕ) (sets : List ℕ) → new.kinds ≡ old.kinds → (AreReached t old.sets → AreReached t new.sets) → FindsOne old.lists new.lists number reach → IsNumberIn j number → sets ≡ sets_in_joins j number → (AreReached t old.sets → ReachesSets t none reach sets)
      → AreAllReached t j old → AreAllReached t j new
  list_more j old new none reach number sets kinds still one there is adds right = record {
    sets = still right.sets;
    lists = lists_right j old.lists new.lists none reach number sets right.lists one there is (adds right.sets);
    kinds = subst (KnowsKinds t) (sym kinds) right.kinds;
  }

  -- the set of a number that is that of a set
  pub own_set : (j : Joins) (old new : Reach) (number : ℕ) → number < j.count → ReachesSets t old new (number ∷ []) → ReachesSets t old new (sets_in_joins j number)
  own_set j old new number less h = subst (λ (xs : List ℕ). ReachesSets t old new xs) (sym (alone j.count (lists_of_joins j) number less)) h
    where
      alone : (count : ℕ) (lists : List (List ℕ)) (n : ℕ) → n < count → sets_of count lists n ≡ n ∷ []
      alone count lists n below = rw (lt-ltb n count below) refl

  -- ---- steps one after another

  pub begun : (xs : List StepData) (r : Reach) → Reaching t r r (λ T. Passes t T xs xs)
  begun xs r T object misses = (misses, λ others h. h)

  pub next_reached : (steps : List Step) (at skip place : ℕ) (x : Step) (rest : List Step) (first old new : Reach) → at < length steps → x ≡ get_or steps at x → rest ≡ drop (at + 1) steps → (skip < length steps - at → place ≡ at + 1 + skip) → (length steps ≤ at + skip → place ≡ length steps)
      → Reaching t first old (λ T. Passes t T (map step_data steps) (map step_data (drop at steps))) → ReachesStep t old new (step_data x) (map step_data rest) skip → Reaching t first new (λ T. Passes t T (map step_data steps) (map step_data (drop place steps)))
  next_reached steps at skip place x rest first old new here is rest_is some all before step T object misses =
      let now = step T object misses in
      let so_far = before T object now.0 in (
        so_far.0,
        λ others h. so_far.1 others (subst (λ xs. CollectNothing t T (map step_data xs ++ others)) (sym (at_front steps at x here is))
            (subst (λ xs. CollectNothing t T (step_data x ∷ (map step_data xs ++ others))) rest_is (now.1 others (subst (λ xs. CollectNothing t T (xs ++ others)) (ap (map step_data) (behind steps at skip place some all) ∙ (ap (λ xs. map step_data (drop skip xs)) (sym rest_is) ∙ dropped skip rest)) h)))),
      )
    where
      dropped : (n : ℕ) (xs : List Step) → map step_data (drop n xs) ≡ drop n (map step_data xs)
      dropped zero xs = refl
      dropped (suc n) [] = refl
      dropped (suc n) (y ∷ xs) = dropped n xs

  pub steps_reached : (steps : List Step) (at : ℕ) (first now : Reach) → length steps ≤ at → Reaching t first now (λ T. Passes t T (map step_data steps) (map step_data (drop at steps))) → ReachesSteps t first now (map step_data steps)
  steps_reached steps at first now past so_far T object misses = let all = so_far T object misses in (all.0, subst (λ xs. Passes t T (map step_data steps) (map step_data xs)) (drop_all at steps past) all.1)

  -- the steps of a selection set
  pub listed_reached : (old new : Reach) (set : ℕ) (steps : List StepData) → steps_at (map list_data t.lists.items) set ≡ steps → ReachesSteps t old new steps → ReachesSets t old new (set ∷ [])
  listed_reached old new set steps is h T object misses =
      let here = h T object misses in
      (here.0, (subst (λ xs. CollectNothing t T xs) (sym is) (subst (λ xs. CollectNothing t T xs) (append-nil steps) (here.1 [] (none_at_end t T))), tt))

  steps_past : (lists : List SelectionList) (set : ℕ) → length lists ≤ set → steps_at (map list_data lists) set ≡ []
  steps_past [] set past = refl
  steps_past (l ∷ lists) zero past = absurd (no_place (length lists) past)
    where
      no_place : (n : ℕ) → suc n ≤ 0 → ⊥
      no_place n h = omega (arith, h)
  steps_past (l ∷ lists) (suc set) past = steps_past lists set (omega (arith, past))

  pub steps_there : (seen : List SelectionList) (set : ℕ) (list : SelectionList) (steps : List Step) → seen ≡ t.lists.items → set < length seen → list ≡ get_or seen set list → steps ≡ list.steps.items → steps_at (map list_data t.lists.items) set ≡ map step_data steps
  steps_there seen set list steps same less here is = subst (λ (ls : List SelectionList). steps_at (map list_data ls) set ≡ map step_data steps) same (at_place seen set less here ∙ ap (map step_data) (sym is))
    where
      at_place : (lists : List SelectionList) (n : ℕ) → n < length lists → list ≡ get_or lists n list → steps_at (map list_data lists) n ≡ map step_data list.steps.items
      at_place [] n less here = absurd (none_less n less)
        where
          none_less : (n : ℕ) → n < 0 → ⊥
          none_less n h = omega (arith, h)
      at_place (l ∷ lists) zero less here = ap (λ (x : SelectionList). map step_data x.steps.items) (sym here)
      at_place (l ∷ lists) (suc n) less here = at_place lists n (omega (arith, less)) here

  pub none_listed : (r : Reach) (seen : List SelectionList) (set : ℕ) → seen ≡ t.lists.items → length seen ≤ set → ReachesSets t r r (set ∷ [])
  none_listed r seen set same past = listed_reached r r set [] (subst (λ (ls : List SelectionList). steps_at (map list_data ls) set ≡ []) same (steps_past seen set past)) (λ T object misses. (misses, λ others h. h))

  -- ---- sets one after another

  pub next_set : (first old new : Reach) (sets : List ℕ) (at d : ℕ) → at < length sets → Reaching t first old (λ T. SetsCollectNothing t T (drop at sets) → SetsCollectNothing t T sets) → ReachesSets t old new (get_or sets at d ∷ []) → Reaching t first new (λ T. SetsCollectNothing t T (drop (at + 1) sets) → SetsCollectNothing t T sets)
  next_set first old new sets at d here before one T object misses =
      let now = one T object misses in
      let so_far = before T object now.0 in
      (so_far.0, λ others. so_far.1 (subst (λ xs. SetsCollectNothing t T xs) (sym (drop_more sets at d here)) (now.1.0, others)))

  pub all_sets : (first now : Reach) (sets : List ℕ) (at : ℕ) → length sets ≤ at → Reaching t first now (λ T. SetsCollectNothing t T (drop at sets) → SetsCollectNothing t T sets) → ReachesSets t first now sets
  all_sets first now sets at past so_far T object misses =
      let all = so_far T object misses in
      (all.0, all.1 (subst (λ xs. SetsCollectNothing t T xs) (sym (drop_all at sets past)) tt))

  module _ (of_number : ℕ → List ℕ) where
    pub next_number : (first old new : Reach) (numbers : List ℕ) (at d : ℕ) → at < length numbers → Reaching t first old (λ T. SetsCollectNothing t T (flat_map of_number (drop at numbers)) → SetsCollectNothing t T (flat_map of_number numbers)) → ReachesSets t old new (of_number (get_or numbers at d))
        → Reaching t first new (λ T. SetsCollectNothing t T (flat_map of_number (drop (at + 1) numbers)) → SetsCollectNothing t T (flat_map of_number numbers))
    next_number first old new numbers at d here before more T object misses =
        let now = more T object misses in
        let so_far = before T object now.0 in
        (so_far.0, λ others. so_far.1 (subst (λ xs. SetsCollectNothing t T (flat_map of_number xs)) (sym (drop_more numbers at d here)) (both_nothing t T (of_number (get_or numbers at d)) (flat_map of_number (drop (at + 1) numbers)) now.1 others)))

    pub all_numbers : (first now : Reach) (numbers : List ℕ) (at : ℕ) → length numbers ≤ at → Reaching t first now (λ T. SetsCollectNothing t T (flat_map of_number (drop at numbers)) → SetsCollectNothing t T (flat_map of_number numbers)) → ReachesSets t first now (flat_map of_number numbers)
    all_numbers first now numbers at past so_far T object misses =
        let all = so_far T object misses in
        (all.0, all.1 (subst (λ xs. SetsCollectNothing t T (flat_map of_number xs)) (sym (drop_all at numbers past)) tt))
