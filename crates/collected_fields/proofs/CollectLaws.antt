-- What is collected from prepared selection sets.
use Rattle.std.proofs.Common.{◌≡◌, ◌+◌, ℕ, zero, suc, ◌<◌, List, [], ◌∷◌, ◌++◌, map, filter, flat_map, length, get_or, slice_get, None, Some, refl, sym, ap, ◌∙◌, subst, append-nil, if◌then◌else◌, Bool, true, false, true≢false, Option, arith}
use Rattle.std.specs.Prelude.{All, not}
use Rattle.std.proofs.lemmas.Bool.{lt-ltb}
use Rattle.std.proofs.lemmas.List.{length-map}
use Rattle.std.proofs.lemmas.List.Elements.{All-head, All-tail, All-cons}
use Rattle.std.proofs.lemmas.Option.{get_or_from_slice_get, none-some, slice_get-map}
use Rattle.document_reader.specs.Documents.{no_selection}
use Rattle.document_reader.specs.DocumentReading.{selections_from}
use Rattle.schema_model.specs.SchemaViews.{schema_data}
use Rattle.document_rules.proofs.Lists.{map_twice}
use Rattle.plan_model.specs.SelectedFields.{Setting}
use Rattle.plan_model.specs.Collecting.{CollectedField, WrittenSelections, fields_written, fields_spread, collected, collected_to, nesting}
use Rattle.plan_model.specs.Merging.{selections_below, fields_at, keys_from, keys_of}
use Rattle.plan_model.specs.MergingWalk.{IsAcyclic, AreRanked, AllRanked, FragmentsRanked}
use Rattle.plan_model.specs.Repeats.{LeavesOutRepeats, IsThinned}
use Rattle.collected_fields.specs.declared.collector.Collector.{Collector}
use Rattle.collected_fields.specs.Views.{fragment_seen}
use Rattle.collected_fields.specs.Gathering.{IsReady, setting_at, written_at, sets_at, meaning_at, IsNumber, position_at, ComesTo, ComesToAt, HasOne, IsReadyCollector, AreComeTo, AreFoundAt, LeavesOutFieldless}
use Rattle.collected_fields.specs.Prepared.{ListData, EntryData, list_data, entry_data, written_of, IsListed, AreSound}
use Rattle.collected_fields.specs.Lists.{lists_of_joins}
use Rattle.collected_fields.specs.declared.reach.Reach.{Reach}
use Rattle.collected_fields.specs.declared.reaching.Reaches.{Reaches}
use Rattle.collected_fields.specs.Reached.{IsObjectType, reaches, found_of, is_missed}
use Rattle.collected_fields.specs.Reaching.{steps_listed, CollectNothing, SetsCollectNothing, AreReachedFor, AreListsReachedFor, AreAllReached, ReachesNumbers}
use Rattle.collected_fields.specs.Serving.{sets_of, Serve}
use Rattle.collected_fields.specs.Walks.{NumberedField, WalkData, IsBlank, numbered_by_key, found_in, known_for, steps_at, steps_unless, walk_numbers, numbers_in}
use Rattle.collected_fields.proofs.WalkLaws.{seen_as, walked_numbers}
use Rattle.collected_fields.proofs.JoinLaws.{new_set}
use Rattle.collected_fields.proofs.ReachingLaws.{numbers_walked}
use Rattle.collected_fields.proofs.ServingLaws.{serve_none, serve_joined, serve_one}

abbrev lists_of : Collector → List ListData
lists_of c = map list_data c.tables.lists.items

abbrev entries_of : Collector → List EntryData
entries_of c = map entry_data c.tables.entries.items

abbrev under : Collector → ℕ → WrittenSelections
under c number = get_or (map written_of (lists_of c)) number (None, no_selection)

pub written_there : (c : Collector) (number : ℕ) → written_at c number ≡ under c number
unfolding written_at
written_there c number = ap (λ ws. get_or ws number (None, no_selection)) (sym (map_twice written_of list_data c.tables.lists.items))

written_sets : (c : Collector) (sets : List ℕ) → map (written_at c) sets ≡ map (under c) sets
written_sets c [] = refl
written_sets c (n ∷ sets) = ap (λ w. w ∷ map (written_at c) sets) (written_there c n) ∙ ap (λ ws. under c n ∷ ws) (written_sets c sets)

written_numbers : (c : Collector) (numbers : List ℕ) → flat_map (meaning_at c) numbers ≡ flat_map (λ number. map (under c) (sets_at c number)) numbers
written_numbers c [] = refl
written_numbers c (n ∷ numbers) = ap (λ ws. ws ++ flat_map (meaning_at c) numbers) (written_sets c (sets_at c n)) ∙ ap (λ ws. map (under c) (sets_at c n) ++ ws) (written_numbers c numbers)

pub of_ready : (c : Collector) → IsReady c → IsReadyCollector c
unfolding IsReady
of_ready c ready = ready

pub is_ready : (c : Collector) → IsReadyCollector c → IsReady c
unfolding IsReady
is_ready c ready = ready

pub listed_there : (c : Collector) (written : WrittenSelections) (number : ℕ) → IsListed (lists_of c) written number → written_at c number ≡ written
listed_there c written number h = written_there c number ∙ get_or_from_slice_get (map written_of (lists_of c)) number written (None, no_selection) h

within : {A : Type 0} (xs : List A) (n : ℕ) (x : A) → slice_get xs n ≡ Some x → n < length xs
within [] n x h = absurd (none-some x h)
within (y ∷ xs) zero x h = omega arith
within (y ∷ xs) (suc n) x h = let less = within xs n x h in omega (arith, less)

-- a selection set that is listed stands for itself
module _ (c : Collector) (ready : IsReadyCollector c) (number : ℕ) (less : number < length c.tables.lists.items) where
  below_count : number < c.joins.count
  below_count = omega (arith, less, ready.counted)

  pub sets_of_listed : sets_at c number ≡ number ∷ []
  sets_of_listed = rw (lt-ltb number c.joins.count below_count) refl

  pub number_of_listed : IsNumber c number
  number_of_listed = omega (arith, below_count)

listed_less : (c : Collector) (written : WrittenSelections) (number : ℕ) → IsListed (lists_of c) written number → number < length c.tables.lists.items
listed_less c written number h =
    subst (λ n. number < n) (length-map (lists_of c) written_of ∙ length-map c.tables.lists.items list_data) (within (map written_of (lists_of c)) number written h)

pub has_one : (c : Collector) (written : WrittenSelections) (number : ℕ) → IsReadyCollector c → IsListed (lists_of c) written number → meaning_at c number ≡ written ∷ []
has_one c written number ready h = ap (map (written_at c)) (sets_of_listed c ready number (listed_less c written number h)) ∙ ap (λ w. w ∷ []) (listed_there c written number h)

-- ---- what a walk collects

module _ (c : Collector) (T : ℕ) (ready : IsReadyCollector c) where
  abbrev e : Setting
  e = setting_at c

  -- they stand in the place of the fields, and have numbers of the collector
  record Serves (fields : List CollectedField) (numbered : List NumberedField) : Type 0 where
    served : Serve e (meaning_at c) fields numbered
    known : All (λ f. IsNumber c f.1) numbered

  no_numbers : All (λ (f : NumberedField). IsNumber c f.1) []
  no_numbers k d less = absurd (none_less k less)
    where
      none_less : (n : ℕ) → n < 0 → ⊥
      none_less n h = omega arith

  none_served : Serves [] []
  none_served = record { served = serve_none e (meaning_at c); known = no_numbers }

  both_served : (fs gs : List CollectedField) (ns ms : List NumberedField) → Serves fs ns → Serves gs ms → Serves (fs ++ gs) (ns ++ ms)
  both_served fs gs ns ms first second = record { served = serve_joined e (meaning_at c) fs gs ns ms first.served second.served; known = both_known ns ms first.known second.known }
    where
      both_known : (ns ms : List NumberedField) → All (λ f. IsNumber c f.1) ns → All (λ f. IsNumber c f.1) ms → All (λ f. IsNumber c f.1) (ns ++ ms)
      both_known [] ms h k = k
      both_known (n ∷ ns) ms h k = All-cons (λ (f : NumberedField). IsNumber c f.1) n (ns ++ ms) (All-head (λ (f : NumberedField). IsNumber c f.1) n ns h) (both_known ns ms (All-tail (λ (f : NumberedField). IsNumber c f.1) n ns h) k)

  one_served : (f : CollectedField) (number : ℕ) → IsListed (lists_of c) (selections_below e f) number → Serves (f ∷ []) ((f, number) ∷ [])
  one_served f number listed = record {
    served = serve_one e (meaning_at c) f number (has_one c (selections_below e f) number ready listed);
    known = All-cons (λ (f : NumberedField). IsNumber c f.1) (f, number) [] (number_of_listed c ready number (listed_less c (selections_below e f) number listed)) no_numbers;
  }

  known_found : (number : ℕ) (fields : List NumberedField) → known_for c.kept T number ≡ Some fields → found_in c.kept T number ≡ Some fields
  known_found number fields h = either (get_or c.kept.known.items number false) h
    where
      either : (b : Bool) → (if b then found_in c.kept T number else None) ≡ Some fields → found_in c.kept T number ≡ Some fields
      either true h = h
      either false h = absurd (none-some fields h)

  module _ (rank : List ℕ → ℕ) (ranks : FragmentsRanked rank e) where
    -- what is kept of a number, where its selection sets are these
    known_rightly : (number : ℕ) (sets : List ℕ) → sets_at c number ≡ sets → (fields : List NumberedField) → known_for c.kept T number ≡ Some fields → AllRanked rank (nesting e) (map (under c) sets)
        → (left : List CollectedField) × (IsThinned [] (collected_to e T (nesting e) (map (under c) sets)) left × Serves left fields)
    unfolding collected
    known_rightly number sets is fields h r =
        let same : (position_at c (number ∷ [])).selections ≡ map (under c) sets = append-nil (meaning_at c number) ∙ (ap (map (written_at c)) is ∙ written_sets c sets) in
        let found : ComesTo c T (number ∷ []) fields = (ready.kept T number fields (known_found number fields h)).1 (record { rank = rank; fragments = ranks; spreads = subst (λ ws. AllRanked rank (nesting e) ws) (sym same) r }) in
        (found.come.left, (subst (λ ws. LeavesOutRepeats (collected_to e T (nesting e) ws) found.come.left) same found.come.repeats, record { served = found.come.served; known = found.known }))

  -- where nothing that is kept is taken
  plain_walk : List ℕ → WalkData → WalkData
  plain_walk numbers w = walk_numbers e.schema T (steps_at (lists_of c)) (λ number. None) (entries_of c) (λ number. false) (sets_at c) (nesting e) numbers w

  plain_comes : (numbers : List ℕ) (w : WalkData) → IsBlank w → ComesToAt c T numbers (plain_walk numbers w).fields
  unfolding collected plain_walk
  plain_comes numbers w blank acyclic =
      let same = written_numbers c numbers in
      let found = walked_numbers acyclic.rank e T acyclic.fragments (lists_of c) (entries_of c) ready.sound (nesting e) Serves none_served both_served one_served (λ number. None) (λ number. false) (λ number l there h. absurd (true≢false (sym h)))
      (λ number l there fields h r. absurd (none-some fields h)) (sets_at c) (λ number fields h r. absurd (none-some fields h)) (λ number. false) (λ number h. absurd (true≢false (sym h))) numbers w blank (subst (λ ws. AllRanked acyclic.rank (nesting e) ws) same acyclic.spreads) in
      record {
        come = record { left = found.0; repeats = subst (λ ws. LeavesOutRepeats (collected_to e T (nesting e) ws) found.0) (sym same) found.1.0; served = found.1.1.served };
        known = found.1.1.known;
      }

  left_none : (fields left : List CollectedField) → LeavesOutRepeats fields left → keys_of left ≡ [] → fields ≡ []
  left_none [] left less none = refl
  left_none (f ∷ fields) [] less none = absurd less.0
  left_none (f ∷ fields) (g ∷ left) less none = absurd (some_key g.key (keys_from (g.key ∷ []) left) none)
    where
      some_key : (key : List ℕ) (keys : List (List ℕ)) → key ∷ keys ≡ [] → ⊥
      some_key key keys e = cc

  -- Where the walks collect nothing, there are no fields.
  pub no_fields : (numbers : List ℕ) → SetsCollectNothing c.tables T (flat_map (sets_at c) numbers) → IsAcyclic e (position_at c numbers) → fields_at e T (position_at c numbers) ≡ []
  unfolding plain_walk
  no_fields numbers nothing acyclic =
      let blank : WalkData = record { marks = []; fields = [] } in
      let comes : ComesTo c T numbers [] = subst (λ (fs : List NumberedField). ComesTo c T numbers fs) (numbers_walked c.tables T (sets_at c) (nesting e) numbers blank nothing) (plain_comes numbers blank (λ n. refl, refl) acyclic) in
      left_none (fields_at e T (position_at c numbers)) comes.come.left comes.come.repeats comes.come.served.keys

  -- where sets are passed over of which it was found that they have no fields
  module _ (found lists : Reaches) (right : AreReachedFor c.tables T found) (lists_right : AreListsReachedFor c.tables c.joins T lists) where
    abbrev out : ℕ → Bool
    out = λ number. is_missed (found_of found number) T

    missing : (b : Bool) → not b ≡ true → b ≡ false
    missing true h = sym h
    missing false h = refl

    misses_right : (number : ℕ) (o : Option Reach) → found_of found number ≡ o → is_missed o T ≡ true → CollectNothing c.tables T (steps_listed c.tables T number)
    misses_right number None is h = absurd (true≢false (sym h))
    misses_right number (Some reach) is h = right number reach is (missing (reaches reach T) h)

    out_fieldless : (rank : List ℕ → ℕ) → FragmentsRanked rank e → (number : ℕ) (l : ListData) → slice_get (lists_of c) number ≡ Some l → out number ≡ true → AreRanked rank (nesting e) (selections_from l.selections)
        → fields_written e T (fields_spread e T (nesting e)) (written_of l) ≡ []
    unfolding collected
    out_fieldless rank ranks number l there is_out ranked =
        let less : number < length c.tables.lists.items = subst (λ n. number < n) (length-map c.tables.lists.items list_data) (within (lists_of c) number l there) in
        let listed : IsListed (lists_of c) (written_of l) number = slice_get-map written_of (lists_of c) number ∙ ap (seen_as written_of) there in
        let same : (position_at c (number ∷ [])).selections ≡ written_of l ∷ [] = append-nil (meaning_at c number) ∙ has_one c (written_of l) number ready listed in
        let nothing : SetsCollectNothing c.tables T (flat_map (sets_at c) (number ∷ [])) = subst (λ (xs : List ℕ). SetsCollectNothing c.tables T (xs ++ [])) (sym (sets_of_listed c ready number less)) (misses_right number (found_of found number) refl is_out, tt) in
        let none : fields_at e T (position_at c (number ∷ [])) ≡ [] = no_fields (number ∷ []) nothing (record { rank = rank; fragments = ranks; spreads = subst (λ ws. AllRanked rank (nesting e) ws) (sym same) (ranked, tt) }) in
        sym (append-nil (fields_written e T (fields_spread e T (nesting e)) (written_of l))) ∙ subst (λ ws. collected_to e T (nesting e) ws ≡ []) same none

    -- the same of numbers of lists
    abbrev passed : ℕ → Bool
    passed = λ number. is_missed (found_of lists number) T

    passed_right : (number : ℕ) (o : Option Reach) → found_of lists number ≡ o → is_missed o T ≡ true → SetsCollectNothing c.tables T (sets_at c number)
    passed_right number None is h = absurd (true≢false (sym h))
    passed_right number (Some reach) is h = lists_right number reach is (missing (reaches reach T) h)

    passed_fieldless : (rank : List ℕ → ℕ) → FragmentsRanked rank e → (number : ℕ) → passed number ≡ true → AllRanked rank (nesting e) (map (under c) (sets_at c number)) → collected_to e T (nesting e) (map (under c) (sets_at c number)) ≡ []
    unfolding collected
    passed_fieldless rank ranks number is_passed ranked =
        let same : (position_at c (number ∷ [])).selections ≡ map (under c) (sets_at c number) = append-nil (meaning_at c number) ∙ written_sets c (sets_at c number) in
        let nothing : SetsCollectNothing c.tables T (flat_map (sets_at c) (number ∷ [])) = subst (λ (xs : List ℕ). SetsCollectNothing c.tables T xs) (sym (append-nil (sets_at c number))) (passed_right number (found_of lists number) refl is_passed) in
        let none : fields_at e T (position_at c (number ∷ [])) ≡ [] = no_fields (number ∷ []) nothing (record { rank = rank; fragments = ranks; spreads = subst (λ ws. AllRanked rank (nesting e) ws) (sym same) ranked }) in
        subst (λ ws. collected_to e T (nesting e) ws ≡ []) same none

    pub walk_of : List ℕ → WalkData → WalkData
    walk_of numbers w = walk_numbers e.schema T (steps_unless out (steps_at (lists_of c))) (known_for c.kept T) (entries_of c) passed (sets_at c) (nesting e) numbers w

    pub walk_comes : (numbers : List ℕ) (w : WalkData) → IsBlank w → ComesToAt c T numbers (walk_of numbers w).fields
    unfolding collected walk_of
    walk_comes numbers w blank acyclic =
        let same = written_numbers c numbers in
        let found = walked_numbers acyclic.rank e T acyclic.fragments (lists_of c) (entries_of c) ready.sound (nesting e) Serves none_served both_served one_served (known_for c.kept T) out (out_fieldless acyclic.rank acyclic.fragments)
        (λ number l there. known_rightly acyclic.rank acyclic.fragments number (number ∷ []) (sets_of_listed c ready number (subst (λ n. number < n) (length-map c.tables.lists.items list_data) (within (lists_of c) number l there))))
        (sets_at c) (λ number. known_rightly acyclic.rank acyclic.fragments number (sets_at c number) refl) passed (passed_fieldless acyclic.rank acyclic.fragments) numbers w blank (subst (λ ws. AllRanked acyclic.rank (nesting e) ws) same acyclic.spreads) in
        record {
          come = record { left = found.0; repeats = subst (λ ws. LeavesOutRepeats (collected_to e T (nesting e) ws) found.0) (sym same) found.1.0; served = found.1.1.served };
          known = found.1.1.known;
        }

-- what a walk comes to
pub walked_to : (c : Collector) (T : ℕ) (numbers : List ℕ) (found lists : Reaches) (w v : WalkData) (fields : List NumberedField) → (IsReady c → AreReachedFor c.tables T found) → (IsReady c → AreListsReachedFor c.tables c.joins T lists) → IsBlank w
    → v ≡ numbers_in c.tables c.kept found T (length c.tables.planning.fragments.now + 2) lists (sets_at c) numbers w → fields ≡ v.fields → AreComeTo c T numbers fields
unfolding walk_of
walked_to c T numbers found lists w v fields right lists_right blank walks is ready =
    subst (λ (fs : List NumberedField). ComesToAt c T numbers fs) (sym (is ∙ ap (λ (x : WalkData). x.fields) (walks ∙ ap (λ n. numbers_in c.tables c.kept found T n lists (sets_at c) numbers w) deep)))
    (walk_comes c T (of_ready c ready) found lists (right ready) (lists_right ready) numbers w blank)
  where
    deep : length c.tables.planning.fragments.now + 2 ≡ nesting (setting_at c)
    deep = ap (λ n. n + 2) (sym (length-map c.tables.planning.fragments.now fragment_seen))

-- the groups of what it comes to
pub grouped_from : (c : Collector) (T : ℕ) (numbers : List ℕ) (fields : List NumberedField) (of_keys : List (List NumberedField)) → AreComeTo c T numbers fields → of_keys ≡ numbered_by_key fields → AreFoundAt c T numbers of_keys
grouped_from c T numbers fields of_keys come grouped = record { fields = fields; grouped = grouped; found = come }

-- what was found is right for a type of objects
pub reached_for : (c : Collector) (T : ℕ) → IsObjectType (schema_data c.tables.planning.schema.now) T → IsReady c → AreReachedFor c.tables T c.reaches.sets
reached_for c T object ready set reach h misses = (of_ready c ready).reached.sets set reach h T object misses

pub lists_reached_for : (c : Collector) (T : ℕ) → IsObjectType (schema_data c.tables.planning.schema.now) T → IsReady c → AreListsReachedFor c.tables c.joins T c.reaches.lists
lists_reached_for c T object ready number reach h misses = ((of_ready c ready).reached.lists number reach h).1 T object misses

-- where nothing was found
pub none_reached_for : (c : Collector) (T : ℕ) (found : Reaches) → ((set : ℕ) → found_of found set ≡ None) → IsReady c → AreReachedFor c.tables T found
none_reached_for c T found none ready set reach h misses = absurd (none-some reach (sym (none set) ∙ h))

pub no_list_reached_for : (c : Collector) (T : ℕ) (found : Reaches) → ((number : ℕ) → found_of found number ≡ None) → IsReady c → AreListsReachedFor c.tables c.joins T found
no_list_reached_for c T found none ready number reach h misses = absurd (none-some reach (sym (none number) ∙ h))

pub ready_made : (c : Collector) → AreSound (setting_at c) (lists_of c) (entries_of c) → c.joins.count ≡ length c.tables.lists.items → lists_of_joins c.joins ≡ [] ∷ [] → ((T number : ℕ) → found_in c.kept T number ≡ None) → AreAllReached c.tables c.joins c.reaches → IsReady c
ready_made c sound counted one unkept found = is_ready c (record {
  sound = sound;
  counted = counted;
  nothing = (number_there, none_there);
  kept = λ T number fields h. absurd (none-some fields (sym (unkept T number) ∙ h));
  reached = found;
})
  where
    number_there : c.joins.count < c.joins.count + length c.joins.lists.items
    number_there = let single : length c.joins.lists.items ≡ 1 = sym (length-map c.joins.lists.items (λ l. l.items)) ∙ ap length one in omega (arith, single)

    none_there : sets_at c c.joins.count ≡ []
    none_there =
        let same : c.joins.count + 0 ≡ c.joins.count = omega arith in
        ap (λ (ls : List (List ℕ)). sets_of c.joins.count ls c.joins.count) one ∙ (ap (λ n. sets_of c.joins.count ([] ∷ []) n) (sym same) ∙ new_set c.joins.count [] [] 0 refl)

-- the number of a selection set that is listed
pub one_listed : (c : Collector) (written : WrittenSelections) (number : ℕ) → IsReady c → IsListed (lists_of c) written number → HasOne c number written
one_listed c written number ready h = (number_of_listed c (of_ready c ready) number (listed_less c written number h), has_one c written number (of_ready c ready) h)

-- ---- types that are left out

-- where others are reached
pub leaves_out : (c : Collector) (numbers types left : List ℕ) (reach : Reach) → left ≡ filter (reaches reach) types → (AreAllReached c.tables c.joins c.reaches → ReachesNumbers c.tables c.joins numbers reach) → LeavesOutFieldless c numbers types left
leaves_out c numbers types left reach is reached = record {
  passes = reaches reach;
  left_over = is;
  fieldless = λ T missed ready acyclic object. no_fields c T (of_ready c ready) numbers (reached (of_ready c ready).reached T object missed) acyclic;
}
