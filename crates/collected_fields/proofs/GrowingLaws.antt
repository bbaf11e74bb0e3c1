-- A collector that has more lists, or of which more is kept.
use Rattle.std.proofs.Common.{◌≡◌, ⊎_elim, ℕ, ◌<◌, List, [], ◌∷◌, ◌++◌, map, flat_map, length, true, false, Some, None, refl, sym, ap, ◌∙◌, subst, arith}
use Rattle.std.proofs.lemmas.Bool.{cases_Bool}
use Rattle.std.proofs.lemmas.List.{length-map, map-append}
use Rattle.std.specs.Prelude.{All}
use Rattle.std.proofs.lemmas.List.Elements.{All-head, All-tail, All-cons}
use Rattle.plan_model.specs.SelectedFields.{Setting}
use Rattle.plan_model.specs.Collecting.{CollectedField, WrittenSelections}
use Rattle.plan_model.specs.Merging.{Position, fields_at, keys_of, fields_of_key, has_key}
use Rattle.plan_model.specs.MergingWalk.{IsAcyclic}
use Rattle.plan_model.specs.Repeats.{LeavesOutRepeats}
use Rattle.plan_model.proofs.Thinning.{thinned_map}
use Rattle.collected_fields.specs.declared.collected.Group.{Group}
use Rattle.collected_fields.specs.declared.collector.Collector.{Collector}
use Rattle.collected_fields.specs.declared.findings.Findings.{Findings}
use Rattle.collected_fields.specs.declared.joins.Joins.{Joins}
use Rattle.collected_fields.specs.declared.reaching.AllReaches.{AllReaches}
use Rattle.collected_fields.specs.declared.tables.Tables.{Tables}
use Rattle.collected_fields.specs.Groups.{AreGroupsOf}
use Rattle.collected_fields.specs.Gathering.{IsReady, setting_at, written_at, sets_at, meaning_at, IsNumber, position_at, ComesTo, ComesToAt, IsReadyCollector, Grows, groups_seen, IsGroupAt, AreFoundAt, GivesGroups}
use Rattle.collected_fields.specs.Lists.{HasMore, AllFinish, HasNothing, AllShorten}
use Rattle.collected_fields.specs.Reaching.{AreAllReached}
use Rattle.collected_fields.specs.Serving.{number_alone, Serve, ComeTo}
use Rattle.collected_fields.specs.Views.{collected_field}
use Rattle.collected_fields.specs.Walks.{NumberedField, field_alone, numbered_of_key, numbered_by_key, found_in, KeepsOne}
use Rattle.collected_fields.proofs.CollectLaws.{of_ready, is_ready}
use Rattle.collected_fields.proofs.KeyLaws.{AreFilledFor, all_filled_for}
use Rattle.collected_fields.proofs.ReachingLaws.{reached_still}
use Rattle.collected_fields.proofs.ListLaws.{more_itself, more_again, still_numbers, still_nothing, all_finish_still}
use Rattle.collected_fields.proofs.ServingLaws.{serve_still, filled_too, AreFinished, groups_finished, AllShorter, all_shorter}

-- ---- what is built of a collector's parts

pub same_written : (c d : Collector) → d.tables ≡ c.tables → written_at d ≡ written_at c
unfolding written_at
same_written c d same = ap (λ (t : Tables). written_at (record { tables = t; joins = c.joins; kept = c.kept; walk = c.walk; met = c.met; reaches = c.reaches })) same

-- What was found of selection sets and lists stays right.
abbrev pub StayRight : Collector → Collector → Type 0
StayRight c d = AreAllReached c.tables c.joins c.reaches → AreAllReached c.tables c.joins d.reaches

pub same_reached : (c d : Collector) → d.reaches ≡ c.reaches → StayRight c d
same_reached c d same right = subst (λ (r : AllReaches). AreAllReached c.tables c.joins r) (sym same) right

pub ready_same : (c d : Collector) → d.tables ≡ c.tables → d.joins ≡ c.joins → d.kept ≡ c.kept → StayRight c d → IsReadyCollector c → IsReadyCollector d
unfolding written_at
ready_same c d tables joins kept stay ready =
    subst (λ (t : Tables). IsReadyCollector (record { tables = t; joins = d.joins; kept = d.kept; walk = d.walk; met = d.met; reaches = d.reaches })) (sym tables)
    (subst (λ (j : Joins). IsReadyCollector (record { tables = c.tables; joins = j; kept = d.kept; walk = d.walk; met = d.met; reaches = d.reaches })) (sym joins)
    (subst (λ (k : Findings). IsReadyCollector (record { tables = c.tables; joins = c.joins; kept = k; walk = d.walk; met = d.met; reaches = d.reaches })) (sym kept) (moved ready)))
  where
    moved : IsReadyCollector c → IsReadyCollector (record { tables = c.tables; joins = c.joins; kept = c.kept; walk = d.walk; met = d.met; reaches = d.reaches })
    moved r = record {
      sound = r.sound;
      counted = r.counted;
      nothing = r.nothing;
      kept = λ T number fields h. let here = r.kept T number fields h in (here.0, λ acyclic. let comes : ComesTo c T (number ∷ []) fields = here.1 acyclic in record { come = comes.come; known = comes.known });
      reached = stay r.reached;
    }

-- ---- more lists

module _ (c d : Collector) (written : written_at d ≡ written_at c) (more : HasMore c.joins d.joins) where
  pub same_meaning : (number : ℕ) → IsNumber c number → meaning_at d number ≡ meaning_at c number
  same_meaning number h = ap (λ (f : ℕ → WrittenSelections). map f (sets_at d number)) written ∙ ap (map (written_at c)) (more number h).1

  pub same_meanings : (numbers : List ℕ) → All (IsNumber c) numbers → flat_map (meaning_at d) numbers ≡ flat_map (meaning_at c) numbers
  same_meanings [] h = refl
  same_meanings (n ∷ numbers) h =
      ap (λ (ws : List WrittenSelections). ws ++ flat_map (meaning_at d) numbers) (same_meaning n (All-head (IsNumber c) n numbers h)) ∙ ap (λ (ws : List WrittenSelections). meaning_at c n ++ ws) (same_meanings numbers (All-tail (IsNumber c) n numbers h))

  pub still_known : (numbers : List ℕ) → All (IsNumber c) numbers → All (IsNumber d) numbers
  still_known numbers h = still_numbers c.joins d.joins numbers more h

  meanings_of : (ns : List NumberedField) → All (λ f. IsNumber c f.1) ns → All (λ f. meaning_at c f.1 ≡ meaning_at d f.1) ns
  meanings_of [] h = λ k x less. absurd (none_less k less)
    where
      none_less : (n : ℕ) → n < 0 → ⊥
      none_less n h = omega arith
  meanings_of (n ∷ ns) h = All-cons (λ (f : NumberedField). meaning_at c f.1 ≡ meaning_at d f.1) n ns (sym (same_meaning n.1 (All-head (λ (f : NumberedField). IsNumber c f.1) n ns h))) (meanings_of ns (All-tail (λ (f : NumberedField). IsNumber c f.1) n ns h))

  numbers_of : (ns : List NumberedField) → All (λ f. IsNumber c f.1) ns → All (λ f. IsNumber d f.1) ns
  numbers_of [] h = λ k x less. absurd (none_less k less)
    where
      none_less : (n : ℕ) → n < 0 → ⊥
      none_less n h = omega arith
  numbers_of (n ∷ ns) h = All-cons (λ (f : NumberedField). IsNumber d f.1) n ns (more n.1 (All-head (λ (f : NumberedField). IsNumber c f.1) n ns h)).0 (numbers_of ns (All-tail (λ (f : NumberedField). IsNumber c f.1) n ns h))

module _ (c d : Collector) (tables : d.tables ≡ c.tables) (more : HasMore c.joins d.joins) where
  same_setting : setting_at d ≡ setting_at c
  same_setting = ap (λ (t : Tables). setting_at (record { tables = t; joins = c.joins; kept = c.kept; walk = c.walk; met = c.met; reaches = c.reaches })) tables

  written : written_at d ≡ written_at c
  written = same_written c d tables

  pub comes_still : (T : ℕ) (numbers : List ℕ) (fields : List NumberedField) → All (IsNumber c) numbers → ComesToAt c T numbers fields → ComesToAt d T numbers fields
  comes_still T numbers fields known comes acyclic =
      let same : position_at d numbers ≡ position_at c numbers = ap (λ (ws : List WrittenSelections). record { selections = ws; handed = None }) (same_meanings c d written more numbers known) in
      let before : IsAcyclic (setting_at c) (position_at c numbers) = subst (λ (e : Setting). IsAcyclic e (position_at c numbers)) same_setting (subst (λ (p : Position). IsAcyclic (setting_at d) p) same acyclic) in
      let found : ComesTo c T numbers fields = comes before in
      let served : Serve (setting_at c) (meaning_at d) found.come.left fields = serve_still (setting_at c) (meaning_at c) (meaning_at d) found.come.left fields (meanings_of c d written more fields found.known) found.come.served in
      record {
        come = subst (λ (p : Position). ComeTo (setting_at d) (meaning_at d) (fields_at (setting_at d) T p) fields) (sym same)
            (subst (λ (e : Setting). ComeTo e (meaning_at d) (fields_at e T (position_at c numbers)) fields) (sym same_setting) (record { left = found.come.left; repeats = found.come.repeats; served = served }));
        known = numbers_of c d written more fields found.known;
      }

one_number : (c : Collector) (number : ℕ) → IsNumber c number → All (IsNumber c) (number ∷ [])
one_number c number h = All-cons (IsNumber c) number [] h (λ k x less. absurd (none_less k less))
  where
    none_less : (n : ℕ) → n < 0 → ⊥
    none_less n h = omega arith

pub ready_more : (c d : Collector) → d.tables ≡ c.tables → d.kept ≡ c.kept → d.reaches ≡ c.reaches → d.joins.count ≡ c.joins.count → HasMore c.joins d.joins → IsReadyCollector c → IsReadyCollector d
ready_more c d tables kept reaches count more ready = record {
  sound = same_sound.sound;
  counted = count ∙ same_sound.counted;
  nothing = still_nothing c.joins d.joins (sym count) more ready.nothing;
  kept = λ T number fields found.
      let here = ready.kept T number fields (ap (λ (k : Findings). found_in k T number) (sym kept) ∙ found) in
      ((more number here.0).0, comes_still c d tables more T (number ∷ []) fields (one_number c number here.0) here.1);
  reached = reached_still d.tables c.joins d.joins d.reaches more same_sound.reached;
}
  where
    same_sound : IsReadyCollector (record { tables = d.tables; joins = c.joins; kept = c.kept; walk = c.walk; met = c.met; reaches = d.reaches })
    same_sound = ready_same c (record { tables = d.tables; joins = c.joins; kept = c.kept; walk = c.walk; met = c.met; reaches = d.reaches }) tables refl refl (same_reached c d reaches) ready

-- ---- more that is kept

pub ready_kept : (c d : Collector) (T number : ℕ) (new : List NumberedField) → d.tables ≡ c.tables → d.joins ≡ c.joins → d.reaches ≡ c.reaches
    → KeepsOne c.kept d.kept T number new → IsNumber c number → ComesToAt c T (number ∷ []) new → IsReadyCollector c → IsReadyCollector d
ready_kept c d T number new tables joins reaches adds there comes ready = record {
  sound = same.sound;
  counted = ap (λ (j : Joins). j.count) joins ∙ same_counted;
  nothing = subst HasNothing (sym joins) ready.nothing;
  kept = λ U place found h. ⊎_elim
      (λ (before : found_in c.kept U place ≡ Some found).
      let here = ready.kept U place found before in
      ((more place here.0).0, comes_still c d tables more U (place ∷ []) found (one_number c place here.0) here.1))
      (λ (is : (U ≡ T) × (place ≡ number) × (found ≡ new)).
      subst (λ (p : ℕ). IsNumber d p × ComesToAt d U (p ∷ []) found) (sym is.1) (subst (λ (V : ℕ). IsNumber d number × ComesToAt d V (number ∷ []) found) (sym is.0)
      (subst (λ (ns : List NumberedField). IsNumber d number × ComesToAt d T (number ∷ []) ns) (sym is.2) ((more number there).0, comes_still c d tables more T (number ∷ []) new (one_number c number there) comes))))
      (adds U place found h);
  reached = subst (λ (j : Joins). AreAllReached d.tables j d.reaches) (sym joins) same.reached;
}
  where
    more : HasMore c.joins d.joins
    more = subst (λ (j : Joins). HasMore c.joins j) (sym joins) (more_itself c.joins)

    same : IsReadyCollector (record { tables = d.tables; joins = c.joins; kept = c.kept; walk = c.walk; met = c.met; reaches = d.reaches })
    same = ready_same c (record { tables = d.tables; joins = c.joins; kept = c.kept; walk = c.walk; met = c.met; reaches = d.reaches }) tables refl refl (same_reached c d reaches) ready

    same_counted : c.joins.count ≡ length d.tables.lists.items
    same_counted = same.counted

-- ---- growing

pub grows_itself : (c : Collector) → Grows c c
grows_itself c = record { planning = refl; written = refl; numbers = more_itself c.joins; ready = λ r. r }

pub grows_again : (a b c : Collector) → Grows a b → Grows b c → Grows a c
grows_again a b c first second = record { planning = second.planning ∙ first.planning; written = second.written ∙ first.written; numbers = more_again a.joins b.joins c.joins first.numbers second.numbers; ready = λ r. second.ready (first.ready r) }

-- Its walk has changed, what was met, and what was found of types.
pub grows_same : (c d : Collector) → d.tables ≡ c.tables → d.joins ≡ c.joins → d.kept ≡ c.kept → StayRight c d → Grows c d
grows_same c d tables joins kept stay = record {
  planning = ap (λ (t : Tables). t.planning) tables;
  written = same_written c d tables;
  numbers = subst (λ (j : Joins). HasMore c.joins j) (sym joins) (more_itself c.joins);
  ready = λ r. is_ready d (ready_same c d tables joins kept stay (of_ready c r));
}

pub grows_more : (c d : Collector) → d.tables ≡ c.tables → d.kept ≡ c.kept → d.reaches ≡ c.reaches → d.joins.count ≡ c.joins.count → HasMore c.joins d.joins → Grows c d
grows_more c d tables kept reaches count more = record {
  planning = ap (λ (t : Tables). t.planning) tables;
  written = same_written c d tables;
  numbers = more;
  ready = λ r. is_ready d (ready_more c d tables kept reaches count more (of_ready c r));
}

-- ---- groups, and what is kept, made of the fields of each key

map_flat : {A B C : Type 0} (f : B → C) (g : A → List B) (xs : List A) → map f (flat_map g xs) ≡ flat_map (λ x. map f (g x)) xs
map_flat f g [] = refl
map_flat f g (x ∷ xs) = map-append f (g x) (flat_map g xs) ∙ ap (λ ys. map f (g x) ++ ys) (map_flat f g xs)

module _ (old new : Collector) (written : written_at new ≡ written_at old) where
  -- what stands for the selection sets stands for the selections
  meant : (numbers others : List ℕ) → LeavesOutRepeats (flat_map (sets_at old) numbers) (flat_map (sets_at new) others) → LeavesOutRepeats (flat_map (meaning_at old) numbers) (flat_map (meaning_at new) others)
  meant numbers others h =
      subst (λ (xs : List WrittenSelections). LeavesOutRepeats xs (flat_map (meaning_at new) others)) (map_flat (written_at old) (sets_at old) numbers)
      (subst (λ (ys : List WrittenSelections). LeavesOutRepeats (map (written_at old) (flat_map (sets_at old) numbers)) ys) (ap (λ (f : ℕ → WrittenSelections). map f (flat_map (sets_at new) others)) (sym written) ∙ map_flat (written_at new) (sets_at new) others)
      (thinned_map (written_at old) (flat_map (sets_at old) numbers) (flat_map (sets_at new) others) h))

  none_known : (c : Collector) → All (IsNumber c) []
  none_known c k x less = absurd (none_less k less)
    where
      none_less : (n : ℕ) → n < 0 → ⊥
      none_less n h = omega arith

  known_of_key : (fields : List NumberedField) → All (λ f. IsNumber old f.1) fields → (key : List ℕ) → All (IsNumber old) (map number_alone (numbered_of_key key fields))
  known_of_key [] known key = none_known old
  known_of_key (f ∷ fields) known key = ⊎_elim
      (λ (is : has_key key f.0 ≡ true). rw (is) (All-cons (IsNumber old) f.1 (map number_alone (numbered_of_key key fields)) (All-head (λ (x : NumberedField). IsNumber old x.1) f fields known) (known_of_key fields (All-tail (λ (x : NumberedField). IsNumber old x.1) f fields known) key)))
      (λ (unlike : has_key key f.0 ≡ false). rw (unlike) (known_of_key fields (All-tail (λ (x : NumberedField). IsNumber old x.1) f fields known) key))
      (cases_Bool (has_key key f.0))

  module _ (e : Setting) (fields : List NumberedField) (known : All (λ f. IsNumber old f.1) fields) where
    finished_keys : (keys : List (List ℕ)) (groups : List Group) → AllFinish e.schema old.joins new.joins (map (λ key. numbered_of_key key fields) keys) groups → AreFinished e (meaning_at old) (map (λ key. numbered_of_key key fields) keys) (groups_seen new groups)
    finished_keys [] [] h = tt
    finished_keys [] (g ∷ groups) h = absurd h
    finished_keys (key ∷ keys) [] h = absurd h
    finished_keys (key ∷ keys) (g ∷ groups) h = (
      record { like = h.0.like; below = meant (map number_alone (numbered_of_key key fields)) g.below.items (h.0.below (known_of_key fields known key)).1 },
      finished_keys keys groups h.1,
    )

    known_groups : (left : List CollectedField) (keys others : List (List ℕ)) (groups : List Group) → AllFinish e.schema old.joins new.joins (map (λ key. numbered_of_key key fields) keys) groups → AreGroupsOf e left others (groups_seen new groups) → AreFilledFor left others → All (IsGroupAt new) groups
    known_groups left [] others [] h of filled = λ k x less. absurd (none_less k less)
      where
        none_less : (n : ℕ) → n < 0 → ⊥
        none_less n h = omega arith
    known_groups left [] others (g ∷ groups) h of filled = absurd h
    known_groups left (key ∷ keys) others [] h of filled = absurd h
    known_groups left (key ∷ keys) [] (g ∷ groups) h of filled = absurd of
    known_groups left (key ∷ keys) (k ∷ others) (g ∷ groups) h of filled = All-cons (IsGroupAt new) g groups
        (record { filled = subst (λ n. 0 < n) (length-map g.fields.items collected_field) (filled_too e.schema (fields_of_key k left) (map collected_field g.fields.items) of.0.like filled.0); known = (h.0.below (known_of_key fields known key)).0 })
        (known_groups left keys others groups h.1 of.1 filled.1)

  shorter_keys : (e : Setting) → HasNothing old.joins → ((numbers : List ℕ) → All (IsNumber old) numbers → flat_map (meaning_at new) numbers ≡ flat_map (meaning_at old) numbers) → (fields : List NumberedField) → All (λ f. IsNumber old f.1) fields
      → (keys : List (List ℕ)) (made : List NumberedField) → AllShorten e.schema old.joins new.joins (map (λ key. numbered_of_key key fields) keys) made → AllShorter e (meaning_at new) (map (λ key. numbered_of_key key fields) keys) made × All (λ f. IsNumber new f.1) made
  shorter_keys e nothing same fields known [] made h = (h, subst (λ ns. All (λ (f : NumberedField). IsNumber new f.1) ns) (sym h) (λ k x less. absurd (none_less k less)))
    where
      none_less : (n : ℕ) → n < 0 → ⊥
      none_less n h = omega arith
  shorter_keys e nothing same fields known (key ∷ keys) made h =
      let of : List NumberedField = numbered_of_key key fields in
      let here = h.1.1.0.1.below nothing (known_of_key fields known key) in
      let later = shorter_keys e nothing same fields known keys h.1.0 h.1.1.1 in (
        (
          h.0,
          (
            h.1.0,
            (
              (
                h.1.1.0.0,
                record {
                  like = h.1.1.0.1.like;
                  below = subst (λ (ws : List WrittenSelections). LeavesOutRepeats ws (flat_map (meaning_at new) (map number_alone h.0))) (sym (same (map number_alone of) (known_of_key fields known key))) (meant (map number_alone of) (map number_alone h.0) here.1);
                },
              ),
              later.0,
            ),
          ),
        ),
        subst (λ ns. All (λ (f : NumberedField). IsNumber new f.1) ns) (sym h.1.1.0.0) (both_known h.0 h.1.0 here.0 later.1),
      )
    where
      both_known : (ns ms : List NumberedField) → All (IsNumber new) (map number_alone ns) → All (λ (f : NumberedField). IsNumber new f.1) ms → All (λ (f : NumberedField). IsNumber new f.1) (ns ++ ms)
      both_known [] ms a b = b
      both_known (n ∷ ns) ms a b = All-cons (λ (f : NumberedField). IsNumber new f.1) n (ns ++ ms) (All-head (IsNumber new) n.1 (map number_alone ns) a) (both_known ns ms (All-tail (IsNumber new) n.1 (map number_alone ns) a) b)

pub gives_groups : (old mid new : Collector) (T : ℕ) (numbers : List ℕ) (of_keys : List (List NumberedField)) (groups : List Group) → AreFoundAt old T numbers of_keys → Grows old mid → Grows mid new → AllFinish (setting_at old).schema mid.joins new.joins of_keys groups → GivesGroups old new T numbers groups
gives_groups old mid new T numbers of_keys groups found first second finish = record {
  found = λ ready acyclic.
      let comes = found.found ready acyclic in
      record {
        fields = comes.come.left;
        repeats = comes.come.repeats;
        grouped = grouped ready acyclic;
      };
  right = λ ready acyclic.
      let comes = found.found ready acyclic in
      known_groups old new written (setting_at old) found.fields comes.known comes.come.left (keys_of (map field_alone found.fields)) (keys_of comes.come.left) groups whole (grouped ready acyclic) (all_filled_for comes.come.left);
}
  where
    written : written_at new ≡ written_at old
    written = second.written ∙ first.written

    whole : AllFinish (setting_at old).schema old.joins new.joins (numbered_by_key found.fields) groups
    whole = subst (λ (rs : List (List NumberedField)). AllFinish (setting_at old).schema old.joins new.joins rs groups) found.grouped (all_finish_still (setting_at old).schema old.joins mid.joins new.joins new.joins of_keys groups first.numbers (more_itself new.joins) finish)

    grouped : (ready : IsReady old) (acyclic : IsAcyclic (setting_at old) (position_at old numbers)) → AreGroupsOf (setting_at old) ((found.found ready acyclic).come.left) (keys_of ((found.found ready acyclic).come.left)) (groups_seen new groups)
    grouped ready acyclic =
        let comes = found.found ready acyclic in
        groups_finished (setting_at old) (meaning_at old) comes.come.left found.fields comes.come.served (groups_seen new groups) (finished_keys old new written (setting_at old) found.fields comes.known (keys_of (map field_alone found.fields)) groups whole)

-- what is made shorter of what a number comes to
pub shorter_comes : (old new : Collector) (T number : ℕ) (of_keys : List (List NumberedField)) (made : List NumberedField) → new.tables ≡ old.tables → HasMore old.joins new.joins → IsReadyCollector old → IsNumber old number → AreFoundAt old T (number ∷ []) of_keys
    → AllShorten (setting_at old).schema old.joins new.joins of_keys made → ComesToAt new T (number ∷ []) made
shorter_comes old new T number of_keys made tables more ready there found short acyclic =
    let comes : ComesTo new T (number ∷ []) found.fields = comes_still old new tables more T (number ∷ []) found.fields (one_number old number there) (found.found (is_ready old ready)) acyclic in
    let before : IsAcyclic (setting_at old) (position_at old (number ∷ [])) = subst (λ (e : Setting). IsAcyclic e (position_at old (number ∷ []))) (same_setting old new tables more)
    (subst (λ (p : Position). IsAcyclic (setting_at new) p) (ap (λ (ws : List WrittenSelections). record { selections = ws; handed = None }) (same_meanings old new (same_written old new tables) more (number ∷ []) (one_number old number there))) acyclic) in
    let whole : AllShorten (setting_at new).schema old.joins new.joins (numbered_by_key found.fields) made = subst (λ (e : Setting). AllShorten e.schema old.joins new.joins (numbered_by_key found.fields) made) (sym (same_setting old new tables more)) (subst (λ (rs : List (List NumberedField)). AllShorten (setting_at old).schema old.joins new.joins rs made) found.grouped short) in
    let shorter = shorter_keys old new (same_written old new tables) (setting_at new) ready.nothing (same_meanings old new (same_written old new tables) more) found.fields (found.found (is_ready old ready) before).known (keys_of (map field_alone found.fields)) made whole in
    record {
      come = record { left = comes.come.left; repeats = comes.come.repeats; served = all_shorter (setting_at new) (meaning_at new) comes.come.left found.fields made comes.come.served shorter.0 };
      known = shorter.1;
    }

-- It has more lists, and what a number comes to is kept.
pub apart_grows : (c d : Collector) (T number : ℕ) (of_keys : List (List NumberedField)) (made : List NumberedField) → d.tables ≡ c.tables → d.reaches ≡ c.reaches → d.joins.count ≡ c.joins.count → HasMore c.joins d.joins
    → KeepsOne c.kept d.kept T number made → IsNumber c number → AreFoundAt c T (number ∷ []) of_keys → AllShorten (setting_at c).schema c.joins d.joins of_keys made → Grows c d
apart_grows c d T number of_keys made tables reaches count more adds there found short = record {
  planning = ap (λ (t : Tables). t.planning) tables;
  written = same_written c d tables;
  numbers = more;
  ready = λ r. is_ready d (ready_kept mid d T number made refl refl reaches adds (more number there).0 (shorter_comes c mid T number of_keys made tables more (of_ready c r) there found short) (ready_more c mid tables refl refl count more (of_ready c r)));
}
  where
    mid : Collector
    mid = record { tables = d.tables; joins = d.joins; kept = c.kept; walk = c.walk; met = c.met; reaches = c.reaches }

-- what is kept of a number, once its fields were found
pub apart_found : (old mid new : Collector) (T number : ℕ) (of_keys : List (List NumberedField)) (made : List NumberedField) → mid.tables ≡ old.tables → mid.joins ≡ old.joins → mid.kept ≡ old.kept → new.tables ≡ mid.tables → new.reaches ≡ old.reaches → new.joins.count ≡ mid.joins.count → HasMore mid.joins new.joins
    → AreFoundAt old T (number ∷ []) of_keys → AllShorten (setting_at old).schema mid.joins new.joins of_keys made → KeepsOne mid.kept new.kept T number made → IsNumber old number → Grows old new
apart_found old mid new T number of_keys made tables joins kept same reaches count more found short adds there = apart_grows old new T number of_keys made (same ∙ tables) reaches (count ∙ ap (λ (j : Joins). j.count) joins) (subst (λ (j : Joins). HasMore j new.joins) joins more)
    (subst (λ (k : Findings). KeepsOne k new.kept T number made) kept adds) there found (subst (λ (j : Joins). AllShorten (setting_at old).schema j new.joins of_keys made) joins short)

-- more lists, once fields were found
pub found_grows : (old mid new : Collector) → mid.tables ≡ old.tables → mid.joins ≡ old.joins → mid.kept ≡ old.kept → mid.reaches ≡ old.reaches → new.tables ≡ mid.tables → new.kept ≡ mid.kept → new.reaches ≡ mid.reaches → new.joins.count ≡ mid.joins.count → HasMore mid.joins new.joins → Grows old new
found_grows old mid new tables joins kept reaches same still found count more = grows_again old mid new (grows_same old mid tables joins kept (same_reached old mid reaches)) (grows_more mid new same still found count more)
