-- Types of one kind have the same fields.
use Rattle.std.proofs.Common.{◌≡◌, ⊎_elim, inl, inr, ℕ, zero, suc, ◌+◌, ◌<◌, ◌≤◌, List, [], ◌∷◌, ◌++◌, map, flat_map, drop, length, get_or, slice_get, nat_eq, Bool, true, false, Option, Some, None, option_map, Vec, Global, refl, sym, ap, ◌∙◌, subst, if◌then◌else◌}
use Rattle.std.specs.List.{list_any}
use Rattle.std.proofs.Math.Path.{fun_ext}
use Rattle.std.proofs.lemmas.List.{drop_all, drop_more, map-append}
use Rattle.std.proofs.lemmas.Option.{none-some, same_Some, get_or_from_slice_get}
use Rattle.gql_base.specs.names.Names.{place_of_name}
use Rattle.document_reader.specs.Documents.{no_selection}
use Rattle.input_values.specs.declared.inputs.shape.TypeId.{TypeId}
use Rattle.schema_model.specs.Numbers.{type_number}
use Rattle.schema_model.specs.SchemaData.{SchemaData, applies, type_named}
use Rattle.schema_model.specs.SchemaViews.{schema_data}
use Rattle.document_rules.specs.Parts.{FragmentData, fragment_name}
use Rattle.plan_model.specs.SelectedFields.{Setting}
use Rattle.plan_model.specs.Collecting.{CollectedField, WrittenSelections, written_in, applies_where, applies_by_name, fragment_named, fields_written, fields_entered, fields_spread, collected, nesting}
use Rattle.plan_model.specs.Merging.{Position, fields_at}
use Rattle.plan_model.specs.MergingWalk.{IsAcyclic}
use Rattle.plan_model.specs.Repeats.{LeavesOutRepeats}
use Rattle.collected_fields.specs.declared.collected.Group.{Group}
use Rattle.collected_fields.specs.declared.collector.Collector.{Collector}
use Rattle.collected_fields.specs.declared.kinds.Kinds.{Kinds}
use Rattle.collected_fields.specs.declared.joins.Joins.{Joins}
use Rattle.collected_fields.specs.declared.tables.Tables.{Tables}
use Rattle.collected_fields.specs.Gathering.{IsReady, IsReadyCollector, setting_at, written_at, sets_at, meaning_at, position_at, Gathers, GivesGroups, Grows, groups_seen}
use Rattle.collected_fields.specs.Prepared.{ListData, EntryData, list_data, entry_data, written_of, entry_seen, entry_wanted, ArePrepared, AreEntries}
use Rattle.collected_fields.specs.Lists.{sets_in_joins}
use Rattle.collected_fields.specs.Steps.{StepData, field_step, spread_step, inline_step, Each, SameStep, SameSteps}
use Rattle.collected_fields.specs.Views.{setting_of_planning}
use Rattle.collected_fields.specs.Kinds.{SameLists, SameEntries, AreOfOneKind, AreAlike, Adds, AddsCondition, Covers, stand_in_of, KnowsKinds, KeepsStandIn, FindsStandIn}
use Rattle.collected_fields.proofs.EachLaws.{each_apart, each_both, each_next, each_has}
use Rattle.collected_fields.proofs.StepLaws.{named_at, unnamed_at}
use Rattle.collected_fields.proofs.WalkLaws.{got_seen}
use Rattle.collected_fields.proofs.CollectLaws.{of_ready, written_there}

-- ---- fields

module _ (e : Setting) (T U : ℕ) (lists : List ListData) (entries : List EntryData) (prepared : ArePrepared e lists lists) (entered : AreEntries e.schema lists entries e.fragments)
    (same_lists : SameLists e.schema T U lists) (same_entries : SameEntries e.schema T U entries) where
  abbrev HasSame : (List ℕ → List CollectedField) → WrittenSelections → Type 0
  HasSame spread written = fields_written e T spread written ≡ fields_written e U spread written

  some_same : (spread : List ℕ → List CollectedField) (all some : List ListData) → ArePrepared e all some → SameLists e.schema T U some → (n : ℕ) → HasSame spread (get_or (map written_of some) n (None, no_selection))
  some_same spread all [] p same n = refl
  some_same spread all (l ∷ some) p same zero = p.0.0.alike T U spread same.0
  some_same spread all (l ∷ some) p same (suc n) = some_same spread all some p.1 same.1 n

  set_same : (spread : List ℕ → List CollectedField) (n : ℕ) → HasSame spread (get_or (map written_of lists) n (None, no_selection))
  set_same spread n = some_same spread lists lists prepared same_lists n

  entry_same : (some : List EntryData) → SameEntries e.schema T U some → (n : ℕ) (entry : EntryData) → slice_get some n ≡ Some entry → applies_where e.schema T entry.0 ≡ applies_where e.schema U entry.0
  entry_same [] same n entry there = absurd (none-some entry there)
  entry_same (x ∷ some) same zero entry there = subst (λ (y : EntryData). applies_where e.schema T y.0 ≡ applies_where e.schema U y.0) (same_Some x entry there) same.0
  entry_same (x ∷ some) same (suc n) entry there = entry_same some same.1 n entry there

  wanted_at : (fragments : List FragmentData) (n : ℕ) (f : FragmentData) → slice_get fragments n ≡ Some f → slice_get (map (entry_wanted e.schema) fragments) n ≡ Some (entry_wanted e.schema f)
  wanted_at [] n f there = absurd (none-some f there)
  wanted_at (g ∷ fragments) zero f there = ap (λ (x : FragmentData). Some (entry_wanted e.schema x)) (same_Some g f there)
  wanted_at (g ∷ fragments) (suc n) f there = wanted_at fragments n f there

  where_same : (b c : Bool) (fs gs : List CollectedField) → b ≡ c → fs ≡ gs → (if b then fs else []) ≡ (if c then gs else [])
  where_same b c fs gs is same = ap (λ (x : Bool). if x then fs else []) is ∙ ap (λ (xs : List CollectedField). if c then xs else []) same

  fragment_same : (spread : List ℕ → List CollectedField) (n : ℕ) (f : FragmentData) → slice_get e.fragments n ≡ Some f → fields_entered e T spread (Some f) ≡ fields_entered e U spread (Some f)
  unfolding applies_by_name
  fragment_same spread n f there =
      let found = got_seen (entry_seen lists) entries n (entry_wanted e.schema f) (ap (λ (os : List (Option ℕ × Option WrittenSelections)). slice_get os n) entered ∙ wanted_at e.fragments n f there) in
      let on : found.0.0 ≡ type_named e.schema f.on.0 = ap (λ (p : Option ℕ × Option WrittenSelections). p.0) found.1.1 in
      let written : slice_get (map written_of lists) found.0.1 ≡ Some (written_in e.schema f) = ap (λ (p : Option ℕ × Option WrittenSelections). p.1) found.1.1 in
      where_same (applies_where e.schema T (type_named e.schema f.on.0)) (applies_where e.schema U (type_named e.schema f.on.0)) (fields_written e T spread (written_in e.schema f)) (fields_written e U spread (written_in e.schema f))
      (subst (λ (o : Option ℕ). applies_where e.schema T o ≡ applies_where e.schema U o) on (entry_same entries same_entries n found.0 found.1.0))
      (subst (HasSame spread) (get_or_from_slice_get (map written_of lists) found.0.1 (written_in e.schema f) (None, no_selection) written) (set_same spread found.0.1))

  named_same : (spread : List ℕ → List CollectedField) (name : List ℕ) → fields_entered e T spread (fragment_named e name) ≡ fields_entered e U spread (fragment_named e name)
  named_same spread name = by (place_of_name fragment_name e.fragments name) refl
    where
      by : (o : Option ℕ) → place_of_name fragment_name e.fragments name ≡ o → fields_entered e T spread (fragment_named e name) ≡ fields_entered e U spread (fragment_named e name)
      by None is = subst (λ (f : Option FragmentData). fields_entered e T spread f ≡ fields_entered e U spread f) (sym (unnamed_at e name is)) refl
      by (Some n) is = let found = named_at e name n is in subst (λ (f : Option FragmentData). fields_entered e T spread f ≡ fields_entered e U spread f) (sym found.first) (fragment_same spread n found.fragment found.there)

  spreads_same : (depth : ℕ) → fields_spread e T depth ≡ fields_spread e U depth
  unfolding fields_spread
  spreads_same zero = fun_ext (λ name. refl)
  spreads_same (suc depth) = fun_ext (λ name. ap (λ (spread : List ℕ → List CollectedField). fields_entered e T spread (fragment_named e name)) (spreads_same depth) ∙ named_same (fields_spread e U depth) name)

  all_same : (spread : List ℕ → List CollectedField) (ws : List WrittenSelections) → Each (HasSame spread) ws → flat_map (fields_written e T spread) ws ≡ flat_map (fields_written e U spread) ws
  all_same spread [] h = refl
  all_same spread (w ∷ ws) h = ap (λ (fs : List CollectedField). fs ++ flat_map (fields_written e T spread) ws) h.0 ∙ ap (λ (fs : List CollectedField). fields_written e U spread w ++ fs) (all_same spread ws h.1)

  pub collected_same : (ws : List WrittenSelections) → Each (HasSame (fields_spread e U (nesting e))) ws → collected e T ws ≡ collected e U ws
  unfolding collected
  collected_same ws each = ap (λ (spread : List ℕ → List CollectedField). flat_map (fields_written e T spread) ws) (spreads_same (nesting e)) ∙ all_same (fields_spread e U (nesting e)) ws each

module _ (c : Collector) (ready : IsReadyCollector c) (T U : ℕ) (kind : AreOfOneKind c.tables T U) where
  abbrev e : Setting
  e = setting_at c

  abbrev lists : List ListData
  lists = map list_data c.tables.lists.items

  abbrev entries : List EntryData
  entries = map entry_data c.tables.entries.items

  abbrev IsSame : WrittenSelections → Type 0
  IsSame written = fields_written e T (fields_spread e U (nesting e)) written ≡ fields_written e U (fields_spread e U (nesting e)) written

  one_same : (n : ℕ) → IsSame (written_at c n)
  one_same n = subst IsSame (sym (written_there c n)) (set_same e T U lists entries ready.sound.prepared ready.sound.entered kind.lists kind.entries (fields_spread e U (nesting e)) n)

  sets_same : (sets : List ℕ) → Each IsSame (map (written_at c) sets)
  sets_same [] = tt
  sets_same (n ∷ sets) = (one_same n, sets_same sets)

  numbers_same : (numbers : List ℕ) → Each IsSame (flat_map (meaning_at c) numbers)
  numbers_same [] = tt
  numbers_same (n ∷ numbers) = each_both IsSame (meaning_at c n) (flat_map (meaning_at c) numbers) (sets_same (sets_at c n)) (numbers_same numbers)

  pub fields_same : (numbers : List ℕ) → fields_at e T (position_at c numbers) ≡ fields_at e U (position_at c numbers)
  fields_same numbers = collected_same e T U lists entries ready.sound.prepared ready.sound.entered kind.lists kind.entries (flat_map (meaning_at c) numbers) (numbers_same numbers)

-- What is given for a type of the same kind is given for the type itself.
pub kind_gives : (old mid new : Collector) (T U : ℕ) (numbers : List ℕ) (groups : List Group) → mid.tables ≡ old.tables → mid.joins ≡ old.joins → Grows old mid → (IsReady old → AreOfOneKind old.tables T U) → GivesGroups mid new U numbers groups → GivesGroups old new T numbers groups
kind_gives old mid new T U numbers groups tables joins grows kind gives = record {
  found = λ ready acyclic.
      let there : Gathers (setting_at old) U (position_at old numbers) (groups_seen new groups) = subst (λ (s : Setting). Gathers s U (position_at old numbers) (groups_seen new groups)) same_setting
      (subst (λ (p : Position). Gathers (setting_at mid) U p (groups_seen new groups)) same_position (gives.found (grows.ready ready) (acyclic_there acyclic))) in
      record {
        fields = there.fields;
        repeats = subst (λ (fs : List CollectedField). LeavesOutRepeats fs there.fields) (sym (fields_same old (of_ready old ready) T U (kind ready) numbers)) there.repeats;
        grouped = there.grouped;
      };
  right = λ ready acyclic. gives.right (grows.ready ready) (acyclic_there acyclic);
}
  where
    position_of : (ℕ → WrittenSelections) → Joins → Position
    position_of written j = record { selections = flat_map (λ number. map written (sets_in_joins j number)) numbers; handed = None }

    same_setting : setting_at mid ≡ setting_at old
    same_setting = ap (λ (t : Tables). setting_of_planning t.planning) tables

    same_position : position_at mid numbers ≡ position_at old numbers
    same_position = ap (λ (written : ℕ → WrittenSelections). position_of written mid.joins) grows.written ∙ ap (position_of (written_at old)) joins

    acyclic_there : IsAcyclic (setting_at old) (position_at old numbers) → IsAcyclic (setting_at mid) (position_at mid numbers)
    acyclic_there acyclic = subst (λ (s : Setting). IsAcyclic s (position_at mid numbers)) (sym same_setting) (subst (λ (p : Position). IsAcyclic (setting_at old) p) (sym same_position) acyclic)

-- ---- a type is of its own kind

same_step : (s : SchemaData) (T : ℕ) (x : StepData) → SameStep s T T x
same_step s T (field_step f below) = tt
same_step s T (spread_step number) = tt
same_step s T (inline_step on count) = refl

each_of : {A : Type 0} (P : A → Type 0) → ((x : A) → P x) → (xs : List A) → Each P xs
each_of P all [] = tt
each_of P all (x ∷ xs) = (all x, each_of P all xs)

pub alike_itself : (s : SchemaData) (T : ℕ) (conditions : List ℕ) → AreAlike s T T conditions
alike_itself s T conditions = each_of (λ on. applies s on T ≡ applies s on T) (λ on. refl) conditions

pub kind_itself : (t : Tables) (T : ℕ) → AreOfOneKind t T T
kind_itself t T =
    let s = schema_data t.planning.schema.now in
    record {
      lists = each_of (λ (l : ListData). SameSteps s T T l.steps) (λ l. each_of (SameStep s T T) (same_step s T) l.steps) (map list_data t.lists.items);
      entries = each_of (λ (entry : EntryData). applies_where s T entry.0 ≡ applies_where s T entry.0) (λ entry. refl) (map entry_data t.entries.items);
    }

-- ---- conditions that are listed

pub added_last : (old : List TypeId) (on : TypeId) → AddsCondition old (old ++ (on ∷ [])) on.number
added_last old on s T U h =
    let both = each_apart (λ n. applies s n T ≡ applies s n U) (map type_number old) (on.number ∷ []) (subst (AreAlike s T U) (map-append type_number old (on ∷ [])) h) in
    (both.0, both.1.0)

pub added_before : (old : List TypeId) (on : TypeId) → list_any (nat_eq on.number) (map type_number old) ≡ true → AddsCondition old old on.number
added_before old on there s T U h = (h, each_has (λ n. applies s n T ≡ applies s n U) on.number (map type_number old) there h)

-- Those of the elements up to a place are among them.
module _ {A B : Type 0} (Same : SchemaData → ℕ → ℕ → A → Type 0) (f : B → A) (old : List TypeId) (xs : List B) where
  abbrev pub SoFar : List TypeId → ℕ → Type 0
  SoFar new i = (s : SchemaData) (T U : ℕ) → AreAlike s T U (map type_number new) → AreAlike s T U (map type_number old) × (Each (Same s T U) (map f (drop i xs)) → Each (Same s T U) (map f xs))

  pub none_so_far : SoFar old 0
  none_so_far s T U h = (h, λ r. r)

  pub one_so_far : (mid new : List TypeId) (i : ℕ) (x : B) → i < length xs → x ≡ get_or xs i x → SoFar mid i → Adds mid new (λ s T U. Same s T U (f x)) → SoFar new (i + 1)
  one_so_far mid new i x less is before adds s T U h =
      let one = adds s T U h in
      let whole = before s T U one.0 in
      (whole.0, λ rest. whole.1 (each_next (Same s T U) f xs i x less is one.1 rest))

  pub one_so_far_at : (mid new : List TypeId) (i : ℕ) (d : B) → i < length xs → SoFar mid i → Adds mid new (λ s T U. Same s T U (f (get_or xs i d))) → SoFar new (i + 1)
  one_so_far_at mid new i d less before adds s T U h =
      let one = adds s T U h in
      let whole = before s T U one.0 in
      (whole.0, λ rest. whole.1 (subst (λ (ys : List B). Each (Same s T U) (map f ys)) (sym (drop_more xs i d less)) (one.1, rest)))

  pub all_so_far : (new : List TypeId) (i : ℕ) → length xs ≤ i → SoFar new i → Adds old new (λ s T U. Each (Same s T U) (map f xs))
  all_so_far new i past before s T U h =
      let whole = before s T U h in
      (whole.0, whole.1 (subst (λ (ys : List B). Each (Same s T U) (map f ys)) (sym (drop_all i xs past)) tt))

pub covers_all : (t : Tables) (none mid new : List TypeId) → Adds none mid (λ s T U. SameLists s T U (map list_data t.lists.items)) → Adds mid new (λ s T U. SameEntries s T U (map entry_data t.entries.items)) → Covers t new
covers_all t none mid new lists entries T U h =
    let s = schema_data t.planning.schema.now in
    let last = entries s T U h in
    record { lists = (lists s T U last.0).1; entries = last.1 }

-- ---- what was found

pub knows_none : (t : Tables) (k : Kinds) → k.begun ≡ false → k.stand_ins.items ≡ [] → KnowsKinds t k
knows_none t k begun none = record {
  covers = λ h. absurd (never (sym begun ∙ h));
  stand_ins = λ T U h. absurd (none-some U (sym (ap (λ (os : List (Option TypeId)). option_map type_number (get_or os T None)) none) ∙ h));
}
  where
    never : false ≡ true → ⊥
    never e = cc

pub knows_found : (t : Tables) (old new : Kinds) (T : ℕ) → new.conditions ≡ old.conditions → new.begun ≡ old.begun → old.begun ≡ true → FindsStandIn (schema_data t.planning.schema.now) old new T → KnowsKinds t old → KnowsKinds t new
knows_found t old new T conditions same begun finds knows = record {
  covers = λ h. subst (Covers t) (ap (λ (v : Vec TypeId Global). v.items) (sym conditions)) (knows.covers begun);
  stand_ins = λ place other h. ⊎_elim
      (λ (before : stand_in_of old place ≡ Some other). knows.stand_ins place other before)
      (λ (found : (place ≡ T) × AreAlike (schema_data t.planning.schema.now) T other (map type_number old.conditions.items)). subst (λ p. AreOfOneKind t p other) (sym found.0) (knows.covers begun T other found.1))
      (finds place other h);
}

pub knows_same : (t : Tables) (old new : Kinds) → new.conditions ≡ old.conditions → new.begun ≡ old.begun → new.stand_ins ≡ old.stand_ins → KnowsKinds t old → KnowsKinds t new
knows_same t old new conditions begun stand_ins knows = record {
  covers = λ h. subst (Covers t) (ap (λ (v : Vec TypeId Global). v.items) (sym conditions)) (knows.covers (sym begun ∙ h));
  stand_ins = λ T U h. knows.stand_ins T U (ap (λ (v : Vec (Option TypeId) Global). option_map type_number (get_or v.items T None)) (sym stand_ins) ∙ h);
}

pub keeps_alike : (s : SchemaData) (old new : Kinds) (T U : ℕ) → KeepsStandIn old new T U → AreAlike s T U (map type_number old.conditions.items) → FindsStandIn s old new T
keeps_alike s old new T U keeps alike place other h = ⊎_elim
    (λ (before : stand_in_of old place ≡ Some other). inl before)
    (λ (is : (place ≡ T) × (other ≡ U)). inr (is.0, subst (λ (V : ℕ). AreAlike s T V (map type_number old.conditions.items)) (sym is.1) alike))
    (keeps place other h)
