-- The walk over steps collects what selections have, where repeats are left out.
use Rattle.std.proofs.Common.{◌≡◌, ◌⊎◌, inl, inr, ⊎_elim, ℕ, zero, suc, ◌<◌, ◌≤◌, List, [], ◌∷◌, ◌++◌, map, slice_get, slice_set, get_or, flat_map, Bool, true, false, true≢false, Option, Some, None, refl, sym, ap, ◌∙◌, subst, append_assoc, append-nil, arith, if◌then◌else◌}
use Rattle.std.proofs.lemmas.Grind.{flat_map-append}
use Rattle.std.proofs.lemmas.Option.{same_Some, none-some, slice_get-map, get_or_from_slice_get}
use Rattle.document_reader.specs.Documents.{no_selection}
use Rattle.document_reader.specs.DocumentReading.{selections_from}
use Rattle.schema_model.specs.SchemaData.{applies, type_named}
use Rattle.document_rules.specs.Parts.{FragmentData, fragment_name}
use Rattle.plan_model.specs.SelectedFields.{Setting}
use Rattle.plan_model.specs.Collecting.{CollectedField, WrittenSelections, written_in, applies_where, applies_by_name, fields_written, fields_entered, fields_spread, collected_to}
use Rattle.plan_model.specs.Merging.{selections_below}
use Rattle.plan_model.specs.MergingWalk.{AreRanked, AllRanked, FragmentsRanked}
use Rattle.plan_model.specs.Repeats.{Holds, IsThinned, LeavesOutRepeats}
use Rattle.plan_model.proofs.Thinning.{held_left, IsIn, seen_more, all_go, seen_or_stays, in_two}
use Rattle.plan_model.proofs.Walking.{none_below_none, not_below_itself, opened}
use Rattle.plan_model.proofs.RankedBelow.{all_higher}
use Rattle.collected_fields.specs.Steps.{StepData, field_step, spread_step, inline_step, fields_of_steps, by_number, fields_of_fragment, IsRankedFragment, StepsRanked, LeavesOutUnknown, StandsFor}
use Rattle.collected_fields.specs.Prepared.{ListData, EntryData, written_of, entry_seen, entry_wanted, steps_in, IsListed, ArePrepared, AreListed, AreSound}
use Rattle.collected_fields.specs.Walks.{NumberedField, WalkData, is_marked, marked, kept, IsBlank, steps_at, steps_unless, walk_steps, walk_sets, walk_known, walk_entry, walk_fragment, walk_numbers}

-- ---- lists

-- what is left out of a list where repeats are left out
pub thinned_twice : {A : Type 0} (s r xs ys zs : List A) → IsIn s r → IsThinned s xs ys → IsThinned r ys zs → IsThinned r xs zs
thinned_twice s r [] [] [] inside a b = tt
thinned_twice s r [] [] (z ∷ zs) inside a b = absurd b
thinned_twice s r [] (y ∷ ys) zs inside a b = absurd a
thinned_twice s r (x ∷ xs) [] [] inside a b = (inside x a.0, thinned_twice s r xs [] [] inside a.1 tt)
thinned_twice s r (x ∷ xs) [] (z ∷ zs) inside a b = absurd b
thinned_twice s r (x ∷ xs) (y ∷ ys) [] inside (inl stays) b =
    (subst (λ z. Holds r z) (sym stays.0) b.0, thinned_twice (x ∷ s) r xs ys [] (added_too s r x (subst (λ z. Holds r z) (sym stays.0) b.0) inside) stays.1 b.1)
  where
    added_too : {A : Type 0} (s r : List A) (x : A) → Holds r x → IsIn s r → IsIn (x ∷ s) r
    added_too s r x h inside z (inl is) = subst (λ y. Holds r y) (sym is) h
    added_too s r x h inside z (inr k) = inside z k
thinned_twice s r (x ∷ xs) (y ∷ ys) [] inside (inr goes) b = (inside x goes.0, thinned_twice s r xs (y ∷ ys) [] inside goes.1 b)
thinned_twice s r (x ∷ xs) (y ∷ ys) (z ∷ zs) inside (inl stays) (inl keeps) = inl (stays.0 ∙ keeps.0, thinned_twice (x ∷ s) (x ∷ r) xs ys zs (both_longer s r x x refl inside) stays.1 (subst (λ q. IsThinned (q ∷ r) ys zs) (sym stays.0) keeps.1))
  where
    both_longer : {A : Type 0} (s r : List A) (x y : A) → x ≡ y → IsIn s r → IsIn (x ∷ s) (y ∷ r)
    both_longer s r x y is inside z (inl e) = inl (e ∙ is)
    both_longer s r x y is inside z (inr k) = inr (inside z k)
thinned_twice s r (x ∷ xs) (y ∷ ys) (z ∷ zs) inside (inl stays) (inr goes) =
    let h : Holds r x = subst (λ z. Holds r z) (sym stays.0) goes.0 in
    inr (h, thinned_twice (x ∷ s) r xs ys (z ∷ zs) (still s r x h inside) stays.1 goes.1)
  where
    still : {A : Type 0} (s r : List A) (x : A) → Holds r x → IsIn s r → IsIn (x ∷ s) r
    still s r x h inside z (inl is) = subst (λ y. Holds r y) (sym is) h
    still s r x h inside z (inr k) = inside z k
thinned_twice s r (x ∷ xs) (y ∷ ys) (z ∷ zs) inside (inr goes) b = inr (inside x goes.0, thinned_twice s r xs (y ∷ ys) (z ∷ zs) inside goes.1 b)

abbrev pub seen_as : {A B : Type 0} → (A → B) → Option A → Option B
seen_as f None = None
seen_as f (Some x) = Some (f x)

-- what stands at a place of a list that is seen as another
pub got_seen : {A B : Type 0} (f : A → B) (xs : List A) (n : ℕ) (y : B) → slice_get (map f xs) n ≡ Some y → (x : A) × ((slice_get xs n ≡ Some x) × (f x ≡ y))
got_seen f [] n y h = absurd (none-some y h)
got_seen f (x ∷ xs) zero y h = (x, (refl, same_Some (f x) y h))
got_seen f (x ∷ xs) (suc n) y h = got_seen f xs n y h

pub marked_either : (marks : List Bool) (k j : ℕ) → get_or (slice_set marks k true) j false ≡ true → (j ≡ k) ⊎ (get_or marks j false ≡ true)
marked_either [] k j h = inr h
marked_either (m ∷ marks) zero zero h = inl refl
marked_either (m ∷ marks) zero (suc j) h = inr h
marked_either (m ∷ marks) (suc k) zero h = inr h
marked_either (m ∷ marks) (suc k) (suc j) h = ⊎_elim (λ (is : j ≡ k). inl (ap suc is)) (λ later. inr later) (marked_either marks k j h)

pub prepared_at : (e : Setting) (all lists : List ListData) (n : ℕ) (l : ListData) → ArePrepared e all lists → slice_get lists n ≡ Some l → StandsFor e [] l.parent l.selections l.steps × AreListed e all l.steps
prepared_at e all [] n l p h = absurd (none-some l h)
prepared_at e all (x ∷ lists) zero l p h = subst (λ (y : ListData). StandsFor e [] y.parent y.selections y.steps × AreListed e all y.steps) (same_Some x l h) p.0
prepared_at e all (x ∷ lists) (suc n) l p h = prepared_at e all lists n l p.1 h

unknown_spread : (e : Setting) (T depth : ℕ) → LeavesOutUnknown e (fields_spread e T depth)
unfolding fields_spread
unknown_spread e T zero name none = refl
unknown_spread e T (suc depth) name none = ap (fields_entered e T (fields_spread e T depth)) none

module _ (rank : List ℕ → ℕ) (e : Setting) (T : ℕ) (ranks : FragmentsRanked rank e) (lists : List ListData) (entries : List EntryData) (sound : AreSound e lists entries) (depth : ℕ)
    -- which numbered fields stand in the place of fields
    (Serves : List CollectedField → List NumberedField → Type 0) (none : Serves [] []) (joined : (fs gs : List CollectedField) (ns ms : List NumberedField) → Serves fs ns → Serves gs ms → Serves (fs ++ gs) (ns ++ ms))
    (one : (f : CollectedField) (number : ℕ) → IsListed lists (selections_below e f) number → Serves (f ∷ []) ((f, number) ∷ []))
    (kept_for : ℕ → Option (List NumberedField))
    -- which selection sets are passed over, and that they have no fields
    (out : ℕ → Bool)
    (fieldless : (number : ℕ) (l : ListData) → slice_get lists number ≡ Some l → out number ≡ true → AreRanked rank depth (selections_from l.selections) → fields_written e T (fields_spread e T depth) (written_of l) ≡ []) where
  abbrev pub Fields : Type 0
  Fields = List CollectedField

  abbrev pub whole : List ℕ → Fields
  whole = fields_spread e T depth

  abbrev pub whole_at : ℕ → Fields
  whole_at = by_number e whole

  abbrev pub IsMarked : WalkData → ℕ → Type 0
  IsMarked w k = is_marked k w ≡ true

  -- the selection set of a number
  abbrev pub written_under : ℕ → WrittenSelections
  written_under number = get_or (map written_of lists) number (None, no_selection)

  abbrev pub fields_of_sets : List ℕ → Fields
  fields_of_sets sets = collected_to e T depth (map written_under sets)

  -- What is kept of a number is what these selection sets come to.
  abbrev pub IsKnownFor : ℕ → List ℕ → Type 0
  IsKnownFor number sets = (fields : List NumberedField) → kept_for number ≡ Some fields → AllRanked rank depth (map written_under sets)
      → (left : Fields) × (IsThinned [] (fields_of_sets sets) left × Serves left fields)

  -- All of a fragment that was entered is collected, where its rank is below the bound.
  abbrev IsKnown : ℕ → Fields → WalkData → Type 0
  IsKnown bound s w = (k : ℕ) (f : FragmentData) → slice_get e.fragments k ≡ Some f → IsMarked w k → rank (fragment_name f) < bound → IsIn (whole (fragment_name f)) s

  -- Behind the fields that were collected these are, in whose place numbered fields are put behind the others.
  record Collects (s : Fields) (w : WalkData) (fields : Fields) (v : WalkData) : Type 0 where
    added : Fields
    more : List NumberedField
    grown : v.fields ≡ w.fields ++ more
    serves : Serves added more
    thin : IsThinned s fields added
    entered : (k : ℕ) (f : FragmentData) → slice_get e.fragments k ≡ Some f → IsMarked v k → IsMarked w k ⊎ IsIn (whole (fragment_name f)) (s ++ added)

  known_after : (bound : ℕ) (s : Fields) (w : WalkData) (fields : Fields) (v : WalkData) → IsKnown bound s w → (c : Collects s w fields v) → IsKnown bound (s ++ c.added) v
  known_after bound s w fields v known c k f there h less = ⊎_elim
      (λ (before : IsMarked w k). λ x inside. held_left s c.added x (known k f there before less x inside))
      (λ (all : IsIn (whole (fragment_name f)) (s ++ c.added)). all)
      (c.entered k f there h)

  none_added : (s : Fields) (w : WalkData) (fields : Fields) → IsIn fields s → Collects s w fields w
  none_added s w fields inside = record { added = []; more = []; grown = sym (append-nil w.fields); serves = none; thin = all_go s fields inside; entered = λ k f there h. inl h }

  nothing_added : (s : Fields) (w : WalkData) → Collects s w [] w
  nothing_added s w = none_added s w [] (λ x h. absurd h)

  one_after : (s : Fields) (w : WalkData) (xs : Fields) (v : WalkData) (ys : Fields) (u : WalkData) (c : Collects s w xs v) → Collects (s ++ c.added) v ys u → Collects s w (xs ++ ys) u
  one_after s w xs v ys u c d = record {
    added = c.added ++ d.added;
    more = c.more ++ d.more;
    grown = d.grown ∙ (ap (λ (zs : List NumberedField). zs ++ d.more) c.grown ∙ append_assoc w.fields c.more d.more);
    serves = joined c.added d.added c.more d.more c.serves d.serves;
    thin = in_two s xs c.added ys d.added c.thin d.thin;
    entered = λ k f there h. ⊎_elim
        (λ (before : IsMarked v k). ⊎_elim (λ (first : IsMarked w k). inl first)
        (λ (all : IsIn (whole (fragment_name f)) (s ++ c.added)). inr (subst (λ (zs : Fields). IsIn (whole (fragment_name f)) zs) (append_assoc s c.added d.added) (λ x inside. held_left (s ++ c.added) d.added x (all x inside)))) (c.entered k f there before))
        (λ (all : IsIn (whole (fragment_name f)) ((s ++ c.added) ++ d.added)). inr (subst (λ (zs : Fields). IsIn (whole (fragment_name f)) zs) (append_assoc s c.added d.added) all))
        (d.entered k f there h);
  }

  where_so : (b : Bool) (s : Fields) (w : WalkData) (fields : Fields) (v : WalkData) → Collects s w fields v → Collects s w (if b then fields else []) (if b then v else w)
  where_so true s w fields v c = c
  where_so false s w fields v c = nothing_added s w

  Follows : ℕ → (ℕ → WalkData → WalkData) → Type 0
  Follows bound enter = (k : ℕ) → IsRankedFragment e rank bound k → (s : Fields) (w : WalkData) → IsKnown bound s w → Collects s w (whole_at k) (enter k w)

  field_kept : (f : CollectedField) (below : ℕ) (s : Fields) (w : WalkData) → IsListed lists (selections_below e f) below → Collects s w (f ∷ []) (kept (f, below) w)
  field_kept f below s w listed = record { added = f ∷ []; more = (f, below) ∷ []; grown = refl; serves = one f below listed; thin = inl (refl, tt); entered = λ k g there h. inl h }

  ranked_rest : (bound : ℕ) (x : StepData) (xs : List StepData) → StepsRanked e rank bound (x ∷ xs) → StepsRanked e rank bound xs
  ranked_rest bound (field_step f below) xs r = r
  ranked_rest bound (spread_step number) xs r = r.1
  ranked_rest bound (inline_step on count) xs r = r

  listed_rest : (x : StepData) (xs : List StepData) → AreListed e lists (x ∷ xs) → AreListed e lists xs
  listed_rest (field_step f below) xs h = h.1
  listed_rest (spread_step number) xs h = h
  listed_rest (inline_step on count) xs h = h

  steps_collected : (bound : ℕ) (enter : ℕ → WalkData → WalkData) (skip : ℕ) (xs : List StepData) (s : Fields) (w : WalkData) → Follows bound enter → StepsRanked e rank bound xs → AreListed e lists xs → IsKnown bound s w
      → Collects s w (fields_of_steps e.schema T whole_at skip xs) (walk_steps e.schema T enter skip xs w)
  unfolding Follows
  steps_collected bound enter skip [] s w follows r listed known = nothing_added s w
  steps_collected bound enter (suc n) (x ∷ xs) s w follows r listed known = steps_collected bound enter n xs s w follows (ranked_rest bound x xs r) (listed_rest x xs listed) known
  steps_collected bound enter zero (field_step f below ∷ xs) s w follows r listed known =
      let v : WalkData = kept (f, below) w in
      let c : Collects s w (f ∷ []) v = field_kept f below s w listed.0 in
      one_after s w (f ∷ []) v (fields_of_steps e.schema T whole_at 0 xs) (walk_steps e.schema T enter 0 xs v) c
      (steps_collected bound enter 0 xs (s ++ c.added) v follows r listed.1 (known_after bound s w (f ∷ []) v known c))
  steps_collected bound enter zero (spread_step k ∷ xs) s w follows r listed known =
      let v : WalkData = enter k w in
      let c : Collects s w (whole_at k) v = follows k r.0 s w known in
      one_after s w (whole_at k) v (fields_of_steps e.schema T whole_at 0 xs) (walk_steps e.schema T enter 0 xs v) c
      (steps_collected bound enter 0 xs (s ++ c.added) v follows r.1 listed (known_after bound s w (whole_at k) v known c))
  steps_collected bound enter zero (inline_step on count ∷ xs) s w follows r listed known = steps_collected bound enter (if applies e.schema on T then 0 else count) xs s w follows r listed known

  -- ---- selection sets by their numbers

  abbrev pub steps : ℕ → List StepData
  steps = steps_unless out (steps_at lists)

  -- a selection set that is listed
  list_collected : (bound : ℕ) (enter : ℕ → WalkData → WalkData) (number : ℕ) (l : ListData) (s : Fields) (w : WalkData) → slice_get lists number ≡ Some l → Follows bound enter → AreRanked rank bound (selections_from l.selections) → IsKnown bound s w
      → Collects s w (fields_written e T whole (written_of l)) (walk_steps e.schema T enter 0 (steps_at lists number) w)
  list_collected bound enter number l s w there follows r known =
      let prepared = prepared_at e lists lists number l sound.prepared there in
      let ranked : StepsRanked e rank bound l.steps = prepared.0.ranks rank bound r in
      let v : WalkData = walk_steps e.schema T enter 0 (steps_at lists number) w in
      let c : Collects s w (fields_of_steps e.schema T whole_at 0 l.steps) v = subst (λ (o : Option ListData). Collects s w (fields_of_steps e.schema T whole_at 0 l.steps) (walk_steps e.schema T enter 0 (steps_in o) w)) (sym there)
      (steps_collected bound enter 0 l.steps s w follows ranked prepared.1 known) in
      record {
        added = c.added;
        more = c.more;
        grown = c.grown;
        serves = c.serves;
        thin = thinned_twice [] s (fields_written e T whole (written_of l)) (fields_of_steps e.schema T whole_at 0 l.steps) c.added (λ x h. absurd h) (prepared.0.fields T whole (unknown_spread e T depth)) c.thin;
        entered = c.entered;
      }

  unlisted : (all : List ListData) (n : ℕ) → slice_get all n ≡ None → get_or (map written_of all) n (None, no_selection) ≡ (None, no_selection)
  unlisted [] n h = refl
  unlisted (x ∷ all) zero h = absurd (none-some x (sym h))
  unlisted (x ∷ all) (suc n) h = unlisted all n h

  set_collected : (bound : ℕ) → bound ≤ depth → (enter : ℕ → WalkData → WalkData) (number : ℕ) (o : Option ListData) (s : Fields) (w : WalkData) → slice_get lists number ≡ o → Follows bound enter → AreRanked rank bound (written_under number).1 → IsKnown bound s w
      → Collects s w (fields_written e T whole (written_under number)) (walk_steps e.schema T enter 0 (steps number) w)
  set_collected bound le enter number None s w is follows r known =
      subst (λ (v : WalkData). Collects s w (fields_written e T whole (written_under number)) v) (sym (none_walked (out number)))
      (subst (λ (x : WrittenSelections). Collects s w (fields_written e T whole x) w) (sym (unlisted lists number is)) (nothing_added s w))
    where
      none_walked : (b : Bool) → walk_steps e.schema T enter 0 (if b then [] else steps_at lists number) w ≡ w
      none_walked true = refl
      none_walked false = ap (λ (o : Option ListData). walk_steps e.schema T enter 0 (steps_in o) w) is
  set_collected bound le enter number (Some l) s w is follows r known =
      let same : written_under number ≡ written_of l = get_or_from_slice_get (map written_of lists) number (written_of l) (None, no_selection) (slice_get-map written_of lists number ∙ ap (seen_as written_of) is) in
      subst (λ (x : WrittenSelections). Collects s w (fields_written e T whole x) (walk_steps e.schema T enter 0 (steps number) w)) (sym same)
      (out_or_walked (out number) refl (subst (λ (x : WrittenSelections). AreRanked rank bound x.1) same r))
    where
      out_or_walked : (b : Bool) → out number ≡ b → AreRanked rank bound (selections_from l.selections) → Collects s w (fields_written e T whole (written_of l)) (walk_steps e.schema T enter 0 (if b then [] else steps_at lists number) w)
      out_or_walked true is_out ranked = subst (λ (fs : Fields). Collects s w fs w) (sym (fieldless number l is is_out (all_higher rank e T ranks bound depth (selections_from l.selections) le ranked))) (nothing_added s w)
      out_or_walked false is_out ranked = list_collected bound enter number l s w is follows ranked known

  sets_collected : (bound : ℕ) → bound ≤ depth → (enter : ℕ → WalkData → WalkData) (sets : List ℕ) (s : Fields) (w : WalkData) → Follows bound enter → AllRanked rank bound (map written_under sets) → IsKnown bound s w
      → Collects s w (fields_of_sets sets) (walk_sets e.schema T steps enter sets w)
  sets_collected bound le enter [] s w follows r known = nothing_added s w
  sets_collected bound le enter (number ∷ sets) s w follows r known =
      let v : WalkData = walk_steps e.schema T enter 0 (steps number) w in
      let c : Collects s w (fields_written e T whole (written_under number)) v = set_collected bound le enter number (slice_get lists number) s w refl follows r.0 known in
      one_after s w (fields_written e T whole (written_under number)) v (fields_of_sets sets) (walk_sets e.schema T steps enter sets v) c
      (sets_collected bound le enter sets (s ++ c.added) v follows r.1 (known_after bound s w (fields_written e T whole (written_under number)) v known c))

  ranks_higher : (bound : ℕ) → bound ≤ depth → (selections : List WrittenSelections) → AllRanked rank bound selections → AllRanked rank depth selections
  ranks_higher bound le [] r = tt
  ranks_higher bound le (x ∷ selections) r = (all_higher rank e T ranks bound depth x.1 le r.0, ranks_higher bound le selections r.1)

  -- what is kept of them, or these themselves
  known_collected : (bound : ℕ) → bound ≤ depth → (enter : ℕ → WalkData → WalkData) (number : ℕ) (o : Option (List NumberedField)) (sets : List ℕ) (s : Fields) (w : WalkData) → kept_for number ≡ o → IsKnownFor number sets → Follows bound enter
      → AllRanked rank bound (map written_under sets) → IsKnown bound s w → Collects s w (fields_of_sets sets) (walk_known e.schema T steps enter o sets w)
  known_collected bound le enter number None sets s w is rightly follows r known = sets_collected bound le enter sets s w follows r known
  known_collected bound le enter number (Some fields) sets s w is rightly follows r known =
      let found = rightly fields is (ranks_higher bound le (map written_under sets) r) in
      record { added = found.0; more = fields; grown = refl; serves = found.1.1; thin = seen_more [] s (fields_of_sets sets) found.0 (λ x h. absurd h) found.1.0; entered = λ k f there h. inl h }

  -- ---- fragments

  -- the entry of a fragment, and its selection set
  record EntryOf (k : ℕ) (f : FragmentData) : Type 0 where
    entry : EntryData
    there : slice_get entries k ≡ Some entry
    on : entry.0 ≡ type_named e.schema f.on.0
    list : ListData
    listed : slice_get lists entry.1 ≡ Some list
    written : written_of list ≡ written_in e.schema f

  entry_of : (k : ℕ) (f : FragmentData) → slice_get e.fragments k ≡ Some f → EntryOf k f
  entry_of k f there =
      let wanted : slice_get (map (entry_seen lists) entries) k ≡ Some (entry_wanted e.schema f) = ap (λ xs. slice_get xs k) sound.entered ∙ (slice_get-map (entry_wanted e.schema) e.fragments k ∙ ap (seen_as (entry_wanted e.schema)) there) in
      let entry = got_seen (entry_seen lists) entries k (entry_wanted e.schema f) wanted in
      let list = got_seen written_of lists entry.0.1 (written_in e.schema f) (ap (λ p. p.1) entry.1.1) in
      record { entry = entry.0; there = entry.1.0; on = ap (λ p. p.0) entry.1.1; list = list.0; listed = list.1.0; written = list.1.1 }

  module _ (of_set : (number : ℕ) (l : ListData) → slice_get lists number ≡ Some l → IsKnownFor number (number ∷ [])) where
    abbrev pub walk_of : ℕ → ℕ → WalkData → WalkData
    walk_of = walk_fragment e.schema T steps kept_for entries

    -- the selections of a fragment
    entry_walked : (bound : ℕ) → bound ≤ depth → (enter : ℕ → WalkData → WalkData) (k : ℕ) (f : FragmentData) (s : Fields) (w : WalkData) → slice_get e.fragments k ≡ Some f → Follows bound enter → AreRanked rank bound f.below → IsKnown bound s w
        → Collects s w (fields_entered e T whole (Some f)) (walk_entry e.schema T steps kept_for entries enter (slice_get entries k) w)
    unfolding applies_by_name
    entry_walked bound le enter k f s w there follows r known_so =
        let o : EntryOf k f = entry_of k f there in
        let same : written_under o.entry.1 ≡ written_in e.schema f = get_or_from_slice_get (map written_of lists) o.entry.1 (written_in e.schema f) (None, no_selection) (slice_get-map written_of lists o.entry.1 ∙ (ap (seen_as written_of) o.listed ∙ ap Some o.written)) in
        let v : WalkData = walk_known e.schema T steps enter (kept_for o.entry.1) (o.entry.1 ∷ []) w in
        let c : Collects s w (fields_of_sets (o.entry.1 ∷ [])) v = known_collected bound le enter o.entry.1 (kept_for o.entry.1) (o.entry.1 ∷ []) s w refl (of_set o.entry.1 o.list o.listed) follows (subst (λ (x : WrittenSelections). AreRanked rank bound x.1) (sym same) r, tt) known_so in
        let d : Collects s w (fields_written e T whole (written_in e.schema f)) v = subst (λ (fs : Fields). Collects s w fs v) (append-nil (fields_written e T whole (written_under o.entry.1)) ∙ ap (fields_written e T whole) same) c in
        let so : Collects s w (fields_entered e T whole (Some f)) (if applies_where e.schema T (type_named e.schema f.on.0) then v else w) = where_so (applies_where e.schema T (type_named e.schema f.on.0)) s w (fields_written e T whole (written_in e.schema f)) v d in
        subst (λ (u : WalkData). Collects s w (fields_entered e T whole (Some f)) u)
        (ap (λ (on : Option ℕ). if applies_where e.schema T on then v else w) (sym o.on) ∙ ap (λ (x : Option EntryData). walk_entry e.schema T steps kept_for entries enter x w) (sym o.there))
        so

    left_again : (k : ℕ) (f : FragmentData) (s : Fields) (w v : WalkData) → slice_get e.fragments k ≡ Some f → Collects s (marked k w) (whole (fragment_name f)) v → Collects s w (whole (fragment_name f)) v
    left_again k f s w v there c = record {
      added = c.added;
      more = c.more;
      grown = c.grown;
      serves = c.serves;
      thin = c.thin;
      entered = λ j g at h. ⊎_elim
          (λ (again : IsMarked (marked k w) j). ⊎_elim
          (λ (is : j ≡ k). inr (subst (λ (n : List ℕ). IsIn (whole n) (s ++ c.added)) (ap fragment_name (same_Some f g (sym there ∙ (ap (slice_get e.fragments) (sym is) ∙ at))))
          (seen_or_stays s (whole (fragment_name f)) c.added c.thin)))
          (λ (before : IsMarked w j). inl before)
          (marked_either w.marks k j again))
          (λ all. inr all)
          (c.entered j g at h);
    }

    passed_or_not : (b : Bool) (k : ℕ) (s : Fields) (w v : WalkData) (fields : Fields) → is_marked k w ≡ b → (IsMarked w k → IsIn fields s) → Collects s w fields v → Collects s w fields (if b then w else v)
    passed_or_not true k s w v fields is known c = none_added s w fields (known is)
    passed_or_not false k s w v fields is known c = c

    known_inside : (bound : ℕ) (k : ℕ) (f : FragmentData) (s : Fields) (w : WalkData) → slice_get e.fragments k ≡ Some f → rank (fragment_name f) < bound → IsKnown bound s w → IsKnown (rank (fragment_name f)) s (marked k w)
    known_inside bound k f s w there less known j g at h lower = ⊎_elim
        (λ (is : j ≡ k). absurd (not_below_itself (rank (fragment_name g)) (rank (fragment_name f)) (ap (λ x. rank (fragment_name x)) (same_Some g f (sym at ∙ (ap (slice_get e.fragments) is ∙ there)))) lower))
        (λ (before : IsMarked w j). known j g at before (omega arith))
        (marked_either w.marks k j h)

    spread_collected : (n bound : ℕ) → bound ≤ n → bound ≤ depth → Follows bound (walk_of n)
    unfolding walk_fragment Follows
    spread_collected zero bound le within k r s w known_so = absurd (none_below_none (rank (fragment_name r.fragment)) bound le r.less)
    spread_collected (suc n) bound le within k r s w known_so =
        let f : FragmentData = r.fragment in
        let name : List ℕ = fragment_name f in
        let less : rank name < bound = r.less in
        let v : WalkData = walk_entry e.schema T steps kept_for entries (walk_of n) (slice_get entries k) (marked k w) in
        let c : Collects s (marked k w) (fields_entered e T whole (Some f)) v = entry_walked (rank name) (omega arith) (walk_of n) k f s (marked k w) r.there (spread_collected n (rank name) (omega arith) (omega arith)) (ranks name f r.first) (known_inside bound k f s w r.there less known_so) in
        let d : Collects s (marked k w) (whole name) v = subst (λ (fields : Fields). Collects s (marked k w) fields v) (sym (opened rank e T ranks depth name (omega arith) ∙ ap (fields_entered e T whole) r.first)) c in
        subst (λ (fields : Fields). Collects s w fields (if is_marked k w then w else v)) (sym (ap (fields_of_fragment whole) r.there))
        (passed_or_not (is_marked k w) k s w v (whole name) refl (λ h. known_so k f r.there h less) (left_again k f s w v r.there d))

    -- ---- the selection sets of some numbers

    module _ (sets : ℕ → List ℕ) (of_number : (number : ℕ) → IsKnownFor number (sets number))
        -- which numbers are passed over, and that their selection sets have no fields
        (passed : ℕ → Bool) (none_of : (number : ℕ) → passed number ≡ true → AllRanked rank depth (map written_under (sets number)) → fields_of_sets (sets number) ≡ []) where
      abbrev pub selections_of : List ℕ → List WrittenSelections
      selections_of numbers = flat_map (λ number. map written_under (sets number)) numbers

      ranked_front : (xs ys : List WrittenSelections) → AllRanked rank depth (xs ++ ys) → AllRanked rank depth xs × AllRanked rank depth ys
      ranked_front [] ys r = (tt, r)
      ranked_front (x ∷ xs) ys r = let rest = ranked_front xs ys r.1 in ((r.0, rest.0), rest.1)

      passed_or_known : (number : ℕ) (s : Fields) (w v : WalkData) (b : Bool) → passed number ≡ b → AllRanked rank depth (map written_under (sets number)) → Collects s w (fields_of_sets (sets number)) v → Collects s w (fields_of_sets (sets number)) (if b then w else v)
      passed_or_known number s w v true is ranked c = subst (λ (fs : Fields). Collects s w fs w) (sym (none_of number is ranked)) (nothing_added s w)
      passed_or_known number s w v false is ranked c = c

      numbers_collected : (numbers : List ℕ) (s : Fields) (w : WalkData) → AllRanked rank depth (selections_of numbers) → IsKnown depth s w
          → Collects s w (collected_to e T depth (selections_of numbers)) (walk_numbers e.schema T steps kept_for entries passed sets depth numbers w)
      numbers_collected [] s w r known_so = nothing_added s w
      numbers_collected (number ∷ numbers) s w r known_so =
          let here : List WrittenSelections = map written_under (sets number) in
          let both = ranked_front here (selections_of numbers) r in
          let known_walk : WalkData = walk_known e.schema T steps (walk_of depth) (kept_for number) (sets number) w in
          let v : WalkData = if passed number then w else known_walk in
          let c : Collects s w (fields_of_sets (sets number)) v = passed_or_known number s w known_walk (passed number) refl both.0 (known_collected depth (omega arith) (walk_of depth) number (kept_for number) (sets number) s w refl (of_number number) (spread_collected depth depth (omega arith) (omega arith)) both.0 known_so) in
          subst (λ (fs : Fields). Collects s w fs (walk_numbers e.schema T steps kept_for entries passed sets depth (number ∷ numbers) w))
          (sym (flat_map-append (fields_written e T whole) here (selections_of numbers)))
          (one_after s w (fields_of_sets (sets number)) v (collected_to e T depth (selections_of numbers)) (walk_numbers e.schema T steps kept_for entries passed sets depth numbers v) c
          (numbers_collected numbers (s ++ c.added) v both.1 (known_after depth s w (fields_of_sets (sets number)) v known_so c)))

      -- a walk that begins with nothing
      pub walked_numbers : (numbers : List ℕ) (w : WalkData) → IsBlank w → AllRanked rank depth (selections_of numbers)
          → (left : Fields) × (LeavesOutRepeats (collected_to e T depth (selections_of numbers)) left × Serves left (walk_numbers e.schema T steps kept_for entries passed sets depth numbers w).fields)
      walked_numbers numbers w blank r =
          let v : WalkData = walk_numbers e.schema T steps kept_for entries passed sets depth numbers w in
          let c : Collects [] w (collected_to e T depth (selections_of numbers)) v = numbers_collected numbers [] w r (λ k f there h less. absurd (true≢false (sym h ∙ blank.0 k))) in
          (c.added, (c.thin, subst (λ (fs : List NumberedField). Serves c.added fs) (sym (c.grown ∙ ap (λ (fs : List NumberedField). fs ++ c.more) blank.1)) c.serves))
