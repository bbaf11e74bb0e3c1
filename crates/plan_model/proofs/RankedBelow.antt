-- What stands below fields whose selections nest only so deep nests only so deep.
use Rattle.std.proofs.Common.{◌≡◌, ℕ, zero, suc, ◌<◌, ◌≤◌, List, [], ◌∷◌, ◌++◌, map, Bool, true, false, bytes_eq, Option, Some, None, refl, ⊎_elim, arith, if◌then◌else◌}
use Rattle.std.proofs.lemmas.Bool.{cases_Bool}
use Rattle.document_reader.specs.Documents.{SelectionTree, field_selection, fragment_spread, inline_fragment, SelectionTrees, no_selection, selection_then}
use Rattle.document_rules.specs.Parts.{FragmentData}
use Rattle.document_rules.specs.Sites.{below_inline}
use Rattle.plan_model.specs.SelectedFields.{Setting}
use Rattle.plan_model.specs.Collecting.{is_included, applies_by_name, applies_if_named, fragment_named, CollectedField, WrittenSelections, written_in, fields_of, fields_in, fields_written, fields_entered, fields_spread, collected_to, collected, nesting}
use Rattle.plan_model.specs.Merging.{Position, fields_at, fields_of_key, selections_below, position_below}
use Rattle.plan_model.specs.Repeats.{LeavesOutRepeats}
use Rattle.plan_model.specs.MergingWalk.{OneRanked, AreRanked, AllRanked, FragmentsRanked, IsAcyclic}
use Rattle.plan_model.proofs.Thinning.{Each, each_that_stays}

module _ {A : Type 0} (P : A → Type 0) where
  each_in_two : (xs ys : List A) → Each P xs → Each P ys → Each P (xs ++ ys)
  each_in_two [] ys h k = k
  each_in_two (x ∷ xs) ys h k = (h.0, each_in_two xs ys h.1 k)

  each_where : (b : Bool) (xs : List A) → Each P xs → Each P (if b then xs else [])
  each_where true xs h = h
  each_where false xs h = tt

module _ (rank : List ℕ → ℕ) (e : Setting) (T : ℕ) (ranks : FragmentsRanked rank e) where
  mutual
    one_higher : (r d : ℕ) (s : SelectionTree) → r ≤ d → OneRanked rank r s → OneRanked rank d s
    one_higher r d (field_selection names arguments directives below) le h = all_higher r d below le h
    one_higher r d (fragment_spread name directives) le h = omega arith
    one_higher r d (inline_fragment on directives below) le h = all_higher r d below le h

    pub all_higher : (r d : ℕ) (ss : SelectionTrees) → r ≤ d → AreRanked rank r ss → AreRanked rank d ss
    all_higher r d no_selection le h = tt
    all_higher r d (selection_then s others) le h = (one_higher r d s le h.0, all_higher r d others le h.1)

  module _ (depth : ℕ) where
    abbrev IsRankedField : CollectedField → Type 0
    IsRankedField f = AreRanked rank depth f.below

    abbrev GivesRanked : ℕ → (List ℕ → List CollectedField) → Type 0
    GivesRanked bound spread = (name : List ℕ) → rank name < bound → Each IsRankedField (spread name)

    mutual
      one_ranked : (spread : List ℕ → List CollectedField) (bound : ℕ) (parent : Option ℕ) (s : SelectionTree) → bound ≤ depth → GivesRanked bound spread → OneRanked rank bound s → Each IsRankedField (fields_of e T spread parent s)
      one_ranked spread bound parent (field_selection names arguments directives below) le gives h = (all_higher bound depth below le h, tt)
      one_ranked spread bound parent (fragment_spread name directives) le gives h = gives name.0 h
      one_ranked spread bound parent (inline_fragment on directives below) le gives h =
          each_where IsRankedField (applies_if_named e.schema T on) (fields_in e T spread (below_inline e.schema parent on) below) (all_ranked spread bound (below_inline e.schema parent on) below le gives h)

      all_ranked : (spread : List ℕ → List CollectedField) (bound : ℕ) (parent : Option ℕ) (ss : SelectionTrees) → bound ≤ depth → GivesRanked bound spread → AreRanked rank bound ss → Each IsRankedField (fields_in e T spread parent ss)
      all_ranked spread bound parent no_selection le gives h = tt
      all_ranked spread bound parent (selection_then s others) le gives h =
          each_in_two IsRankedField (if is_included e.values s then fields_of e T spread parent s else []) (fields_in e T spread parent others)
          (each_where IsRankedField (is_included e.values s) (fields_of e T spread parent s) (one_ranked spread bound parent s le gives h.0))
          (all_ranked spread bound parent others le gives h.1)

    entered_ranked : (spread : List ℕ → List CollectedField) (bound : ℕ) (o : Option FragmentData) → bound ≤ depth → GivesRanked bound spread → ((d : FragmentData) → o ≡ Some d → AreRanked rank bound d.below) → Each IsRankedField (fields_entered e T spread o)
    entered_ranked spread bound None le gives h = tt
    entered_ranked spread bound (Some d) le gives h =
        each_where IsRankedField (applies_by_name e.schema T d.on.0) (fields_written e T spread (written_in e.schema d)) (all_ranked spread bound (written_in e.schema d).0 d.below le gives (h d refl))

    spread_ranked : (n bound : ℕ) → bound ≤ depth → GivesRanked bound (fields_spread e T n)
    unfolding fields_spread
    spread_ranked zero bound le name less = tt
    spread_ranked (suc n) bound le name less = entered_ranked (fields_spread e T n) (rank name) (fragment_named e name) (omega arith) (spread_ranked n (rank name) (omega arith)) (ranks name)

    selections_ranked : (selections : List WrittenSelections) → AllRanked rank depth selections → Each IsRankedField (collected_to e T depth selections)
    selections_ranked [] h = tt
    selections_ranked (s ∷ selections) h =
        each_in_two IsRankedField (fields_written e T (fields_spread e T depth) s) (collected_to e T depth selections)
        (all_ranked (fields_spread e T depth) depth s.0 s.1 (omega arith) (spread_ranked depth depth (omega arith)) h.0) (selections_ranked selections h.1)

    key_ranked : (key : List ℕ) (fields : List CollectedField) → Each IsRankedField fields → AllRanked rank depth (map (selections_below e) (fields_of_key key fields))
    key_ranked key [] h = tt
    key_ranked key (f ∷ fields) h = ⊎_elim
        (λ (is : bytes_eq f.key key ≡ true). rw (is) (h.0, key_ranked key fields h.1))
        (λ (is : bytes_eq f.key key ≡ false). rw (is) (key_ranked key fields h.1))
        (cases_Bool (bytes_eq f.key key))

  ranked_below : (key : List ℕ) (selections : List WrittenSelections) (fields : List CollectedField) → LeavesOutRepeats (collected e T selections) fields → AllRanked rank (nesting e) selections
      → AllRanked rank (nesting e) (map (selections_below e) (fields_of_key key fields))
  unfolding collected
  ranked_below key selections fields left h =
      key_ranked (nesting e) key fields (each_that_stays (IsRankedField (nesting e)) [] (collected e T selections) fields left (selections_ranked (nesting e) selections h))

  pub acyclic_below : (p : Position) (fields : List CollectedField) → LeavesOutRepeats (fields_at e T p) fields → AllRanked rank (nesting e) p.selections → (key : List ℕ) → IsAcyclic e (position_below e T (fields_of_key key fields))
  acyclic_below p fields left spreads key = record { rank = rank; fragments = ranks; spreads = ranked_below key p.selections fields left spreads }
