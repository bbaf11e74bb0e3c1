-- The walk that enters each fragment once collects what selections have, where repeats are left out.
use Rattle.std.proofs.Common.{◌≡◌, ◌⊎◌, inl, inr, ⊎_elim, ℕ, zero, suc, ◌<◌, ◌≤◌, List, [], ◌∷◌, ◌++◌, Bool, true, false, true≢false, ◌||◌, bytes_eq, Option, Some, None, refl, sym, ap, ◌∙◌, subst, append_assoc, append-nil, arith, if◌then◌else◌}
use Rattle.std.proofs.lemmas.Bool.{cases_Bool}
use Rattle.std.proofs.lemmas.Slice.Eq.{bytes_eq-Decides}
use Rattle.std.specs.List.{list_any}
use Rattle.document_reader.specs.Documents.{SelectionTree, field_selection, fragment_spread, inline_fragment, SelectionTrees, no_selection, selection_then}
use Rattle.document_rules.specs.Parts.{FragmentData}
use Rattle.document_rules.specs.Sites.{name_of_field, below_inline}
use Rattle.plan_model.specs.SelectedFields.{Setting}
use Rattle.plan_model.specs.Collecting.{is_included, applies_by_name, applies_if_named, fragment_named, CollectedField, WrittenSelections, written_in, fields_of, fields_in, fields_written, fields_entered, fields_spread, collected_to, collected, nesting}
use Rattle.plan_model.specs.MergingWalk.{WalkState, nothing_walked, is_entered, walk_one, walk_all, walk_written, walk_fragment, walk_spread, walk_from, walked, OneRanked, AreRanked, AllRanked, FragmentsRanked}
use Rattle.plan_model.specs.Repeats.{Holds, IsThinned, LeavesOutRepeats}
use Rattle.cost_directives.proofs.FirstsFound.{never}
use Rattle.plan_model.proofs.Thinning.{held_left, IsIn, all_go, seen_or_stays, in_two}

pub none_below_none : (a b : ℕ) → b ≤ 0 → a < b → ⊥
none_below_none a b le h = omega arith

pub not_below_itself : (a b : ℕ) → a ≡ b → a < b → ⊥
not_below_itself a b is h = omega arith

module _ (rank : List ℕ → ℕ) (e : Setting) (T : ℕ) (ranks : FragmentsRanked rank e) where
  abbrev Spreads : Type 0
  Spreads = List ℕ → List CollectedField

  -- what two spreads give alike for fragments of a rank below a bound
  abbrev AreAlike : ℕ → Spreads → Spreads → Type 0
  AreAlike bound f g = (name : List ℕ) → rank name < bound → f name ≡ g name

  mutual
    one_alike : (f g : Spreads) (bound : ℕ) (parent : Option ℕ) (s : SelectionTree) → AreAlike bound f g → OneRanked rank bound s → fields_of e T f parent s ≡ fields_of e T g parent s
    one_alike f g bound parent (field_selection names arguments directives below) alike r = refl
    one_alike f g bound parent (fragment_spread name directives) alike r = alike name.0 r
    one_alike f g bound parent (inline_fragment on directives below) alike r =
        ap (λ (fields : List CollectedField). if applies_if_named e.schema T on then fields else []) (all_alike f g bound (below_inline e.schema parent on) below alike r)

    all_alike : (f g : Spreads) (bound : ℕ) (parent : Option ℕ) (ss : SelectionTrees) → AreAlike bound f g → AreRanked rank bound ss → fields_in e T f parent ss ≡ fields_in e T g parent ss
    all_alike f g bound parent no_selection alike r = refl
    all_alike f g bound parent (selection_then s others) alike r =
        ap (λ (fields : List CollectedField). (if is_included e.values s then fields else []) ++ fields_in e T f parent others) (one_alike f g bound parent s alike r.0)
        ∙ ap (λ (fields : List CollectedField). (if is_included e.values s then fields_of e T g parent s else []) ++ fields) (all_alike f g bound parent others alike r.1)

  entered_alike : (f g : Spreads) (bound : ℕ) (o : Option FragmentData) → AreAlike bound f g → ((d : FragmentData) → o ≡ Some d → AreRanked rank bound d.below) → fields_entered e T f o ≡ fields_entered e T g o
  entered_alike f g bound None alike r = refl
  entered_alike f g bound (Some d) alike r =
      ap (λ (fields : List CollectedField). if applies_by_name e.schema T d.on.0 then fields else []) (all_alike f g bound (written_in e.schema d).0 d.below alike (r d refl))

  -- Above the rank of a fragment the depth doesn't matter.
  deep_enough : (n m : ℕ) (name : List ℕ) → rank name < n → rank name < m → fields_spread e T n name ≡ fields_spread e T m name
  unfolding fields_spread
  deep_enough zero m name h k = absurd (never (rank name) h)
  deep_enough (suc n) zero name h k = absurd (never (rank name) k)
  deep_enough (suc n) (suc m) name h k = entered_alike (fields_spread e T n) (fields_spread e T m) (rank name) (fragment_named e name) (λ other less. deep_enough n m other (omega arith) (omega arith)) (ranks name)

  pub opened : (depth : ℕ) (name : List ℕ) → rank name < depth → fields_spread e T depth name ≡ fields_entered e T (fields_spread e T depth) (fragment_named e name)
  unfolding fields_spread
  opened zero name h = absurd (never (rank name) h)
  opened (suc depth) name h = entered_alike (fields_spread e T depth) (fields_spread e T (suc depth)) (rank name) (fragment_named e name) (λ other less. deep_enough depth (suc depth) other (omega arith) (omega arith)) (ranks name)

  module _ (depth : ℕ) where
    abbrev whole : Spreads
    whole = fields_spread e T depth

    -- All of a fragment that was entered is collected, where its rank is below the bound.
    abbrev IsKnown : ℕ → WalkState → Type 0
    IsKnown bound w = (name : List ℕ) → Holds w.entered name → rank name < bound → IsIn (whole name) w.fields

    -- From one state to another the walk collects these fields, where repeats are left out.
    record Collects (w : WalkState) (fields : List CollectedField) (v : WalkState) : Type 0 where
      added : List CollectedField
      grown : v.fields ≡ w.fields ++ added
      thin : IsThinned w.fields fields added
      entered : (name : List ℕ) → Holds v.entered name → Holds w.entered name ⊎ IsIn (whole name) v.fields

    stays_in : (w : WalkState) (fields : List CollectedField) (v : WalkState) → Collects w fields v → IsIn w.fields v.fields
    stays_in w fields v c x h = subst (λ (xs : List CollectedField). Holds xs x) (sym c.grown) (held_left w.fields c.added x h)

    known_after : (bound : ℕ) (w : WalkState) (fields : List CollectedField) (v : WalkState) → IsKnown bound w → Collects w fields v → IsKnown bound v
    known_after bound w fields v known c name h less = ⊎_elim
        (λ (before : Holds w.entered name). λ x inside. stays_in w fields v c x (known name before less x inside))
        (λ (all : IsIn (whole name) v.fields). all)
        (c.entered name h)

    none_added : (w : WalkState) (fields : List CollectedField) → IsIn fields w.fields → Collects w fields w
    none_added w fields inside = record { added = []; grown = sym (append-nil w.fields); thin = all_go w.fields fields inside; entered = λ name h. inl h }

    one_after : (w : WalkState) (xs : List CollectedField) (v : WalkState) (ys : List CollectedField) (u : WalkState) → Collects w xs v → Collects v ys u → Collects w (xs ++ ys) u
    one_after w xs v ys u c d = record {
      added = c.added ++ d.added;
      grown = d.grown ∙ (ap (λ (zs : List CollectedField). zs ++ d.added) c.grown ∙ append_assoc w.fields c.added d.added);
      thin = in_two w.fields xs c.added ys d.added c.thin (subst (λ (zs : List CollectedField). IsThinned zs ys d.added) c.grown d.thin);
      entered = λ name h. ⊎_elim
          (λ (before : Holds v.entered name). ⊎_elim (λ (first : Holds w.entered name). inl first) (λ (all : IsIn (whole name) v.fields). inr (λ x inside. stays_in v ys u d x (all x inside))) (c.entered name before))
          (λ all. inr all)
          (d.entered name h);
    }

    where_so : (b : Bool) (w : WalkState) (fields : List CollectedField) (v : WalkState) → Collects w fields v → Collects w (if b then fields else []) (if b then v else w)
    where_so true w fields v c = c
    where_so false w fields v c = none_added w [] (λ x h. absurd h)

    -- The walk of a spread collects the fragment.
    abbrev Follows : ℕ → (List ℕ → WalkState → WalkState) → Type 0
    Follows bound spread = (name : List ℕ) → rank name < bound → (w : WalkState) → IsKnown bound w → Collects w (whole name) (spread name w)

    mutual
      one_collected : (bound : ℕ) (spread : List ℕ → WalkState → WalkState) (parent : Option ℕ) (s : SelectionTree) (w : WalkState) → Follows bound spread → OneRanked rank bound s → IsKnown bound w → Collects w (fields_of e T whole parent s) (walk_one e T spread parent s w)
      one_collected bound spread parent (field_selection names arguments directives below) w follows r known = record {
        added = record { parent = parent; key = names.0.0; call = record { name = (name_of_field names).0; arguments = arguments }; below = below } ∷ [];
        grown = refl;
        thin = inl (refl, tt);
        entered = λ name h. inl h;
      }
      one_collected bound spread parent (fragment_spread name directives) w follows r known = follows name.0 r w known
      one_collected bound spread parent (inline_fragment on directives below) w follows r known =
          where_so (applies_if_named e.schema T on) w (fields_in e T whole (below_inline e.schema parent on) below) (walk_all e T spread (below_inline e.schema parent on) below w)
          (all_collected bound spread (below_inline e.schema parent on) below w follows r known)

      all_collected : (bound : ℕ) (spread : List ℕ → WalkState → WalkState) (parent : Option ℕ) (ss : SelectionTrees) (w : WalkState) → Follows bound spread → AreRanked rank bound ss → IsKnown bound w → Collects w (fields_in e T whole parent ss) (walk_all e T spread parent ss w)
      all_collected bound spread parent no_selection w follows r known = none_added w [] (λ x h. absurd h)
      all_collected bound spread parent (selection_then s others) w follows r known =
          let v : WalkState = if is_included e.values s then walk_one e T spread parent s w else w in
          let first : List CollectedField = if is_included e.values s then fields_of e T whole parent s else [] in
          let c : Collects w first v = where_so (is_included e.values s) w (fields_of e T whole parent s) (walk_one e T spread parent s w) (one_collected bound spread parent s w follows r.0 known) in
          one_after w first v (fields_in e T whole parent others) (walk_all e T spread parent others v) c
          (all_collected bound spread parent others v follows r.1 (known_after bound w first v known c))

    fragment_collected : (bound : ℕ) (spread : List ℕ → WalkState → WalkState) (o : Option FragmentData) (w : WalkState) → Follows bound spread → ((d : FragmentData) → o ≡ Some d → AreRanked rank bound d.below) → IsKnown bound w → Collects w (fields_entered e T whole o) (walk_fragment e T spread o w)
    fragment_collected bound spread None w follows r known = none_added w [] (λ x h. absurd h)
    fragment_collected bound spread (Some d) w follows r known =
        where_so (applies_by_name e.schema T d.on.0) w (fields_written e T whole (written_in e.schema d)) (walk_written e T spread (written_in e.schema d) w)
        (all_collected bound spread (written_in e.schema d).0 d.below w follows (r d refl) known)

    held_by : (name : List ℕ) (names : List (List ℕ)) → list_any (bytes_eq name) names ≡ true → Holds names name
    held_by name [] h = absurd (true≢false (sym h))
    held_by name (other ∷ names) h = ⊎_elim
        (λ (is : bytes_eq name other ≡ true). inl ((bytes_eq-Decides name other).0 is))
        (λ (not_it : bytes_eq name other ≡ false). inr (held_by name names (sym (ap (λ (b : Bool). b || list_any (bytes_eq name) names) not_it) ∙ h)))
        (cases_Bool (bytes_eq name other))

    abbrev entering : List ℕ → WalkState → WalkState
    entering name w = record w { entered = name ∷ w.entered }

    -- A fragment's own selections are walked once it is marked as entered; then all of it is collected.
    left_again : (name : List ℕ) (w v : WalkState) → Collects (entering name w) (whole name) v → Collects w (whole name) v
    left_again name w v c = record {
      added = c.added;
      grown = c.grown;
      thin = c.thin;
      entered = λ other h. ⊎_elim
          (λ (marked : Holds (name ∷ w.entered) other). ⊎_elim
          (λ (is : other ≡ name). inr (subst (λ (n : List ℕ). IsIn (whole n) v.fields) (sym is) (λ x inside. subst (λ (xs : List CollectedField). Holds xs x) (sym c.grown) (seen_or_stays w.fields (whole name) c.added c.thin x inside))))
          (λ (before : Holds w.entered other). inl before)
          marked)
          (λ all. inr all)
          (c.entered other h);
    }

    passed_or_not : (b : Bool) (bound : ℕ) (name : List ℕ) (w v : WalkState) → is_entered name w ≡ b → rank name < bound → IsKnown bound w → Collects w (whole name) v → Collects w (whole name) (if b then w else v)
    passed_or_not true bound name w v is less known c = none_added w (whole name) (known name (held_by name w.entered is) less)
    passed_or_not false bound name w v is less known c = c

    known_inside : (bound : ℕ) (name : List ℕ) (w : WalkState) → rank name < bound → IsKnown bound w → IsKnown (rank name) (entering name w)
    known_inside bound name w less known other (inl is) lower = absurd (not_below_itself (rank other) (rank name) (ap rank is) lower)
    known_inside bound name w less known other (inr h) lower = known other h (omega arith)

    spread_collected : (n bound : ℕ) → bound ≤ n → bound ≤ depth → Follows bound (walk_spread e T n)
    unfolding walk_spread
    spread_collected zero bound le within name less w known = absurd (none_below_none (rank name) bound le less)
    spread_collected (suc n) bound le within name less w known =
        let v : WalkState = walk_fragment e T (walk_spread e T n) (fragment_named e name) (entering name w) in
        passed_or_not (is_entered name w) bound name w v refl less known
        (left_again name w v
        (subst (λ (fields : List CollectedField). Collects (entering name w) fields v) (sym (opened depth name (omega arith)))
        (fragment_collected (rank name) (walk_spread e T n) (fragment_named e name) (entering name w) (spread_collected n (rank name) (omega arith) (omega arith)) (ranks name) (known_inside bound name w less known))))

    selections_collected : (selections : List WrittenSelections) (w : WalkState) → AllRanked rank depth selections → IsKnown depth w → Collects w (collected_to e T depth selections) (walk_from e T depth selections w)
    selections_collected [] w r known = none_added w [] (λ x h. absurd h)
    selections_collected (s ∷ selections) w r known =
        let v : WalkState = walk_written e T (walk_spread e T depth) s w in
        let c : Collects w (fields_written e T whole s) v = all_collected depth (walk_spread e T depth) s.0 s.1 w (spread_collected depth depth (omega arith) (omega arith)) r.0 known in
        one_after w (fields_written e T whole s) v (collected_to e T depth selections) (walk_from e T depth selections v) c
        (selections_collected selections v r.1 (known_after depth w (fields_written e T whole s) v known c))

  pub walk_leaves_out : (selections : List WrittenSelections) → AllRanked rank (nesting e) selections → LeavesOutRepeats (collected e T selections) (walked e T selections)
  unfolding collected
  walk_leaves_out selections r =
      let c = selections_collected (nesting e) selections nothing_walked r (λ name h. absurd h) in
      subst (λ (fields : List CollectedField). LeavesOutRepeats (collected_to e T (nesting e) selections) fields) (sym c.grown) c.thin
