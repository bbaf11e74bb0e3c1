-- The rows of a plan while it is built: for a type, for the fields of one key, and one after another.
use Rattle.std.proofs.Common.{◌≡◌, inl, inr, ℕ, zero, suc, ◌<◌, List, [], ◌∷◌, ◌++◌, map, flat_map, length, Bool, true, false, bytes_eq, refl, sym, ap, ◌∙◌, subst, ⊎_elim, arith, if◌then◌else◌}
use Rattle.std.proofs.lemmas.Bool.{cases_Bool}
use Rattle.std.proofs.lemmas.Slice.Eq.{bytes_eq-Decides}
use Rattle.response_model.specs.Plan.{Selected, Plan as PlanTree}
use Rattle.plan_model.specs.SelectedFields.{Setting, FieldCall, Place, leaf_place, object_place, types_of, place_at, hands_at}
use Rattle.plan_model.specs.Collecting.{CollectedField}
use Rattle.plan_model.specs.Merging.{Position, keys_of, has_key, fields_of_key, first_call, selections_below, selected_by, fields_at, fields_under, call_under, selected_under, below_key}
use Rattle.plan_model.specs.MergingWalk.{IsShortened}
use Rattle.plan_model.specs.Repeats.{LeavesOutRepeats}
use Rattle.plan_model.specs.Plans.{with_capped, type_weight}
use Rattle.plan_model.specs.Visits.{fault_of, visits_of, visits_of_key, too_deep_at, visits, planned_nodes, nothing_planned, planned}
use Rattle.plan_model.proofs.Thinning.{thinned_map, thinned_filter}
use Rattle.plan_model.proofs.SameNodes.{same_keys, same_first_call, same_selected, same_fault, same_visits, same_planned}
use Rattle.plan_table.specs.Rows.{objects_below, Row, types_in, below_in, rows_below, rows_of_nodes}
use Rattle.plan_table.specs.Tables.{weighed, below_at}
use Rattle.plan_model.specs.Likeness.{AreLike}
use Rattle.plan_model.proofs.LikeNodes.{like_fault, like_selected, like_place, like_hands}
use Rattle.collected_fields.specs.Gathering.{Gathers}
use Rattle.collected_fields.specs.Groups.{GroupData, IsGroupOf, AreGroupsOf}
use Rattle.collected_fields.proofs.KeyLaws.{AreFilledFor, all_filled_for}
use Rattle.collected_fields.proofs.WalkLaws.{thinned_twice}
use Rattle.merged_selections.specs.Stages.{key_seen, group_position, type_visits, planned_below, type_rows, types_planned, types_rows, node_visits, planned_for_node, node_rows, groups_visits, groups_rows}

module _ (e : Setting) where
  -- ---- positions, type by type

  pub visits_next : (levels : ℕ) (p : Position) (T : ℕ) (Ts : List ℕ) → visits e levels (T ∷ Ts) p ≡ type_visits e levels p T ++ visits e levels Ts p
  unfolding visits
  visits_next zero p T Ts = refl
  visits_next (suc levels) p T Ts = refl

  pub no_visits : (levels : ℕ) (p : Position) → visits e levels [] p ≡ []
  unfolding visits
  no_visits zero p = refl
  no_visits (suc levels) p = refl

  pub rows_next : (levels depth : ℕ) (p : Position) (T : ℕ) (Ts : List ℕ) → types_rows e levels depth p (T ∷ Ts) ≡ type_rows e levels depth p T ++ types_rows e levels depth p Ts
  unfolding rows_below
  rows_next levels depth p T Ts = refl

  pub no_rows : (levels depth : ℕ) (p : Position) → types_rows e levels depth p [] ≡ []
  unfolding rows_below
  no_rows levels depth p = refl

  -- what stands at a place
  pub rows_of_place : (levels depth : ℕ) (place : Place) (p : Position) → rows_below depth (planned e levels place p) ≡ types_rows e levels depth p (types_of place)
  unfolding planned rows_below
  rows_of_place zero depth (leaf_place type weight fill) p = refl
  rows_of_place (suc levels) depth (leaf_place type weight fill) p = refl
  rows_of_place zero depth (object_place Ts) p = refl
  rows_of_place (suc levels) depth (object_place Ts) p = refl

  types_there : (levels : ℕ) (p : Position) (Ts : List ℕ) → types_in (types_planned e levels p Ts) ≡ map (weighed e) Ts
  types_there levels p [] = refl
  types_there levels p (T ∷ Ts) = ap (λ ps. weighed e T ∷ ps) (types_there levels p Ts)

  pub below_of_place : (levels : ℕ) (place : Place) (p : Position) → below_in (planned e levels place p) ≡ below_at e place
  unfolding planned
  below_of_place zero (leaf_place type weight fill) p = refl
  below_of_place (suc levels) (leaf_place type weight fill) p = refl
  below_of_place zero (object_place Ts) p = ap objects_below (types_there zero p Ts)
  below_of_place (suc levels) (object_place Ts) p = ap objects_below (types_there (suc levels) p Ts)

  -- ---- the fields of one key

  key_of_filtered : (key : List ℕ) (fields : List CollectedField) → 0 < length (fields_of_key key fields) → key_seen (fields_of_key key fields) ≡ key
  key_of_filtered key [] h = absurd (omega arith)
  key_of_filtered key (f ∷ fields) h = ⊎_elim
      (λ (is : bytes_eq f.key key ≡ true). rw (is) ((bytes_eq-Decides f.key key).0 is))
      (λ (is : bytes_eq f.key key ≡ false). rw (is) (key_of_filtered key fields (subst (λ (b : Bool). 0 < length (if b then f ∷ fields_of_key key fields else fields_of_key key fields)) is h)))
      (cases_Bool (bytes_eq f.key key))

  -- the first of fields that are like others
  key_of_like : (xs ys : List CollectedField) → AreLike e.schema xs ys → key_seen ys ≡ key_seen xs
  key_of_like [] [] h = refl
  key_of_like [] (y ∷ ys) h = absurd h
  key_of_like (x ∷ xs) [] h = absurd h.0
  key_of_like (x ∷ xs) (y ∷ ys) (inl stays) = sym stays.0.key
  key_of_like (x ∷ xs) (y ∷ ys) (inr goes) = absurd goes.0

  module _ (T : ℕ) (p : Position) (fields : List CollectedField) (less : LeavesOutRepeats (fields_at e T p) fields) where
    abbrev of_key : List ℕ → List CollectedField
    of_key key = fields_of_key key fields

    less_of_key : (key : List ℕ) → LeavesOutRepeats (fields_under e T key p) (of_key key)
    less_of_key key = thinned_filter (has_key key) (fields_at e T p) fields less

    same_call : (key : List ℕ) → call_under e T key p ≡ first_call (of_key key)
    same_call key = same_first_call (fields_under e T key p) (of_key key) (less_of_key key)

    abbrev Filled : List ℕ → Type 0
    Filled key = 0 < length (of_key key)

    module _ (key : List ℕ) (g : GroupData) (of : IsGroupOf e (of_key key) g) where
      key_there : Filled key → key_seen g.fields ≡ key
      key_there h = key_of_like (of_key key) g.fields of.like ∙ key_of_filtered key fields h

      place_there : place_at e T (first_call g.fields) ≡ place_at e T (call_under e T key p)
      place_there = sym (ap (place_at e T) (same_call key) ∙ like_place e T (of_key key) g.fields of.like)

      fault_there : fault_of e T p.handed g.fields ≡ fault_of e T p.handed (fields_under e T key p)
      fault_there = sym (same_fault e T p.handed (fields_under e T key p) (of_key key) (less_of_key key) ∙ like_fault e T (of_key key) g.fields of.like p.handed)

      selected_there : selected_by e T key p.handed g.fields ≡ selected_under e T key p
      selected_there = sym (same_selected e T key p.handed (fields_under e T key p) (of_key key) (less_of_key key) ∙ like_selected e T (of_key key) g.fields of.like key p.handed)

      shortened_below : IsShortened (below_key e T key p) (group_position e T p.handed g)
      shortened_below = record {
        selections = thinned_twice [] [] (map (selections_below e) (fields_under e T key p)) (map (selections_below e) (of_key key)) g.below (λ x h. absurd h) (thinned_map (selections_below e) (fields_under e T key p) (of_key key) (less_of_key key)) of.below;
        handed = ap (λ (c : FieldCall). hands_at e T c) (same_call key) ∙ like_hands e T (of_key key) g.fields of.like;
      }

      one_visited : (levels : ℕ) → Filled key → node_visits e T p.handed (suc levels) g ≡ visits_of_key e (visits e levels) p T key
      one_visited levels h =
          ap (λ k. visits_of k (fault_of e T p.handed g.fields) (visits e levels (types_of (place_at e T (first_call g.fields))) (group_position e T p.handed g))) (key_there h)
          ∙ (ap (λ o. visits_of key o (visits e levels (types_of (place_at e T (first_call g.fields))) (group_position e T p.handed g))) fault_there
          ∙ (ap (λ place. visits_of key (fault_of e T p.handed (fields_under e T key p)) (visits e levels (types_of place) (group_position e T p.handed g))) place_there
          ∙ ap (λ vs. visits_of key (fault_of e T p.handed (fields_under e T key p)) vs) (sym (same_visits e levels (types_of (place_at e T (call_under e T key p))) (below_key e T key p) (group_position e T p.handed g) shortened_below))))

    abbrev AllFilled : List (List ℕ) → Type 0
    AllFilled [] = Unit {0}
    AllFilled (key ∷ keys) = Filled key × AllFilled keys

    keys_visited : (levels : ℕ) (keys : List (List ℕ)) (groups : List GroupData) → AllFilled keys → AreGroupsOf e fields keys groups → groups_visits e T p.handed (suc levels) groups ≡ flat_map (visits_of_key e (visits e levels) p T) keys
    keys_visited levels [] [] h of = refl
    keys_visited levels [] (g ∷ groups) h of = absurd of
    keys_visited levels (key ∷ keys) [] h of = absurd of
    keys_visited levels (key ∷ keys) (g ∷ groups) h of = ap (λ vs. vs ++ groups_visits e T p.handed (suc levels) groups) (one_visited key g of.0 levels h.0) ∙ ap (λ vs. visits_of_key e (visits e levels) p T key ++ vs) (keys_visited levels keys groups h.1 of.1)

    deepest_visited : (keys : List (List ℕ)) (groups : List GroupData) → AllFilled keys → AreGroupsOf e fields keys groups → groups_visits e T p.handed zero groups ≡ map too_deep_at keys
    deepest_visited [] [] h of = refl
    deepest_visited [] (g ∷ groups) h of = absurd of
    deepest_visited (key ∷ keys) [] h of = absurd of
    deepest_visited (key ∷ keys) (g ∷ groups) h of = ap (λ k. too_deep_at k ∷ groups_visits e T p.handed zero groups) (key_there key g of.0 h.0) ∙ ap (λ vs. too_deep_at key ∷ vs) (deepest_visited keys groups h.1 of.1)

    visited : (levels : ℕ) (groups : List GroupData) → AllFilled (keys_of fields) → AreGroupsOf e fields (keys_of fields) groups → groups_visits e T p.handed levels groups ≡ type_visits e levels p T
    visited zero groups h of = deepest_visited (keys_of fields) groups h of ∙ ap (λ keys. map too_deep_at keys) (sym (same_keys (fields_at e T p) fields less))
    visited (suc levels) groups h of = keys_visited levels (keys_of fields) groups h of ∙ ap (λ keys. flat_map (visits_of_key e (visits e levels) p T) keys) (sym (same_keys (fields_at e T p) fields less))

    abbrev planned_for_key : ℕ → List ℕ → PlanTree
    planned_for_key levels key = planned_below e levels (place_at e T (call_under e T key p)) (below_key e T key p)

    same_below : (levels : ℕ) (key : List ℕ) (g : GroupData) → IsGroupOf e (of_key key) g → planned_for_node e T p.handed levels g ≡ planned_for_key levels key
    same_below zero key g of = ap (λ place. nothing_planned place (group_position e T p.handed g)) (place_there key g of)
    same_below (suc levels) key g of = ap (λ place. planned e levels place (group_position e T p.handed g)) (place_there key g of) ∙ sym (same_planned e levels (place_at e T (call_under e T key p)) (below_key e T key p) (group_position e T p.handed g) (shortened_below key g of))

    abbrev key_row : ℕ → ℕ → Bool → Selected → PlanTree → Row
    key_row levels depth first s below = record { depth = depth; type = T; weight = type_weight e T; first = first; selected = with_capped s; below = below_in below }

    one_row : (levels depth : ℕ) (first : Bool) (key : List ℕ) (g : GroupData) → IsGroupOf e (of_key key) g → Filled key → node_rows e T p.handed levels depth first g ≡ key_row levels depth first (selected_under e T key p) (planned_for_key levels key) ∷ rows_below (suc depth) (planned_for_key levels key)
    one_row levels depth first key g of h =
        ap (λ below. key_row levels depth first (selected_by e T (key_seen g.fields) p.handed g.fields) below ∷ rows_below (suc depth) below) (same_below levels key g of)
        ∙ (ap (λ k. key_row levels depth first (selected_by e T k p.handed g.fields) (planned_for_key levels key) ∷ rows_below (suc depth) (planned_for_key levels key)) (key_there key g of h)
        ∙ ap (λ s. key_row levels depth first s (planned_for_key levels key) ∷ rows_below (suc depth) (planned_for_key levels key)) (selected_there key g of))

    keys_rows : (levels depth : ℕ) (first : Bool) (keys : List (List ℕ)) (groups : List GroupData) → AllFilled keys → AreGroupsOf e fields keys groups
        → groups_rows e T p.handed levels depth first groups ≡ rows_of_nodes depth T (type_weight e T) first (planned_nodes e (planned_below e levels) p T keys)
    unfolding rows_below
    keys_rows levels depth first [] [] h of = refl
    keys_rows levels depth first [] (g ∷ groups) h of = absurd of
    keys_rows levels depth first (key ∷ keys) [] h of = absurd of
    keys_rows levels depth first (key ∷ keys) (g ∷ groups) h of =
        ap (λ rows. rows ++ groups_rows e T p.handed levels depth false groups) (one_row levels depth first key g of.0 h.0)
        ∙ ap (λ rows. key_row levels depth first (selected_under e T key p) (planned_for_key levels key) ∷ (rows_below (suc depth) (planned_for_key levels key) ++ rows)) (keys_rows levels depth false keys groups h.1 of.1)

    rows_made : (levels depth : ℕ) (groups : List GroupData) → AllFilled (keys_of fields) → AreGroupsOf e fields (keys_of fields) groups → groups_rows e T p.handed levels depth true groups ≡ type_rows e levels depth p T
    rows_made levels depth groups h of = keys_rows levels depth true (keys_of fields) groups h of ∙ ap (λ keys. rows_of_nodes depth T (type_weight e T) true (planned_nodes e (planned_below e levels) p T keys)) (sym (same_keys (fields_at e T p) fields less))

    filled_from : (keys : List (List ℕ)) → AreFilledFor fields keys → AllFilled keys
    filled_from [] h = tt
    filled_from (key ∷ keys) h = (h.0, filled_from keys h.1)

  pub gathered_visits : (T : ℕ) (p : Position) (groups : List GroupData) → Gathers e T p groups → (levels : ℕ) → groups_visits e T p.handed levels groups ≡ type_visits e levels p T
  gathered_visits T p groups g levels = visited T p g.fields g.repeats levels groups (filled_from T p g.fields g.repeats (keys_of g.fields) (all_filled_for g.fields)) g.grouped

  pub gathered_rows : (T : ℕ) (p : Position) (groups : List GroupData) → Gathers e T p groups → (levels depth : ℕ) → groups_rows e T p.handed levels depth true groups ≡ type_rows e levels depth p T
  gathered_rows T p groups g levels depth = rows_made T p g.fields g.repeats levels depth groups (filled_from T p g.fields g.repeats (keys_of g.fields) (all_filled_for g.fields)) g.grouped
