-- The groups of fields that are collected ask what the position asks.
use Rattle.std.proofs.Common.{◌≡◌, inl, inr, ℕ, ◌<◌, List, [], ◌∷◌, map, length, Bool, true, false, bytes_eq, Result, refl, sym, ap, ◌∙◌, subst, ⊎_elim, arith, if◌then◌else◌}
use Rattle.std.proofs.lemmas.Bool.{cases_Bool}
use Rattle.std.proofs.lemmas.Slice.Eq.{bytes_eq-Decides}
use Rattle.response_model.specs.Plan.{Selected}
use Rattle.schema_model.specs.SchemaData.{SchemaData}
use Rattle.schema_model.specs.Arguments.{ArgData}
use Rattle.variable_coercion.specs.Refusals.{Refusal}
use Rattle.plan_model.specs.SelectedFields.{Setting, FieldCall, Place, place_at, hands_at, arguments_at, if_coerced}
use Rattle.plan_model.specs.Collecting.{CollectedField}
use Rattle.plan_model.specs.Merging.{Position, keys_of, has_key, fields_of_key, first_call, selections_below, selected_by, fields_at, fields_under, call_under, selected_under, below_key, keys_at}
use Rattle.plan_model.specs.MergingWalk.{IsShortened}
use Rattle.plan_model.specs.Repeats.{LeavesOutRepeats}
use Rattle.plan_model.specs.Likeness.{Thins, LooksLike, AreLike}
use Rattle.plan_model.specs.Plans.{with_capped}
use Rattle.plan_model.proofs.Thinning.{thinned_map, thinned_filter}
use Rattle.plan_model.proofs.MarkedNodes.{same_first}
use Rattle.plan_model.proofs.LikeNodes.{like_selected, like_place, like_hands, like_same}
use Rattle.plan_model.proofs.SameNodes.{same_keys, same_first_call, same_selected}
use Rattle.collected_fields.specs.Gathering.{Gathers}
use Rattle.collected_fields.specs.Groups.{GroupData, IsGroupOf, AreGroupsOf}
use Rattle.collected_fields.proofs.KeyLaws.{AreFilledFor, all_filled_for}
use Rattle.collected_fields.proofs.WalkLaws.{thinned_twice}
use Rattle.asked_fields.specs.Asked.{Asked, field_then, AskedBelow, fields_asked, group_position, groups_asked, group_then, key_of_fields}
use Rattle.asked_fields.proofs.Alike.{IsAlike}

key_of_filtered : (key : List ℕ) (fields : List CollectedField) → 0 < length (fields_of_key key fields) → key_of_fields (fields_of_key key fields) ≡ key
key_of_filtered key [] h = absurd (omega arith)
key_of_filtered key (f ∷ fields) h = ⊎_elim
    (λ (is : bytes_eq f.key key ≡ true). rw (is) ((bytes_eq-Decides f.key key).0 is))
    (λ (is : bytes_eq f.key key ≡ false). rw (is) (key_of_filtered key fields (subst (λ (b : Bool). 0 < length (if b then f ∷ fields_of_key key fields else fields_of_key key fields)) is h)))
    (cases_Bool (bytes_eq f.key key))

-- the key of the first of fields that are like others
key_of_like : (s : SchemaData) (xs ys : List CollectedField) → AreLike s xs ys → key_of_fields ys ≡ key_of_fields xs
key_of_like s [] [] h = refl
key_of_like s [] (y ∷ ys) h = absurd h
key_of_like s (x ∷ xs) [] h = absurd h.0
key_of_like s (x ∷ xs) (y ∷ ys) (inl stays) = sym stays.0.key
key_of_like s (x ∷ xs) (y ∷ ys) (inr goes) = absurd goes.0

module _ (e : Setting) (T : ℕ) where
  all_stay : (seen fields : List CollectedField) → Thins (LooksLike e.schema) seen fields fields
  all_stay seen [] = tt
  all_stay seen (f ∷ fields) = inl (record { key = refl; name = refl; given = λ values. refl; asked = refl }, all_stay (f ∷ seen) fields)

  -- the first of them are given the same
  like_arguments : (xs ys : List CollectedField) → AreLike e.schema xs ys → arguments_at e T (first_call xs) ≡ arguments_at e T (first_call ys)
  like_arguments xs ys like =
      (same_first e T (λ f. f) (LooksLike e.schema) (like_same e) xs ys like).arguments ∙ sym (same_first e T (λ f. f) (LooksLike e.schema) (like_same e) ys ys (all_stay [] ys)).arguments

module _ (e : Setting) (deeper : Place → Position → AskedBelow) (alike : IsAlike deeper) (T : ℕ) (p : Position) where
  abbrev node_with : Selected → Result (List ArgData) Refusal → Place → Position → Asked → Asked
  node_with s arguments place below others = field_then (with_capped s) (if_coerced arguments) (deeper place below) others

  module _ (fields : List CollectedField) (less : LeavesOutRepeats (fields_at e T p) fields) where
    abbrev of_key : List ℕ → List CollectedField
    of_key key = fields_of_key key fields

    module _ (key : List ℕ) (g : GroupData) (of : IsGroupOf e (of_key key) g) where
      less_of_key : LeavesOutRepeats (fields_under e T key p) (of_key key)
      less_of_key = thinned_filter (has_key key) (fields_at e T p) fields less

      same_call : call_under e T key p ≡ first_call (of_key key)
      same_call = same_first_call (fields_under e T key p) (of_key key) less_of_key

      key_there : 0 < length (of_key key) → key_of_fields g.fields ≡ key
      key_there h = key_of_like e.schema (of_key key) g.fields of.like ∙ key_of_filtered key fields h

      place_there : place_at e T (first_call g.fields) ≡ place_at e T (call_under e T key p)
      place_there = sym (ap (place_at e T) same_call ∙ like_place e T (of_key key) g.fields of.like)

      arguments_there : arguments_at e T (first_call g.fields) ≡ arguments_at e T (call_under e T key p)
      arguments_there = sym (ap (arguments_at e T) same_call ∙ like_arguments e T (of_key key) g.fields of.like)

      selected_there : selected_by e T key p.handed g.fields ≡ selected_under e T key p
      selected_there = sym (same_selected e T key p.handed (fields_under e T key p) (of_key key) less_of_key ∙ like_selected e T (of_key key) g.fields of.like key p.handed)

      shortened_below : IsShortened (below_key e T key p) (group_position e T g)
      shortened_below = record {
        selections = thinned_twice [] [] (map (selections_below e) (fields_under e T key p)) (map (selections_below e) (of_key key)) g.below (λ x h. absurd h) (thinned_map (selections_below e) (fields_under e T key p) (of_key key) less_of_key) of.below;
        handed = ap (λ (c : FieldCall). hands_at e T c) same_call ∙ like_hands e T (of_key key) g.fields of.like;
      }

      one_asked : (others : Asked) → 0 < length (of_key key) → group_then e deeper T p.handed g others ≡ node_with (selected_under e T key p) (arguments_at e T (call_under e T key p)) (place_at e T (call_under e T key p)) (below_key e T key p) others
      one_asked others h =
          ap (λ (k : List ℕ). node_with (selected_by e T k p.handed g.fields) (arguments_at e T (first_call g.fields)) (place_at e T (first_call g.fields)) (group_position e T g) others) (key_there h)
          ∙ (ap (λ (s : Selected). node_with s (arguments_at e T (first_call g.fields)) (place_at e T (first_call g.fields)) (group_position e T g) others) selected_there
          ∙ (ap (λ (a : Result (List ArgData) Refusal). node_with (selected_under e T key p) a (place_at e T (first_call g.fields)) (group_position e T g) others) arguments_there
          ∙ (ap (λ (at : Place). node_with (selected_under e T key p) (arguments_at e T (call_under e T key p)) at (group_position e T g) others) place_there
          ∙ ap (λ (b : AskedBelow). field_then (with_capped (selected_under e T key p)) (if_coerced (arguments_at e T (call_under e T key p))) b others)
          (sym (alike (place_at e T (call_under e T key p)) (below_key e T key p) (group_position e T g) shortened_below)))))

    keys_asked : (ks : List (List ℕ)) (groups : List GroupData) → AreFilledFor fields ks → AreGroupsOf e fields ks groups → groups_asked e deeper T p.handed groups ≡ fields_asked e deeper T p ks
    keys_asked [] [] h of = refl
    keys_asked [] (g ∷ groups) h of = absurd of
    keys_asked (k ∷ ks) [] h of = absurd of
    keys_asked (k ∷ ks) (g ∷ groups) h of =
        one_asked k g of.0 (groups_asked e deeper T p.handed groups) h.0
        ∙ ap (λ (others : Asked). node_with (selected_under e T k p) (arguments_at e T (call_under e T k p)) (place_at e T (call_under e T k p)) (below_key e T k p) others) (keys_asked ks groups h.1 of.1)

  pub gathered_asked : (groups : List GroupData) → Gathers e T p groups → groups_asked e deeper T p.handed groups ≡ fields_asked e deeper T p (keys_at e T p)
  gathered_asked groups g =
      keys_asked g.fields g.repeats (keys_of g.fields) groups (all_filled_for g.fields) g.grouped ∙ ap (fields_asked e deeper T p) (sym (same_keys (fields_at e T p) g.fields g.repeats))
