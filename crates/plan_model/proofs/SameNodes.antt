-- A position where repeats are left out has the same nodes, the same faults and the same plan.
use Rattle.std.proofs.Common.{◌≡◌, inl, inr, ⊎_elim, ℕ, zero, suc, List, [], ◌∷◌, ◌++◌, map, flat_map, Bool, true, false, not, bytes_eq, Option, refl, sym, ap, ◌∙◌, subst}
use Rattle.std.proofs.lemmas.Bool.{cases_Bool}
use Rattle.std.proofs.lemmas.Slice.Eq.{bytes_eq-Decides}
use Rattle.std.specs.List.{list_any}
use Rattle.response_model.specs.Plan.{Selected, Plan, position, ObjectTypes, object_type, Nodes, node}
use Rattle.schema_rules.specs.First.{or_else, fault_where, first_of}
use Rattle.plan_model.specs.SelectedFields.{Setting, FieldCall, HandedSize, Place, leaf_place, object_place, types_of, lacks_types, place_at, arguments_at, if_coerced, form_at, size_at, weight_at, cost_at, hands_at}
use Rattle.plan_model.specs.Collecting.{CollectedField, WrittenSelections, fields_written, fields_spread, collected, nesting}
use Rattle.plan_model.specs.SameArguments.{same_arguments}
use Rattle.plan_model.specs.Merging.{Position, keys_from, keys_of, has_key, first_call, selections_below, asks, selected_by, fields_at, keys_at, fields_under, call_under, selected_under, below_key}
use Rattle.plan_model.specs.Plans.{with_capped, type_weight}
use Rattle.plan_model.specs.Visits.{NodeFault, conflict, no_possible_type, argument_fault, size_fault, fault_of, Visit, visits_of, visits_of_key, visits_of_type, too_deep_at, deepest_visits, visits, planned_nodes, planned_types, planned_at, nothing_planned, planned}
use Rattle.plan_model.specs.Repeats.{Holds, IsThinned, LeavesOutRepeats}
use Rattle.plan_model.specs.MergingWalk.{IsShortened}
use Rattle.plan_model.proofs.Thinning.{same_any, same_first_of, thinned_map, thinned_flat_map, thinned_filter}

-- ---- keys

abbrev IsSeen : List (List ℕ) → CollectedField → Type 0
IsSeen seen f = list_any (bytes_eq f.key) seen ≡ true

own_key : (key : List ℕ) (seen : List (List ℕ)) → list_any (bytes_eq key) (key ∷ seen) ≡ true
own_key key seen = rw ((bytes_eq-Decides key key).1 refl) refl

still_seen : (key : List ℕ) (seen : List (List ℕ)) (f : CollectedField) → IsSeen seen f → IsSeen (key ∷ seen) f
still_seen key seen f h = ⊎_elim
    (λ (is : bytes_eq f.key key ≡ true). rw (is) refl)
    (λ (is : bytes_eq f.key key ≡ false). rw (is) h)
    (cases_Bool (bytes_eq f.key key))

keys_among : (seen : List (List ℕ)) (s xs ys : List CollectedField) → ((f : CollectedField) → Holds s f → IsSeen seen f) → IsThinned s xs ys → keys_from seen xs ≡ keys_from seen ys
keys_among seen s [] [] known t = refl
keys_among seen s [] (y ∷ ys) known t = absurd t
keys_among seen s (x ∷ xs) [] known t = rw (known x t.0) (keys_among seen s xs [] known t.1)
keys_among seen s (x ∷ xs) (y ∷ ys) known (inl stays) = subst (λ (z : CollectedField). keys_from seen (x ∷ xs) ≡ keys_from seen (z ∷ ys)) stays.0 (⊎_elim
    (λ (is : IsSeen seen x). rw (is) (keys_among seen (x ∷ s) xs ys (λ f h. ⊎_elim (λ (here : f ≡ x). subst (λ z. IsSeen seen z) (sym here) is) (λ later. known f later) h) stays.1))
    (λ (is : list_any (bytes_eq x.key) seen ≡ false). rw (is) (ap (λ (keys : List (List ℕ)). x.key ∷ keys)
    (keys_among (x.key ∷ seen) (x ∷ s) xs ys (λ f h. ⊎_elim (λ (here : f ≡ x). subst (λ z. IsSeen (x.key ∷ seen) z) (sym here) (own_key x.key seen)) (λ later. still_seen x.key seen f (known f later)) h) stays.1)))
    (cases_Bool (list_any (bytes_eq x.key) seen)))
keys_among seen s (x ∷ xs) (y ∷ ys) known (inr goes) = rw (known x goes.0) (keys_among seen s xs (y ∷ ys) known goes.1)

pub same_keys : (xs ys : List CollectedField) → LeavesOutRepeats xs ys → keys_of xs ≡ keys_of ys
same_keys xs ys t = keys_among [] [] xs ys (λ f h. absurd h) t

-- ---- the fields of one key

pub same_first_call : (xs ys : List CollectedField) → LeavesOutRepeats xs ys → first_call xs ≡ first_call ys
same_first_call [] [] t = refl
same_first_call [] (y ∷ ys) t = absurd t
same_first_call (x ∷ xs) [] t = absurd t.0
same_first_call (x ∷ xs) (y ∷ ys) (inl stays) = ap (λ f. f.call) stays.0
same_first_call (x ∷ xs) (y ∷ ys) (inr goes) = absurd goes.0

module _ (e : Setting) (T : ℕ) where
  -- what a key's fields say, by the first of them and by whether the alias is asked
  abbrev said_by : List ℕ → HandedSize → FieldCall → Bool → Selected
  said_by key handed c asked = record { key = key; field = c.name; asked = asked; form = form_at e T c; size = size_at e T c handed; weight = weight_at e T c; arguments = cost_at e T c }

  pub same_selected : (key : List ℕ) (handed : HandedSize) (xs ys : List CollectedField) → LeavesOutRepeats xs ys → selected_by e T key handed xs ≡ selected_by e T key handed ys
  same_selected key handed xs ys t =
      ap (λ (c : FieldCall). said_by key handed c (list_any (asks e) xs)) (same_first_call xs ys t) ∙ ap (λ (b : Bool). said_by key handed (first_call ys) b) (same_any (asks e) xs ys t)

  abbrev names_not : FieldCall → List CollectedField → Bool
  names_not c fields = list_any (λ f. not (bytes_eq f.call.name c.name)) fields

  abbrev arguments_not : FieldCall → List CollectedField → Bool
  arguments_not c fields = list_any (λ f. not (same_arguments (if_coerced (arguments_at e T c)) (if_coerced (arguments_at e T f.call)))) fields

  abbrev fault_by : HandedSize → FieldCall → Bool → Option NodeFault → Bool → Option NodeFault
  fault_by handed c names refused arguments =
      or_else (fault_where names conflict) (or_else refused (or_else (fault_where arguments conflict) (or_else (size_fault e T handed c) (fault_where (lacks_types (place_at e T c)) no_possible_type))))

  pub same_fault : (handed : HandedSize) (xs ys : List CollectedField) → LeavesOutRepeats xs ys → fault_of e T handed xs ≡ fault_of e T handed ys
  same_fault handed xs ys t =
      ap (λ (c : FieldCall). fault_by handed c (names_not c xs) (first_of (argument_fault e T) xs) (arguments_not c xs)) (same_first_call xs ys t)
      ∙ (ap (λ (b : Bool). fault_by handed (first_call ys) b (first_of (argument_fault e T) xs) (arguments_not (first_call ys) xs)) (same_any (λ f. not (bytes_eq f.call.name (first_call ys).name)) xs ys t)
      ∙ (ap (λ (o : Option NodeFault). fault_by handed (first_call ys) (names_not (first_call ys) ys) o (arguments_not (first_call ys) xs)) (same_first_of (argument_fault e T) xs ys t)
      ∙ ap (λ (b : Bool). fault_by handed (first_call ys) (names_not (first_call ys) ys) (first_of (argument_fault e T) ys) b) (same_any (λ f. not (same_arguments (if_coerced (arguments_at e T (first_call ys))) (if_coerced (arguments_at e T f.call)))) xs ys t)))

  -- ---- positions

  pub same_collected : (xs ys : List WrittenSelections) → LeavesOutRepeats xs ys → LeavesOutRepeats (collected e T xs) (collected e T ys)
  unfolding collected
  same_collected xs ys t = thinned_flat_map (fields_written e T (fields_spread e T (nesting e))) xs ys t

  module _ (p q : Position) (less : IsShortened p q) where
    fields_less : LeavesOutRepeats (fields_at e T p) (fields_at e T q)
    fields_less = same_collected p.selections q.selections less.selections

    pub same_keys_at : keys_at e T p ≡ keys_at e T q
    same_keys_at = same_keys (fields_at e T p) (fields_at e T q) fields_less

    module _ (key : List ℕ) where
      pub less_under : LeavesOutRepeats (fields_under e T key p) (fields_under e T key q)
      less_under = thinned_filter (has_key key) (fields_at e T p) (fields_at e T q) fields_less

      pub same_call_under : call_under e T key p ≡ call_under e T key q
      same_call_under = same_first_call (fields_under e T key p) (fields_under e T key q) less_under

      pub same_selected_under : selected_under e T key p ≡ selected_under e T key q
      same_selected_under = same_selected key p.handed (fields_under e T key p) (fields_under e T key q) less_under ∙ ap (λ (h : HandedSize). selected_by e T key h (fields_under e T key q)) less.handed

      pub same_fault_under : fault_of e T p.handed (fields_under e T key p) ≡ fault_of e T q.handed (fields_under e T key q)
      same_fault_under = same_fault p.handed (fields_under e T key p) (fields_under e T key q) less_under ∙ ap (λ (h : HandedSize). fault_of e T h (fields_under e T key q)) less.handed

      pub less_below : IsShortened (below_key e T key p) (below_key e T key q)
      less_below = record {
        selections = thinned_map (selections_below e) (fields_under e T key p) (fields_under e T key q) less_under;
        handed = ap (λ (c : FieldCall). hands_at e T c) same_call_under;
      }

flat_alike : {A B : Type 0} (f g : A → List B) (xs : List A) → ((x : A) → f x ≡ g x) → flat_map f xs ≡ flat_map g xs
flat_alike f g [] h = refl
flat_alike f g (x ∷ xs) h = ap (λ ys. ys ++ flat_map f xs) (h x) ∙ ap (λ ys. g x ++ ys) (flat_alike f g xs h)

module _ (e : Setting) where
  -- ---- what is visited

  module _ (seen : List ℕ → Position → List Visit) (deeper : (Ts : List ℕ) (p q : Position) → IsShortened p q → seen Ts p ≡ seen Ts q) where
    key_visited : (p q : Position) → IsShortened p q → (T : ℕ) (key : List ℕ) → visits_of_key e seen p T key ≡ visits_of_key e seen q T key
    key_visited p q less T key =
        let below_p : Position = below_key e T key p in
        let fault_q : Option NodeFault = fault_of e T q.handed (fields_under e T key q) in
        let types_q : List ℕ = types_of (place_at e T (call_under e T key q)) in
        ap (λ (o : Option NodeFault). visits_of key o (seen (types_of (place_at e T (call_under e T key p))) below_p)) (same_fault_under e T p q less key)
        ∙ (ap (λ (c : FieldCall). visits_of key fault_q (seen (types_of (place_at e T c)) below_p)) (same_call_under e T p q less key)
        ∙ ap (λ (vs : List Visit). visits_of key fault_q vs) (deeper types_q below_p (below_key e T key q) (less_below e T p q less key)))

    type_visited : (p q : Position) → IsShortened p q → (T : ℕ) → visits_of_type e seen p T ≡ visits_of_type e seen q T
    type_visited p q less T =
        ap (λ (keys : List (List ℕ)). flat_map (visits_of_key e seen p T) keys) (same_keys_at e T p q less)
        ∙ flat_alike (visits_of_key e seen p T) (visits_of_key e seen q T) (keys_at e T q) (key_visited p q less T)

  pub same_visits : (levels : ℕ) (Ts : List ℕ) (p q : Position) → IsShortened p q → visits e levels Ts p ≡ visits e levels Ts q
  unfolding visits
  same_visits zero Ts p q less = flat_alike (deepest_visits e p) (deepest_visits e q) Ts (λ T. ap (λ (keys : List (List ℕ)). map too_deep_at keys) (same_keys_at e T p q less))
  same_visits (suc levels) Ts p q less = flat_alike (visits_of_type e (visits e levels) p) (visits_of_type e (visits e levels) q) Ts (type_visited (visits e levels) (same_visits levels) p q less)

  -- ---- what is planned

  module _ (made : Place → Position → Plan) (deeper : (place : Place) (p q : Position) → IsShortened p q → made place p ≡ made place q) where
    nodes_planned : (p q : Position) → IsShortened p q → (T : ℕ) (keys : List (List ℕ)) → planned_nodes e made p T keys ≡ planned_nodes e made q T keys
    nodes_planned p q less T [] = refl
    nodes_planned p q less T (key ∷ keys) =
        let below_p : Position = below_key e T key p in
        let others_p : Nodes = planned_nodes e made p T keys in
        let selected_q : Selected = with_capped (selected_under e T key q) in
        let place_q : Place = place_at e T (call_under e T key q) in
        ap (λ (s : Selected). node (with_capped s) (made (place_at e T (call_under e T key p)) below_p) others_p) (same_selected_under e T p q less key)
        ∙ (ap (λ (c : FieldCall). node selected_q (made (place_at e T c) below_p) others_p) (same_call_under e T p q less key)
        ∙ (ap (λ (plan : Plan). node selected_q plan others_p) (deeper place_q below_p (below_key e T key q) (less_below e T p q less key))
        ∙ ap (λ (others : Nodes). node selected_q (made place_q (below_key e T key q)) others) (nodes_planned p q less T keys)))

    types_planned : (p q : Position) → IsShortened p q → (Ts : List ℕ) → planned_types e made p Ts ≡ planned_types e made q Ts
    types_planned p q less [] = refl
    types_planned p q less (T ∷ Ts) =
        ap (λ (keys : List (List ℕ)). object_type T (type_weight e T) (planned_nodes e made p T keys) (planned_types e made p Ts)) (same_keys_at e T p q less)
        ∙ (ap (λ (nodes : Nodes). object_type T (type_weight e T) nodes (planned_types e made p Ts)) (nodes_planned p q less T (keys_at e T q))
        ∙ ap (λ (others : ObjectTypes). object_type T (type_weight e T) (planned_nodes e made q T (keys_at e T q)) others) (types_planned p q less Ts))

    place_planned : (place : Place) (p q : Position) → IsShortened p q → planned_at e made place p ≡ planned_at e made place q
    place_planned (leaf_place type weight fill) p q less = refl
    place_planned (object_place Ts) p q less = ap position (types_planned p q less Ts)

  pub same_planned : (levels : ℕ) (place : Place) (p q : Position) → IsShortened p q → planned e levels place p ≡ planned e levels place q
  unfolding planned
  same_planned zero place p q less = place_planned nothing_planned (λ place p q less. refl) place p q less
  same_planned (suc levels) place p q less = place_planned (planned e levels) (same_planned levels) place p q less
