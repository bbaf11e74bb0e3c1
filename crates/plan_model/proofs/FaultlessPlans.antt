-- Where no visit has a fault, what is planned is the plan.
use Rattle.std.proofs.Common.{◌≡◌, ℕ, zero, suc, List, [], ◌∷◌, ◌++◌, map, flat_map, Option, Some, None, refl}
use Rattle.response_model.specs.Plan.{Plan}
use Rattle.schema_rules.specs.First.{or_else, first_of}
use Rattle.schema_rules.proofs.FirstFaults.{neither}
use Rattle.plan_model.specs.SelectedFields.{Setting, Place, leaf_place, object_place, types_of, place_at}
use Rattle.plan_model.specs.Merging.{Position, keys_at, fields_under, call_under, below_key}
use Rattle.plan_model.specs.Plans.{IsPlan, ArePossible, AreNodes}
use Rattle.plan_model.specs.Visits.{NodeFault, fault_of, Visit, under_key, visits_of, visits_of_key, visits_of_type, too_deep_at, deepest_visits, visits, placed, fault_at, planned_nodes, planned_types, planned_at, nothing_planned, planned}

abbrev pub NoFault : List Visit → Type 0
NoFault vs = first_of fault_at vs ≡ None

both_none : {F : Type 0} (o p : Option F) → o ≡ None → p ≡ None → or_else o p ≡ None
both_none o p a b = rw (a) b

pub none_in_front : (vs us : List Visit) → NoFault (vs ++ us) → NoFault vs
none_in_front [] us h = refl
none_in_front (v ∷ vs) us h = both_none (fault_at v) (first_of fault_at vs) ((neither (fault_at v) (first_of fault_at (vs ++ us)) h).0) (none_in_front vs us ((neither (fault_at v) (first_of fault_at (vs ++ us)) h).1))

pub none_behind : (vs us : List Visit) → NoFault (vs ++ us) → NoFault us
none_behind [] us h = h
none_behind (v ∷ vs) us h = none_behind vs us ((neither (fault_at v) (first_of fault_at (vs ++ us)) h).1)

none_placed : (path other : List (List ℕ)) (o : Option NodeFault) → placed path o ≡ None → placed other o ≡ None
none_placed path other None h = refl
none_placed path other (Some fault) h = absurd (cc)

none_below : (key : List ℕ) (vs : List Visit) → NoFault (map (under_key key) vs) → NoFault vs
none_below key [] h = refl
none_below key (v ∷ vs) h = both_none (fault_at v) (first_of fault_at vs)
    (none_placed (key ∷ v.path) v.path v.fault ((neither (fault_at (under_key key v)) (first_of fault_at (map (under_key key) vs)) h).0))
    (none_below key vs ((neither (fault_at (under_key key v)) (first_of fault_at (map (under_key key) vs)) h).1))

pub own_none : (key : List ℕ) (o : Option NodeFault) (below : List Visit) → NoFault (visits_of key o below) → o ≡ None
own_none key None below h = refl
own_none key (Some fault) below h = absurd (cc)

pub inner_none : (key : List ℕ) (o : Option NodeFault) (below : List Visit) → NoFault (visits_of key o below) → NoFault below
inner_none key None below h = none_below key below h
inner_none key (Some fault) below h = absurd (cc)

module _ (e : Setting) where
  -- in these what is planned deeper is the plan where what is visited deeper has no fault
  module _ (seen : List ℕ → Position → List Visit) (made : Place → Position → Plan) (deeper : (place : Place) (p : Position) → NoFault (seen (types_of place) p) → IsPlan e place p (made place p)) where
    nodes_planned : (T : ℕ) (p : Position) (ks : List (List ℕ)) → NoFault (flat_map (visits_of_key e seen p T) ks) → AreNodes e T ks p (planned_nodes e made p T ks)
    nodes_planned T p [] h = tt
    nodes_planned T p (k ∷ ks) h =
        let place : Place = place_at e T (call_under e T k p) in
        let below : Position = below_key e T k p in (
          refl,
          deeper place below (inner_none k (fault_of e T p.handed (fields_under e T k p)) (seen (types_of place) below) (none_in_front (visits_of_key e seen p T k) (flat_map (visits_of_key e seen p T) ks) h)),
          nodes_planned T p ks (none_behind (visits_of_key e seen p T k) (flat_map (visits_of_key e seen p T) ks) h),
        )

    types_planned : (p : Position) (Ts : List ℕ) → NoFault (flat_map (visits_of_type e seen p) Ts) → ArePossible e Ts p (planned_types e made p Ts)
    types_planned p [] h = tt
    types_planned p (T ∷ Ts) h = (
      refl,
      refl,
      nodes_planned T p (keys_at e T p) (none_in_front (visits_of_type e seen p T) (flat_map (visits_of_type e seen p) Ts) h),
      types_planned p Ts (none_behind (visits_of_type e seen p T) (flat_map (visits_of_type e seen p) Ts) h),
    )

    place_planned : (place : Place) (p : Position) → NoFault (flat_map (visits_of_type e seen p) (types_of place)) → IsPlan e place p (planned_at e made place p)
    place_planned (leaf_place type weight fill) p h = (refl, refl, refl)
    place_planned (object_place Ts) p h = types_planned p Ts h

  -- At the deepest level a node is at fault, so that there is none.

  deepest_nodes : (T : ℕ) (p : Position) (ks : List (List ℕ)) → NoFault (map too_deep_at ks) → AreNodes e T ks p (planned_nodes e nothing_planned p T ks)
  deepest_nodes T p [] h = tt
  deepest_nodes T p (k ∷ ks) h = absurd (cc)

  deepest_types : (p : Position) (Ts : List ℕ) → NoFault (flat_map (deepest_visits e p) Ts) → ArePossible e Ts p (planned_types e nothing_planned p Ts)
  deepest_types p [] h = tt
  deepest_types p (T ∷ Ts) h = (
    refl,
    refl,
    deepest_nodes T p (keys_at e T p) (none_in_front (deepest_visits e p T) (flat_map (deepest_visits e p) Ts) h),
    deepest_types p Ts (none_behind (deepest_visits e p T) (flat_map (deepest_visits e p) Ts) h),
  )

  pub faultless_is_planned : (levels : ℕ) (place : Place) (p : Position) → NoFault (visits e levels (types_of place) p) → IsPlan e place p (planned e levels place p)
  unfolding visits planned
  faultless_is_planned zero (leaf_place type weight fill) p h = (refl, refl, refl)
  faultless_is_planned zero (object_place Ts) p h = deepest_types p Ts h
  faultless_is_planned (suc levels) place p h = place_planned (visits e levels) (planned e levels) (faultless_is_planned levels) place p h
