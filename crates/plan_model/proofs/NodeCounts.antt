-- Where no visit has a fault, there are as many visits as the plan has nodes.
use Rattle.std.proofs.Common.{◌≡◌, ℕ, zero, suc, ◌+◌, List, [], ◌∷◌, ◌++◌, map, flat_map, length, length-append, Option, Some, None, refl, ap, arith}
use Rattle.std.proofs.lemmas.List.{length-map}
use Rattle.response_model.specs.Plan.{Plan}
use Rattle.plan_model.specs.SelectedFields.{Setting, Place, leaf_place, object_place, types_of, place_at}
use Rattle.plan_model.specs.Merging.{Position, keys_at, fields_under, call_under, below_key}
use Rattle.plan_model.specs.Plans.{node_count, nodes_of_types, nodes_of_one}
use Rattle.plan_model.specs.Visits.{NodeFault, fault_of, Visit, under_key, visits_of, visits_of_key, visits_of_type, too_deep_at, deepest_visits, visits, planned_nodes, planned_types, planned_at, nothing_planned, planned}
use Rattle.plan_model.proofs.FaultlessPlans.{NoFault, none_in_front, none_behind, own_none, inner_none}

own_count : (key : List ℕ) (o : Option NodeFault) (below : List Visit) → o ≡ None → length (visits_of key o below) ≡ suc (length below)
own_count key None below h = ap suc (length-map below (under_key key))
own_count key (Some fault) below h = absurd (cc)

with_one : (n m own inner others all : ℕ) → all ≡ own + others → own ≡ suc inner → n ≡ inner → m ≡ others → suc (n + m) ≡ all
with_one n m own inner others all a b c d = omega arith

in_two : (n m own others all : ℕ) → all ≡ own + others → n ≡ own → m ≡ others → n + m ≡ all
in_two n m own others all a b c = omega arith

module _ (e : Setting) where
  -- in these what is planned deeper has as many nodes as are visited deeper, where none is at fault
  module _ (seen : List ℕ → Position → List Visit) (made : Place → Position → Plan) (deeper : (place : Place) (p : Position) → NoFault (seen (types_of place) p) → node_count (made place p) ≡ length (seen (types_of place) p)) where
    nodes_counted : (T : ℕ) (p : Position) (ks : List (List ℕ)) → NoFault (flat_map (visits_of_key e seen p T) ks) → nodes_of_one (planned_nodes e made p T ks) ≡ length (flat_map (visits_of_key e seen p T) ks)
    nodes_counted T p [] h = refl
    nodes_counted T p (k ∷ ks) h =
        let place : Place = place_at e T (call_under e T k p) in
        let below : Position = below_key e T k p in
        let fault : Option NodeFault = fault_of e T p.handed (fields_under e T k p) in
        let inner : List Visit = seen (types_of place) below in
        let own : List Visit = visits_of_key e seen p T k in
        let others : List Visit = flat_map (visits_of_key e seen p T) ks in
        let mine : NoFault own = none_in_front own others h in
        with_one (node_count (made place below)) (nodes_of_one (planned_nodes e made p T ks)) (length own) (length inner) (length others) (length (own ++ others))
        (length-append own others) (own_count k fault inner (own_none k fault inner mine)) (deeper place below (inner_none k fault inner mine)) (nodes_counted T p ks (none_behind own others h))

    types_counted : (p : Position) (Ts : List ℕ) → NoFault (flat_map (visits_of_type e seen p) Ts) → nodes_of_types (planned_types e made p Ts) ≡ length (flat_map (visits_of_type e seen p) Ts)
    types_counted p [] h = refl
    types_counted p (T ∷ Ts) h =
        let own : List Visit = visits_of_type e seen p T in
        let others : List Visit = flat_map (visits_of_type e seen p) Ts in
        in_two (nodes_of_one (planned_nodes e made p T (keys_at e T p))) (nodes_of_types (planned_types e made p Ts)) (length own) (length others) (length (own ++ others))
        (length-append own others) (nodes_counted T p (keys_at e T p) (none_in_front own others h)) (types_counted p Ts (none_behind own others h))

    place_counted : (place : Place) (p : Position) → NoFault (flat_map (visits_of_type e seen p) (types_of place)) → node_count (planned_at e made place p) ≡ length (flat_map (visits_of_type e seen p) (types_of place))
    place_counted (leaf_place type weight fill) p h = refl
    place_counted (object_place Ts) p h = types_counted p Ts h

  deepest_counted : (T : ℕ) (p : Position) (ks : List (List ℕ)) → NoFault (map too_deep_at ks) → nodes_of_one (planned_nodes e nothing_planned p T ks) ≡ length (map too_deep_at ks)
  deepest_counted T p [] h = refl
  deepest_counted T p (k ∷ ks) h = absurd (cc)

  deepest_types : (p : Position) (Ts : List ℕ) → NoFault (flat_map (deepest_visits e p) Ts) → nodes_of_types (planned_types e nothing_planned p Ts) ≡ length (flat_map (deepest_visits e p) Ts)
  deepest_types p [] h = refl
  deepest_types p (T ∷ Ts) h =
      let own : List Visit = deepest_visits e p T in
      let others : List Visit = flat_map (deepest_visits e p) Ts in
      in_two (nodes_of_one (planned_nodes e nothing_planned p T (keys_at e T p))) (nodes_of_types (planned_types e nothing_planned p Ts)) (length own) (length others) (length (own ++ others))
      (length-append own others) (deepest_counted T p (keys_at e T p) (none_in_front own others h)) (deepest_types p Ts (none_behind own others h))

  pub planned_counted : (levels : ℕ) (place : Place) (p : Position) → NoFault (visits e levels (types_of place) p) → node_count (planned e levels place p) ≡ length (visits e levels (types_of place) p)
  unfolding visits planned
  planned_counted zero (leaf_place type weight fill) p h = refl
  planned_counted zero (object_place Ts) p h = deepest_types p Ts h
  planned_counted (suc levels) place p h = place_counted (visits e levels) (planned e levels) (planned_counted levels) place p h
