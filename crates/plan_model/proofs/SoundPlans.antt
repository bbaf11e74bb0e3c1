-- Where no visit has a fault, what is planned is sound.
use Rattle.std.proofs.Common.{◌≡◌, ℕ, zero, suc, List, [], ◌∷◌, map, flat_map, Bool, false, ◌||◌, eqb, Option, Some, None, refl, ap, ◌∙◌}
use Rattle.response_model.specs.Plan.{Form, single, listed, Plan, is_possible}
use Rattle.response_model.specs.Bound.{IsCountable, HasType, IsSound, TypesSound, NodesSound}
use Rattle.schema_rules.specs.First.{or_else, fault_where, first_of}
use Rattle.schema_rules.proofs.FirstFaults.{neither, not_told}
use Rattle.plan_model.specs.SelectedFields.{Setting, Place, leaf_place, object_place, types_of, lacks_types, holds, form_at, place_at, size_at}
use Rattle.plan_model.specs.Merging.{Position, keys_at, first_call, fields_under, call_under, below_key}
use Rattle.plan_model.specs.Responses.{is_among}
use Rattle.plan_model.specs.Visits.{NodeFault, conflict, no_possible_type, names_differ, argument_fault, arguments_differ, size_fault, fault_of, Visit, visits_of_key, visits_of_type, too_deep_at, deepest_visits, visits, planned_nodes, planned_types, planned_at, nothing_planned, planned}
use Rattle.plan_model.specs.Sound.{AreDistinct, IsSoundPlace, IsCountablePlace, IsSoundSetting}
use Rattle.plan_model.proofs.FaultlessPlans.{NoFault, none_in_front, none_behind, own_none, inner_none}

last_of_five : (a b c d : Option NodeFault) (test : Bool) (fault : NodeFault) → or_else a (or_else b (or_else c (or_else d (fault_where test fault)))) ≡ None → test ≡ false
last_of_five a b c d test fault h =
    let after_a = (neither a (or_else b (or_else c (or_else d (fault_where test fault)))) h).1 in
    let after_b = (neither b (or_else c (or_else d (fault_where test fault))) after_a).1 in
    let after_c = (neither c (or_else d (fault_where test fault)) after_b).1 in
    not_told test fault ((neither d (fault_where test fault) after_c).1)

module _ (e : Setting) where
  same_possible : (made : Place → Position → Plan) (p : Position) (T : ℕ) (Ts : List ℕ) → is_possible T (planned_types e made p Ts) ≡ is_among T Ts
  same_possible made p T [] = refl
  same_possible made p T (U ∷ Us) = ap (λ b. eqb U T || b) (same_possible made p T Us)

  has_type : (made : Place → Position → Plan) (p : Position) (Ts : List ℕ) → lacks_types (object_place Ts) ≡ false → HasType (planned_types e made p Ts)
  has_type made p [] h = absurd (cc)
  has_type made p (T ∷ Ts) h = tt

  has_some : (T : ℕ) (p : Position) (k : List ℕ) → fault_of e T p.handed (fields_under e T k p) ≡ None → lacks_types (place_at e T (call_under e T k p)) ≡ false
  has_some T p k h =
      let fs = fields_under e T k p in
      last_of_five (fault_where (names_differ fs) conflict) (first_of (argument_fault e T) fs) (fault_where (arguments_differ e T fs) conflict) (size_fault e T p.handed (first_call fs)) (lacks_types (place_at e T (first_call fs))) no_possible_type h

  countable : (made : Place → Position → Plan) (form : Form) (size : Option ℕ) (place : Place) (p : Position) → IsCountablePlace form size place → IsCountable form size (planned_at e made place p)
  countable made (single nullable) size place p h = tt
  countable made (listed nullable item_nullable) (Some size) place p h = tt
  countable made (listed nullable item_nullable) None (leaf_place type weight fill) p h = h
  countable made (listed nullable item_nullable) None (object_place Ts) p h = absurd h

  countable_to : (levels : ℕ) (form : Form) (size : Option ℕ) (place : Place) (p : Position) → IsCountablePlace form size place → IsCountable form size (planned e levels place p)
  unfolding planned
  countable_to zero form size place p h = countable nothing_planned form size place p h
  countable_to (suc levels) form size place p h = countable (planned e levels) form size place p h

  module _ (sound : IsSoundSetting e) where
    -- in these what is planned deeper is sound where what is visited deeper has no fault
    module _ (seen : List ℕ → Position → List Visit) (made : Place → Position → Plan)
        (deeper : (place : Place) (p : Position) → IsSoundPlace e place → lacks_types place ≡ false → NoFault (seen (types_of place) p) → IsSound (holds e.schema) (made place p))
        (counted : (form : Form) (size : Option ℕ) (place : Place) (p : Position) → IsCountablePlace form size place → IsCountable form size (made place p)) where
      nodes_sound : (T : ℕ) (p : Position) (ks : List (List ℕ)) → NoFault (flat_map (visits_of_key e seen p T) ks) → NodesSound (holds e.schema) (planned_nodes e made p T ks)
      nodes_sound T p [] h = tt
      nodes_sound T p (k ∷ ks) h =
          let c = call_under e T k p in
          let place = place_at e T c in
          let below = below_key e T k p in
          let fault = fault_of e T p.handed (fields_under e T k p) in
          let mine : NoFault (visits_of_key e seen p T k) = none_in_front (visits_of_key e seen p T k) (flat_map (visits_of_key e seen p T) ks) h in (
            counted (form_at e T c) (size_at e T c p.handed) place below (sound.lists T c p.handed),
            deeper place below (sound.places T c) (has_some T p k (own_none k fault (seen (types_of place) below) mine)) (inner_none k fault (seen (types_of place) below) mine),
            nodes_sound T p ks (none_behind (visits_of_key e seen p T k) (flat_map (visits_of_key e seen p T) ks) h),
          )

      types_sound : (p : Position) (Ts : List ℕ) → AreDistinct Ts → NoFault (flat_map (visits_of_type e seen p) Ts) → TypesSound (holds e.schema) (planned_types e made p Ts)
      types_sound p [] distinct h = tt
      types_sound p (T ∷ Ts) distinct h = (
        same_possible made p T Ts ∙ distinct.0,
        nodes_sound T p (keys_at e T p) (none_in_front (visits_of_type e seen p T) (flat_map (visits_of_type e seen p) Ts) h),
        types_sound p Ts distinct.1 (none_behind (visits_of_type e seen p T) (flat_map (visits_of_type e seen p) Ts) h),
      )

      place_sound : (place : Place) (p : Position) → IsSoundPlace e place → lacks_types place ≡ false → NoFault (flat_map (visits_of_type e seen p) (types_of place)) → IsSound (holds e.schema) (planned_at e made place p)
      place_sound (leaf_place type weight fill) p fills some h = fills
      place_sound (object_place Ts) p distinct some h = (has_type made p Ts some, types_sound p Ts distinct h)

    deepest_nodes : (T : ℕ) (p : Position) (ks : List (List ℕ)) → NoFault (map too_deep_at ks) → NodesSound (holds e.schema) (planned_nodes e nothing_planned p T ks)
    deepest_nodes T p [] h = tt
    deepest_nodes T p (k ∷ ks) h = absurd (cc)

    deepest_types : (p : Position) (Ts : List ℕ) → AreDistinct Ts → NoFault (flat_map (deepest_visits e p) Ts) → TypesSound (holds e.schema) (planned_types e nothing_planned p Ts)
    deepest_types p [] distinct h = tt
    deepest_types p (T ∷ Ts) distinct h = (
      same_possible nothing_planned p T Ts ∙ distinct.0,
      deepest_nodes T p (keys_at e T p) (none_in_front (deepest_visits e p T) (flat_map (deepest_visits e p) Ts) h),
      deepest_types p Ts distinct.1 (none_behind (deepest_visits e p T) (flat_map (deepest_visits e p) Ts) h),
    )

    pub faultless_is_sound : (levels : ℕ) (place : Place) (p : Position) → IsSoundPlace e place → lacks_types place ≡ false → NoFault (visits e levels (types_of place) p) → IsSound (holds e.schema) (planned e levels place p)
    unfolding visits planned
    faultless_is_sound zero (leaf_place type weight fill) p fills some h = fills
    faultless_is_sound zero (object_place Ts) p distinct some h = (has_type nothing_planned p Ts some, deepest_types p Ts distinct h)
    faultless_is_sound (suc levels) place p fine some h = place_sound (visits e levels) (planned e levels) (faultless_is_sound levels) (countable_to levels) place p fine some h
