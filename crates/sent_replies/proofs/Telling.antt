-- A plan without faults asks for the names of types wherever several types are possible.
use Rattle.std.proofs.Common.{◌≡◌, ◌⊎◌, inl, inr, ⊎_elim, ℕ, zero, suc, List, [], ◌∷◌, map, flat_map, Bool, true, false, not, true≢false, ◌||◌, eqb, eq-eqb, bytes_eq, Option, Some, None, refl, sym, ap, ◌∙◌, subst}
use Rattle.std.specs.Prelude.{if◌then◌else◌}
use Rattle.std.specs.List.{list_any}
use Rattle.std.proofs.lemmas.Bool.{cases_Bool, or_right, not-false, or_parts}
use Rattle.std.proofs.lemmas.Option.{same_Some}
use Rattle.std.proofs.lemmas.Slice.Eq.{bytes_eq-Decides}
use Rattle.response_model.specs.Plan.{Plan}
use Rattle.schema_rules.specs.First.{or_else, fault_where, first_of}
use Rattle.schema_rules.proofs.FirstFaults.{neither, not_told}
use Rattle.schema_model.specs.SchemaData.{SchemaData, field_named, applies, possible}
use Rattle.document_rules.specs.Sites.{name_of_type, typename, is_composite, when_composite, field_or_none, meaning_on, type_of_field, below_field}
use Rattle.document_rules.specs.Rules.{is_no_such_field}
use Rattle.plan_model.specs.SelectedFields.{Setting, HandedSize, Place, leaf_place, object_place, types_of, lacks_types, leaf_of, place_of_type, place_of, place_at, is_abstract, written_below, is_asked}
use Rattle.plan_model.specs.Collecting.{CollectedField}
use Rattle.plan_model.specs.Merging.{Position, keys_from, has_key, fields_of_key, first_call, selections_below, asks, position_below, fields_at, keys_at, fields_under, call_under, below_key}
use Rattle.plan_model.specs.Responses.{is_among}
use Rattle.plan_model.specs.Visits.{conflict, no_possible_type, names_differ, argument_fault, arguments_differ, size_fault, fault_of, Visit, visits_of_key, visits_of_type, too_deep_at, deepest_visits, visits, planned_nodes, planned_types, planned_at, nothing_planned, planned}
use Rattle.plan_model.proofs.FaultlessPlans.{NoFault, none_in_front, none_behind, own_none, inner_none}
use Rattle.stripped_responses.proofs.RewrittenFields.{Each}
use Rattle.sent_replies.specs.Asking.{HasOneType, TellsType, TellsTypes, BelowTypesTell, BelowNodesTell}
use Rattle.sent_replies.specs.Interfaces.{IsNarrower, HasField, KeepsInterfaces}
use Rattle.sent_replies.proofs.PossibleTypes.{HasNoSecond, possible_applies}
use Rattle.sent_replies.proofs.Placed.{FragmentsKnown, StandAt, AllStandAt, FieldStands, stands_wider, composite_wider, object_is_narrowest, own_field, under_stands}

-- ---- keys have fields

abbrev IsKeyOf : List CollectedField → List ℕ → Type 0
IsKeyOf all k = list_any (has_key k) all ≡ true

keys_have : (all : List CollectedField) (seen : List (List ℕ)) (fs : List CollectedField) → ((k : List ℕ) → IsKeyOf fs k → IsKeyOf all k) → Each (IsKeyOf all) (keys_from seen fs)
keys_have all seen [] among = tt
keys_have all seen (f ∷ fs) among = ⊎_elim
    (λ (met : list_any (bytes_eq f.key) seen ≡ true). rw (met) (keys_have all seen fs (λ k has. among k (or_right (bytes_eq f.key k) (list_any (has_key k) fs) has))))
    (λ (new : list_any (bytes_eq f.key) seen ≡ false). rw (new) (among f.key (rw ((bytes_eq-Decides f.key f.key).1 refl) refl), keys_have all (f.key ∷ seen) fs (λ k has. among k (or_right (bytes_eq f.key k) (list_any (has_key k) fs) has))))
    (cases_Bool (list_any (bytes_eq f.key) seen))

abbrev HasFirst : List CollectedField → Type 0
HasFirst [] = ⊥
HasFirst (f ∷ fs) = Unit {0}

first_of_key : (k : List ℕ) (fs : List CollectedField) → IsKeyOf fs k → HasFirst (fields_of_key k fs)
first_of_key k [] has = absurd (true≢false (sym has))
first_of_key k (f ∷ fs) has = ⊎_elim
    (λ (here : bytes_eq f.key k ≡ true). rw (here) tt)
    (λ (other : bytes_eq f.key k ≡ false). rw (other) (first_of_key k fs (sym (ap (λ (b : Bool). b || list_any (has_key k) fs) other) ∙ has)))
    (cases_Bool (bytes_eq f.key k))

-- ---- fields of one key have one name

abbrev HasName : List ℕ → CollectedField → Type 0
HasName name f = f.call.name ≡ name

all_named : (name : List ℕ) (fs : List CollectedField) → list_any (λ f. not (bytes_eq f.call.name name)) fs ≡ false → Each (HasName name) fs
all_named name [] none = tt
all_named name (f ∷ fs) none =
    let both = or_parts (not (bytes_eq f.call.name name)) (list_any (λ g. not (bytes_eq g.call.name name)) fs) none in
    ((bytes_eq-Decides f.call.name name).0 (not-false (bytes_eq f.call.name name) both.0), all_named name fs both.1)

module _ (e : Setting) where
  abbrev s : SchemaData
  s = e.schema

  one_name : (T : ℕ) (handed : HandedSize) (fs : List CollectedField) → fault_of e T handed fs ≡ None → Each (HasName (first_call fs).name) fs
  one_name T handed fs none =
      all_named (first_call fs).name fs (not_told (names_differ fs) conflict (neither (fault_where (names_differ fs) conflict)
      (or_else (first_of (argument_fault e T) fs) (or_else (fault_where (arguments_differ e T fs) conflict) (or_else (size_fault e T handed (first_call fs)) (fault_where (lacks_types (place_at e T (first_call fs))) no_possible_type)))) none).0)

  -- ---- what may stand at a field

  -- objects, of the possible types of the type that the field returns
  record HoldsObjects (T : ℕ) (name : List ℕ) : Type 0 where
    field : ℕ
    named : field_named s T name ≡ Some field
    no_typename : bytes_eq name typename ≡ false
    composite : is_composite s (type_of_field s field) ≡ true
    place : place_of e T (meaning_on s (Some T) name) ≡ object_place (possible s (type_of_field s field))

  abbrev HoldsNone : ℕ → List ℕ → Type 0
  HoldsNone T name = types_of (place_of e T (meaning_on s (Some T) name)) ≡ []

  held : (T : ℕ) (name : List ℕ) → HoldsNone T name ⊎ HoldsObjects T name
  held T name = ⊎_elim
      (λ (is : bytes_eq name typename ≡ true). inl (ap (λ (b : Bool). types_of (place_of e T (if b then name_of_type else field_or_none s (field_named s T name)))) is))
      (λ (isnt : bytes_eq name typename ≡ false). by_field isnt (field_named s T name) refl)
      (cases_Bool (bytes_eq name typename))
    where
      by_field : bytes_eq name typename ≡ false → (o : Option ℕ) → field_named s T name ≡ o → HoldsNone T name ⊎ HoldsObjects T name
      by_field isnt None named =
          inl (ap (λ (b : Bool). types_of (place_of e T (if b then name_of_type else field_or_none s (field_named s T name)))) isnt ∙ ap (λ (o : Option ℕ). types_of (place_of e T (field_or_none s o))) named)
      by_field isnt (Some h) named =
          let known : place_of e T (meaning_on s (Some T) name) ≡ place_of_type e (type_of_field s h) =
          ap (λ (b : Bool). place_of e T (if b then name_of_type else field_or_none s (field_named s T name))) isnt ∙ ap (λ (o : Option ℕ). place_of e T (field_or_none s o)) named in
          ⊎_elim
          (λ (is : is_composite s (type_of_field s h) ≡ true).
          inr (record { field = h; named = named; no_typename = isnt; composite = is; place = known ∙ ap (λ (b : Bool). if b then object_place (possible s (type_of_field s h)) else leaf_of e (type_of_field s h)) is }))
          (λ (leaf : is_composite s (type_of_field s h) ≡ false). inl (ap types_of (known ∙ ap (λ (b : Bool). if b then object_place (possible s (type_of_field s h)) else leaf_of e (type_of_field s h)) leaf)))
          (cases_Bool (is_composite s (type_of_field s h)))

  module _ (keeps : KeepsInterfaces s) (T : ℕ) where
    -- the wider type that a field returns where it is written
    record Wider (f : CollectedField) (B : ℕ) : Type 0 where
      type : ℕ
      below : below_field s (meaning_on s f.parent f.call.name) ≡ when_composite s (Some type)
      narrower : IsNarrower s B type

    known_there : (o : Option ℕ) → is_no_such_field (field_or_none s o) ≡ false → (g : ℕ) × (o ≡ Some g)
    known_there None known = absurd (true≢false known)
    known_there (Some g) known = (g, refl)

    wider_type : (f : CollectedField) (name : List ℕ) (h : HoldsObjects T name) → FieldStands s T f → f.call.name ≡ name → Wider f (type_of_field s h.field)
    wider_type f name h stands named =
        let P : ℕ = stands.0 in
        let means : meaning_on s f.parent f.call.name ≡ field_or_none s (field_named s P name) =
        ap (λ (o : Option ℕ). meaning_on s o f.call.name) stands.1 ∙ (ap (meaning_on s (Some P)) named ∙ ap (λ (b : Bool). if b then name_of_type else field_or_none s (field_named s P name)) h.no_typename) in
        let there = known_there (field_named s P name) (sym (ap is_no_such_field means) ∙ stands.3) in
        let own : HasField s T name there.0 = own_field s keeps T P name there.0 stands.2 there.1 in
        record {
          type = type_of_field s there.0;
          below = ap (below_field s) (means ∙ ap (field_or_none s) there.1);
          narrower = subst (λ (field : ℕ). IsNarrower s (type_of_field s field) (type_of_field s there.0)) (same_Some own.0 h.field (sym own.1 ∙ h.named)) own.2;
        }

    -- selections below such a field stand where objects of the type that it returns may
    below_stands : (f : CollectedField) (name : List ℕ) (h : HoldsObjects T name) (U : ℕ) → FieldStands s T f → f.call.name ≡ name → applies s (type_of_field s h.field) U ≡ true → StandAt s U (selections_below e f)
    unfolding written_below
    below_stands f name h U stands named applied =
        let wider : Wider f (type_of_field s h.field) = wider_type f name h stands named in (
          wider.type,
          wider.below ∙ ap (λ (b : Bool). if b then Some wider.type else None) (composite_wider s keeps (type_of_field s h.field) wider.type wider.narrower h.composite),
          stands_wider s keeps U (type_of_field s h.field) wider.type wider.narrower applied,
          stands.4,
        )

    all_below : (fs : List CollectedField) (name : List ℕ) (h : HoldsObjects T name) (U : ℕ) → Each (FieldStands s T) fs → Each (HasName name) fs → applies s (type_of_field s h.field) U ≡ true → AllStandAt s U (map (selections_below e) fs)
    all_below [] name h U stands named applied = tt
    all_below (f ∷ fs) name h U stands named applied = (below_stands f name h U stands.0 named.0 applied, all_below fs name h U stands.1 named.1 applied)

    unasked_alone : (f : CollectedField) (name : List ℕ) (h : HoldsObjects T name) → FieldStands s T f → f.call.name ≡ name → asks e f ≡ false → HasNoSecond (possible s (type_of_field s h.field))
    unfolding is_asked written_below
    unasked_alone f name h stands named unasked =
        let wider : Wider f (type_of_field s h.field) = wider_type f name h stands named in
        object_is_narrowest s keeps (type_of_field s h.field) wider.type wider.narrower h.composite (sym (ap (is_abstract s) wider.below) ∙ unasked)

    -- ---- one node

    abbrev place_by : List CollectedField → Place
    place_by fs = place_at e T (first_call fs)

    abbrev AreAlone : Bool → Place → Type 0
    AreAlone asked place = asked ≡ false → HasNoSecond (types_of place)

    abbrev AreThere : Place → Position → Type 0
    AreThere place p = (U : ℕ) → is_among U (types_of place) ≡ true → AllStandAt s U p.selections

    node_alone : (fs : List CollectedField) → HasFirst fs → Each (FieldStands s T) fs → Each (HasName (first_call fs).name) fs → AreAlone (list_any (asks e) fs) (place_by fs)
    unfolding place_at
    node_alone [] first stands named = absurd first
    node_alone (f ∷ fs) first stands named = λ unasked. ⊎_elim
        (λ (none : HoldsNone T f.call.name). subst HasNoSecond (sym none) tt)
        (λ (h : HoldsObjects T f.call.name). subst (λ (place : Place). HasNoSecond (types_of place)) (sym h.place) (unasked_alone f f.call.name h stands.0 refl (or_parts (asks e f) (list_any (asks e) fs) unasked).0))
        (held T f.call.name)

    node_there : (fs : List CollectedField) → HasFirst fs → Each (FieldStands s T) fs → Each (HasName (first_call fs).name) fs → AreThere (place_by fs) (position_below e T fs)
    unfolding place_at
    node_there [] first stands named = absurd first
    node_there (f ∷ fs) first stands named = λ U among. ⊎_elim
        (λ (none : HoldsNone T f.call.name). absurd (true≢false (sym among ∙ ap (is_among U) none)))
        (λ (h : HoldsObjects T f.call.name). all_below (f ∷ fs) f.call.name h U stands named (possible_applies s (type_of_field s h.field) U (sym (ap (λ (place : Place). is_among U (types_of place)) h.place) ∙ among)))
        (held T f.call.name)

  -- ---- the whole plan

  one_planned : (made : Place → Position → Plan) (p : Position) (Ts : List ℕ) → HasNoSecond Ts → HasOneType (planned_types e made p Ts)
  one_planned made p [] alone = tt
  one_planned made p (T ∷ []) alone = tt
  one_planned made p (T ∷ (U ∷ Ts)) alone = absurd alone

  type_told : (asked : Bool) (made : Place → Position → Plan) (p : Position) (Ts : List ℕ) → (asked ≡ false → HasNoSecond Ts) → TellsType asked (planned_types e made p Ts)
  type_told true made p Ts alone = tt
  type_told false made p Ts alone = one_planned made p Ts (alone refl)

  module _ (keeps : KeepsInterfaces s) (fragments : FragmentsKnown s e.fragments) where
    -- In these what is planned deeper asks for the names of types, where what is visited deeper has no fault.
    module _ (seen : List ℕ → Position → List Visit) (made : Place → Position → Plan)
        (deeper : (asked : Bool) (place : Place) (p : Position) → (asked ≡ false → HasNoSecond (types_of place)) → ((U : ℕ) → is_among U (types_of place) ≡ true → AllStandAt s U p.selections) → NoFault (seen (types_of place) p) → TellsTypes asked (made place p)) where
      nodes_tell : (T : ℕ) (p : Position) (ks : List (List ℕ)) → AllStandAt s T p.selections → Each (IsKeyOf (fields_at e T p)) ks → NoFault (flat_map (visits_of_key e seen p T) ks) → BelowNodesTell (planned_nodes e made p T ks)
      nodes_tell T p [] stand keys none = tt
      nodes_tell T p (k ∷ ks) stand keys none =
          let fs : List CollectedField = fields_under e T k p in
          let place : Place = place_at e T (call_under e T k p) in
          let below : Position = below_key e T k p in
          let here : NoFault (visits_of_key e seen p T k) = none_in_front (visits_of_key e seen p T k) (flat_map (visits_of_key e seen p T) ks) none in
          let fine : fault_of e T p.handed fs ≡ None = own_none k (fault_of e T p.handed fs) (seen (types_of place) below) here in
          let first : HasFirst fs = first_of_key k (fields_at e T p) keys.0 in
          let stands : Each (FieldStands s T) fs = under_stands e keeps T k p fragments stand in
          let named : Each (HasName (first_call fs).name) fs = one_name T p.handed fs fine in (
            deeper (list_any (asks e) fs) place below (node_alone keeps T fs first stands named) (node_there keeps T fs first stands named) (inner_none k (fault_of e T p.handed fs) (seen (types_of place) below) here),
            nodes_tell T p ks stand keys.1 (none_behind (visits_of_key e seen p T k) (flat_map (visits_of_key e seen p T) ks) none),
          )

      types_tell : (p : Position) (Ts : List ℕ) → ((U : ℕ) → is_among U Ts ≡ true → AllStandAt s U p.selections) → NoFault (flat_map (visits_of_type e seen p) Ts) → BelowTypesTell (planned_types e made p Ts)
      types_tell p [] stand none = tt
      types_tell p (T ∷ Ts) stand none = (
        nodes_tell T p (keys_at e T p) (stand T (rw (eq-eqb T T refl) refl)) (keys_have (fields_at e T p) [] (fields_at e T p) (λ k has. has)) (none_in_front (visits_of_type e seen p T) (flat_map (visits_of_type e seen p) Ts) none),
        types_tell p Ts (λ U among. stand U (or_right (eqb T U) (is_among U Ts) among)) (none_behind (visits_of_type e seen p T) (flat_map (visits_of_type e seen p) Ts) none),
      )

      place_tells : (asked : Bool) (place : Place) (p : Position) → (asked ≡ false → HasNoSecond (types_of place)) → ((U : ℕ) → is_among U (types_of place) ≡ true → AllStandAt s U p.selections) → NoFault (flat_map (visits_of_type e seen p) (types_of place))
          → TellsTypes asked (planned_at e made place p)
      place_tells asked (leaf_place type weight fill) p alone stand none = tt
      place_tells asked (object_place Ts) p alone stand none = (type_told asked made p Ts alone, types_tell p Ts stand none)

    deepest_nodes : (T : ℕ) (p : Position) (ks : List (List ℕ)) → NoFault (map too_deep_at ks) → BelowNodesTell (planned_nodes e nothing_planned p T ks)
    deepest_nodes T p [] none = tt
    deepest_nodes T p (k ∷ ks) none = absurd (cc)

    deepest_types : (p : Position) (Ts : List ℕ) → NoFault (flat_map (deepest_visits e p) Ts) → BelowTypesTell (planned_types e nothing_planned p Ts)
    deepest_types p [] none = tt
    deepest_types p (T ∷ Ts) none = (
      deepest_nodes T p (keys_at e T p) (none_in_front (deepest_visits e p T) (flat_map (deepest_visits e p) Ts) none),
      deepest_types p Ts (none_behind (deepest_visits e p T) (flat_map (deepest_visits e p) Ts) none),
    )

    pub plan_tells : (levels : ℕ) (asked : Bool) (place : Place) (p : Position) → (asked ≡ false → HasNoSecond (types_of place)) → ((U : ℕ) → is_among U (types_of place) ≡ true → AllStandAt s U p.selections) → NoFault (visits e levels (types_of place) p)
        → TellsTypes asked (planned e levels place p)
    unfolding visits planned
    plan_tells zero asked (leaf_place type weight fill) p alone stand none = tt
    plan_tells zero asked (object_place Ts) p alone stand none = (type_told asked nothing_planned p Ts alone, deepest_types p Ts none)
    plan_tells (suc levels) asked place p alone stand none = place_tells (visits e levels) (planned e levels) (plan_tells levels) asked place p alone stand none
