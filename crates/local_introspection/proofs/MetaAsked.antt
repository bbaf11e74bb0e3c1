-- Where an operation is planned well over the schema of schemas, each node that it asks is one of that schema's fields.
use Rattle.std.proofs.Common.{◌≡◌, ℕ, zero, suc, List, [], ◌∷◌, map, flat_map, Bool, true, false, Option, Some, None, refl, sym, ap, subst}
use Rattle.serde_json.specs.Data.{string}
use Rattle.cost_num.specs.Capped.{capped}
use Rattle.response_model.specs.Plan.{LeafType, type_name, numbered}
use Rattle.schema_rules.specs.First.{or_else, fault_where, first_of}
use Rattle.schema_rules.proofs.FirstFaults.{neither}
use Rattle.document_reader.specs.declared.trees.Operation.{Operation}
use Rattle.plan_model.specs.SelectedFields.{Setting, FieldCall, HandedSize, Place, types_of, lacks_types, place_at, arguments_at, if_coerced}
use Rattle.plan_model.specs.Collecting.{CollectedField}
use Rattle.plan_model.specs.Merging.{Position, keys_at, first_call, fields_under, call_under, selected_under, below_key}
use Rattle.plan_model.specs.Plans.{with_capped}
use Rattle.plan_model.specs.Visits.{conflict, no_possible_type, names_differ, argument_fault, arguments_differ, size_fault, fault_of, Visit, visits_of_key, visits_of_type, too_deep_at, deepest_visits, visits, level_limit, node_limit}
use Rattle.plan_model.specs.Operations.{root_position, root_place, nodes_visited, IsPlannedWell}
use Rattle.plan_model.proofs.FaultlessPlans.{NoFault, none_in_front, none_behind, own_none, inner_none}
use Rattle.plan_model.proofs.PlannedWell.{none_at_fault}
use Rattle.schema_facts.specs.declared.table.What.{What}
use Rattle.schema_facts.specs.declared.table.What.TheVariants as what
use Rattle.meta_schema.specs.PassedOn.{Asked, AskedBelow, fields_asked, asked_at, nothing_below, asked, asked_operation, argument_kept}
use Rattle.meta_schema.specs.MetaForms.{below_of, leaf_type_of, meta_name}
use Rattle.meta_schema.specs.MetaFields.{IsObjectType, meta_fill, place_by, meta_place, IsMetaField, HasMetaForm}
use Rattle.meta_schema.specs.Fields.{what_asked}
use Rattle.local_introspection.specs.MetaNodes.{IsFieldNode, IsMetaLeaf, AreMetaFields, IsMetaBelow, IsMetaRoot}

-- ---- nodes without a fault have a field

last_none : {F : Type 0} (a b c d last : Option F) → or_else a (or_else b (or_else c (or_else d last))) ≡ None → last ≡ None
last_none a b c d last h = (neither d last ((neither c (or_else d last) ((neither b (or_else c (or_else d last)) ((neither a (or_else b (or_else c (or_else d last))) h).1)).1)).1)).1

not_where : (is : Bool) → fault_where is no_possible_type ≡ None → is ≡ false
not_where true h = absurd (cc)
not_where false h = refl

has_place : (e : Setting) (T : ℕ) (handed : HandedSize) (fields : List CollectedField) → fault_of e T handed fields ≡ None → lacks_types (place_at e T (first_call fields)) ≡ false
has_place e T handed fields h =
    not_where (lacks_types (place_at e T (first_call fields)))
    (last_none (fault_where (names_differ fields) conflict) (first_of (argument_fault e T) fields) (fault_where (arguments_differ e T fields) conflict) (size_fault e T handed (first_call fields)) (fault_where (lacks_types (place_at e T (first_call fields))) no_possible_type) h)

-- ---- the types below fields

some_same : (n U : ℕ) → Some n ≡ Some U → n ≡ U
some_same n U is = cc

by_number : (n U : ℕ) → Some n ≡ Some U → IsObjectType n → IsObjectType U
by_number n U is there = subst IsObjectType (some_same n U is) there

below_is_object : (w : What) (U : ℕ) → below_of w ≡ Some U → IsObjectType U
below_is_object what.TypeName U is = absurd (cc)
below_is_object what.Schema U is = by_number 1 U is refl
below_is_object (what.Named of) U is = by_number 2 U is refl
below_is_object what.Description U is = absurd (cc)
below_is_object what.Types U is = by_number 2 U is refl
below_is_object what.QueryType U is = by_number 2 U is refl
below_is_object what.MutationType U is = by_number 2 U is refl
below_is_object what.SubscriptionType U is = by_number 2 U is refl
below_is_object what.Directives U is = by_number 7 U is refl
below_is_object what.Kind U is = absurd (cc)
below_is_object what.Name U is = absurd (cc)
below_is_object (what.Fields all) U is = by_number 4 U is refl
below_is_object what.Interfaces U is = by_number 2 U is refl
below_is_object what.PossibleTypes U is = by_number 2 U is refl
below_is_object (what.EnumValues all) U is = by_number 6 U is refl
below_is_object what.InputFields U is = by_number 5 U is refl
below_is_object what.OfType U is = by_number 2 U is refl
below_is_object what.SpecifiedByUrl U is = absurd (cc)
below_is_object what.Args U is = by_number 5 U is refl
below_is_object what.FieldType U is = by_number 2 U is refl
below_is_object what.IsDeprecated U is = absurd (cc)
below_is_object what.DeprecationReason U is = absurd (cc)
below_is_object what.DefaultValue U is = absurd (cc)
below_is_object what.Locations U is = absurd (cc)
below_is_object what.IsRepeatable U is = absurd (cc)

module _ (query : List ℕ) (e : Setting) (meta : HasMetaForm query e) (place : List ℕ → Option ℕ) where
  abbrev Fields : ℕ → Asked → Type 0
  Fields T fields = AreMetaFields place query T fields

  abbrev Below : ℕ → What → AskedBelow → Type 0
  Below T w below = IsMetaBelow place query T w below

  -- what is asked deeper is of the schema of schemas where no node that is visited has a fault
  abbrev IsRightBelow : (List ℕ → Position → List Visit) → (Place → Position → AskedBelow) → Type 0
  IsRightBelow seen deeper = (T : ℕ) (w : What) (p : Position) → IsObjectType T → NoFault (seen (types_of (meta_place e.schema T w)) p) → Below T w (deeper (meta_place e.schema T w) p)

  node_is_field : (T : ℕ) (k : List ℕ) (p : Position) (w : What) → IsMetaField e T (call_under e T k p) w → IsFieldNode T (with_capped (selected_under e T k p)) w
  node_is_field T k p w is = record { of = is.own; form = is.form; weight = is.weight; arguments = ap capped is.arguments }

  fields_right : (seen : List ℕ → Position → List Visit) (deeper : Place → Position → AskedBelow) → IsRightBelow seen deeper
      → (T : ℕ) → IsObjectType T → (p : Position) (ks : List (List ℕ)) → NoFault (flat_map (visits_of_key e seen p T) ks) → Fields T (fields_asked e deeper T p ks)
  fields_right seen deeper right T object p [] h = tt
  fields_right seen deeper right T object p (k ∷ ks) h =
      let c : FieldCall = call_under e T k p in
      let w : What = what_asked c.name (argument_kept place (if_coerced (arguments_at e T c))) in
      let here : NoFault (visits_of_key e seen p T k) = none_in_front (visits_of_key e seen p T k) (flat_map (visits_of_key e seen p T) ks) h in
      let below : List Visit = seen (types_of (place_at e T c)) (below_key e T k p) in
      let is : IsMetaField e T c w = meta.fields T c (argument_kept place (if_coerced (arguments_at e T c))) (has_place e T p.handed (fields_under e T k p) (own_none k (fault_of e T p.handed (fields_under e T k p)) below here)) in (
        node_is_field T k p w is,
        subst (λ (there : Place). Below T w (deeper there (below_key e T k p))) (sym is.place)
            (right T w (below_key e T k p) object (subst (λ (there : Place). NoFault (seen (types_of there) (below_key e T k p))) is.place (inner_none k (fault_of e T p.handed (fields_under e T k p)) below here))),
        fields_right seen deeper right T object p ks (none_behind (visits_of_key e seen p T k) (flat_map (visits_of_key e seen p T) ks) h),
      )

  -- a leaf
  leaf_named : (T : ℕ) (type : LeafType) → IsObjectType T → type ≡ type_name → meta_fill e.schema T type ≡ string (meta_name query T)
  leaf_named T type_name object is = ap string (meta.names T object)
  leaf_named T (numbered n) object is = absurd (cc)

  leaf_right : (T : ℕ) (w : What) → IsObjectType T → below_of w ≡ None → IsMetaLeaf place query T w (leaf_type_of w) 0 (meta_fill e.schema T (leaf_type_of w))
  leaf_right T w object none = record { alone = none; of = refl; weightless = refl; named = leaf_named T (leaf_type_of w) object }

  -- at objects of one type
  module _ (seen : List ℕ → Position → List Visit) (deeper : Place → Position → AskedBelow) (each : (U : ℕ) → IsObjectType U → (p : Position) → NoFault (seen (U ∷ []) p) → Fields U (fields_asked e deeper U p (keys_at e U p))) where
    place_right : (T : ℕ) (w : What) (b : Option ℕ) (p : Position) → IsObjectType T → below_of w ≡ b → NoFault (seen (types_of (place_by e.schema T (leaf_type_of w) b)) p) → Below T w (asked_at e deeper (place_by e.schema T (leaf_type_of w) b) p)
    place_right T w None p object is h = leaf_right T w object is
    place_right T w (Some U) p object is h = let there = below_is_object w U is in (is, meta.weights U there, each U there p h)

  no_deeper : (U : ℕ) (p : Position) (ks : List (List ℕ)) → NoFault (map too_deep_at ks) → Fields U (fields_asked e nothing_below U p ks)
  no_deeper U p [] h = tt
  no_deeper U p (k ∷ ks) h = absurd (cc)

  deepest : (U : ℕ) → IsObjectType U → (p : Position) → NoFault (flat_map (deepest_visits e p) (U ∷ [])) → Fields U (fields_asked e nothing_below U p (keys_at e U p))
  deepest U object p h = no_deeper U p (keys_at e U p) (none_in_front (deepest_visits e p U) [] h)

  one_type : (seen : List ℕ → Position → List Visit) (deeper : Place → Position → AskedBelow) → IsRightBelow seen deeper
      → (U : ℕ) → IsObjectType U → (p : Position) → NoFault (flat_map (visits_of_type e seen p) (U ∷ [])) → Fields U (fields_asked e deeper U p (keys_at e U p))
  one_type seen deeper right U object p h = fields_right seen deeper right U object p (keys_at e U p) (none_in_front (visits_of_type e seen p U) [] h)

  asked_right : (levels : ℕ) → IsRightBelow (visits e levels) (asked e levels)
  unfolding visits asked
  asked_right zero T w p object h = place_right (λ Ts q. flat_map (deepest_visits e q) Ts) nothing_below deepest T w (below_of w) p object refl h
  asked_right (suc levels) T w p object h =
      place_right (λ Ts q. flat_map (visits_of_type e (visits e levels) q) Ts) (asked e levels) (one_type (visits e levels) (asked e levels) (asked_right levels)) T w (below_of w) p object refl h

  -- the root
  rooted : (levels : ℕ) (p : Position) → NoFault (visits e levels (0 ∷ []) p) → IsMetaRoot place query (asked e levels (root_place 0) p)
  unfolding visits asked
  rooted zero p h = (refl, meta.weights 0 refl, deepest 0 refl p h)
  rooted (suc levels) p h = (refl, meta.weights 0 refl, one_type (visits e levels) (asked e levels) (asked_right levels) 0 refl p h)

  pub root_is_meta : (o : Operation) → IsPlannedWell e 0 o → IsMetaRoot place query (asked_operation e 0 o)
  root_is_meta o well = rooted level_limit (root_position 0 o) (none_at_fault node_limit (nodes_visited e 0 o) well)
