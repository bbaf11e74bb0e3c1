-- What the tests of a node come to, where the meaning of its fields' name is known.
use Rattle.std.proofs.Common.{◌≡◌, ℕ, Bool, true, false, not, ◌&&◌, ◌||◌, if◌then◌else◌, List, [], ◌∷◌, bytes_eq, Option, Some, None, Result, Ok, Err, refl, sym, ap, ◌∙◌, subst}
use Rattle.std.specs.Prelude.{option_map}
use Rattle.std.specs.List.{list_any}
use Rattle.std.proofs.lemmas.Bool.{not-false, or_parts}
use Rattle.std.proofs.lemmas.Slice.Eq.{bytes_eq-Decides}
use Rattle.cost_num.specs.Capped.{capped}
use Rattle.response_model.specs.Plan.{Form, single, listed}
use Rattle.schema_rules.specs.First.{or_else, fault_where, first_of}
use Rattle.schema_model.specs.SchemaData.{possible}
use Rattle.schema_model.specs.Arguments.{ArgData}
use Rattle.cost_directives.specs.Weights.{argument_cost_in}
use Rattle.cost_directives.specs.declared.sizes.Size.{Size}
use Rattle.cost_directives.specs.declared.sizes.SizeFault.{SizeFault}
use Rattle.variable_coercion.specs.Refusals.{Refusal}
use Rattle.document_rules.specs.Sites.{Meaning, name_of_type, no_such_field, known_field, is_composite, type_of_field}
use Rattle.plan_model.specs.SelectedFields.{Setting, FieldCall, HandedSize, leaf_of, object_place, lacks_types, form_of, handed_in, arguments_of, refusal_of, if_coerced, size_answer, size_in, length_in, fault_in, sized_by, cost_of, place_of, meaning_at, form_at, place_at, arguments_at, size_answer_at, size_at, hands_at, cost_at}
use Rattle.plan_model.specs.Collecting.{CollectedField}
use Rattle.plan_model.specs.SameArguments.{same_arguments}
use Rattle.plan_model.specs.Visits.{NodeFault, conflict, refused_argument, refused_size, no_possible_type, argument_fault, arguments_differ, size_fault, fault_of}
use Rattle.plan_model.proofs.SameValues.{same_as_equal}
use Rattle.plan_table.specs.ListSizes.{size_from}
use Rattle.plan_table.specs.Tables.{meaning_of}
use Rattle.merged_selections.specs.declared.node.Looked.{Looked}
use Rattle.merged_selections.specs.declared.why.Why.{Why}
use Rattle.merged_selections.specs.NodeParts.{handed_data, lacks_types_below, is_none}
use Rattle.merged_selections.specs.NodeTests.{Looks, coerced_of, refused_in, first_refused, differs_from, differ_from, own_size, fault_of_others, IsFoundOf, LooksBehind, names_not, IsFound}

pub same_themselves : (args : List ArgData) → same_arguments args args ≡ true
same_themselves args = (same_as_equal args args).1 refl

mapped_or : {A B : Type 0} (f : A → B) (o p : Option A) → or_else (option_map f o) (option_map f p) ≡ option_map f (or_else o p)
mapped_or f None p = refl
mapped_or f (Some x) p = refl

module _ (e : Setting) (T : ℕ) (m : Meaning) where
  -- ---- the tests by the meaning of the name

  abbrev refused_by : CollectedField → Option NodeFault
  refused_by g = option_map refused_argument (refusal_of (arguments_of e m g.call.arguments))

  abbrev other_by : List ArgData → CollectedField → Bool
  other_by args g = not (same_arguments args (if_coerced (arguments_of e m g.call.arguments)))

  abbrev sized_answer : HandedSize → FieldCall → Result Size SizeFault
  sized_answer handed c = size_answer e m (if_coerced (arguments_of e m c.arguments)) (handed_in (form_of e.schema m) handed c.name)

  abbrev fault_by : HandedSize → CollectedField → List CollectedField → Option NodeFault
  fault_by handed f fields =
      or_else (first_of refused_by fields)
      (or_else (fault_where (list_any (other_by (if_coerced (arguments_of e m f.call.arguments))) fields) conflict)
      (or_else (option_map refused_size (fault_in (sized_answer handed f.call)))
      (fault_where (lacks_types (place_of e T m)) no_possible_type)))

  module _ (name : List ℕ) (means : meaning_at e T (record { name = name; arguments = [] }) ≡ m) where
    has_meaning : (g : CollectedField) → bytes_eq g.call.name name ≡ true → meaning_at e T g.call ≡ m
    has_meaning g same = ap (λ n. meaning_at e T (record { name = n; arguments = [] })) ((bytes_eq-Decides g.call.name name).0 same) ∙ means

    own_arguments : (g : CollectedField) → bytes_eq g.call.name name ≡ true → arguments_at e T g.call ≡ arguments_of e m g.call.arguments
    unfolding arguments_at
    own_arguments g same = ap (λ x. arguments_of e x g.call.arguments) (has_meaning g same)

    refused_alike : (fields : List CollectedField) → names_not name fields ≡ false → first_of (argument_fault e T) fields ≡ first_of refused_by fields
    refused_alike [] h = refl
    refused_alike (g ∷ fields) h =
        let parts = or_parts (not (bytes_eq g.call.name name)) (names_not name fields) h in
        ap (λ a. or_else (option_map refused_argument (refusal_of a)) (first_of (argument_fault e T) fields)) (own_arguments g (not-false (bytes_eq g.call.name name) parts.0))
        ∙ ap (λ o. or_else (refused_by g) o) (refused_alike fields parts.1)

    differ_alike : (args : List ArgData) (fields : List CollectedField) → names_not name fields ≡ false → list_any (λ g. not (same_arguments args (if_coerced (arguments_at e T g.call)))) fields ≡ list_any (other_by args) fields
    differ_alike args [] h = refl
    differ_alike args (g ∷ fields) h =
        let parts = or_parts (not (bytes_eq g.call.name name)) (names_not name fields) h in
        ap (λ a. not (same_arguments args (if_coerced a)) || list_any (λ g. not (same_arguments args (if_coerced (arguments_at e T g.call)))) fields) (own_arguments g (not-false (bytes_eq g.call.name name) parts.0))
        ∙ ap (λ b. other_by args g || b) (differ_alike args fields parts.1)

  module _ (f : CollectedField) (means : meaning_at e T f.call ≡ m) where
    own_size_answer : (handed : HandedSize) → size_answer_at e T f.call handed ≡ sized_answer handed f.call
    unfolding size_answer_at arguments_at form_at
    own_size_answer handed = ap (λ x. size_answer e x (if_coerced (arguments_of e x f.call.arguments)) (handed_in (form_of e.schema x) handed f.call.name)) means

    own_place : place_at e T f.call ≡ place_of e T m
    unfolding place_at
    own_place = ap (λ x. place_of e T x) means

    first_arguments : arguments_at e T f.call ≡ arguments_of e m f.call.arguments
    unfolding arguments_at
    first_arguments = ap (λ x. arguments_of e x f.call.arguments) means

    own_name : (others : List CollectedField) → names_not f.call.name others ≡ false → names_not f.call.name (f ∷ others) ≡ false
    own_name others h = rw ((bytes_eq-Decides f.call.name f.call.name).1 refl) h

    pub fault_by_meaning : (handed : HandedSize) (others : List CollectedField) → names_not f.call.name others ≡ false → fault_of e T handed (f ∷ others) ≡ fault_by handed f (f ∷ others)
    fault_by_meaning handed others h =
        let all : names_not f.call.name (f ∷ others) ≡ false = own_name others h in
        let fields : List CollectedField = f ∷ others in
        ap (λ b. or_else (fault_where b conflict) (or_else (first_of (argument_fault e T) fields) (or_else (fault_where (arguments_differ e T fields) conflict) (or_else (size_fault e T handed f.call) (fault_where (lacks_types (place_at e T f.call)) no_possible_type))))) all
        ∙ (ap (λ o. or_else o (or_else (fault_where (arguments_differ e T fields) conflict) (or_else (size_fault e T handed f.call) (fault_where (lacks_types (place_at e T f.call)) no_possible_type)))) (refused_alike f.call.name means fields all)
        ∙ (ap (λ b. or_else (first_of refused_by fields) (or_else (fault_where b conflict) (or_else (size_fault e T handed f.call) (fault_where (lacks_types (place_at e T f.call)) no_possible_type))))
        (ap (λ a. list_any (λ g. not (same_arguments (if_coerced a) (if_coerced (arguments_at e T g.call)))) fields) first_arguments ∙ differ_alike f.call.name means (if_coerced (arguments_of e m f.call.arguments)) fields all)
        ∙ (ap (λ a. or_else (first_of refused_by fields) (or_else (fault_where (list_any (other_by (if_coerced (arguments_of e m f.call.arguments))) fields) conflict) (or_else (option_map refused_size (fault_in a)) (fault_where (lacks_types (place_at e T f.call)) no_possible_type)))) (own_size_answer handed)
        ∙ ap (λ p. or_else (first_of refused_by fields) (or_else (fault_where (list_any (other_by (if_coerced (arguments_of e m f.call.arguments))) fields) conflict) (or_else (option_map refused_size (fault_in (sized_answer handed f.call))) (fault_where (lacks_types p) no_possible_type)))) own_place)))

    -- what is found of it
    pub found_by_meaning : (handed : HandedSize) (looked : Looked) → meaning_of looked.field ≡ m → size_from looked.source ≡ size_in (form_of e.schema m) (sized_answer handed f.call) → looked.arguments ≡ capped (cost_of e m (if_coerced (arguments_of e m f.call.arguments)))
        → handed_data looked.hands ≡ option_map (λ n. (sized_by e m, n)) (length_in (sized_answer None f.call)) → IsFound e T handed f.call looked
    unfolding size_at cost_at hands_at form_at
    found_by_meaning handed looked field size arguments hands = record {
      meaning = field ∙ sym means;
      size = size ∙ sym (ap (λ x. size_in (form_of e.schema x) (size_answer_at e T f.call handed)) means ∙ ap (λ a. size_in (form_of e.schema m) a) (own_size_answer handed));
      arguments = arguments ∙ sym (ap (λ x. capped (cost_of e x (if_coerced (arguments_at e T f.call)))) means ∙ ap (λ a. capped (cost_of e m (if_coerced a))) first_arguments);
      hands = hands ∙ sym (ap (λ x. option_map (λ n. (sized_by e x, n)) (length_in (size_answer_at e T f.call None))) means ∙ ap (λ a. option_map (λ n. (sized_by e m, n)) (length_in a)) (own_size_answer None));
    }

-- ---- results

pub looks_same : {X : Type 0} (P : X → Type 0) (result : Result X Why) (o p : Option NodeFault) → o ≡ p → Looks P result o → Looks P result p
looks_same P result o p is h = subst (λ q. Looks P result q) is h

pub looks_more : {X : Type 0} (P Q : X → Type 0) (result : Result X Why) (o : Option NodeFault) → ((x : X) → P x → Q x) → Looks P result o → Looks Q result o
looks_more P Q (Ok x) o more h = (h.0, more x h.1)
looks_more P Q (Err why) o more h = h

none_handed : (form : Form) (name : List ℕ) → handed_in form None name ≡ None
none_handed (single nullable) name = refl
none_handed (listed nullable item_nullable) name = refl

-- ---- the name means a field

module _ (e : Setting) (T field : ℕ) (handed : HandedSize) (f : CollectedField) (others : List CollectedField) where
  abbrev meant : Meaning
  meant = known_field field

  lacks_alike : lacks_types (place_of e T meant) ≡ lacks_types_below e.schema field
  lacks_alike = by_kind (is_composite e.schema (type_of_field e.schema field))
    where
      none_there : (Ts : List ℕ) → lacks_types (object_place Ts) ≡ is_none Ts
      none_there [] = refl
      none_there (U ∷ Us) = refl

      by_kind : (b : Bool) → lacks_types (if b then object_place (possible e.schema (type_of_field e.schema field)) else leaf_of e (type_of_field e.schema field)) ≡ (b && is_none (possible e.schema (type_of_field e.schema field)))
      by_kind true = none_there (possible e.schema (type_of_field e.schema field))
      by_kind false = refl

  mapped_refused : (fields : List CollectedField) → first_of (refused_by e T meant) fields ≡ option_map refused_argument (first_refused e field fields)
  mapped_refused [] = refl
  mapped_refused (g ∷ fields) = ap (λ o. or_else (refused_by e T meant g) o) (mapped_refused fields) ∙ mapped_or refused_argument (refused_in e field g) (first_refused e field fields)

  abbrev fault_from : Result (List ArgData) Refusal → Option NodeFault
  fault_from a =
      or_else (or_else (option_map refused_argument (refusal_of a)) (first_of (refused_by e T meant) others))
      (or_else (fault_where (not (same_arguments (if_coerced a) (if_coerced a)) || list_any (differs_from e field (if_coerced a)) others) conflict)
      (or_else (option_map refused_size (fault_in (size_answer e meant (if_coerced a) (handed_in (form_of e.schema meant) handed f.call.name))))
      (fault_where (lacks_types (place_of e T meant)) no_possible_type)))

  fault_from_others : (args : List ArgData) → fault_from (Ok args) ≡ fault_of_others e field handed f.call.name args others
  fault_from_others args =
      ap (λ b. or_else (first_of (refused_by e T meant) others) (or_else (fault_where (not b || differ_from e field args others) conflict) (or_else (option_map refused_size (fault_in (own_size e field handed f.call.name args))) (fault_where (lacks_types (place_of e T meant)) no_possible_type)))) (same_themselves args)
      ∙ (ap (λ o. or_else o (or_else (fault_where (differ_from e field args others) conflict) (or_else (option_map refused_size (fault_in (own_size e field handed f.call.name args))) (fault_where (lacks_types (place_of e T meant)) no_possible_type)))) (mapped_refused others)
      ∙ ap (λ b. or_else (option_map refused_argument (first_refused e field others)) (or_else (fault_where (differ_from e field args others) conflict) (or_else (option_map refused_size (fault_in (own_size e field handed f.call.name args))) (fault_where b no_possible_type)))) lacks_alike)

  module _ (means : meaning_at e T f.call ≡ meant) (names : names_not f.call.name others ≡ false) where
    abbrev IsFoundWith : List ArgData → Looked → Type 0
    IsFoundWith args looked = IsFoundOf e field handed f.call.name args looked

    found_here : (args : List ArgData) → coerced_of e field f ≡ Ok args → (looked : Looked) → IsFoundWith args looked → IsFound e T handed f.call looked
    found_here args is looked h = found_by_meaning e T meant f means handed looked h.meaning
        (h.size ∙ ap (λ a. size_in (form_of e.schema meant) (size_answer e meant (if_coerced a) (handed_in (form_of e.schema meant) handed f.call.name))) (sym is))
        (h.arguments ∙ ap (λ a. capped (argument_cost_in e.weights field (if_coerced a))) (sym is))
        (h.hands ∙ (ap (λ o. option_map (λ n. (sized_by e meant, n)) (length_in (size_answer e meant args o))) (sym (none_handed (form_of e.schema meant) f.call.name))
        ∙ ap (λ a. option_map (λ n. (sized_by e meant, n)) (length_in (size_answer e meant (if_coerced a) (handed_in (form_of e.schema meant) None f.call.name)))) (sym is)))

    by_answer : (result : Result Looked Why) (a : Result (List ArgData) Refusal) → coerced_of e field f ≡ a → LooksBehind e field IsFoundWith handed f.call.name others result a → Looks (IsFound e T handed f.call) result (fault_from a)
    by_answer result (Ok args) is h = looks_same (IsFound e T handed f.call) result (fault_of_others e field handed f.call.name args others) (fault_from (Ok args)) (sym (fault_from_others args))
        (looks_more (IsFoundWith args) (IsFound e T handed f.call) result (fault_of_others e field handed f.call.name args others) (found_here args is) h)
    by_answer result (Err refusal) is h = looks_more (λ x. ⊥) (IsFound e T handed f.call) result (Some (refused_argument refusal)) (λ x no_one. absurd no_one) h

    pub looks_at_field : (result : Result Looked Why) → LooksBehind e field IsFoundWith handed f.call.name others result (coerced_of e field f) → Looks (IsFound e T handed f.call) result (fault_of e T handed (f ∷ others))
    looks_at_field result h = looks_same (IsFound e T handed f.call) result (fault_from (coerced_of e field f)) (fault_of e T handed (f ∷ others)) (sym (fault_by_meaning e T meant f means handed others names))
        (by_answer result (coerced_of e field f) refl h)

-- ---- the name means no field

module _ (e : Setting) (T : ℕ) (m : Meaning) (bare : (w : CollectedField) → arguments_of e m w.call.arguments ≡ Ok []) (handed : HandedSize) (f : CollectedField) (others : List CollectedField) where
  no_refused : (fields : List CollectedField) → first_of (refused_by e T m) fields ≡ None
  no_refused [] = refl
  no_refused (g ∷ fields) = ap (λ a. or_else (option_map refused_argument (refusal_of a)) (first_of (refused_by e T m) fields)) (bare g) ∙ no_refused fields

  no_other : (fields : List CollectedField) → list_any (other_by e T m []) fields ≡ false
  no_other [] = refl
  no_other (g ∷ fields) = ap (λ a. not (same_arguments [] (if_coerced a)) || list_any (other_by e T m []) fields) (bare g) ∙ no_other fields

  pub fault_without_arguments : meaning_at e T f.call ≡ m → names_not f.call.name others ≡ false → (sized : Option NodeFault) → option_map refused_size (fault_in (sized_answer e T m handed f.call)) ≡ sized
      → fault_of e T handed (f ∷ others) ≡ or_else sized (fault_where (lacks_types (place_of e T m)) no_possible_type)
  fault_without_arguments means names sized is =
      fault_by_meaning e T m f means handed others names
      ∙ (ap (λ o. or_else o (or_else (fault_where (list_any (other_by e T m (if_coerced (arguments_of e m f.call.arguments))) (f ∷ others)) conflict) (or_else (option_map refused_size (fault_in (sized_answer e T m handed f.call))) (fault_where (lacks_types (place_of e T m)) no_possible_type)))) (no_refused (f ∷ others))
      ∙ (ap (λ a. or_else (fault_where (list_any (other_by e T m (if_coerced a)) (f ∷ others)) conflict) (or_else (option_map refused_size (fault_in (sized_answer e T m handed f.call))) (fault_where (lacks_types (place_of e T m)) no_possible_type))) (bare f)
      ∙ (ap (λ b. or_else (fault_where b conflict) (or_else (option_map refused_size (fault_in (sized_answer e T m handed f.call))) (fault_where (lacks_types (place_of e T m)) no_possible_type))) (no_other (f ∷ others))
      ∙ ap (λ o. or_else o (fault_where (lacks_types (place_of e T m)) no_possible_type)) is)))

module _ (e : Setting) (T : ℕ) (handed : HandedSize) (f : CollectedField) (others : List CollectedField) (names : names_not f.call.name others ≡ false) where
  pub name_is_planned : (looked : Looked) → meaning_at e T f.call ≡ name_of_type → looked.field ≡ None → looked.source ≡ None → looked.arguments ≡ 0 → handed_data looked.hands ≡ None → (fault_of e T handed (f ∷ others) ≡ None) × IsFound e T handed f.call looked
  name_is_planned looked means field size arguments hands = (
    fault_without_arguments e T name_of_type (λ w. refl) handed f others means names None refl,
    found_by_meaning e T name_of_type f means handed looked (ap meaning_of field) (ap size_from size) arguments hands,
  )

  pub no_field_is_told : meaning_at e T f.call ≡ no_such_field → fault_of e T handed (f ∷ others) ≡ Some no_possible_type
  no_field_is_told means = fault_without_arguments e T no_such_field (λ w. refl) handed f others means names None refl

pub other_names_are_told : (e : Setting) (T : ℕ) (handed : HandedSize) (f : CollectedField) (others : List CollectedField) → names_not f.call.name others ≡ true → fault_of e T handed (f ∷ others) ≡ Some conflict
other_names_are_told e T handed f others h = ap (λ b. or_else (fault_where (not (bytes_eq f.call.name f.call.name) || b) conflict) (or_else (first_of (argument_fault e T) (f ∷ others)) (or_else (fault_where (arguments_differ e T (f ∷ others)) conflict) (or_else (size_fault e T handed f.call) (fault_where (lacks_types (place_at e T f.call)) no_possible_type))))) h
    ∙ either (not (bytes_eq f.call.name f.call.name))
  where
    either : (b : Bool) → or_else (fault_where (b || true) conflict) (or_else (first_of (argument_fault e T) (f ∷ others)) (or_else (fault_where (arguments_differ e T (f ∷ others)) conflict) (or_else (size_fault e T handed f.call) (fault_where (lacks_types (place_at e T f.call)) no_possible_type)))) ≡ Some conflict
    either true = refl
    either false = refl
