-- What a field is at objects of a type is the same in the rewritten setting: it doesn't depend on fragments.
use Rattle.std.proofs.Common.{◌≡◌, ℕ, List, [], Bool, false, Option, None, Some, refl, ap, ◌∙◌}
use Rattle.std.specs.Prelude.{option_map}
use Rattle.response_model.specs.Plan.{Form, single, LeafType, type_name}
use Rattle.serde_json.specs.Data.{Data, string}
use Rattle.gql_base.specs.parts.Values.{NamedValue}
use Rattle.schema_model.specs.SchemaData.{type_at}
use Rattle.schema_model.specs.Arguments.{ArgData}
use Rattle.document_rules.specs.Sites.{Meaning, no_position, no_such_field, name_of_type, known_field, meaning_on}
use Rattle.plan_model.specs.SelectedFields.{Setting, FieldCall, HandedSize, Place, leaf_place, place_of, arguments_of, size_answer, sized_by, meaning_weight, cost_of, form_at, place_at, arguments_at, size_answer_at, size_at, hands_at, weight_at, cost_at, handed_in, if_coerced, length_in, size_in}
use Rattle.stripped_responses.specs.Stripping.{rewritten_setting}
use Rattle.stripped_responses.proofs.RewrittenFields.{typename_call}

module _ (alias : List ℕ) (e : Setting) where
  abbrev e' : Setting
  e' = rewritten_setting alias e

  place_by : (T : ℕ) (m : Meaning) → place_of e' T m ≡ place_of e T m
  place_by T (known_field field) = refl
  place_by T name_of_type = refl
  place_by T no_such_field = refl
  place_by T no_position = refl

  arguments_by : (m : Meaning) (written : List NamedValue) → arguments_of e' m written ≡ arguments_of e m written
  arguments_by (known_field field) written = refl
  arguments_by name_of_type written = refl
  arguments_by no_such_field written = refl
  arguments_by no_position written = refl

  size_by : (m : Meaning) (args : List ArgData) (handed : Option ℕ) → size_answer e' m args handed ≡ size_answer e m args handed
  size_by (known_field field) args handed = refl
  size_by name_of_type args handed = refl
  size_by no_such_field args handed = refl
  size_by no_position args handed = refl

  sized : (m : Meaning) → sized_by e' m ≡ sized_by e m
  sized (known_field field) = refl
  sized name_of_type = refl
  sized no_such_field = refl
  sized no_position = refl

  weight_by : (m : Meaning) → meaning_weight e' m ≡ meaning_weight e m
  weight_by (known_field field) = refl
  weight_by name_of_type = refl
  weight_by no_such_field = refl
  weight_by no_position = refl

  cost_by : (m : Meaning) (args : List ArgData) → cost_of e' m args ≡ cost_of e m args
  cost_by (known_field field) args = refl
  cost_by name_of_type args = refl
  cost_by no_such_field args = refl
  cost_by no_position args = refl

  module _ (T : ℕ) where
    pub same_form : (c : FieldCall) → form_at e' T c ≡ form_at e T c
    unfolding form_at
    same_form c = refl

    pub same_place : (c : FieldCall) → place_at e' T c ≡ place_at e T c
    unfolding place_at
    same_place c = place_by T (meaning_on e.schema (Some T) c.name)

    same_arguments : (c : FieldCall) → arguments_at e' T c ≡ arguments_at e T c
    unfolding arguments_at
    same_arguments c = arguments_by (meaning_on e.schema (Some T) c.name) c.arguments

    same_answer : (c : FieldCall) (handed : HandedSize) → size_answer_at e' T c handed ≡ size_answer_at e T c handed
    unfolding size_answer_at
    same_answer c handed =
        ap (λ a. size_answer e' (meaning_on e.schema (Some T) c.name) (if_coerced a) (handed_in (form_at e' T c) handed c.name)) (same_arguments c)
        ∙ (ap (λ f. size_answer e' (meaning_on e.schema (Some T) c.name) (if_coerced (arguments_at e T c)) (handed_in f handed c.name)) (same_form c)
        ∙ size_by (meaning_on e.schema (Some T) c.name) (if_coerced (arguments_at e T c)) (handed_in (form_at e T c) handed c.name))

    pub same_size : (c : FieldCall) (handed : HandedSize) → size_at e' T c handed ≡ size_at e T c handed
    unfolding size_at
    same_size c handed = ap (λ f. size_in f (size_answer_at e' T c handed)) (same_form c) ∙ ap (λ a. size_in (form_at e T c) a) (same_answer c handed)

    pub same_hands : (c : FieldCall) → hands_at e' T c ≡ hands_at e T c
    unfolding hands_at
    same_hands c =
        ap (λ a. option_map (λ size. (sized_by e' (meaning_on e.schema (Some T) c.name), size)) (length_in a)) (same_answer c None)
        ∙ ap (λ names. option_map (λ size. (names, size)) (length_in (size_answer_at e T c None))) (sized (meaning_on e.schema (Some T) c.name))

    pub same_weight : (c : FieldCall) → weight_at e' T c ≡ weight_at e T c
    unfolding weight_at
    same_weight c = weight_by (meaning_on e.schema (Some T) c.name)

    pub same_cost : (c : FieldCall) → cost_at e' T c ≡ cost_at e T c
    unfolding cost_at
    same_cost c = ap (λ a. cost_of e' (meaning_on e.schema (Some T) c.name) (if_coerced a)) (same_arguments c) ∙ cost_by (meaning_on e.schema (Some T) c.name) (if_coerced (arguments_at e T c))

    -- ---- the name of a type

    pub typename_form : form_at e T typename_call ≡ single false
    unfolding form_at
    typename_form = refl

    pub typename_place : place_at e T typename_call ≡ leaf_place type_name 0 (string (type_at e.schema T).name)
    unfolding place_at
    typename_place = refl

    pub typename_weight : weight_at e T typename_call ≡ 0
    unfolding weight_at
    typename_weight = refl

    pub typename_cost : cost_at e T typename_call ≡ 0
    unfolding cost_at
    typename_cost = refl
