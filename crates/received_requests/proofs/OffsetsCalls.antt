-- What a field is at objects of a type doesn't depend on the offsets of names.
use Rattle.std.proofs.Common.{◌≡◌, ℕ, List, Option, None, Some, refl, ap, ap₂, ◌∙◌}
use Rattle.std.specs.Prelude.{map, option_map}
use Rattle.gql_base.specs.parts.Values.{NamedValue}
use Rattle.document_reader.specs.PlacelessDocuments.{argument_placeless}
use Rattle.schema_model.specs.Arguments.{ArgData}
use Rattle.document_rules.specs.Sites.{Meaning, no_position, no_such_field, name_of_type, known_field, meaning_on}
use Rattle.plan_model.specs.SelectedFields.{Setting, FieldCall, HandedSize, place_of, arguments_of, size_answer, sized_by, meaning_weight, cost_of, form_at, place_at, arguments_at, size_answer_at, size_at, hands_at, weight_at, cost_at, handed_in, if_coerced, length_in, size_in, written_below}
use Rattle.received_requests.proofs.OffsetsLiterals.{same_coerced}
use Rattle.received_requests.proofs.OffsetsFields.{e', call_placeless}

module _ (e : Setting) where
  place_by : (T : ℕ) (m : Meaning) → place_of (e' e) T m ≡ place_of e T m
  place_by T (known_field field) = refl
  place_by T name_of_type = refl
  place_by T no_such_field = refl
  place_by T no_position = refl

  arguments_by : (m : Meaning) (args : List NamedValue) → arguments_of (e' e) m (map argument_placeless args) ≡ arguments_of e m args
  arguments_by (known_field field) args = same_coerced e.values e.schema field args
  arguments_by name_of_type args = refl
  arguments_by no_such_field args = refl
  arguments_by no_position args = refl

  size_by : (m : Meaning) (args : List ArgData) (handed : Option ℕ) → size_answer (e' e) m args handed ≡ size_answer e m args handed
  size_by (known_field field) args handed = refl
  size_by name_of_type args handed = refl
  size_by no_such_field args handed = refl
  size_by no_position args handed = refl

  same_sized : (m : Meaning) → sized_by (e' e) m ≡ sized_by e m
  same_sized (known_field field) = refl
  same_sized name_of_type = refl
  same_sized no_such_field = refl
  same_sized no_position = refl

  weight_by : (m : Meaning) → meaning_weight (e' e) m ≡ meaning_weight e m
  weight_by (known_field field) = refl
  weight_by name_of_type = refl
  weight_by no_such_field = refl
  weight_by no_position = refl

  cost_by : (m : Meaning) (args : List ArgData) → cost_of (e' e) m args ≡ cost_of e m args
  cost_by (known_field field) args = refl
  cost_by name_of_type args = refl
  cost_by no_such_field args = refl
  cost_by no_position args = refl

  pub same_written : (parent : Option ℕ) (c : FieldCall) → written_below (e' e).schema parent (call_placeless c) ≡ written_below e.schema parent c
  unfolding written_below
  same_written parent c = refl

  module _ (T : ℕ) (c : FieldCall) where
    abbrev meaning : Meaning
    meaning = meaning_on e.schema (Some T) c.name

    pub same_form : form_at (e' e) T (call_placeless c) ≡ form_at e T c
    unfolding form_at
    same_form = refl

    pub same_place : place_at (e' e) T (call_placeless c) ≡ place_at e T c
    unfolding place_at
    same_place = place_by T meaning

    same_arguments : arguments_at (e' e) T (call_placeless c) ≡ arguments_at e T c
    unfolding arguments_at
    same_arguments = arguments_by meaning c.arguments

    same_answer : (handed : HandedSize) → size_answer_at (e' e) T (call_placeless c) handed ≡ size_answer_at e T c handed
    unfolding size_answer_at
    same_answer handed =
        ap₂ (λ a f. size_answer (e' e) meaning (if_coerced a) (handed_in f handed c.name)) same_arguments same_form
        ∙ size_by meaning (if_coerced (arguments_at e T c)) (handed_in (form_at e T c) handed c.name)

    pub same_size : (handed : HandedSize) → size_at (e' e) T (call_placeless c) handed ≡ size_at e T c handed
    unfolding size_at
    same_size handed = ap₂ (λ f a. size_in f a) same_form (same_answer handed)

    pub same_hands : hands_at (e' e) T (call_placeless c) ≡ hands_at e T c
    unfolding hands_at
    same_hands = ap₂ (λ names a. option_map (λ size. (names, size)) (length_in a)) (same_sized meaning) (same_answer None)

    pub same_weight : weight_at (e' e) T (call_placeless c) ≡ weight_at e T c
    unfolding weight_at
    same_weight = weight_by meaning

    pub same_cost : cost_at (e' e) T (call_placeless c) ≡ cost_at e T c
    unfolding cost_at
    same_cost = ap (λ a. cost_of (e' e) meaning (if_coerced a)) same_arguments ∙ cost_by meaning (if_coerced (arguments_at e T c))
