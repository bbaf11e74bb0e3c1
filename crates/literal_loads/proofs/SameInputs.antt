-- What is written for the inputs of a type or of a field in two places, and what follows of objects, lists and arguments.
use Rattle.std.proofs.Common.{◌≡◌, ◌⊎◌, ◌&&◌, ℕ, Bool, true, bytes_eq, List, [], ◌∷◌, map, All, Vec, Global, inl, inr, Option, None, Some, refl, sym, ap, ap₂, ◌∙◌, subst, true≢false}
use Rattle.std.specs.List.{AllByRecursion}
use Rattle.std.proofs.lemmas.List.Elements.{All-head, All-tail}
use Rattle.std.proofs.lemmas.Option.{same_Some}
use Rattle.std.proofs.lemmas.Slice.Eq.{bytes_eq-Decides}
use Rattle.gql_base.specs.names.Names.{are_distinct, first_of_name, has_name}
use Rattle.gql_base.specs.declared.parts.trees.Value.{Value}
use Rattle.gql_base.specs.declared.parts.trees.Value.TheViews.{List as ListValue, Object as ObjectValue}
use Rattle.gql_base.specs.declared.parts.trees.Argument.{Argument}
use Rattle.input_values.specs.values.Coerced.{coerced_object}
use Rattle.input_values.specs.inputs.Shapes.{ShapeTree, list_shape}
use Rattle.input_values.specs.declared.inputs.shape.TypeId.{TypeId}
use Rattle.input_values.specs.coercion.Coercion.{coerced}
use Rattle.input_values.specs.coercion.Forms.{field_form}
use Rattle.input_values.specs.coercion.Given.{given_list}
use Rattle.input_values.specs.coercion.Literals.{literal_items}
use Rattle.input_values.specs.coercion.Objects.{fields_at}
use Rattle.input_values.specs.coercion.Places.{innermost}
use Rattle.input_values.specs.coercion.Sizes.{items_written, names_written}
use Rattle.input_values.proofs.CoercionSteps.Lists.{list_literal, object_literal}
use Rattle.schema_rules.specs.declared.kind.Kind.TheVariants.{Input}
use Rattle.schema_model.specs.declared.entries.FieldId.{FieldId}
use Rattle.schema_model.specs.SchemaData.{type_at, field_at}
use Rattle.schema_model.specs.InputForms.{input_forms}
use Rattle.cost_directives.proofs.FirstsFound.{found_passes}
use Rattle.variable_coercion.specs.Arguments.{argument_given, argument_answer}
use Rattle.variable_coercion.specs.Refusals.{all_in_order}
use Rattle.literal_loads.specs.declared.inputs.KnownInputs.{KnownInputs}
use Rattle.literal_loads.specs.declared.inputs.Owner.TheVariants.{OfType, OfField}
use Rattle.literal_loads.specs.Loads.{Scale, object_answer}
use Rattle.literal_loads.specs.Sums.{Placed, placed_input, placed_name}
use Rattle.literal_loads.specs.KnownInputs.{inputs_of, placed_in, IsKnown}
use Rattle.literal_loads.specs.Walks.{AreInputs}
use Rattle.literal_loads.specs.Comparing.{value_in, values_in, AreSame, AreSameLists, AreSameObjects, written_for, IsSameFor, IsSameAmong, IsDefault, IsAmong, AreSameInputs, AreSameArguments}
use Rattle.literal_loads.proofs.NamedSums.{found_any, found_right, none_found, IsFirst, all_first}
use Rattle.literal_loads.proofs.KeptInputs.{fields_answer}
use Rattle.literal_loads.proofs.SameAnswers.{same_mapped, same_single, IsSameIn, find, find_other, same_fields, same_arguments}

-- ---- names

abbrev pub is_named : List ℕ → Argument → Bool
is_named name a = bytes_eq a.name.text name

all_inputs : (placed : List Placed) (P : Argument → Type 0) → ((a : Argument) → P a → has_name placed_name placed a.name.text ≡ true) → (written : List Argument) → All P written → AreInputs placed written
all_inputs placed P is [] all = refl
all_inputs placed P is (a ∷ written) all = ap₂ (λ x y. x && y) (is a (All-head P a written all)) (all_inputs placed P is written (All-tail P a written all))

-- ---- one input

module _ (e : Scale) (placed : List Placed) (a : Argument) (p : Placed) (found : first_of_name placed_name placed a.name.text ≡ Some p) where
  is_named_there : has_name placed_name placed a.name.text ≡ true
  is_named_there = found_any (λ q. bytes_eq (placed_name q) a.name.text) placed p found

  pub one_among : (others : List Argument) (o : Option Argument) → o ≡ written_for others a.name.text → IsSameFor e p (Some a) o → IsSameAmong e placed others a
  one_among others o is same = (is_named_there, λ q first. subst (λ x. IsSameFor e q (Some a) x) is (subst (λ x. IsSameFor e x (Some a) o) (same_Some p q (sym found ∙ first)) same))

  pub written_too : (written : List Argument) → has_name (λ b. b.name.text) written a.name.text ≡ true → IsAmong e placed written a
  written_too written there = (is_named_there, inl there)

  pub default_among : (written : List Argument) → IsDefault e p.0 a.value → IsAmong e placed written a
  default_among written default = (is_named_there, inr (λ q first. subst (λ x. IsDefault e x.0 a.value) (same_Some p q (sym found ∙ first)) default))

module _ (e : Scale) (placed : List Placed) (written others : List Argument) (each : All (IsSameAmong e placed others) written) (among : All (IsAmong e placed written) others) (p : Placed) (first : IsFirst placed_name placed p) where
  not_written : (b : Argument) → b.name.text ≡ p.0.name → written_for written p.0.name ≡ None → (has_name (λ a. a.name.text) written b.name.text ≡ true) ⊎ ((q : Placed) → first_of_name placed_name placed b.name.text ≡ Some q → IsDefault e q.0 b.value) → IsDefault e p.0 b.value
  not_written b named none (inl there) = absurd (true≢false (sym (subst (λ n. has_name (λ a. a.name.text) written n ≡ true) named there) ∙ none_found (is_named p.0.name) written none))
  not_written b named none (inr default) = default p (subst (λ n. first_of_name placed_name placed n ≡ Some p) (sym named) first)

  none_written : (o : Option Argument) → written_for others p.0.name ≡ o → written_for written p.0.name ≡ None → IsSameFor e p None o
  none_written None found none = tt
  none_written (Some b) found none =
      not_written b ((bytes_eq-Decides b.name.text p.0.name).0 (found_passes (is_named p.0.name) others b found)) none (found_right (IsAmong e placed written) (is_named p.0.name) others b found among).1

  one_written : (o : Option Argument) → written_for written p.0.name ≡ o → IsSameFor e p o (written_for others p.0.name)
  one_written (Some a) found =
      let named = (bytes_eq-Decides a.name.text p.0.name).0 (found_passes (is_named p.0.name) written a found) in
      let same = found_right (IsSameAmong e placed others) (is_named p.0.name) written a found each in
      subst (λ n. IsSameFor e p (Some a) (written_for others n)) named (same.1 p (subst (λ n. first_of_name placed_name placed n ≡ Some p) (sym named) first))
  one_written None found = none_written (written_for others p.0.name) refl found

  each_same : IsSameFor e p (written_for written p.0.name) (written_for others p.0.name)
  each_same = one_written (written_for written p.0.name) refl

pub inputs_same : (e : Scale) (placed : List Placed) (written others : List Argument) → are_distinct (names_written written) ≡ true → are_distinct (names_written others) ≡ true → All (IsAmong e placed written) others → All (IsSameAmong e placed others) written → AreSameInputs e placed written others
inputs_same e placed written others once once_too among each = record {
  once = once;
  once_too = once_too;
  inputs = all_inputs placed (IsSameAmong e placed others) (λ a is. is.0) written each;
  inputs_too = all_inputs placed (IsAmong e placed written) (λ b is. is.0) others among;
  each = λ p first. each_same e placed written others each among p first;
}

-- ---- all inputs

module _ (e : Scale) (whole : List Placed) (written others : List Argument) (same : AreSameInputs e whole written others) where
  same_among : (ps : List Placed) → AllByRecursion (IsFirst placed_name whole) ps → AllByRecursion (IsSameIn e written others) ps
  same_among [] firsts = tt
  same_among (p ∷ ps) firsts = (same.each p firsts.0, same_among ps firsts.1)

module _ (e : Scale) (k : KnownInputs) (known : IsKnown e k) (written others : List Argument) (same : AreSameInputs e (placed_in k) written others) where
  all_same : AllByRecursion (IsSameIn e written others) (placed_in k)
  all_same = same_among e (placed_in k) written others same (placed_in k) (all_first placed_name (placed_in k) known.once)

  pub objects_same : (of : TypeId) → k.owner ≡ OfType of → (type_at e.schema of.number).kind ≡ Input → AreSameObjects e of.number written others
  objects_same of whose kind =
      ap value_in (fields_answer e of k known whose written kind same.inputs same.once)
      ∙ (same_mapped coerced_object (fields_at (map field_form (map placed_input (placed_in k))) (find e written others)) (fields_at (map field_form (map placed_input (placed_in k))) (find_other e written others)) (same_fields e written others (placed_in k) all_same)
      ∙ sym (ap value_in (fields_answer e of k known whose others kind same.inputs_too same.once_too)))

  pub arguments_same : (of : FieldId) → k.owner ≡ OfField of → AreSameArguments e of.number written others
  arguments_same of whose =
      let inputs : map placed_input (placed_in k) ≡ (field_at e.schema of.number).arguments = known.defined ∙ ap (inputs_of e) whose in
      subst (λ is. values_in (all_in_order (λ i. argument_answer (input_forms e.schema) i (argument_given e.values written i.name)) is) ≡ values_in (all_in_order (λ i. argument_answer (input_forms e.schema) i (argument_given e.values others i.name)) is)) inputs
      (same_arguments e written others (placed_in k) all_same)

-- ---- literals at places

module _ (e : Scale) (s : ShapeTree) (v w : Value) where
  pub same_objects_at : (a b : Vec Argument Global) (fields others : List Argument) → v ≡ ObjectValue a → fields ≡ a.items → w ≡ ObjectValue b → others ≡ b.items → AreSameObjects e (innermost s) fields others → AreSame e s v w
  same_objects_at a b fields others is seen is_too seen_too same =
      ap (λ g. value_in (coerced (input_forms e.schema) g s)) (sym (object_literal e.values v a fields is seen))
      ∙ (same_single (object_answer e fields) (object_answer e others) s same ∙ ap (λ g. value_in (coerced (input_forms e.schema) g s)) (object_literal e.values w b others is_too seen_too))

  pub same_lists_at : (item : ShapeTree) (nullable : Bool) (a b : Vec Value Global) (items others : List Value) → s ≡ list_shape item nullable → v ≡ ListValue a → items ≡ a.items → w ≡ ListValue b → others ≡ b.items → AreSameLists e item items others → AreSame e s v w
  same_lists_at item nullable a b items others shaped is seen is_too seen_too same =
      ap (λ g. value_in (coerced (input_forms e.schema) g s)) (sym (list_literal e.values v a items is seen))
      ∙ (subst (λ x. value_in (coerced (input_forms e.schema) (given_list (literal_items e.values (items_written items))) x) ≡ value_in (coerced (input_forms e.schema) (given_list (literal_items e.values (items_written others))) x)) (sym shaped) same
      ∙ ap (λ g. value_in (coerced (input_forms e.schema) g s)) (list_literal e.values w b others is_too seen_too))
