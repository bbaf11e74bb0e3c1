-- Answers that give the same values.
use Rattle.std.proofs.Common.{inl, inr, ◌⊎◌, ◌≡◌, ◌<◌, ◌≤◌, ◌-◌, ℕ, suc, Bool, true, false, cond, List, [], ◌∷◌, length, map, drop, get_or, Option, None, Some, Result, Ok, Err, refl, sym, ap, ap₂, ◌∙◌, subst, arith}
use Rattle.std.specs.Prelude.{option_map}
use Rattle.std.specs.List.{AllByRecursion}
use Rattle.std.proofs.lemmas.Bool.{le-leb}
use Rattle.std.proofs.lemmas.Option.{none-some, same_Some}
use Rattle.gql_base.specs.declared.parts.trees.Value.{Value}
use Rattle.gql_base.specs.declared.parts.trees.Argument.{Argument}
use Rattle.gql_base.specs.parts.Trees.{value_tree}
use Rattle.gql_base.proofs.NameLaws.IndexLaws.{dropped_before}
use Rattle.input_values.specs.values.Coerced.{CoercedTree, coerced_list, coerced_then, nodes}
use Rattle.input_values.specs.inputs.Shapes.{ShapeTree, named_shape, list_shape}
use Rattle.input_values.specs.inputs.Definitions.{InputData}
use Rattle.input_values.specs.coercion.Answers.{Answer, Path, mapped, both, at_step, item_step, key_step}
use Rattle.input_values.specs.coercion.Coercion.{coerced, items_coerced, find_coerced}
use Rattle.input_values.specs.coercion.Forms.{FieldForm, absence_at, field_form}
use Rattle.input_values.specs.coercion.Given.{Given, is_nothing}
use Rattle.input_values.specs.coercion.Literals.{literal_given, literal_items, literal_fields}
use Rattle.input_values.specs.coercion.Objects.{Finder, absent_at, with_field, field_answer, fields_at}
use Rattle.input_values.specs.coercion.Places.{list_of_one, single_at, innermost}
use Rattle.input_values.specs.coercion.Sizes.{items_written, fields_written}
use Rattle.input_values.proofs.CoercionSteps.Fields.{found_answer, find_written}
use Rattle.schema_model.specs.InputForms.{input_forms}
use Rattle.schema_model.specs.Arguments.{ArgData}
use Rattle.variable_coercion.specs.Refusals.{Refusal, Unfit, value_limit, fitting, given_value, all_in_order, and_then, unfit_size}
use Rattle.variable_coercion.specs.Arguments.{argument_given, argument_refusal, marked, default_or_none, supplied_answer, unsupplied_answer, argument_answer}
use Rattle.literal_loads.specs.Loads.{Scale}
use Rattle.literal_loads.specs.Sums.{Placed, placed_input}
use Rattle.literal_loads.specs.Comparing.{value_in, values_in, AreSame, AreSameLists, written_for, IsDefault, IsSameFor}

-- ---- parts of answers

mapped_in : {A B : Type 0} (f : A → B) (a : Answer A) → value_in (mapped f a) ≡ option_map f (value_in a)
mapped_in f (Ok x) = refl
mapped_in f (Err path) = refl

pub same_mapped : {A B : Type 0} (f : A → B) (a b : Answer A) → value_in a ≡ value_in b → value_in (mapped f a) ≡ value_in (mapped f b)
same_mapped f a b same = mapped_in f a ∙ (ap (option_map f) same ∙ sym (mapped_in f b))

stepped_in : {A : Type 0} (step : Path) (a : Answer A) → value_in (at_step step a) ≡ value_in a
stepped_in step (Ok x) = refl
stepped_in step (Err path) = refl

abbrev joined : {A B C : Type 0} → (A → B → C) → Option A → Option B → Option C
joined f (Some x) (Some y) = Some (f x y)
joined f (Some x) None = None
joined f None y = None

both_in : {A B C : Type 0} (f : A → B → C) (a : Answer A) (b : Answer B) → value_in (both f a b) ≡ joined f (value_in a) (value_in b)
both_in f (Ok x) (Ok y) = refl
both_in f (Ok x) (Err path) = refl
both_in f (Err path) b = refl

same_both : {A B C : Type 0} (f : A → B → C) (step : Path) (a c : Answer A) (b d : Answer B) → value_in a ≡ value_in c → value_in b ≡ value_in d → value_in (both f (at_step step a) b) ≡ value_in (both f (at_step step c) d)
same_both f step a c b d one other =
    both_in f (at_step step a) b ∙ (ap₂ (joined f) (stepped_in step a ∙ (one ∙ sym (stepped_in step c))) other ∙ sym (both_in f (at_step step c) d))

-- in a list of one for each list of a shape
pub same_single : (named other : ℕ → Answer CoercedTree) (s : ShapeTree) → value_in (named (innermost s)) ≡ value_in (other (innermost s)) → value_in (single_at named s) ≡ value_in (single_at other s)
same_single named other (named_shape of nullable) same = same
same_single named other (list_shape item nullable) same = same_mapped list_of_one (single_at named item) (single_at other item) (same_single named other item same)

-- ---- items

abbrev pub AreSameItems : Scale → ShapeTree → ℕ → List Value → List Value → Type 0
AreSameItems e item at items others = value_in (items_coerced (input_forms e.schema) at (literal_items e.values (items_written items)) item) ≡ value_in (items_coerced (input_forms e.schema) at (literal_items e.values (items_written others)) item)

module _ (e : Scale) (item : ShapeTree) where
  pub none_left : (at : ℕ) (items others : List Value) → items ≡ [] → others ≡ [] → AreSameItems e item at items others
  none_left at items others none none_too = ap (λ vs. value_in (items_coerced (input_forms e.schema) at (literal_items e.values (items_written vs)) item)) (none ∙ sym none_too)

  item_in_front : (at : ℕ) (v w : Value) (items others : List Value) → AreSame e item v w → AreSameItems e item (suc at) items others → AreSameItems e item at (v ∷ items) (w ∷ others)
  item_in_front at v w items others one rest =
      same_both coerced_then (item_step at) (coerced (input_forms e.schema) (literal_given e.values (value_tree v)) item) (coerced (input_forms e.schema) (literal_given e.values (value_tree w)) item)
      (items_coerced (input_forms e.schema) (suc at) (literal_items e.values (items_written items)) item) (items_coerced (input_forms e.schema) (suc at) (literal_items e.values (items_written others)) item) one rest

  pub one_same_more : (items others : List Value) (at : ℕ) (v w : Value) → 0 < at → at ≤ length items → at ≤ length others → v ≡ get_or items (at - 1) v → w ≡ get_or others (at - 1) w → AreSame e item v w → AreSameItems e item at (drop at items) (drop at others)
      → AreSameItems e item (at - 1) (drop (at - 1) items) (drop (at - 1) others)
  one_same_more items others at v w some within within_too is is_too one rest =
      let next : at ≡ suc (at - 1) = omega (arith, some) in
      subst (λ vs. AreSameItems e item (at - 1) vs (drop (at - 1) others)) (sym (dropped_before items at v some within is))
      (subst (λ ws. AreSameItems e item (at - 1) (v ∷ drop at items) ws) (sym (dropped_before others at w some within_too is_too))
      (item_in_front (at - 1) v w (drop at items) (drop at others) one (subst (λ k. AreSameItems e item k (drop at items) (drop at others)) next rest)))

  pub same_lists : (items others : List Value) → AreSameItems e item 0 items others → AreSameLists e item items others
  same_lists items others same = same_mapped coerced_list (items_coerced (input_forms e.schema) 0 (literal_items e.values (items_written items)) item) (items_coerced (input_forms e.schema) 0 (literal_items e.values (items_written others)) item) same

-- ---- fields of an input object

same_present : (f : FieldForm) (n m : Bool) (x y : ShapeTree → Answer CoercedTree) → n ≡ m → value_in (x f.shape) ≡ value_in (y f.shape) → value_in (field_answer f (cond n None (Some x))) ≡ value_in (field_answer f (cond m None (Some y)))
same_present f true true x y same value = refl
same_present f false false x y same value = same_mapped Some (x f.shape) (y f.shape) value
same_present f true false x y same value = absurd (cc)
same_present f false true x y same value = absurd (cc)

default_present : (i : InputData) (n : Bool) (x : ShapeTree → Answer CoercedTree) → (n ≡ true) ⊎ ((t : CoercedTree) × (i.default ≡ Some t) × ((x i.shape ≡ Ok t) × (nodes t ≤ value_limit))) → value_in (field_answer (field_form i) (cond n None (Some x))) ≡ value_in (absent_at (absence_at i.default i.shape))
default_present i true x is = refl
default_present i false x (inl nothing) = absurd (cc)
default_present i false x (inr is) = ap (λ a. value_in (mapped Some a)) is.2.0 ∙ sym (ap (λ o. value_in (absent_at (absence_at o i.shape))) is.1)

module _ (e : Scale) (p : Placed) where
  default_field : (a : Argument) → IsDefault e p.0 a.value → value_in (field_answer (field_form p.0) (found_answer (input_forms e.schema) e.values (Some a))) ≡ value_in (field_answer (field_form p.0) (found_answer (input_forms e.schema) e.values None))
  default_field a is = default_present p.0 (is_nothing (literal_given e.values (value_tree a.value))) (λ s. coerced (input_forms e.schema) (literal_given e.values (value_tree a.value)) s) is

  same_field : (fa fb : Option Argument) → IsSameFor e p fa fb → value_in (field_answer (field_form p.0) (found_answer (input_forms e.schema) e.values fa)) ≡ value_in (field_answer (field_form p.0) (found_answer (input_forms e.schema) e.values fb))
  same_field None None same = refl
  same_field (Some a) (Some b) same =
      same_present (field_form p.0) (is_nothing (literal_given e.values (value_tree a.value))) (is_nothing (literal_given e.values (value_tree b.value))) (λ s. coerced (input_forms e.schema) (literal_given e.values (value_tree a.value)) s) (λ s. coerced (input_forms e.schema) (literal_given e.values (value_tree b.value)) s) same.0 same.1
  same_field None (Some b) same = sym (default_field b same)
  same_field (Some a) None same = default_field a same

  same_field_found : (written others : List Argument) → IsSameFor e p (written_for written p.0.name) (written_for others p.0.name)
      → value_in (field_answer (field_form p.0) (find_coerced (input_forms e.schema) p.0.name (literal_fields e.values (fields_written written)))) ≡ value_in (field_answer (field_form p.0) (find_coerced (input_forms e.schema) p.0.name (literal_fields e.values (fields_written others))))
  same_field_found written others same =
      ap (λ x. value_in (field_answer (field_form p.0) x)) (find_written (input_forms e.schema) e.values p.0.name written)
      ∙ (same_field (written_for written p.0.name) (written_for others p.0.name) same ∙ sym (ap (λ x. value_in (field_answer (field_form p.0) x)) (find_written (input_forms e.schema) e.values p.0.name others)))

-- The same is written for the input in both.
abbrev pub IsSameIn : Scale → List Argument → List Argument → Placed → Type 0
IsSameIn e written others p = IsSameFor e p (written_for written p.0.name) (written_for others p.0.name)

module _ (e : Scale) (written others : List Argument) where
  abbrev pub find : Finder
  find name = find_coerced (input_forms e.schema) name (literal_fields e.values (fields_written written))

  abbrev pub find_other : Finder
  find_other name = find_coerced (input_forms e.schema) name (literal_fields e.values (fields_written others))

  pub same_fields : (ps : List Placed) → AllByRecursion (IsSameIn e written others) ps → value_in (fields_at (map field_form (map placed_input ps)) find) ≡ value_in (fields_at (map field_form (map placed_input ps)) find_other)
  same_fields [] same = refl
  same_fields (p ∷ ps) same =
      same_both (with_field p.0.name) (key_step p.0.name) (field_answer (field_form p.0) (find p.0.name)) (field_answer (field_form p.0) (find_other p.0.name)) (fields_at (map field_form (map placed_input ps)) find) (fields_at (map field_form (map placed_input ps)) find_other)
      (same_field_found e p written others same.0) (same_fields ps same.1)

-- ---- arguments of a field

abbrev argument_in : Result ArgData Refusal → Option (Option CoercedTree)
argument_in (Ok arg) = Some arg.value
argument_in (Err refusal) = None

and_then_in : (a : Result ArgData Refusal) (rest : Result (List ArgData) Refusal) → values_in (and_then a rest) ≡ joined (λ v vs. v ∷ vs) (argument_in a) (values_in rest)
and_then_in (Ok arg) (Ok args) = refl
and_then_in (Ok arg) (Err refusal) = refl
and_then_in (Err refusal) rest = refl

same_fitting : (r : Unfit → Refusal) (a b : Answer CoercedTree) → value_in a ≡ value_in b → argument_in (marked true (given_value r (fitting a))) ≡ argument_in (marked true (given_value r (fitting b)))
same_fitting r (Ok t) (Ok u) same = ap (λ x. argument_in (marked true (given_value r (fitting (Ok x))))) (same_Some t u same)
same_fitting r (Err path) (Err other) same = refl
same_fitting r (Ok t) (Err other) same = absurd (none-some t (sym same))
same_fitting r (Err path) (Ok u) same = absurd (none-some u same)

module _ (e : Scale) (p : Placed) where
  same_supplied : (n m : Bool) (a b : Argument) → n ≡ m → AreSame e p.0.shape a.value b.value
      → argument_in (cond n (unsupplied_answer p.0) (supplied_answer (input_forms e.schema) p.0 (literal_given e.values (value_tree a.value)))) ≡ argument_in (cond m (unsupplied_answer p.0) (supplied_answer (input_forms e.schema) p.0 (literal_given e.values (value_tree b.value))))
  same_supplied true true a b same value = refl
  same_supplied false false a b same value = same_fitting (argument_refusal p.0.name) (coerced (input_forms e.schema) (literal_given e.values (value_tree a.value)) p.0.shape) (coerced (input_forms e.schema) (literal_given e.values (value_tree b.value)) p.0.shape) value
  same_supplied true false a b same value = absurd (cc)
  same_supplied false true a b same value = absurd (cc)

  default_supplied : (n : Bool) (g : Given) → (n ≡ true) ⊎ ((t : CoercedTree) × (p.0.default ≡ Some t) × ((coerced (input_forms e.schema) g p.0.shape ≡ Ok t) × (nodes t ≤ value_limit)))
      → argument_in (cond n (unsupplied_answer p.0) (supplied_answer (input_forms e.schema) p.0 g)) ≡ argument_in (unsupplied_answer p.0)
  default_supplied true g is = refl
  default_supplied false g (inl nothing) = absurd (cc)
  default_supplied false g (inr is) =
      ap (λ a. argument_in (marked true (given_value (argument_refusal p.0.name) (fitting a)))) is.2.0
      ∙ (ap (λ b. argument_in (marked true (given_value (argument_refusal p.0.name) (cond b (Ok is.0) (Err unfit_size))))) (le-leb (nodes is.0) value_limit is.2.1)
      ∙ sym (ap (λ o. argument_in (marked false (default_or_none p.0 o))) is.1))

  default_argument : (a : Argument) → IsDefault e p.0 a.value
      → argument_in (argument_answer (input_forms e.schema) p.0 (Some (literal_given e.values (value_tree a.value)))) ≡ argument_in (argument_answer (input_forms e.schema) p.0 None)
  default_argument a is = default_supplied (is_nothing (literal_given e.values (value_tree a.value))) (literal_given e.values (value_tree a.value)) is

  same_argument : (fa fb : Option Argument) → IsSameFor e p fa fb
      → argument_in (argument_answer (input_forms e.schema) p.0 (option_map (λ a. literal_given e.values (value_tree a.value)) fa)) ≡ argument_in (argument_answer (input_forms e.schema) p.0 (option_map (λ a. literal_given e.values (value_tree a.value)) fb))
  same_argument None None same = refl
  same_argument (Some a) (Some b) same = same_supplied (is_nothing (literal_given e.values (value_tree a.value))) (is_nothing (literal_given e.values (value_tree b.value))) a b same.0 same.1
  same_argument None (Some b) same = sym (default_argument b same)
  same_argument (Some a) None same = default_argument a same

module _ (e : Scale) (written others : List Argument) where
  pub same_arguments : (ps : List Placed) → AllByRecursion (IsSameIn e written others) ps
      → values_in (all_in_order (λ i. argument_answer (input_forms e.schema) i (argument_given e.values written i.name)) (map placed_input ps)) ≡ values_in (all_in_order (λ i. argument_answer (input_forms e.schema) i (argument_given e.values others i.name)) (map placed_input ps))
  same_arguments [] same = refl
  same_arguments (p ∷ ps) same =
      let a = argument_answer (input_forms e.schema) p.0 (argument_given e.values written p.0.name) in
      let b = argument_answer (input_forms e.schema) p.0 (argument_given e.values others p.0.name) in
      let rest = all_in_order (λ i. argument_answer (input_forms e.schema) i (argument_given e.values written i.name)) (map placed_input ps) in
      let rest_too = all_in_order (λ i. argument_answer (input_forms e.schema) i (argument_given e.values others i.name)) (map placed_input ps) in
      and_then_in a rest ∙ (ap₂ (joined (λ v vs. v ∷ vs)) (same_argument e p (written_for written p.0.name) (written_for others p.0.name) same.0) (same_arguments ps same.1) ∙ sym (and_then_in b rest_too))
