-- Lists that are compared side by side, element by element.
use Rattle.std.proofs.Common.{◌≡◌, ℕ, zero, suc, ◌+◌, ◌<◌, ◌≤◌, Bool, true, false, ◌&&◌, nat_eq, List, [], ◌∷◌, map, drop, length, get_or, refl, sym, ap, ◌∙◌, arith}
use Rattle.std.proofs.Math.Dec.{eqb-suc-zero, eqb-zero-suc, eqb-suc-suc}
use Rattle.std.specs.Str.{bytes_eq}
use Rattle.input_values.specs.declared.values.coerced.Coerced.{Coerced}
use Rattle.input_values.specs.declared.values.coerced.CoercedField.{CoercedField}
use Rattle.input_values.specs.values.Coerced.{coerced_tree, named_tree, trees_from, named_trees_from}
use Rattle.input_values.proofs.CoercedTrees.{field_opened}
use Rattle.schema_model.specs.declared.args.Arg.{Arg}
use Rattle.schema_model.specs.Arguments.{arg_data}
use Rattle.plan_model.specs.SameArguments.{same_value, same_items, same_fields, same_argument, same_arguments}
use Rattle.distinct_selections.specs.ComparedValues.{same_named}
use Rattle.gql_base.proofs.Lists.{at_front}

pub less : {A : Type 0} (at : ℕ) (xs : List A) → at < length xs → at + 1 ≤ length xs
less at xs h = omega arith

pub not_less : {n m : ℕ} → n ≤ m → m < n → ⊥
not_less a b = omega arith

module _ {A : Type 0} (same : List A → List A → Bool) (one : A → A → Bool) where
  -- how such a comparison goes on and ends
  pub record Compares : Type 0 where
    pub both_end : same [] [] ≡ true
    pub first_ends : (y : A) (ys : List A) → same [] (y ∷ ys) ≡ false
    pub second_ends : (x : A) (xs : List A) → same (x ∷ xs) [] ≡ false
    pub both_go : (x y : A) (xs ys : List A) → same (x ∷ xs) (y ∷ ys) ≡ one x y && same xs ys

  module _ (c : Compares) where
    pub one_differs : (xs ys : List A) (at : ℕ) (x y : A) (r all : Bool) → at < length xs → at < length ys → x ≡ get_or xs at x → y ≡ get_or ys at y → same (drop at xs) (drop at ys) ≡ all → r ≡ one x y → r ≡ false → false ≡ all
    one_differs xs ys at x y r all in_xs in_ys is_x is_y before here differs =
        sym (sym before ∙ (ap (λ l. same l (drop at ys)) (at_front xs at x in_xs is_x) ∙ (ap (λ l. same (x ∷ drop (at + 1) xs) l) (at_front ys at y in_ys is_y)
        ∙ (c.both_go x y (drop (at + 1) xs) (drop (at + 1) ys) ∙ ap (λ b. b && same (drop (at + 1) xs) (drop (at + 1) ys)) (sym here ∙ differs)))))

    pub one_is_same : (xs ys : List A) (at : ℕ) (x y : A) (r all : Bool) → at < length xs → at < length ys → x ≡ get_or xs at x → y ≡ get_or ys at y → same (drop at xs) (drop at ys) ≡ all → r ≡ one x y → r ≡ true → same (drop (at + 1) xs) (drop (at + 1) ys) ≡ all
    one_is_same xs ys at x y r all in_xs in_ys is_x is_y before here yes_ =
        sym (ap (λ l. same l (drop at ys)) (at_front xs at x in_xs is_x) ∙ (ap (λ l. same (x ∷ drop (at + 1) xs) l) (at_front ys at y in_ys is_y)
        ∙ (c.both_go x y (drop (at + 1) xs) (drop (at + 1) ys) ∙ ap (λ b. b && same (drop (at + 1) xs) (drop (at + 1) ys)) (sym here ∙ yes_)))) ∙ before

    pub at_end : (xs ys : List A) (at : ℕ) → at ≤ length xs → at ≤ length ys → (at < length xs → at < length ys → ⊥) → nat_eq (length xs) (length ys) ≡ same (drop at xs) (drop at ys)
    at_end [] [] zero a b end = sym c.both_end
    at_end [] (y ∷ ys) zero a b end = eqb-zero-suc (length ys) ∙ sym (c.first_ends y ys)
    at_end (x ∷ xs) [] zero a b end = eqb-suc-zero (length xs) ∙ sym (c.second_ends x xs)
    at_end (x ∷ xs) (y ∷ ys) zero a b end = absurd (end (omega arith) (omega arith))
    at_end [] ys (suc at) a b end = absurd (omega arith)
    at_end (x ∷ xs) [] (suc at) a b end = absurd (omega arith)
    at_end (x ∷ xs) (y ∷ ys) (suc at) a b end = eqb-suc-suc (length xs) (length ys) ∙ at_end xs ys at (omega arith) (omega arith) (λ i j. end (omega arith) (omega arith))

-- ---- coerced values, and arguments

abbrev pub items_compared : List Coerced → List Coerced → Bool
items_compared xs ys = same_items (trees_from (map coerced_tree xs)) (trees_from (map coerced_tree ys))

abbrev pub item_compared : Coerced → Coerced → Bool
item_compared x y = same_value (coerced_tree x) (coerced_tree y)

pub items_compare : Compares items_compared item_compared
unfolding same_value
items_compare = record { both_end = refl; first_ends = λ y ys. refl; second_ends = λ x xs. refl; both_go = λ x y xs ys. refl }

abbrev pub fields_compared : List CoercedField → List CoercedField → Bool
fields_compared xs ys = same_fields (named_trees_from (map named_tree xs)) (named_trees_from (map named_tree ys))

abbrev pub field_compared : CoercedField → CoercedField → Bool
field_compared x y = same_named (named_tree x) (named_tree y)

and_and : (a b c : Bool) → a && (b && c) ≡ (a && b) && c
and_and true b c = refl
and_and false b c = refl

pub fields_compare : Compares fields_compared field_compared
unfolding same_value
fields_compare = record {
  both_end = refl;
  first_ends = λ y ys. refl;
  second_ends = λ x xs. refl;
  both_go = λ x y xs ys. and_and (bytes_eq (named_tree x).0 (named_tree y).0) (same_value (named_tree x).1 (named_tree y).1) (fields_compared xs ys);
}

abbrev pub arguments_compared : List Arg → List Arg → Bool
arguments_compared xs ys = same_arguments (map arg_data xs) (map arg_data ys)

abbrev pub argument_compared : Arg → Arg → Bool
argument_compared x y = same_argument (arg_data x).value (arg_data y).value

pub arguments_compare : Compares arguments_compared argument_compared
arguments_compare = record { both_end = refl; first_ends = λ y ys. refl; second_ends = λ x xs. refl; both_go = λ x y xs ys. refl }

pub same_fields_of_objects : (f g : CoercedField) (r : Bool) → r ≡ same_value (coerced_tree f.value) (coerced_tree g.value) → bytes_eq f.name g.name ≡ true → r ≡ field_compared f g
same_fields_of_objects f g r is names = rw (field_opened f, field_opened g, names) is

pub other_names : (f g : CoercedField) → bytes_eq f.name g.name ≡ false → false ≡ field_compared f g
other_names f g names = rw (field_opened f, field_opened g, names) refl
