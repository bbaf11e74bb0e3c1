-- Values that are the same, item by item and field by field.
use Rattle.std.proofs.Common.{◌≡◌, ◌<◌, ◌≤◌, ◌-◌, ℕ, List, ◌∷◌, length, map, drop, get_or, Vec, Global, sym, ap, ap₂, ◌∙◌}
use Rattle.std.proofs.lemmas.List.{drop_all}
use Rattle.gql_base.proofs.NameLaws.IndexLaws.{dropped_before}
use Rattle.input_values.specs.declared.values.coerced.Coerced.{Coerced}
use Rattle.input_values.specs.declared.values.coerced.CoercedField.{CoercedField}
use Rattle.input_values.specs.declared.values.coerced.Coerced.TheViews.{List as ListValue, Object as ObjectValue}
use Rattle.input_values.specs.values.Coerced.{coerced_list, coerced_object, coerced_tree, named_tree, trees_from, named_trees_from}
use Rattle.input_values.proofs.CoercedTrees.{list_made, object_made, field_opened}

module _ {A B : Type 0} (f : A → B) (xs ys : List A) where
  pub none_same : (at : ℕ) → length xs ≤ at → length ys ≤ at → map f (drop at xs) ≡ map f (drop at ys)
  none_same at end end_too = ap (map f) (drop_all at xs end ∙ sym (drop_all at ys end_too))

  pub one_more_same : (at : ℕ) (x y : A) → 0 < at → at ≤ length xs → at ≤ length ys → x ≡ get_or xs (at - 1) x → y ≡ get_or ys (at - 1) y → f x ≡ f y → map f (drop at xs) ≡ map f (drop at ys) → map f (drop (at - 1) xs) ≡ map f (drop (at - 1) ys)
  one_more_same at x y some within within_too is is_too one rest =
      ap (map f) (dropped_before xs at x some within is) ∙ (ap₂ (λ a b. a ∷ b) one rest ∙ sym (ap (map f) (dropped_before ys at y some within_too is_too)))

pub lists_are_same : (v w o : Coerced) (a b : Vec Coerced Global) (xs ys : List Coerced) → v ≡ ListValue a → o ≡ ListValue b → coerced_tree o ≡ coerced_tree w → xs ≡ a.items → ys ≡ b.items → map coerced_tree xs ≡ map coerced_tree ys → coerced_tree v ≡ coerced_tree w
lists_are_same v w o a b xs ys is is_too behind seen seen_too same =
    ap coerced_tree is ∙ (list_made a ∙ (ap (λ l. coerced_list (trees_from l)) (ap (map coerced_tree) (sym seen) ∙ (same ∙ ap (map coerced_tree) seen_too)) ∙ (sym (list_made b) ∙ (sym (ap coerced_tree is_too) ∙ behind))))

pub objects_are_same : (v w o : Coerced) (a b : Vec CoercedField Global) (xs ys : List CoercedField) → v ≡ ObjectValue a → o ≡ ObjectValue b → coerced_tree o ≡ coerced_tree w → xs ≡ a.items → ys ≡ b.items → map named_tree xs ≡ map named_tree ys → coerced_tree v ≡ coerced_tree w
objects_are_same v w o a b xs ys is is_too behind seen seen_too same =
    ap coerced_tree is ∙ (object_made a ∙ (ap (λ l. coerced_object (named_trees_from l)) (ap (map named_tree) (sym seen) ∙ (same ∙ ap (map named_tree) seen_too)) ∙ (sym (object_made b) ∙ (sym (ap coerced_tree is_too) ∙ behind))))

pub fields_are_same : (f g : CoercedField) → f.name ≡ g.name → coerced_tree f.value ≡ coerced_tree g.value → named_tree f ≡ named_tree g
fields_are_same f g name value = field_opened f ∙ (ap₂ (λ n t. (n, t)) name value ∙ sym (field_opened g))
