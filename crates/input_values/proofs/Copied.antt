-- What was copied, and what is left, are the whole.
use Rattle.std.proofs.Common.{◌≡◌, ◌+◌, ◌<◌, ◌≤◌, ℕ, List, [], ◌∷◌, ◌++◌, length, map, drop, get_or, Vec, Global, sym, ap, ◌∙◌, append_assoc, append-nil}
use Rattle.std.proofs.lemmas.List.{drop_all, map-append}
use Rattle.gql_base.proofs.Lists.{at_front}
use Rattle.input_values.specs.declared.values.coerced.Coerced.{Coerced}
use Rattle.input_values.specs.declared.values.coerced.CoercedField.{CoercedField}
use Rattle.input_values.specs.declared.values.coerced.Coerced.TheViews.{List as ListValue, Object as ObjectValue}
use Rattle.input_values.specs.values.Coerced.{coerced_list, coerced_object, coerced_tree, named_tree, trees_from, named_trees_from}
use Rattle.input_values.proofs.CoercedTrees.{list_made, object_made}

pub one_copied : {A B : Type 0} (view : A → B) (done more xs : List A) (at : ℕ) (x y : A) → at < length xs → x ≡ get_or xs at x → view y ≡ view x → more ≡ done ++ y ∷ []
    → map view done ++ map view (drop at xs) ≡ map view xs → map view more ++ map view (drop (at + 1) xs) ≡ map view xs
one_copied view done more xs at x y within is same pushed whole =
    let rest = drop (at + 1) xs in
    ap (λ l. map view l ++ map view rest) pushed ∙ (ap (λ l. l ++ map view rest) (map-append view done (y ∷ [])) ∙ (append_assoc (map view done) (view y ∷ []) (map view rest)
    ∙ (ap (λ z. map view done ++ z ∷ map view rest) same ∙ (ap (λ l. map view done ++ map view l) (sym (at_front xs at x within is)) ∙ whole))))

pub all_copied : {A B : Type 0} (view : A → B) (done xs : List A) (at : ℕ) → length xs ≤ at → map view done ++ map view (drop at xs) ≡ map view xs → map view done ≡ map view xs
all_copied view done xs at end whole = sym (ap (λ l. map view done ++ map view l) (drop_all at xs end) ∙ append-nil (map view done)) ∙ whole

pub same_lists : (v w : Vec Coerced Global) (items : List Coerced) → items ≡ w.items → map coerced_tree v.items ≡ map coerced_tree items → coerced_tree (ListValue v) ≡ coerced_tree (ListValue w)
same_lists v w items seen same = list_made v ∙ (ap (λ l. coerced_list (trees_from l)) (same ∙ ap (map coerced_tree) seen) ∙ sym (list_made w))

pub same_objects : (v w : Vec CoercedField Global) (fields : List CoercedField) → fields ≡ w.items → map named_tree v.items ≡ map named_tree fields → coerced_tree (ObjectValue v) ≡ coerced_tree (ObjectValue w)
same_objects v w fields seen same = object_made v ∙ (ap (λ l. coerced_object (named_trees_from l)) (same ∙ ap (map named_tree) seen) ∙ sym (object_made w))
