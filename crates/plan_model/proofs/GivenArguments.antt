-- The arguments that a tree of a document writes come to the values of the arguments that are written.
use Rattle.std.proofs.Common.{◌≡◌, ℕ, List, [], ◌∷◌, map, find, bytes_eq, true, false, Option, Result, refl, sym, ap, ◌∙◌, ⊎_elim}
use Rattle.std.specs.Prelude.{option_map}
use Rattle.std.proofs.lemmas.Bool.{cases_Bool}
use Rattle.gql_base.specs.declared.parts.trees.Argument.{Argument}
use Rattle.gql_base.specs.parts.Trees.{named_value}
use Rattle.gql_base.specs.parts.Values.{NamedValue}
use Rattle.gql_base.proofs.PrintingLaws.PrintSteps.{open_argument}
use Rattle.input_values.specs.coercion.Given.{Given}
use Rattle.input_values.specs.coercion.Literals.{Environment}
use Rattle.schema_model.specs.SchemaData.{SchemaData, field_at}
use Rattle.schema_model.specs.InputForms.{input_forms}
use Rattle.variable_coercion.specs.Refusals.{Refusal, and_then, all_in_order}
use Rattle.variable_coercion.specs.Arguments.{argument_given, argument_answer, arguments_answer}
use Rattle.plan_model.specs.SelectedFields.{given_under, coerced_arguments}
use Rattle.plan_model.specs.GivenAlike.{given_argument, AreGivenSame, AreGivenAlike}

same_given : (values : Environment) (name : List ℕ) (written : List Argument) → given_under values (map named_value written) name ≡ argument_given values written name
same_given values name [] = refl
same_given values name (a ∷ written) = rw (open_argument a) (⊎_elim
    (λ (is : bytes_eq a.name.text name ≡ true). rw (is) refl)
    (λ (is : bytes_eq a.name.text name ≡ false). rw (is) (same_given values name written))
    (cases_Bool (bytes_eq a.name.text name)))

pub same_in_order : {A B : Type 0} (f g : A → Result B Refusal) (xs : List A) → ((x : A) → f x ≡ g x) → all_in_order f xs ≡ all_in_order g xs
same_in_order f g [] h = refl
same_in_order f g (x ∷ xs) h = ap (λ r. and_then r (all_in_order f xs)) (h x) ∙ ap (λ r. and_then (g x) r) (same_in_order f g xs h)

pub same_arguments_written : (s : SchemaData) (field : ℕ) (written : List Argument) (values : Environment) → coerced_arguments s field (map named_value written) values ≡ arguments_answer s field written values
unfolding coerced_arguments
same_arguments_written s field written values = same_in_order
    (λ i. argument_answer (input_forms s) i (given_under values (map named_value written) i.name)) (λ i. argument_answer (input_forms s) i (argument_given values written i.name)) (field_at s field).arguments
    (λ i. ap (λ o. argument_answer (input_forms s) i o) (same_given values i.name written))

-- ---- arguments that are given alike

abbrev value_under : List (List ℕ × Given) → List ℕ → Option Given
value_under given name = option_map (λ g. g.1) (find (λ g. bytes_eq g.0 name) given)

under_given : (values : Environment) (name : List ℕ) (written : List NamedValue) → given_under values written name ≡ value_under (map (given_argument values) written) name
under_given values name [] = refl
under_given values name (a ∷ written) = ⊎_elim
    (λ (is : bytes_eq a.0.0 name ≡ true). rw (is) refl)
    (λ (is : bytes_eq a.0.0 name ≡ false). rw (is) (under_given values name written))
    (cases_Bool (bytes_eq a.0.0 name))

pub coerced_same : (s : SchemaData) (field : ℕ) (values : Environment) (written other : List NamedValue) → AreGivenSame values written other → coerced_arguments s field written values ≡ coerced_arguments s field other values
unfolding coerced_arguments
coerced_same s field values written other same = same_in_order (λ i. argument_answer (input_forms s) i (given_under values written i.name)) (λ i. argument_answer (input_forms s) i (given_under values other i.name)) (field_at s field).arguments
    (λ i. ap (λ o. argument_answer (input_forms s) i o) (under_given values i.name written ∙ (ap (λ g. value_under g i.name) same ∙ sym (under_given values i.name other))))

pub coerced_alike : (s : SchemaData) (field : ℕ) (values : Environment) (written other : List NamedValue) → AreGivenAlike written other → coerced_arguments s field written values ≡ coerced_arguments s field other values
coerced_alike s field values written other alike = coerced_same s field values written other (alike values)
