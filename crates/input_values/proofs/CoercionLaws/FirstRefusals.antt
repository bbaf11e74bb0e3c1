-- The place that is told is the first of all that are refused.
use Rattle.std.proofs.Common.{◌≡◌, ℕ, suc, List, [], ◌∷◌, ◌++◌, map, Bool, true, false, cond, bytes_eq, Option, Some, None, option_map, Ok, Err, refl, sym, ap, ◌∙◌, subst}
use Rattle.std.specs.Option.{option_or}
use Rattle.input_values.specs.values.Coerced.{CoercedTree, coerced_null, coerced_list, coerced_object, CoercedTrees, coerced_then, CoercedFields}
use Rattle.input_values.specs.inputs.Shapes.{ShapeTree, named_shape, list_shape, is_nullable}
use Rattle.input_values.specs.coercion.Answers.{Path, Answer, at_step, mapped, both, key_step, item_step, refusal}
use Rattle.input_values.specs.coercion.Given.{Given, given_null, given_integer, given_float, given_huge, given_string, given_text, given_name, given_boolean, given_list, given_object, given_variable, given_nothing, GivenItems, no_given, given_then, GivenFields, no_given_field, given_field_then, given_names, is_nothing, present}
use Rattle.input_values.specs.coercion.Forms.{FieldForm, InputForm, integer_form, string_form, boolean_form, id_form, float_form, custom_form, lax_form, enum_form, object_form, no_form}
use Rattle.input_values.specs.coercion.Leaves.{integer_at, float_at, string_at, text_at, name_at, boolean_at, custom_at}
use Rattle.input_values.specs.coercion.Customs.{any_value}
use Rattle.input_values.specs.coercion.Places.{null_at, variable_at, list_of_one, single_at, list_at}
use Rattle.input_values.specs.coercion.Objects.{is_wrong, wrong_name, Finder, absent_at, field_answer, with_field, fields_at, object_of, object_by}
use Rattle.input_values.specs.coercion.Coercion.{coerced, items_coerced, find_coerced}
use Rattle.input_values.specs.coercion.Refusals.{Paths, refusals, below, null_refusals, single_refusals, list_refusals, field_refusals, fields_refusals, wrong_names, object_refusals, all_refusals, items_refusals, find_refusals, first_path}

first_below : (step : Path) (paths : Paths) → first_path (below step paths) ≡ option_map (λ path. step ++ path) (first_path paths)
first_below step [] = refl
first_below step (path ∷ paths) = refl

first_both : (front rest : Paths) → first_path (front ++ rest) ≡ option_or (first_path front) (first_path rest)
first_both [] rest = refl
first_both (path ∷ front) rest = refl

refusal_first : {A : Type 0} (a : Answer A) → first_path (refusals a) ≡ refusal a
refusal_first (Ok x) = refl
refusal_first (Err path) = refl

refusal_mapped : {A B : Type 0} (f : A → B) (a : Answer A) → refusal (mapped f a) ≡ refusal a
refusal_mapped f (Ok x) = refl
refusal_mapped f (Err path) = refl

refusal_step : {A : Type 0} (step : Path) (a : Answer A) → refusal (at_step step a) ≡ option_map (λ path. step ++ path) (refusal a)
refusal_step step (Ok x) = refl
refusal_step step (Err path) = refl

refusal_both : {A B C : Type 0} (f : A → B → C) (a : Answer A) (b : Answer B) → refusal (both f a b) ≡ option_or (refusal a) (refusal b)
refusal_both f (Ok x) b = refusal_mapped (f x) b
refusal_both f (Err path) b = refl

null_first : {A : Type 0} (x : A) (nullable : Bool) → first_path (null_refusals nullable) ≡ refusal (null_at x nullable)
null_first x true = refl
null_first x false = refl

single_first : (named : ℕ → Answer CoercedTree) (all : ℕ → Paths) → ((of : ℕ) → first_path (all of) ≡ refusal (named of)) → (s : ShapeTree) → first_path (single_refusals all s) ≡ refusal (single_at named s)
single_first named all each (named_shape of nullable) = each of
single_first named all each (list_shape item nullable) = single_first named all each item ∙ sym (refusal_mapped list_of_one (single_at named item))

list_first : (items : ShapeTree → Answer CoercedTrees) (inner : ShapeTree → Paths) (named : ℕ → Answer CoercedTree) (all : ℕ → Paths)
    → ((s : ShapeTree) → first_path (inner s) ≡ refusal (items s)) → ((of : ℕ) → first_path (all of) ≡ refusal (named of)) → (s : ShapeTree) → first_path (list_refusals inner all s) ≡ refusal (list_at items named s)
list_first items inner named all below each (named_shape of nullable) = each of
list_first items inner named all below each (list_shape item nullable) = below item ∙ sym (refusal_mapped coerced_list (items item))

-- under a name both find a value, or none does
abbrev Agree : Option (ShapeTree → Answer CoercedTree) → Option (ShapeTree → Paths) → Type 0
Agree None None = Unit {0}
Agree None (Some all) = ⊥
Agree (Some coerce) None = ⊥
Agree (Some coerce) (Some all) = (s : ShapeTree) → first_path (all s) ≡ refusal (coerce s)

field_first : (f : FieldForm) (x : Option (ShapeTree → Answer CoercedTree)) (y : Option (ShapeTree → Paths)) → Agree x y → first_path (field_refusals f y) ≡ refusal (field_answer f x)
field_first f None None agree = refusal_first (absent_at f.absence)
field_first f None (Some all) agree = absurd agree
field_first f (Some coerce) None agree = absurd agree
field_first f (Some coerce) (Some all) agree = agree f.shape ∙ sym (refusal_mapped Some (coerce f.shape))

fields_first : (fs : List FieldForm) (find : Finder) (inner : List ℕ → Option (ShapeTree → Paths)) → ((name : List ℕ) → Agree (find name) (inner name)) → first_path (fields_refusals fs inner) ≡ refusal (fields_at fs find)
fields_first [] find inner agree = refl
fields_first (f ∷ fs) find inner agree =
    let step = key_step f.name in
    let here = field_answer f (find f.name) in
    let paths = field_refusals f (inner f.name) in
    first_both (below step paths) (fields_refusals fs inner)
    ∙ (ap (λ x. option_or x (first_path (fields_refusals fs inner))) (first_below step paths ∙ (ap (option_map (λ path. step ++ path)) (field_first f (find f.name) (inner f.name) (agree f.name)) ∙ sym (refusal_step step here)))
    ∙ (ap (λ x. option_or (refusal (at_step step here)) x) (fields_first fs find inner agree) ∙ sym (refusal_both (with_field f.name) (at_step step here) (fields_at fs find))))

abbrev first_name : List (List ℕ) → Option (List ℕ)
first_name [] = None
first_name (name ∷ names) = Some name

name_or : (wrong : Bool) (name : List ℕ) (rest : Option (List ℕ)) (names : List (List ℕ)) → first_name names ≡ rest → first_name (cond wrong (name ∷ names) names) ≡ cond wrong (Some name) rest
name_or true name rest names e = refl
name_or false name rest names e = e

wrong_first : (distinct : Bool) (fs : List FieldForm) (seen names : List (List ℕ)) → first_name (wrong_names distinct fs seen names) ≡ wrong_name distinct fs seen names
wrong_first distinct fs seen [] = refl
wrong_first distinct fs seen (name ∷ names) = name_or (is_wrong distinct fs seen name) name (wrong_name distinct fs (name ∷ seen) names) (wrong_names distinct fs (name ∷ seen) names) (wrong_first distinct fs (name ∷ seen) names)

object_of_first : (wrong : List (List ℕ)) (o : Option (List ℕ)) (paths : Paths) (a : Answer CoercedFields) → first_name wrong ≡ o → first_path paths ≡ refusal a → first_path (map key_step wrong ++ paths) ≡ refusal (object_of o a)
object_of_first [] o paths a same rest = subst (λ x. first_path paths ≡ refusal (object_of x a)) same (rest ∙ sym (refusal_mapped coerced_object a))
object_of_first (name ∷ wrong) o paths a same rest = subst (λ x. Some (key_step name) ≡ refusal (object_of x a)) same refl

object_first : (form : InputForm) (fields : List FieldForm → Answer CoercedTree) (inner : List FieldForm → Paths) (any : Bool → Answer CoercedTree) → ((fs : List FieldForm) → first_path (inner fs) ≡ refusal (fields fs)) → first_path (object_refusals form inner (λ lax. refusals (any lax))) ≡ refusal (object_by form fields any)
object_first integer_form fields inner any each = refl
object_first string_form fields inner any each = refl
object_first boolean_form fields inner any each = refl
object_first id_form fields inner any each = refl
object_first float_form fields inner any each = refl
object_first custom_form fields inner any each = refusal_first (any false)
object_first lax_form fields inner any each = refusal_first (any true)
object_first (enum_form names) fields inner any each = refl
object_first (object_form fs) fields inner any each = each fs
object_first no_form fields inner any each = refl

found_agree : (here : Bool) (g : Given) (coerce : ShapeTree → Answer CoercedTree) (all : ShapeTree → Paths) (x : Option (ShapeTree → Answer CoercedTree)) (y : Option (ShapeTree → Paths)) → ((s : ShapeTree) → first_path (all s) ≡ refusal (coerce s)) → Agree x y → Agree (cond here (present g coerce) x) (cond here (present g all) y)
found_agree false g coerce all x y each later = later
found_agree true g coerce all x y each later = where_given (is_nothing g) each
  where
    where_given : (nothing : Bool) → ((s : ShapeTree) → first_path (all s) ≡ refusal (coerce s)) → Agree (cond nothing None (Some coerce)) (cond nothing None (Some all))
    where_given true e = tt
    where_given false e = e

module _ (form : ℕ → InputForm) where
  mutual
    unfolding all_refusals

    pub first_refusal : (g : Given) (s : ShapeTree) → first_path (all_refusals form g s) ≡ refusal (coerced form g s)
    first_refusal given_null s = null_first coerced_null (is_nullable s)
    first_refusal (given_integer z) s = single_first (λ of. integer_at (form of) z) (λ of. refusals (integer_at (form of) z)) (λ of. refusal_first (integer_at (form of) z)) s
    first_refusal (given_float bits) s = single_first (λ of. float_at (form of) bits) (λ of. refusals (float_at (form of) bits)) (λ of. refusal_first (float_at (form of) bits)) s
    first_refusal given_huge s = refl
    first_refusal (given_string b) s = single_first (λ of. string_at (form of) b) (λ of. refusals (string_at (form of) b)) (λ of. refusal_first (string_at (form of) b)) s
    first_refusal (given_text b) s = single_first (λ of. text_at (form of) b) (λ of. refusals (text_at (form of) b)) (λ of. refusal_first (text_at (form of) b)) s
    first_refusal (given_name b) s = single_first (λ of. name_at (form of) b) (λ of. refusals (name_at (form of) b)) (λ of. refusal_first (name_at (form of) b)) s
    first_refusal (given_boolean b) s = single_first (λ of. boolean_at (form of) b) (λ of. refusals (boolean_at (form of) b)) (λ of. refusal_first (boolean_at (form of) b)) s
    first_refusal (given_list gs) s =
        list_first (λ item. items_coerced form 0 gs item) (λ item. items_refusals form 0 gs item) (λ of. custom_at (form of) (λ lax. any_value lax (given_list gs))) (λ of. refusals (custom_at (form of) (λ lax. any_value lax (given_list gs))))
        (λ item. first_item 0 gs item) (λ of. refusal_first (custom_at (form of) (λ lax. any_value lax (given_list gs)))) s
    first_refusal (given_object distinct fs) s =
        let any : Bool → Answer CoercedTree = λ lax. any_value lax (given_object distinct fs) in
        let wrong : List FieldForm → Option (List ℕ) = λ inputs. wrong_name distinct inputs [] (given_names fs) in
        let all_wrong : List FieldForm → List (List ℕ) = λ inputs. wrong_names distinct inputs [] (given_names fs) in
        let fields : List FieldForm → Answer CoercedFields = λ inputs. fields_at inputs (λ name. find_coerced form name fs) in
        let inner : List FieldForm → Paths = λ inputs. fields_refusals inputs (λ name. find_refusals form name fs) in
        single_first (λ of. object_by (form of) (λ inputs. object_of (wrong inputs) (fields inputs)) any) (λ of. object_refusals (form of) (λ inputs. map key_step (all_wrong inputs) ++ inner inputs) (λ lax. refusals (any lax)))
        (λ of. object_first (form of) (λ inputs. object_of (wrong inputs) (fields inputs)) (λ inputs. map key_step (all_wrong inputs) ++ inner inputs) any
        (λ inputs. object_of_first (all_wrong inputs) (wrong inputs) (inner inputs) (fields inputs) (wrong_first distinct inputs [] (given_names fs)) (fields_first inputs (λ name. find_coerced form name fs) (λ name. find_refusals form name fs) (λ name. first_found name fs)))) s
    first_refusal (given_variable v) s = refusal_first (variable_at v (is_nullable s))
    first_refusal given_nothing s = null_first coerced_null (is_nullable s)

    first_item : (n : ℕ) (gs : GivenItems) (s : ShapeTree) → first_path (items_refusals form n gs s) ≡ refusal (items_coerced form n gs s)
    first_item n no_given s = refl
    first_item n (given_then g gs) s =
        let here = coerced form g s in
        first_both (below (item_step n) (all_refusals form g s)) (items_refusals form (suc n) gs s)
        ∙ (ap (λ x. option_or x (first_path (items_refusals form (suc n) gs s))) (first_below (item_step n) (all_refusals form g s) ∙ (ap (option_map (λ path. item_step n ++ path)) (first_refusal g s) ∙ sym (refusal_step (item_step n) here)))
        ∙ (ap (λ x. option_or (refusal (at_step (item_step n) here)) x) (first_item (suc n) gs s) ∙ sym (refusal_both coerced_then (at_step (item_step n) here) (items_coerced form (suc n) gs s))))

    first_found : (name : List ℕ) (fs : GivenFields) → Agree (find_coerced form name fs) (find_refusals form name fs)
    first_found name no_given_field = tt
    first_found name (given_field_then other g others) = found_agree (bytes_eq other name) g (λ s. coerced form g s) (λ s. all_refusals form g s) (find_coerced form name others) (find_refusals form name others) (λ s. first_refusal g s) (first_found name others)
