-- All places that are refused, in the order in which coercion tells them: the names of an object before its fields, and
-- fields in the order of their definitions.
use Rattle.std.specs.Prelude.{ℕ, suc, List, [], ◌∷◌, ◌++◌, map, Bool, true, false, Option, Some, None, Ok, Err, if◌then◌else◌}
use Rattle.std.specs.Str.{bytes_eq}
use Rattle.input_values.specs.inputs.Shapes.{ShapeTree, named_shape, list_shape, is_nullable}
use Rattle.input_values.specs.coercion.Answers.{Path, Answer, key_step, item_step}
use Rattle.input_values.specs.coercion.Given.{Given, given_null, given_integer, given_float, given_huge, given_string, given_text, given_name, given_boolean, given_list, given_object, given_variable, given_nothing, GivenItems, no_given, given_then, GivenFields, no_given_field, given_field_then, given_names, present}
use Rattle.input_values.specs.coercion.Forms.{FieldForm, InputForm, custom_form, lax_form, object_form}
use Rattle.input_values.specs.coercion.Leaves.{integer_at, float_at, string_at, text_at, name_at, boolean_at, custom_at}
use Rattle.input_values.specs.coercion.Customs.{any_value}
use Rattle.input_values.specs.coercion.Places.{variable_at}
use Rattle.input_values.specs.coercion.Objects.{is_wrong, absent_at}

abbrev pub Paths : Type 0
Paths = List Path

-- the place that is spoken of
abbrev pub here : Paths
here = [] ∷ []

abbrev pub refusals : {A : Type 0} → Answer A → Paths
refusals (Ok x) = []
refusals (Err path) = path ∷ []

abbrev pub below : Path → Paths → Paths
below step paths = map (λ path. step ++ path) paths

abbrev pub null_refusals : Bool → Paths
null_refusals nullable = if nullable then [] else here

abbrev pub single_refusals : (ℕ → Paths) → ShapeTree → Paths
single_refusals named (named_shape of nullable) = named of
single_refusals named (list_shape item nullable) = single_refusals named item

abbrev pub list_refusals : (ShapeTree → Paths) → (ℕ → Paths) → ShapeTree → Paths
list_refusals items named (named_shape of nullable) = named of
list_refusals items named (list_shape item nullable) = items item

abbrev pub field_refusals : FieldForm → Option (ShapeTree → Paths) → Paths
field_refusals f (Some inner) = inner f.shape
field_refusals f None = refusals (absent_at f.absence)

abbrev pub fields_refusals : List FieldForm → (List ℕ → Option (ShapeTree → Paths)) → Paths
fields_refusals [] find = []
fields_refusals (f ∷ others) find = below (key_step f.name) (field_refusals f (find f.name)) ++ fields_refusals others find

-- the names that are no field's or stand again
abbrev pub wrong_names : Bool → List FieldForm → List (List ℕ) → List (List ℕ) → List (List ℕ)
wrong_names distinct fields seen [] = []
wrong_names distinct fields seen (name ∷ names) = if is_wrong distinct fields seen name then name ∷ wrong_names distinct fields (name ∷ seen) names else wrong_names distinct fields (name ∷ seen) names

abbrev pub object_refusals : InputForm → (List FieldForm → Paths) → (Bool → Paths) → Paths
object_refusals (object_form inputs) fields any = fields inputs
object_refusals custom_form fields any = any false
object_refusals lax_form fields any = any true
object_refusals form fields any = here

module _ (form : ℕ → InputForm) where
  unfoldable mutual
    pub all_refusals : Given → ShapeTree → Paths
    all_refusals given_null shape = null_refusals (is_nullable shape)
    all_refusals (given_integer z) shape = single_refusals (λ of. refusals (integer_at (form of) z)) shape
    all_refusals (given_float bits) shape = single_refusals (λ of. refusals (float_at (form of) bits)) shape
    all_refusals given_huge shape = here
    all_refusals (given_string s) shape = single_refusals (λ of. refusals (string_at (form of) s)) shape
    all_refusals (given_text s) shape = single_refusals (λ of. refusals (text_at (form of) s)) shape
    all_refusals (given_name name) shape = single_refusals (λ of. refusals (name_at (form of) name)) shape
    all_refusals (given_boolean b) shape = single_refusals (λ of. refusals (boolean_at (form of) b)) shape
    all_refusals (given_list items) shape = list_refusals (λ item. items_refusals 0 items item) (λ of. refusals (custom_at (form of) (λ lax. any_value lax (given_list items)))) shape
    all_refusals (given_object distinct fields) shape =
        single_refusals (λ of. object_refusals (form of) (λ inputs. map key_step (wrong_names distinct inputs [] (given_names fields)) ++ fields_refusals inputs (λ name. find_refusals name fields)) (λ lax. refusals (any_value lax (given_object distinct fields)))) shape
    all_refusals (given_variable t) shape = refusals (variable_at t (is_nullable shape))
    all_refusals given_nothing shape = null_refusals (is_nullable shape)

    pub items_refusals : ℕ → GivenItems → ShapeTree → Paths
    items_refusals n no_given item = []
    items_refusals n (given_then given others) item = below (item_step n) (all_refusals given item) ++ items_refusals (suc n) others item

    pub find_refusals : List ℕ → GivenFields → Option (ShapeTree → Paths)
    find_refusals name no_given_field = None
    find_refusals name (given_field_then other given others) = if bytes_eq other name then present given (λ shape. all_refusals given shape) else find_refusals name others

-- the first of them
abbrev pub first_path : Paths → Option Path
first_path [] = None
first_path (path ∷ paths) = Some path
