-- Coercion of input values (GraphQL October 2021, 3.5 to 3.12): what a given value comes to, or the first place that is
-- refused. It recurses on what is given alone.
use Rattle.std.specs.Prelude.{ℕ, suc, List, Option, None, Ok, if◌then◌else◌}
use Rattle.std.specs.Str.{bytes_eq}
use Rattle.input_values.specs.values.Coerced.{CoercedTree, coerced_null, CoercedTrees, no_coerced, coerced_then}
use Rattle.input_values.specs.inputs.Shapes.{ShapeTree, is_nullable}
use Rattle.input_values.specs.coercion.Answers.{Answer, refused, both, at_step, item_step}
use Rattle.input_values.specs.coercion.Given.{Given, given_null, given_integer, given_float, given_huge, given_string, given_text, given_name, given_boolean, given_list, given_object, given_variable, given_nothing, GivenItems, no_given, given_then, GivenFields, no_given_field, given_field_then, present}
use Rattle.input_values.specs.coercion.Forms.{InputForm}
use Rattle.input_values.specs.coercion.Leaves.{integer_at, float_at, string_at, text_at, name_at, boolean_at, custom_at}
use Rattle.input_values.specs.coercion.Customs.{any_value}
use Rattle.input_values.specs.coercion.Places.{null_at, variable_at, single_at, list_at}
use Rattle.input_values.specs.coercion.Objects.{object_at}

-- `form` says what each named type asks.
module _ (form : ℕ → InputForm) where
  abbrev mutual
    pub coerced : Given → ShapeTree → Answer CoercedTree
    coerced given_null shape = null_at coerced_null (is_nullable shape)
    coerced (given_integer z) shape = single_at (λ of. integer_at (form of) z) shape
    coerced (given_float bits) shape = single_at (λ of. float_at (form of) bits) shape
    coerced given_huge shape = refused
    coerced (given_string s) shape = single_at (λ of. string_at (form of) s) shape
    coerced (given_text s) shape = single_at (λ of. text_at (form of) s) shape
    coerced (given_name name) shape = single_at (λ of. name_at (form of) name) shape
    coerced (given_boolean b) shape = single_at (λ of. boolean_at (form of) b) shape
    coerced (given_list items) shape = list_at (λ item. items_coerced 0 items item) (λ of. custom_at (form of) (λ lax. any_value lax (given_list items))) shape
    coerced (given_object distinct fields) shape = single_at (λ of. object_at (form of) distinct fields (λ name. find_coerced name fields)) shape
    coerced (given_variable t) shape = variable_at t (is_nullable shape)
    -- as an item, or by itself; as a field it is absent
    coerced given_nothing shape = null_at coerced_null (is_nullable shape)

    -- the items from the n-th on
    pub items_coerced : ℕ → GivenItems → ShapeTree → Answer CoercedTrees
    items_coerced n no_given item = Ok no_coerced
    items_coerced n (given_then given others) item = both coerced_then (at_step (item_step n) (coerced given item)) (items_coerced (suc n) others item)

    -- the first that is given under this name
    pub find_coerced : List ℕ → GivenFields → Option (ShapeTree → Answer CoercedTree)
    find_coerced name no_given_field = None
    find_coerced name (given_field_then other given others) = if bytes_eq other name then present given (λ shape. coerced given shape) else find_coerced name others
