-- When a coerced value is that of a given one, by cases and without an order of computing.
use Rattle.std.specs.Prelude.{◌≡◌, ℕ, List, [], ◌∷◌, Bool, true, false, not, ◌&&◌, ◌||◌, Option, Some, None, Ok}
use Rattle.std.specs.List.{list_all}
use Rattle.std.specs.Str.{bytes_eq}
use Rattle.gql_base.specs.names.Names.{are_distinct}
use Rattle.input_values.specs.values.Coerced.{CoercedTree, coerced_null, coerced_list, coerced_object, CoercedTrees, no_coerced, coerced_then, CoercedFields, no_coerced_field, is_coerced_null}
use Rattle.input_values.specs.inputs.Shapes.{ShapeTree, named_shape, list_shape, is_nullable}
use Rattle.input_values.specs.coercion.Answers.{Answer}
use Rattle.input_values.specs.coercion.Given.{Given, given_null, given_integer, given_float, given_huge, given_string, given_text, given_name, given_boolean, given_list, given_object, given_variable, given_nothing, GivenItems, no_given, given_then, GivenFields, no_given_field, given_field_then, given_names, is_nothing}
use Rattle.input_values.specs.coercion.Forms.{Absence, takes_default, stays_absent, is_required, FieldForm, is_field, InputForm, custom_form, lax_form, object_form}
use Rattle.input_values.specs.coercion.Leaves.{integer_at, float_at, string_at, text_at, name_at, boolean_at, custom_at}
use Rattle.input_values.specs.coercion.Customs.{any_value}
use Rattle.input_values.specs.coercion.Places.{list_of_one}
use Rattle.input_values.specs.coercion.Objects.{with_field}

-- a value that is no list, at a list in a list of one
abbrev pub IsSingle : (ℕ → CoercedTree → Type 0) → ShapeTree → CoercedTree → Type 0
IsSingle Is (named_shape of nullable) t = Is of t
IsSingle Is (list_shape item nullable) t = (u : CoercedTree) × (t ≡ list_of_one u) × IsSingle Is item u

-- a list, at a list item by item
abbrev pub IsList : (ShapeTree → CoercedTrees → Type 0) → (ℕ → CoercedTree → Type 0) → ShapeTree → CoercedTree → Type 0
IsList Are Is (named_shape of nullable) t = Is of t
IsList Are Is (list_shape item nullable) t = (items : CoercedTrees) × (t ≡ coerced_list items) × Are item items

abbrev pub IsAbsent : Absence → Option CoercedTree → Type 0
IsAbsent (takes_default default) t = t ≡ Some default
IsAbsent stays_absent t = t ≡ None
IsAbsent is_required t = ⊥

abbrev pub IsThere : (CoercedTree → Type 0) → Option CoercedTree → Type 0
IsThere Is None = ⊥
IsThere Is (Some t) = Is t

abbrev pub Either : Bool → Type 0 → Type 0 → Type 0
Either true A B = A
Either false A B = B

-- the fields that are there, in the order of their definitions; `Is` says what each is
abbrev pub AreFields : List FieldForm → (FieldForm → Option CoercedTree → Type 0) → CoercedFields → Type 0
AreFields [] Is fields = fields ≡ no_coerced_field
AreFields (f ∷ others) Is fields = (t : Option CoercedTree) × (rest : CoercedFields) × (fields ≡ with_field f.name t rest) × Is f t × AreFields others Is rest

-- each name is a field's, and none stands twice
abbrev pub NamesAreRight : Bool → List FieldForm → List (List ℕ) → Type 0
NamesAreRight distinct inputs names = (list_all (is_field inputs) names ≡ true) × ((distinct || are_distinct names) ≡ true)

abbrev pub IsObject : InputForm → (List FieldForm → CoercedTree → Type 0) → (Bool → Answer CoercedTree) → CoercedTree → Type 0
IsObject (object_form inputs) Is any t = Is inputs t
IsObject custom_form Is any t = any false ≡ Ok t
IsObject lax_form Is any t = any true ≡ Ok t
IsObject form Is any t = ⊥

module _ (form : ℕ → InputForm) where
  unfoldable mutual
    -- The value comes to this at a place of this shape.
    pub IsCoerced : Given → ShapeTree → CoercedTree → Type 0
    IsCoerced given_null shape t = (is_nullable shape ≡ true) × (t ≡ coerced_null)
    IsCoerced (given_integer z) shape t = IsSingle (λ of u. integer_at (form of) z ≡ Ok u) shape t
    IsCoerced (given_float bits) shape t = IsSingle (λ of u. float_at (form of) bits ≡ Ok u) shape t
    IsCoerced given_huge shape t = ⊥
    IsCoerced (given_string s) shape t = IsSingle (λ of u. string_at (form of) s ≡ Ok u) shape t
    IsCoerced (given_text s) shape t = IsSingle (λ of u. text_at (form of) s ≡ Ok u) shape t
    IsCoerced (given_name name) shape t = IsSingle (λ of u. name_at (form of) name ≡ Ok u) shape t
    IsCoerced (given_boolean b) shape t = IsSingle (λ of u. boolean_at (form of) b ≡ Ok u) shape t
    IsCoerced (given_list items) shape t = IsList (λ item ts. AreCoerced items item ts) (λ of u. custom_at (form of) (λ lax. any_value lax (given_list items)) ≡ Ok u) shape t
    IsCoerced (given_object distinct fields) shape t =
        IsSingle (λ of u. IsObject (form of) (λ inputs v. NamesAreRight distinct inputs (given_names fields) × (cs : CoercedFields) × (v ≡ coerced_object cs) × AreFields inputs (λ f o. IsField f.name fields f o) cs) (λ lax. any_value lax (given_object distinct fields)) u) shape t
    IsCoerced (given_variable v) shape t = (t ≡ v) × ((is_coerced_null v && not (is_nullable shape)) ≡ false)
    IsCoerced given_nothing shape t = (is_nullable shape ≡ true) × (t ≡ coerced_null)

    pub AreCoerced : GivenItems → ShapeTree → CoercedTrees → Type 0
    AreCoerced no_given item ts = ts ≡ no_coerced
    AreCoerced (given_then given others) item ts = (t : CoercedTree) × (rest : CoercedTrees) × (ts ≡ coerced_then t rest) × IsCoerced given item t × AreCoerced others item rest

    -- a field is what the first value under its name comes to, or what it is where nothing is given
    pub IsField : List ℕ → GivenFields → FieldForm → Option CoercedTree → Type 0
    IsField name no_given_field f t = IsAbsent f.absence t
    IsField name (given_field_then other given others) f t = Either (bytes_eq other name) (Either (is_nothing given) (IsAbsent f.absence t) (IsThere (λ u. IsCoerced given f.shape u) t)) (IsField name others f t)
