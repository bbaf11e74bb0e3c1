-- Input objects (GraphQL October 2021, 3.10).
use Rattle.std.specs.Prelude.{ℕ, Bool, true, false, not, ◌&&◌, ◌||◌, List, [], ◌∷◌, Option, Some, None, Ok, Err, if◌then◌else◌}
use Rattle.std.specs.List.{list_any}
use Rattle.std.specs.Str.{bytes_eq}
use Rattle.input_values.specs.values.Coerced.{CoercedTree, coerced_object, CoercedFields, no_coerced_field, coerced_field_then}
use Rattle.input_values.specs.inputs.Shapes.{ShapeTree}
use Rattle.input_values.specs.coercion.Answers.{Answer, refused, mapped, both, at_step, key_step}
use Rattle.input_values.specs.coercion.Given.{given_object, GivenFields, given_names}
use Rattle.input_values.specs.coercion.Forms.{Absence, takes_default, stays_absent, is_required, FieldForm, is_field, InputForm, custom_form, lax_form, object_form}
use Rattle.input_values.specs.coercion.Customs.{any_value}

-- A name is wrong that is no field's, or that stands again where the names aren't known to be distinct; `seen` are those
-- before it.
abbrev pub is_wrong : Bool → List FieldForm → List (List ℕ) → List ℕ → Bool
is_wrong distinct fields seen name = not (is_field fields name) || (not distinct && list_any (bytes_eq name) seen)

-- the first of these names that is wrong
abbrev pub wrong_name : Bool → List FieldForm → List (List ℕ) → List (List ℕ) → Option (List ℕ)
wrong_name distinct fields seen [] = None
wrong_name distinct fields seen (name ∷ names) = if is_wrong distinct fields seen name then Some name else wrong_name distinct fields (name ∷ seen) names

-- What coerces the value that is given under a name; None where nothing is given.
abbrev pub Finder : Type 0
Finder = List ℕ → Option (ShapeTree → Answer CoercedTree)

abbrev pub absent_at : Absence → Answer (Option CoercedTree)
absent_at (takes_default t) = Ok (Some t)
absent_at stays_absent = Ok None
absent_at is_required = refused

abbrev pub field_answer : FieldForm → Option (ShapeTree → Answer CoercedTree) → Answer (Option CoercedTree)
field_answer f (Some coerce) = mapped Some (coerce f.shape)
field_answer f None = absent_at f.absence

abbrev pub with_field : List ℕ → Option CoercedTree → CoercedFields → CoercedFields
with_field name None others = others
with_field name (Some t) others = coerced_field_then name t others

-- the fields in the order of their definitions
abbrev pub fields_at : List FieldForm → Finder → Answer CoercedFields
fields_at [] find = Ok no_coerced_field
fields_at (f ∷ others) find = both (with_field f.name) (at_step (key_step f.name) (field_answer f (find f.name))) (fields_at others find)

-- A wrong name is told before any field.
abbrev pub object_of : Option (List ℕ) → Answer CoercedFields → Answer CoercedTree
object_of (Some name) fields = Err (key_step name)
object_of None fields = mapped coerced_object fields

-- What an object comes to at a type: `fields` says it for an input object, `any` for a custom scalar whose numbers may be other than
-- whole, or mayn't.
abbrev pub object_by : InputForm → (List FieldForm → Answer CoercedTree) → (Bool → Answer CoercedTree) → Answer CoercedTree
object_by (object_form inputs) fields any = fields inputs
object_by custom_form fields any = any false
object_by lax_form fields any = any true
object_by form fields any = refused

abbrev pub object_at : InputForm → Bool → GivenFields → Finder → Answer CoercedTree
object_at form distinct given find = object_by form (λ inputs. object_of (wrong_name distinct inputs [] (given_names given)) (fields_at inputs find)) (λ lax. any_value lax (given_object distinct given))
