-- What a named type asks of a value that is given for it (GraphQL October 2021, 3.5, 3.9 and 3.10).
use Rattle.std.specs.Prelude.{ℕ, Bool, List, [], Option, Some, None, if◌then◌else◌}
use Rattle.std.specs.List.{list_any}
use Rattle.std.specs.Str.{bytes_eq}
use Rattle.input_values.specs.values.Coerced.{CoercedTree}
use Rattle.input_values.specs.inputs.Shapes.{ShapeTree, is_nullable}
use Rattle.input_values.specs.inputs.Definitions.{InputData}

-- What a field of an input object is where nothing is given for it.
pub data Absence : Type 0 where
  takes_default : CoercedTree → Absence
  stays_absent : Absence
  -- it may not be absent
  is_required : Absence

pub record FieldForm : Type 0 where
  pub name : List ℕ
  pub shape : ShapeTree
  pub absence : Absence

pub data InputForm : Type 0 where
  integer_form : InputForm
  string_form : InputForm
  boolean_form : InputForm
  id_form : InputForm
  float_form : InputForm
  -- a scalar that isn't built in, whose numbers are whole
  custom_form : InputForm
  -- a scalar that isn't built in and may hold numbers that aren't whole
  lax_form : InputForm
  enum_form : (names : List (List ℕ)) → InputForm
  object_form : (fields : List FieldForm) → InputForm
  -- a type that is no input type
  no_form : InputForm

-- whether an enum has a value of this name, and an input object a field
abbrev pub is_value : List (List ℕ) → List ℕ → Bool
is_value names name = list_any (λ value. bytes_eq value name) names

abbrev pub is_field : List FieldForm → List ℕ → Bool
is_field fields name = list_any (λ f. bytes_eq f.name name) fields

-- without a default
abbrev pub absence_of : ShapeTree → Absence
absence_of shape = if is_nullable shape then stays_absent else is_required

-- beside a default
abbrev pub absence_at : Option CoercedTree → ShapeTree → Absence
absence_at (Some default) shape = takes_default default
absence_at None shape = absence_of shape

-- an input field, by its definition
abbrev pub field_form : InputData → FieldForm
field_form i = record { name = i.name; shape = i.shape; absence = absence_at i.default i.shape }

-- the values of an enum, and the fields of an input object; none of other types
abbrev pub names_of : InputForm → List (List ℕ)
names_of (enum_form names) = names
names_of form = []

abbrev pub fields_of : InputForm → List FieldForm
fields_of (object_form fields) = fields
fields_of form = []
