-- Types of inputs as the text of a schema has them, where defaults are literals (GraphQL October 2021, 3.6.1 and 3.10).
use Rattle.std.specs.Prelude.{ℕ, ◌≤◌, leb, List, [], map, Option, Some, None, Ok, Err, ◌≡◌, if◌then◌else◌}
use Rattle.gql_base.specs.parts.Values.{ValueTree}
use Rattle.input_values.specs.values.Coerced.{CoercedTree, nodes}
use Rattle.input_values.specs.inputs.Shapes.{ShapeTree}
use Rattle.input_values.specs.coercion.Answers.{Answer, refused}
use Rattle.input_values.specs.coercion.Forms.{Absence, takes_default, is_required, absence_of, FieldForm, InputForm, object_form}
use Rattle.input_values.specs.coercion.Coercion.{coerced}
use Rattle.input_values.specs.coercion.Literals.{no_variables, literal_given}

-- a field of an input object
pub record FieldDraft : Type 0 where
  pub name : List ℕ
  pub shape : ShapeTree
  pub default : Option ValueTree

pub data Draft : Type 0 where
  -- a scalar, an enum, or a type that is no input type
  settled : InputForm → Draft
  -- an input object
  drafted : List FieldDraft → Draft

-- the fields of an input object, and none of another type
abbrev pub draft_fields : Draft → List FieldDraft
draft_fields (settled form) = []
draft_fields (drafted fields) = fields

-- Types from this number on have no fields; those of a text are so from their count on.
abbrev pub HaveNoFieldsFrom : ℕ → (ℕ → Draft) → Type 0
HaveNoFieldsFrom n draft = (of : ℕ) → n ≤ of → draft_fields (draft of) ≡ []

-- a default's value has at most so many nodes
abbrev pub most_nodes : ℕ
most_nodes = 1000

abbrev pub small_enough : Answer CoercedTree → Answer CoercedTree
small_enough (Ok t) = if leb (nodes t) most_nodes then Ok t else refused
small_enough (Err path) = refused

-- what the literal of a default comes to beside these forms; it holds no variables
abbrev pub default_value : (ℕ → InputForm) → ShapeTree → ValueTree → Answer CoercedTree
default_value form shape literal = small_enough (coerced form (literal_given no_variables literal) shape)

-- a field whose default has no value must be given
abbrev pub default_absence : Answer CoercedTree → Absence
default_absence (Ok t) = takes_default t
default_absence (Err path) = is_required

abbrev pub draft_absence : (ShapeTree → ValueTree → Answer CoercedTree) → ShapeTree → Option ValueTree → Absence
draft_absence value shape None = absence_of shape
draft_absence value shape (Some literal) = default_absence (value shape literal)

abbrev pub filled_field : (ShapeTree → ValueTree → Answer CoercedTree) → FieldDraft → FieldForm
filled_field value f = record { name = f.name; shape = f.shape; absence = draft_absence value f.shape f.default }

-- `value` says what the literals of defaults come to
abbrev pub filled_form : (ShapeTree → ValueTree → Answer CoercedTree) → Draft → InputForm
filled_form value (settled form) = form
filled_form value (drafted fields) = object_form (map (filled_field value) fields)

-- The forms of types whose defaults are filled: each default is what its literal comes to beside these same forms. A
-- default that comes back to itself has no value among them, since values are finite, and neither has one that is
-- filled with a default without a value.
abbrev pub AreFilled : (ℕ → Draft) → (ℕ → InputForm) → Type 0
AreFilled draft form = (of : ℕ) → form of ≡ filled_form (default_value form) (draft of)
