-- The defaults of a schema text (GraphQL October 2021, 3.6.1 and 3.10): what its types ask of the values that are given for
-- them, and what the literal of a default comes to beside them.
use Rattle.std.specs.Prelude.{ℕ, List, map, slice_get, Option, None, Some, Ok, Err}
use Rattle.gql_base.specs.parts.Values.{ValueTree}
use Rattle.input_values.specs.values.Coerced.{CoercedTree}
use Rattle.input_values.specs.inputs.Shapes.{ShapeTree}
use Rattle.input_values.specs.coercion.Answers.{Answer}
use Rattle.input_values.specs.coercion.Forms.{InputForm, enum_form, no_form}
use Rattle.input_values.specs.coercion.Kinds.{scalar_form}
use Rattle.input_values.specs.defaults.Drafts.{FieldDraft, Draft, settled, drafted, default_value}
use Rattle.schema_reader.specs.Schemas.{DefinitionTree}
use Rattle.schema_rules.specs.declared.kind.Kind.{Kind}
use Rattle.schema_rules.specs.declared.kind.Kind.TheVariants.{Scalar, Object, Interface, Union, Enum, Input}
use Rattle.schema_rules.specs.Items.{items_of}
use Rattle.schema_rules.specs.TypeNames.{types_of}
use Rattle.schema_model.specs.Drafts.{InputDraft, TypeDraft, drafts_of}

abbrev pub asked_field : InputDraft → FieldDraft
asked_field d = record { name = d.name; shape = d.shape; default = d.default }

abbrev pub asked_by : Kind → TypeDraft → Draft
asked_by Scalar d = settled (scalar_form d.lax d.name)
asked_by Enum d = settled (enum_form d.values)
asked_by Input d = drafted (map asked_field d.inputs)
asked_by Object d = settled no_form
asked_by Interface d = settled no_form
asked_by Union d = settled no_form

-- what a type asks, with the literals of its defaults
abbrev pub asked : TypeDraft → Draft
asked d = asked_by d.kind d

abbrev pub asked_or : Option TypeDraft → Draft
asked_or None = settled no_form
asked_or (Some d) = asked d

-- by the numbers of types; another number is that of a type without values
abbrev pub all_asked : List TypeDraft → ℕ → Draft
all_asked drafts of = asked_or (slice_get drafts of)

-- what the types of a text ask
abbrev pub text_asks : List DefinitionTree → ℕ → Draft
text_asks text = all_asked (drafts_of (types_of (items_of text)) text)

abbrev pub value_in : Answer CoercedTree → Option CoercedTree
value_in (Ok t) = Some t
value_in (Err path) = None

-- the value of a default, if there is a default and it has one, where these are the forms of types
abbrev pub default_of : (ℕ → InputForm) → ShapeTree → Option ValueTree → Option CoercedTree
default_of form shape None = None
default_of form shape (Some literal) = value_in (default_value form shape literal)
