-- What the types of a schema ask of the values that are given for them (GraphQL October 2021, 3.5, 3.9 and 3.10).
use Rattle.std.specs.Prelude.{ℕ, map}
use Rattle.input_values.specs.coercion.Forms.{InputForm, enum_form, object_form, no_form, field_form}
use Rattle.input_values.specs.coercion.Kinds.{scalar_form}
use Rattle.schema_rules.specs.declared.kind.Kind.{Kind}
use Rattle.schema_rules.specs.declared.kind.Kind.TheVariants.{Scalar, Object, Interface, Union, Enum, Input}
use Rattle.schema_model.specs.SchemaData.{TypeData, SchemaData, type_at}
use Rattle.schema_model.specs.declared.schema.Schema.{Schema}
use Rattle.schema_model.specs.SchemaViews.{schema_data}

abbrev pub form_by : Kind → TypeData → InputForm
form_by Scalar t = scalar_form t.lax t.name
form_by Enum t = enum_form t.values
form_by Input t = object_form (map field_form t.inputs)
form_by Object t = no_form
form_by Interface t = no_form
form_by Union t = no_form

abbrev pub type_form : TypeData → InputForm
type_form t = form_by t.kind t

-- what each type asks, by its number
abbrev pub input_forms : SchemaData → ℕ → InputForm
input_forms s of = type_form (type_at s of)

abbrev pub schema_forms : Schema → ℕ → InputForm
schema_forms s = input_forms (schema_data s)
