-- What is looked up of types.
use Rattle.std.specs.Prelude.{ℕ, ◌≡◌, Bool, List, codes, if◌then◌else◌}
use Rattle.std.specs.Str.{bytes_eq}
use Rattle.input_values.specs.declared.inputs.types.InputKind.{InputKind}
use Rattle.input_values.specs.declared.inputs.types.InputKind.TheVariants.{Int, String, Boolean, Id, Float as FloatKind, Custom, Lax, Enum as EnumKind, Object, None as NoKind}
use Rattle.input_values.specs.declared.inputs.types.Absence.{Absence as AbsenceLook}
use Rattle.input_values.specs.declared.inputs.types.Absence.TheVariants.{Default, Nothing, Required}
use Rattle.input_values.specs.declared.inputs.types.InputField.{InputField}
use Rattle.input_values.specs.values.Coerced.{coerced_tree}
use Rattle.input_values.specs.inputs.Shapes.{shape_tree}
use Rattle.input_values.specs.coercion.Forms.{InputForm, integer_form, string_form, boolean_form, id_form, float_form, custom_form, lax_form, enum_form, object_form, no_form, names_of, fields_of, Absence, takes_default, stays_absent, is_required, FieldForm}

abbrev pub IsOfKind : InputKind → InputForm → Type 0
IsOfKind Int form = form ≡ integer_form
IsOfKind String form = form ≡ string_form
IsOfKind Boolean form = form ≡ boolean_form
IsOfKind Id form = form ≡ id_form
IsOfKind FloatKind form = form ≡ float_form
IsOfKind Custom form = form ≡ custom_form
IsOfKind Lax form = form ≡ lax_form
IsOfKind EnumKind form = form ≡ enum_form (names_of form)
IsOfKind Object form = form ≡ object_form (fields_of form)
IsOfKind NoKind form = form ≡ no_form

abbrev pub absence_seen : AbsenceLook → Absence
absence_seen (Default default) = takes_default (coerced_tree default.now)
absence_seen Nothing = stays_absent
absence_seen Required = is_required

abbrev pub field_seen : InputField → FieldForm
field_seen f = record { name = f.name.now; shape = shape_tree f.shape.now; absence = absence_seen f.absence }

-- The built-in scalars by their names; any other is a custom scalar. What is lax may hold numbers that aren't whole: Float, or a
-- custom scalar.
abbrev pub scalar_kind : Bool → List ℕ → InputKind
scalar_kind lax name =
    if bytes_eq name (codes "Int") then Int
    else if bytes_eq name (codes "String") then String
    else if bytes_eq name (codes "Boolean") then Boolean
    else if bytes_eq name (codes "ID") then Id
    else if lax then (if bytes_eq name (codes "Float") then FloatKind else Lax)
    else Custom

abbrev pub scalar_form_of : InputKind → InputForm
scalar_form_of Int = integer_form
scalar_form_of String = string_form
scalar_form_of Boolean = boolean_form
scalar_form_of Id = id_form
scalar_form_of FloatKind = float_form
scalar_form_of Custom = custom_form
scalar_form_of Lax = lax_form
scalar_form_of kind = no_form

-- what the scalar of this name asks
abbrev pub scalar_form : Bool → List ℕ → InputForm
scalar_form lax name = scalar_form_of (scalar_kind lax name)
