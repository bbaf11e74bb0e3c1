-- The kinds of types (GraphQL October 2021, 3.4).
use Rattle.std.specs.Prelude.{Bool, true, false}
use Rattle.schema_rules.specs.declared.kind.Kind.{Kind}
use Rattle.schema_rules.specs.declared.kind.Kind.TheVariants.{Scalar, Object, Interface, Union, Enum, Input}

abbrev pub is_scalar : Kind → Bool
is_scalar Scalar = true
is_scalar Object = false
is_scalar Interface = false
is_scalar Union = false
is_scalar Enum = false
is_scalar Input = false

abbrev pub is_object : Kind → Bool
is_object Scalar = false
is_object Object = true
is_object Interface = false
is_object Union = false
is_object Enum = false
is_object Input = false

abbrev pub is_interface : Kind → Bool
is_interface Scalar = false
is_interface Object = false
is_interface Interface = true
is_interface Union = false
is_interface Enum = false
is_interface Input = false

-- whether values of these types are given alone: input object types
abbrev pub is_input_only : Kind → Bool
is_input_only Scalar = false
is_input_only Object = false
is_input_only Interface = false
is_input_only Union = false
is_input_only Enum = false
is_input_only Input = true

-- whether values of these types are answered alone: object, interface and union types
abbrev pub is_output_only : Kind → Bool
is_output_only Scalar = false
is_output_only Object = true
is_output_only Interface = true
is_output_only Union = true
is_output_only Enum = false
is_output_only Input = false
