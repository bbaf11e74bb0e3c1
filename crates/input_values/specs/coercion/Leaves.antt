-- What leaves coerce to at a named type (GraphQL October 2021, 3.5 and 3.9).
use Rattle.std.specs.Prelude.{ℕ, ℤ, List, Bool, true, false, Ok, if◌then◌else◌}
use Rattle.std.specs.Fmt.{signed_decimal}
use Rattle.gql_base.specs.parts.Ints.{is_int}
use Rattle.input_values.specs.values.Coerced.{CoercedTree, coerced_integer, coerced_float, coerced_string, coerced_boolean, coerced_enum}
use Rattle.input_values.specs.coercion.Answers.{Answer, refused}
use Rattle.input_values.specs.coercion.Forms.{is_value, InputForm, integer_form, string_form, boolean_form, id_form, float_form, custom_form, lax_form, enum_form}

-- an ID may be given as a whole number, and is its decimal text
abbrev pub integer_at : InputForm → ℤ → Answer CoercedTree
integer_at integer_form z = if is_int z then Ok (coerced_integer z) else refused
integer_at id_form z = Ok (coerced_string (signed_decimal z))
integer_at float_form z = Ok (coerced_integer z)
integer_at custom_form z = Ok (coerced_integer z)
integer_at lax_form z = Ok (coerced_integer z)
integer_at form z = refused

-- a number that isn't held as a whole one
abbrev pub float_at : InputForm → ℕ → Answer CoercedTree
float_at float_form bits = Ok (coerced_float bits)
float_at lax_form bits = Ok (coerced_float bits)
float_at form bits = refused

-- a string of a literal
abbrev pub string_at : InputForm → List ℕ → Answer CoercedTree
string_at string_form s = Ok (coerced_string s)
string_at id_form s = Ok (coerced_string s)
string_at custom_form s = Ok (coerced_string s)
string_at lax_form s = Ok (coerced_string s)
string_at form s = refused

abbrev pub one_of_names : List (List ℕ) → List ℕ → Answer CoercedTree
one_of_names names name = if is_value names name then Ok (coerced_enum name) else refused

-- a name in a literal
abbrev pub name_at : InputForm → List ℕ → Answer CoercedTree
name_at (enum_form names) name = one_of_names names name
name_at custom_form name = Ok (coerced_enum name)
name_at lax_form name = Ok (coerced_enum name)
name_at form name = refused

-- a string of JSON
abbrev pub text_at : InputForm → List ℕ → Answer CoercedTree
text_at (enum_form names) s = one_of_names names s
text_at form s = string_at form s

abbrev pub boolean_at : InputForm → Bool → Answer CoercedTree
boolean_at boolean_form b = Ok (coerced_boolean b)
boolean_at custom_form b = Ok (coerced_boolean b)
boolean_at lax_form b = Ok (coerced_boolean b)
boolean_at form b = refused

-- A value of which a custom scalar alone makes something; `any` says what, where its numbers may be other than whole, or mayn't.
abbrev pub custom_at : InputForm → (Bool → Answer CoercedTree) → Answer CoercedTree
custom_at custom_form any = any false
custom_at lax_form any = any true
custom_at form any = refused
