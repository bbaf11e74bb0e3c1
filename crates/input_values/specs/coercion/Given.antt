-- What is given for an input type, in JSON or as a literal, before it is coerced.
use Rattle.std.specs.Prelude.{ℕ, ℤ, Bool, true, false, List, [], ◌∷◌, Option, Some, None, if◌then◌else◌}
use Rattle.input_values.specs.values.Coerced.{CoercedTree}

mutual
  pub data Given : Type 0 where
    given_null : Given
    given_integer : ℤ → Given
    -- a number that isn't held as a whole one, by the 64 bits of the nearest double
    given_float : (bits : ℕ) → Given
    -- a number that is past the doubles
    given_huge : Given
    -- a string of a literal
    given_string : List ℕ → Given
    -- a string of JSON, which may also be the name of an enum value
    given_text : List ℕ → Given
    -- a name in a literal
    given_name : List ℕ → Given
    given_boolean : Bool → Given
    given_list : GivenItems → Given
    -- an object; whether its names are known to be distinct, as they are in JSON
    given_object : (distinct : Bool) → GivenFields → Given
    -- a variable that has this value
    given_variable : CoercedTree → Given
    -- a variable without a value
    given_nothing : Given

  pub data GivenItems : Type 0 where
    no_given : GivenItems
    given_then : Given → GivenItems → GivenItems

  pub data GivenFields : Type 0 where
    no_given_field : GivenFields
    given_field_then : (name : List ℕ) → Given → GivenFields → GivenFields

abbrev pub is_nothing : Given → Bool
is_nothing given_null = false
is_nothing (given_integer z) = false
is_nothing (given_float bits) = false
is_nothing given_huge = false
is_nothing (given_string s) = false
is_nothing (given_text s) = false
is_nothing (given_name name) = false
is_nothing (given_boolean b) = false
is_nothing (given_list items) = false
is_nothing (given_object distinct fields) = false
is_nothing (given_variable t) = false
is_nothing given_nothing = true

-- a number by the bits of the nearest double, if there is one
abbrev pub bits_given : Option ℕ → Given
bits_given None = given_huge
bits_given (Some bits) = given_float bits

-- the names of fields, in their order
abbrev pub given_names : GivenFields → List (List ℕ)
given_names no_given_field = []
given_names (given_field_then name given others) = name ∷ given_names others

-- a field whose value is a variable without a value counts as absent
abbrev pub present : {A : Type 0} → Given → A → Option A
present given x = if is_nothing given then None else Some x
