-- Values and arguments that are written in different ways or places and give the same, whatever the values of variables are.
use Rattle.std.specs.Prelude.{◌≡◌, ℕ, List, map}
use Rattle.gql_base.specs.parts.Values.{ValueTree, NamedValue}
use Rattle.input_values.specs.coercion.Given.{Given}
use Rattle.input_values.specs.coercion.Literals.{Environment, literal_given}

-- an argument by its name and by what is given for it, beside the values of variables
abbrev pub given_argument : Environment → NamedValue → List ℕ × Given
given_argument values a = (a.0.0, literal_given values a.1)

-- ---- The same is given by two values, by two lists of values, for two arguments and for two lists of arguments.

abbrev pub GivesAlike : ValueTree → ValueTree → Type 0
GivesAlike v w = (values : Environment) → literal_given values v ≡ literal_given values w

abbrev pub GiveAlike : List ValueTree → List ValueTree → Type 0
GiveAlike vs ws = (values : Environment) → map (literal_given values) vs ≡ map (literal_given values) ws

abbrev pub IsGivenAlike : NamedValue → NamedValue → Type 0
IsGivenAlike a b = (values : Environment) → given_argument values a ≡ given_argument values b

-- the same beside these values of variables
abbrev pub AreGivenSame : Environment → List NamedValue → List NamedValue → Type 0
AreGivenSame values written other = map (given_argument values) written ≡ map (given_argument values) other

abbrev pub AreGivenAlike : List NamedValue → List NamedValue → Type 0
AreGivenAlike written other = (values : Environment) → AreGivenSame values written other
