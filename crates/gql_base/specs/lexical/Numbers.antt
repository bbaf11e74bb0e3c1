-- How integers and floats are written (GraphQL October 2021, 2.9.1 and 2.9.2).
use Rattle.std.specs.Prelude.{ℕ, ◌≡◌, Bool, true, false, ◌==◌, ◌||◌, List, [], ◌∷◌, ◌++◌, IsTrue, Option, None, Some}
use Rattle.std.specs.List.{AllPass}
use Rattle.std.specs.Char.{is_ascii_digit}
use Rattle.gql_base.specs.lexical.Characters.{is_exponent_mark, is_sign}

-- one or more digits
abbrev pub IsDigits : List ℕ → Type 0
IsDigits [] = ⊥
IsDigits (c ∷ cs) = IsTrue (is_ascii_digit c) × AllPass is_ascii_digit cs

-- one or more digits, which begin with `0` only where that is all
abbrev pub IsWhole : List ℕ → Type 0
IsWhole [] = ⊥
IsWhole (c ∷ cs) = IsTrue (is_ascii_digit c) × AllPass is_ascii_digit cs × (IsTrue (c == 48) → cs ≡ [])

-- `e` or `E`, a sign or none, and digits
pub record Exponent : Type 0 where
  pub letter : ℕ
  pub sign : Option ℕ
  pub digits : List ℕ

-- a minus or none, the digits before the dot, those after it, where it stands, and an exponent or none
pub record Numeral : Type 0 where
  pub minus : Bool
  pub whole : List ℕ
  pub fraction : Option (List ℕ)
  pub exponent : Option Exponent

abbrev pub minus_bytes : Bool → List ℕ
minus_bytes true = 45 ∷ []
minus_bytes false = []

abbrev pub fraction_bytes : Option (List ℕ) → List ℕ
fraction_bytes None = []
fraction_bytes (Some digits) = 46 ∷ digits

abbrev pub sign_bytes : Option ℕ → List ℕ
sign_bytes None = []
sign_bytes (Some sign) = sign ∷ []

abbrev pub exponent_bytes : Option Exponent → List ℕ
exponent_bytes None = []
exponent_bytes (Some exponent) = exponent.letter ∷ (sign_bytes exponent.sign ++ exponent.digits)

abbrev pub numeral_bytes : Numeral → List ℕ
numeral_bytes n = minus_bytes n.minus ++ (n.whole ++ (fraction_bytes n.fraction ++ exponent_bytes n.exponent))

abbrev pub IsFraction : Option (List ℕ) → Type 0
IsFraction None = Unit {0}
IsFraction (Some digits) = IsDigits digits

abbrev pub IsSign : Option ℕ → Type 0
IsSign None = Unit {0}
IsSign (Some sign) = IsTrue (is_sign sign)

abbrev pub IsExponent : Option Exponent → Type 0
IsExponent None = Unit {0}
IsExponent (Some exponent) = IsTrue (is_exponent_mark exponent.letter) × IsSign exponent.sign × IsDigits exponent.digits

abbrev pub IsNumeral : Numeral → Type 0
IsNumeral n = IsWhole n.whole × IsFraction n.fraction × IsExponent n.exponent

abbrev pub is_there : {A : Type 0} → Option A → Bool
is_there None = false
is_there (Some a) = true

-- a numeral with a fraction, an exponent or both
abbrev pub is_float : Numeral → Bool
is_float n = is_there n.fraction || is_there n.exponent

-- The bytes are such a numeral. They are kept as they are written, and no number is made of them here.
pub record IsFloat (bytes : List ℕ) : Type 0 where
  pub numeral : Numeral
  pub cut : bytes ≡ numeral_bytes numeral
  pub is : IsNumeral numeral
  pub is_real : IsTrue (is_float numeral)
