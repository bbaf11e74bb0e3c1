-- The faults of a text: the first place in it that is no part of any token and isn't ignored.
use Rattle.std.specs.Prelude.{◌≡◌, ◌⊎◌, ℕ, ◌+◌, ◌<◌, Bool, false, List, [], ◌∷◌, ◌++◌, length, drop, IsTrue}
use Rattle.gql_base.specs.declared.lexical.lexing.LexFault.{LexFault}
use Rattle.gql_base.specs.declared.lexical.lexing.LexFault.TheVariants.{BadChar, BadNumber, OpenText, BadEscape, FloatValue, Memory}
use Rattle.gql_base.specs.lexical.Characters.{is_number_start, follows_no_number}
use Rattle.gql_base.specs.lexical.Numbers.{Numeral, numeral_bytes, IsNumeral, is_float}
use Rattle.gql_base.specs.lexical.Strings.{begins_with_mark}
use Rattle.gql_base.specs.lexical.Closings.{HasClosing, HasFaultInside}
use Rattle.gql_base.specs.lexical.Pieces.{Piece, Divides, BeginsWithout, BeginsNothing}

-- a float begins the text, and isn't followed by a digit, a dot or a name
pub record BeginsWithFloat (text : List ℕ) : Type 0 where
  pub numeral : Numeral
  pub after : List ℕ
  pub cut : text ≡ numeral_bytes numeral ++ after
  pub is : IsNumeral numeral
  pub is_real : IsTrue (is_float numeral)
  pub ends : BeginsWithout follows_no_number after

-- a digit or `-` begins the text
abbrev pub begins_as_number : List ℕ → Bool
begins_as_number [] = false
begins_as_number (c ∷ cs) = is_number_start c

-- A fault at the text's first place: a character that begins nothing, and neither a number nor a string; a number
-- that is neither an integer in range nor a float; a string that isn't closed; a float, where none may stand.
abbrev pub IsFaultInFront : Bool → List ℕ → LexFault → Type 0
IsFaultInFront floats text (BadChar at) = (at ≡ 0) × (begins_as_number text ≡ false) × (begins_with_mark text ≡ false) × BeginsNothing floats text
IsFaultInFront floats text (BadNumber at) = (at ≡ 0) × IsTrue (begins_as_number text) × BeginsNothing floats text × (BeginsWithFloat text → ⊥)
IsFaultInFront floats text (OpenText at) = (at ≡ 0) × IsTrue (begins_with_mark text) × (HasClosing text → ⊥)
IsFaultInFront floats text (BadEscape at) = ⊥
IsFaultInFront floats text (FloatValue at) = (floats ≡ false) × (at ≡ 0) × BeginsWithFloat text
IsFaultInFront floats text Memory = ⊥

-- The text begins with this fault, its place counted from there: at its first place, or inside a string that is
-- closed.
abbrev pub BeginsWithFault : Bool → List ℕ → LexFault → Type 0
BeginsWithFault floats text fault = IsFaultInFront floats text fault ⊎ HasFaultInside text fault

-- a fault whose places are counted from a place on, counted from the text's start
abbrev pub moved : ℕ → LexFault → LexFault
moved by (BadChar at) = BadChar (by + at)
moved by (BadNumber at) = BadNumber (by + at)
moved by (OpenText at) = OpenText (by + at)
moved by (BadEscape at) = BadEscape (by + at)
moved by (FloatValue at) = FloatValue (by + at)
moved by Memory = Memory

-- All before a place is pieces, each as long as possible, and this is the fault with which the rest begins.
pub record HasFault (floats : Bool) (text : List ℕ) (fault : LexFault) : Type 0 where
  pub at : ℕ
  pub inside : at < length text
  pub pieces : List Piece
  pub divided : Divides floats pieces text (drop at text)
  pub first : LexFault
  pub begins : BeginsWithFault floats (drop at text) first
  pub told : fault ≡ moved at first
