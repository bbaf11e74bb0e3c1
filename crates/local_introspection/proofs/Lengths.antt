-- A text is short enough, or longer than it may be, and not both.
use Rattle.std.proofs.Common.{◌⊎◌, ℕ, List, length, Option, None, Some, inl, inr, arith}
use Rattle.std.proofs.lemmas.Bool.{cases_lt}
use Rattle.local_introspection.specs.Lengths.{IsShort, IsLong}

pub short_or_long : (most : Option ℕ) (text : List ℕ) → IsShort most text ⊎ IsLong most text
short_or_long None text = inl tt
short_or_long (Some most) text = elim (cases_lt most (length text)) [ inl long ↦ inr long | inr short ↦ inl short ]

pub short_and_long : (most : Option ℕ) (text : List ℕ) → IsShort most text → IsLong most text → ⊥
short_and_long None text short long = long
short_and_long (Some most) text short long = omega (arith, short, long)
