-- Numbers that aren't whole, by the 64 bits of the double nearest to them (GraphQL October 2021, 3.5.2).
use Rattle.std.specs.Prelude.{ℕ, List, Option, Some, None, to_bits, if◌then◌else◌}
use Rattle.std.specs.Option.{option_and_then}
use Rattle.std.specs.Float.{Float, binary64, float_is_finite}
use Rattle.std.specs.Float.Parse.{parse_float}

-- the bits of a double; infinity is no number
abbrev pub finite_bits : Float → Option ℕ
finite_bits x = if float_is_finite x then Some (to_bits binary64 x) else None

-- the bits of the double nearest to what is written, if it isn't past the doubles
abbrev pub float_bits : List ℕ → Option ℕ
float_bits digits = option_and_then finite_bits (parse_float binary64 digits)
