-- The range of the scalar `Int` (GraphQL October 2021, 3.5.1).
use Rattle.std.specs.Prelude.{ℤ, pos, negsuc, int_le, Bool, ◌&&◌}

-- a whole number of 32 bits with its sign
abbrev pub is_int : ℤ → Bool
is_int z = int_le (negsuc 2147483647) z && int_le z (pos 2147483647)
