-- The symbols that texts have. All of them can be printed.
use Rattle.std.specs.Prelude.{ℕ, ◌<◌, Bool, length, IsTrue, IsUtf8, FitsSigned}
use Rattle.std.specs.Int.{w128}
use Rattle.gql_base.specs.lexical.Numbers.{IsFloat}
use Rattle.gql_base.specs.lexical.Pieces.{IsName, mark_bytes}
use Rattle.gql_base.specs.ways.Symbols.{Symbol, punctuator, identifier, integer, decimal, string}

-- What the symbols of every UTF-8 text are, in which floats may stand or may not: punctuators that have a text, names, integers of
-- 128 bits, floats as they are written, and strings in UTF-8.
abbrev pub IsTextual : Bool → Symbol → Type 0
IsTextual floats (punctuator kind) = 0 < length (mark_bytes kind)
IsTextual floats (identifier bytes at) = IsName bytes
IsTextual floats (integer value) = FitsSigned w128 value
IsTextual floats (decimal bytes) = IsTrue floats × IsFloat bytes
IsTextual floats (string value) = IsUtf8 value
