-- How much a script may hold.
use Rattle.std.specs.Prelude.{ℕ}

-- the most bytes of a request's id
abbrev pub id_limit : ℕ
id_limit = 16

-- the most lines
abbrev pub line_limit : ℕ
line_limit = 10000
