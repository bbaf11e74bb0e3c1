-- The limits of client files.
use Rattle.std.specs.Prelude.{ℕ}

-- the greatest length of a key, in characters
abbrev pub key_limit : ℕ
key_limit = 64

-- the greatest length of a window, in seconds: a day
abbrev pub window_limit : ℕ
window_limit = 86400

-- how many clients a file may name
abbrev pub client_limit : ℕ
client_limit = 1000

-- the greatest component of the allowance of a client that carries, in millionths: half a million millions
abbrev pub carry_limit : ℕ
carry_limit = 500000000000000000

-- how many millionths make a thousandth, the smallest part that version 1 knows
abbrev pub thousandth : ℕ
thousandth = 1000
