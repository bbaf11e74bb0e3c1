-- The hash that names a document.
use Rattle.std.specs.Prelude.{ℕ, Bool, ◌==◌, ◌&&◌, ◌||◌, nat_le, List, length}
use Rattle.std.specs.List.{list_all}
use Rattle.std.specs.Str.{bytes_eq}
use Rattle.sha2.specs.Sha256.{sha256}
use Rattle.hex.specs.Hex.{encode_lower}

-- the SHA-256 of a text (FIPS 180-4, section 6.2), written in hexadecimal with lower case letters
abbrev pub hash_of : List ℕ → List ℕ
hash_of text = encode_lower (sha256 text)

-- whether this is the hash of the text
abbrev pub is_hash_of : List ℕ → List ℕ → Bool
is_hash_of hash text = bytes_eq hash (hash_of text)

-- `0` to `9`, `a` to `f`
abbrev pub is_hash_digit : ℕ → Bool
is_hash_digit digit = (nat_le 48 digit && nat_le digit 57) || (nat_le 97 digit && nat_le digit 102)

-- whether a text has the form of a hash: 64 digits
abbrev pub is_hash : List ℕ → Bool
is_hash text = (length text == 64) && list_all is_hash_digit text
