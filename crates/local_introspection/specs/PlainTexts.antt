-- Texts that stand in JSON as they are.
use Rattle.std.specs.Prelude.{ℕ, List, Bool, not, ◌&&◌, ◌==◌, nat_le}
use Rattle.std.specs.List.{list_all}

-- neither a control character, nor a quotation mark, nor a backslash
abbrev pub is_plain_byte : ℕ → Bool
is_plain_byte x = nat_le 32 x && (not (x == 34) && not (x == 92))

abbrev pub is_plain : List ℕ → Bool
is_plain text = list_all is_plain_byte text
