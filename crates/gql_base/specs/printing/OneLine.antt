-- How a text from elsewhere is shown within a line.
use Rattle.std.specs.Prelude.{ℕ, ◌/◌, ◌%◌, Bool, not, List, [], ◌∷◌, if◌then◌else◌}
use Rattle.std.specs.Char.{digit_char, is_ascii_control}
use Rattle.std.specs.List.{flat_map, list_all}

-- the number of a control character: `\u00`, and two digits of base 16, in lower case
abbrev pub control_number : ℕ → List ℕ
control_number c = 92 ∷ 117 ∷ 48 ∷ 48 ∷ digit_char (c / 16) ∷ digit_char (c % 16) ∷ []

-- A byte of UTF-8 as it is shown. The characters below U+0020 and U+007F are one byte each, which is part of no other
-- character: they are shown by their numbers.
abbrev pub shown_byte : ℕ → List ℕ
shown_byte c = if is_ascii_control c then control_number c else c ∷ []

-- a text as it is shown within a line
unfoldable pub shown_in_line : List ℕ → List ℕ
shown_in_line text = flat_map shown_byte text

-- No line feed and no other control character stands in the text: it is one line.
unfoldable pub is_one_line : List ℕ → Bool
is_one_line text = list_all (λ c. not (is_ascii_control c)) text
