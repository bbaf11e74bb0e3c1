-- How a place in a text is shown: its line, and a mark below the character that stands there.
use Rattle.std.specs.Prelude.{ℕ, ◌-◌, ◌/◌, ◌==◌, ◌&&◌, not, min, List, [], ◌∷◌, ◌++◌, length, take, drop, map, if◌then◌else◌}
use Rattle.std.specs.Char.{is_control}
use Rattle.std.specs.Str.{chars, encode_utf8_all}
use Rattle.text_places.specs.declared.marks.TheConstants.{SHOWN}
use Rattle.text_places.specs.Places.{line_of, line_before, characters}

-- The first character that is shown of a line of n characters, where the mark stands below the one after `front` others: a
-- line of more characters than are shown is cut around the mark.
abbrev pub first_shown : ℕ → ℕ → ℕ
first_shown n front = min (front - SHOWN / 2) (n - SHOWN)

-- the characters of a line that are shown
abbrev pub shown_characters : ℕ → List ℕ → List ℕ
shown_characters front cs = take SHOWN (drop (first_shown (length cs) front) cs)

-- How a character is shown: a control character that isn't a tab as U+FFFD, so that none comes to a terminal and the mark stands where it should.
abbrev pub shown : ℕ → ℕ
shown c = if is_control c && not (c == 9) then 65533 else c

-- what stands below a character in front of the mark: a tab below a tab, so that the mark stands where it should
abbrev pub blank_below : ℕ → ℕ
blank_below c = if c == 9 then 9 else 32

-- the characters in front of the mark, of those that are shown
abbrev pub shown_front : ℕ → List ℕ → List ℕ
shown_front front cs = take (front - first_shown (length cs) front) (shown_characters front cs)

-- the line as it is shown, a line feed, and the mark below it
abbrev pub marked : ℕ → List ℕ → List ℕ
marked front cs = encode_utf8_all (map shown (shown_characters front cs)) ++ (10 ∷ (map blank_below (shown_front front cs) ++ (94 ∷ [])))

-- the line of an offset with its mark
abbrev pub marked_line : List ℕ → ℕ → List ℕ
marked_line text at = marked (characters (line_before text at)) (chars (line_of text at))
