-- What is told of a refusal: its line, the place in its text, and sentences about it.
use Rattle.std.specs.Prelude.{◌≡◌, ℕ, min, List, [], ◌++◌, length, option_map, codes, Option, None, Some}
use Rattle.std.specs.Fmt.{decimal}
use Rattle.text_places.specs.Places.{line_number, column}
use Rattle.text_places.specs.Marks.{marked_line}
use Rattle.told_refusals.specs.declared.telling.Place.{Place}

-- a text, and an offset in it
abbrev pub Spot : Type 0
Spot = List ℕ × ℕ

abbrev pub spot_of : Place → Spot
spot_of p = (p.text.now, p.offset)

abbrev pub spot_seen : Option Place → Option Spot
spot_seen place = option_map spot_of place

-- the number of the line and the column, then the line itself, and a mark below the character that stands there
abbrev pub mark_text : List ℕ → ℕ → List ℕ
mark_text text at = codes "\nline " ++ (decimal (line_number text at) ++ (codes ", column " ++ (decimal (column text at) ++ (codes ":\n" ++ marked_line text at))))

-- an offset past the end of the text is that of its end
abbrev pub spot_text : Spot → List ℕ
spot_text s = mark_text s.0 (min s.1 (length s.0))

abbrev pub where_there : Option Spot → List ℕ
where_there None = []
where_there (Some s) = spot_text s

-- The text begins with the refusal's line, and shows the place where it has one; sentences stand behind.
abbrev pub Tells : List ℕ → Option Spot → List ℕ → Type 0
Tells refusal spot text = (sentences : List ℕ) × (text ≡ (refusal ++ where_there spot) ++ sentences)
