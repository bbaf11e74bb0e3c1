-- Lines of cells, whose columns stand one below another.
use Rattle.std.specs.Prelude.{◌≡◌, ℕ, zero, suc, ◌-◌, ◌<◌, max, Bool, false, List, [], ◌∷◌, ◌++◌, length, map, flat_map, get_or, replicate, if◌then◌else◌}
use Rattle.aligned_lines.specs.declared.lines.Line.{Line}

-- the texts of a line's cells
abbrev pub Cells : Type 0
Cells = List (List ℕ)

abbrev pub cells_of : Line → Cells
cells_of l = l.cells.items

-- the cell of a line in this column; an empty one where it has fewer
abbrev pub cell_at : ℕ → Cells → List ℕ
cell_at column l = get_or l column []

-- how long the longest cell of a column is
abbrev pub widest : ℕ → List Cells → ℕ
widest column [] = 0
widest column (l ∷ ls) = max (length (cell_at column l)) (widest column ls)

-- a cell as wide as its column: at the left, or at the right
abbrev pub padded : Bool → ℕ → List ℕ → List ℕ
padded left width cell = if left then cell ++ replicate (width - length cell) 32 else replicate (width - length cell) 32 ++ cell

-- what stands between columns, in front of this one
abbrev pub gap : ℕ → List ℕ
gap zero = []
gap (suc column) = 32 ∷ 32 ∷ []

module _ (left : List Bool) (lines : List Cells) where
  -- the cell of a column, with the gap in front of it
  abbrev pub cell_text : ℕ → List ℕ → List ℕ
  cell_text column cell = gap column ++ padded (get_or left column false) (widest column lines) cell

  -- the cells of a line from this column on
  unfoldable pub line_text : ℕ → Cells → List ℕ
  line_text column [] = []
  line_text column (cell ∷ cells) = cell_text column cell ++ line_text (suc column) cells

  -- a further line, with a line end in front
  abbrev pub line_below : Cells → List ℕ
  line_below l = 10 ∷ line_text 0 l

  abbrev pub lines_below : List Cells → List ℕ
  lines_below ls = flat_map line_below ls

-- The columns whose mark is true stand at the left, the others at the right. The last line has no line end.
abbrev pub aligned : List Bool → List Cells → List ℕ
aligned left [] = []
aligned left (l ∷ ls) = line_text left (l ∷ ls) 0 l ++ lines_below left (l ∷ ls) ls

abbrev pub lines_seen : List Line → List Cells
lines_seen lines = map cells_of lines

-- ---- in the service of the code

-- how many cells the line with the most cells has
abbrev pub most_cells : List Cells → ℕ
most_cells [] = 0
most_cells (l ∷ ls) = max (length l) (most_cells ls)

-- Each of these is how long the longest cell of its column is.
abbrev pub AreWidths : List Cells → List ℕ → Type 0
AreWidths lines widths = (column : ℕ) → column < length widths → get_or widths column 0 ≡ widest column lines
