-- The lines that the commands write.
use Rattle.std.specs.Prelude.{ℕ, List, [], ◌∷◌, ◌++◌, codes}
use Rattle.local_introspection.specs.PassedOn.{naming}

-- a text and its line end
abbrev pub line : List ℕ → List ℕ
line text = text ++ (10 ∷ [])

-- what is written where a file was not read
abbrev pub file_text : List ℕ → List ℕ
file_text name = codes "file " ++ name

-- a file is longer than its limit
abbrev pub too_large_text : List ℕ → List ℕ
too_large_text name = naming (codes "input 1 TooLarge") name

-- a file is no text
abbrev pub not_text_text : List ℕ → List ℕ
not_text_text name = naming (codes "input 2 NotText") name
