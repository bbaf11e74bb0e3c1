-- What files hold, and what streams take.
use Rattle.std.specs.Prelude.{◌≡◌, ◌⊎◌, ◌<◌, ℕ, List, length, take, Option, None, Bool, Contains, find, nat_eq, string_bytes}
use Rattle.std.specs.Cmp.Lexicographic.{pointwise}
use Rattle.std.specs.Io.KnownBytes.{Appends, Consumes, IsAtEnd}
use Rattle.std.specs.Option.{option_map}
use Rattle.outside.specs.declared.files.MemFile.{MemFile}

-- the file has this name
abbrev pub has_name : List ℕ → MemFile → Bool
has_name name file = pointwise nat_eq (string_bytes file.name) name

-- the content of the first file of this name
abbrev pub content_of : List MemFile → List ℕ → Option (List ℕ)
content_of files name = option_map (λ file. file.content.items) (find (has_name name) files)

-- a read fails where its call was to fail, or no file has the name
abbrev pub Fails : List ℕ → ℕ → Option (List ℕ) → Type 0
Fails failing call content = Contains failing call ⊎ (content ≡ None)

-- a read gave the first `count` bytes of `into`, and none only at the end
abbrev pub Gives : Option (List ℕ) → Option (List ℕ) → ℕ → List ℕ → Type 0
Gives old new count into = Consumes old new (take count into) × (count ≡ 0 → 0 < length into → IsAtEnd new)

-- a stream took a front of the text, and not all of it
abbrev pub AppendsFront : Option (List ℕ) → Option (List ℕ) → List ℕ → Type 0
AppendsFront old new text = (count : ℕ) × (count < length text) × Appends old new (take count text)
