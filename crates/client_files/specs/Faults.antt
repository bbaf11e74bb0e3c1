-- The first fault of a text that is no client file.
use Rattle.std.specs.Prelude.{◌≡◌, ℕ, ◌+◌, ◌*◌, ◌<◌, ◌≤◌, true, List, [], ◌∷◌, ◌++◌, length, map, ⊤}
use Rattle.std.specs.List.{before_first, list_any}
use Rattle.std.specs.Str.{bytes_eq}
use Rattle.client_files.specs.Limits.{client_limit}
use Rattle.client_files.specs.declared.client.Client.{Client}
use Rattle.client_files.specs.declared.fault.ClientsFault.{ClientsFault}
use Rattle.client_files.specs.declared.fault.ClientsFault.TheVariants.{BadLine, Repeated, TooMany, NoClient, Memory}
use Rattle.client_files.specs.declared.heading.Version.{Version}
use Rattle.client_files.specs.Lines.{is_space, lines_of}
use Rattle.client_files.specs.Headings.{version_line, IsWindowLine}
use Rattle.client_files.specs.ClientLines.{IsClientLine}

-- The line is of the form that stands behind these lines: the first names a version, the second gives a window, and each
-- further one names a client in that version.
abbrev pub IsInPlace : List (List ℕ) → List ℕ → Type 0
IsInPlace [] line = (version : Version) × (line ≡ version_line version)
IsInPlace (first ∷ []) line = (seconds : ℕ) × IsWindowLine line seconds
IsInPlace (first ∷ second ∷ further) line = (version : Version) × (first ≡ version_line version) × ((client : Client) × IsClientLine version line client)

-- the first word of a line, which is its key where the line names a client
abbrev pub first_word : List ℕ → List ℕ
first_word line = before_first is_space line

-- the key of the line stands in a client's line before it
abbrev pub NamesAgain : List (List ℕ) → List ℕ → Type 0
NamesAgain (first ∷ second ∷ further) line = list_any (bytes_eq (first_word line)) (map first_word further) ≡ true
NamesAgain _ line = ⊥

-- behind these lines, which end before the line of this number, comes this one
pub record Comes (lines before : List (List ℕ)) (line : List ℕ) (number : ℕ) : Type 0 where
  pub after : List (List ℕ)
  pub cut : lines ≡ before ++ (line ∷ after)
  pub counted : number ≡ length before + 1

-- The lines show this fault: this line isn't in its place; its key stood before; it is the 1,001st client's; or there is no
-- line of a client.
abbrev pub Shows : List (List ℕ) → ClientsFault → Type 0
Shows lines (BadLine number) = (before : List (List ℕ)) × (line : List ℕ) × Comes lines before line number × ¬ (IsInPlace before line)
Shows lines (Repeated number) = (before : List (List ℕ)) × (line : List ℕ) × Comes lines before line number × NamesAgain before line
Shows lines (TooMany number) = (before : List (List ℕ)) × (line : List ℕ) × Comes lines before line number × (length before ≡ client_limit + 2)
Shows lines NoClient = length lines ≤ 2
Shows lines Memory = ⊥

-- The order of the faults: by their lines, and on one line by their numbers. That there is no client comes behind all lines.
abbrev pub turn : List (List ℕ) → ClientsFault → ℕ
turn lines (BadLine number) = 4 * number + 1
turn lines (Repeated number) = 4 * number + 2
turn lines (TooMany number) = 4 * number + 3
turn lines NoClient = 4 * length lines + 4
turn lines Memory = 0

-- the lines show this fault, and none whose turn is before
pub record IsFirstFault (lines : List (List ℕ)) (fault : ClientsFault) : Type 0 where
  pub shows : Shows lines fault
  pub first : (earlier : ClientsFault) → turn lines earlier < turn lines fault → ¬ (Shows lines earlier)

-- want of memory, or the first fault of the lines
abbrev pub IsFaultOf : List (List ℕ) → ClientsFault → Type 0
IsFaultOf lines Memory = ⊤
IsFaultOf lines fault = IsFirstFault lines fault

-- want of memory, or the first fault of the text
abbrev pub IsFault : List ℕ → ClientsFault → Type 0
IsFault text fault = IsFaultOf (lines_of text) fault
