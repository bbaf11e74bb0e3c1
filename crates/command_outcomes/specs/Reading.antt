-- What a read took of a file.
use Rattle.std.specs.Prelude.{◌≡◌, ℕ, ◌+◌, ◌≤◌, ◌<◌, ◌⊎◌, List, Option, IfSome, IsUtf8, take, length}
use Rattle.command_outcomes.specs.declared.outcome.Outcome.{Outcome}
use Rattle.command_outcomes.specs.Texts.{too_large_text, not_text_text}
use Rattle.command_outcomes.specs.Outcomes.{FilesTold, NoFileFailed, IsStopped, IsRefusedAs}

-- these bytes were read: the file's content, or of a longer file its first `limit` + 1 bytes, where its content is told
abbrev pub IsRead : ℕ → Option (List ℕ) → List ℕ → Type 0
IsRead limit content bytes = IfSome content (λ whole. bytes ≡ take (limit + 1) whole)

-- the bytes are a text within the limit
pub record IsText (limit : ℕ) (bytes : List ℕ) : Type 0 where
  pub within : length bytes ≤ limit
  pub utf8 : IsUtf8 bytes

-- The file is this text.
abbrev pub IsTextOf : ℕ → Option (List ℕ) → List ℕ → Type 0
IsTextOf limit content text = IsRead limit content text × IsText limit text

-- The file is some text.
abbrev pub HoldsText : ℕ → Option (List ℕ) → Type 0
HoldsText limit content = (text : List ℕ) × IsTextOf limit content text

-- The bytes of the file of this name are longer than the limit, or no text, and that is told.
abbrev pub IsNoText : ℕ → List ℕ → List ℕ → Outcome → Type 0
IsNoText limit name bytes outcome = ((limit < length bytes) × IsRefusedAs (too_large_text name) outcome)
    ⊎ ((length bytes ≤ limit) × (¬ IsUtf8 bytes) × IsRefusedAs (not_text_text name) outcome)

-- The file of this name was not read; or it holds no text within the limit, and no other file failed before that was told.
abbrev pub HasNoText : ℕ → List ℕ → FilesTold → Outcome → Type 0
HasNoText limit name files outcome = IsStopped (λ other. other ≡ name) files outcome
    ⊎ ((bytes : List ℕ) × IsRead limit (files.content name) bytes × IsNoText limit name bytes outcome × NoFileFailed files)
