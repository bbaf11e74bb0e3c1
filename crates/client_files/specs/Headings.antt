-- The first two lines of a client file.
use Rattle.std.specs.Prelude.{◌≡◌, ℕ, ◌<◌, ◌≤◌, slice_index, List, ◌++◌, codes}
use Rattle.std.specs.Fmt.{decimal}
use Rattle.client_files.specs.Limits.{window_limit}
use Rattle.client_files.specs.declared.heading.Version.{Version}
use Rattle.client_files.specs.declared.heading.Version.TheVariants.{One, Two}

-- the first line names the version
abbrev pub version_line : Version → List ℕ
version_line One = codes "clients 1"
version_line Two = codes "clients 2"

-- the second line with a window of so many seconds
abbrev pub window_line : ℕ → List ℕ
window_line seconds = codes "window " ++ decimal seconds

-- the length of a window
abbrev pub IsWindow : ℕ → Type 0
IsWindow seconds = (1 ≤ seconds) × (seconds ≤ window_limit)

-- the second line gives the length of a window, in decimal digits without a leading zero
pub record IsWindowLine (line : List ℕ) (seconds : ℕ) : Type 0 where
  pub text : line ≡ window_line seconds
  pub window : IsWindow seconds

-- a text begins with a digit other than 0
abbrev pub BeginsNumber : List ℕ → Type 0
BeginsNumber text = (48 < slice_index text 0) × (slice_index text 0 < 58)
