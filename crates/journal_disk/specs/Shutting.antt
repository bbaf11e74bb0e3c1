-- How a disk was left when it was shut.
use Rattle.std.specs.Prelude.{ℕ, Bool, List, Option, nat_lt, nat_eq, find, reverse, option_map, unwrap_or}
use Rattle.std.specs.Cmp.Lexicographic.{pointwise}
use Rattle.journal_disk.specs.declared.mem_disks.ShutDisk.{ShutDisk}

-- what it read as, where it told that, and whether a call on it had failed since it was opened
pub record Shut : Type 0 where
  pub reads : Option (List ℕ)
  pub failed : Bool

-- The count of faults of a disk begins at 0.
abbrev pub shut_with : Option (List ℕ) → ℕ → Shut
shut_with reads faults = record { reads = reads; failed = nat_lt 0 faults }

-- ---- disks in memory

abbrev pub has_name : List ℕ → ShutDisk → Bool
has_name name it = pointwise nat_eq it.name.items name

-- what the disk of a name reads as: as the latest of that name did when it was shut, or as those that were never opened do
abbrev pub held_by : List ℕ → List ShutDisk → List ℕ → List ℕ
held_by first shut name = unwrap_or (option_map (λ it. it.disk.bytes.items) (find (has_name name) (reverse shut))) first
