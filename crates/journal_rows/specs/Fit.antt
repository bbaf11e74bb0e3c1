-- States of a row in which the next step may be played.
use Rattle.std.specs.Prelude.{ℕ, List, Option}
use Rattle.journal_disk.specs.declared.mem_disk.MemDisk.{MemDisk}
use Rattle.account_journal.specs.Journals.{IsSound, Rests}
use Rattle.journal_rows.specs.declared.steps.State.{State}
use Rattle.journal_rows.specs.declared.steps.State.TheVariants.{Shut, Open}

-- an open journal is sound and at rest
abbrev pub IsFit : (MemDisk → Option (List ℕ)) → State → Type 0
IsFit reads (Shut disk) = Unit {0}
IsFit reads (Open journal) = IsSound journal × Rests reads journal
