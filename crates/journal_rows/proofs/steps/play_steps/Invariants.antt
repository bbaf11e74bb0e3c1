use Rattle.std.proofs.Common.{◌≡◌, Some}
use Rattle.journal_disk.specs.declared.mem_disk.MemDisk.{MemDisk}
use Rattle.journal_rows.specs.Fit.{IsFit}
use Rattle.journal_rows.proofs.steps.play_steps.Given as goal

abbrev pub invariant-loop-at : goal.invariant-loop-at
invariant-loop-at l = IsFit (λ (disk : MemDisk). Some disk.bytes.items) l.state
