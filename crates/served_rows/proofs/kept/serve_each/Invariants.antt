use Rattle.std.proofs.Common.{◌≡◌, Some}
use Rattle.journal_disk.specs.declared.mem_disk.MemDisk.{MemDisk}
use Rattle.gateway_journal.specs.Kept.{IsKeptFor}
use Rattle.served_rows.proofs.kept.serve_each.Given as goal

abbrev pub invariant-plans : goal.invariant-plans
invariant-plans g l = IsKeptFor (λ (disk : MemDisk). Some disk.bytes.items) l.journal l.gate × (l.journal.opened ≡ 0)
