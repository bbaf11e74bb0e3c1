use Rattle.std.proofs.Common.{◌∙◌, sym}
use Rattle.journal_disk.proofs.RecordLaws.{kept_new}
use Rattle.journal_disk.proofs.mem_disk.MemDisk.new.Goals as goal

pub invariant_of-result : goal.invariant_of-result
invariant_of-result c = record { kept = kept_new c.in_ok-first.first.items c.in_ok-bytes.bytes.items c.new.result.items (c.in_ok-bytes.ensures.items ∙ sym c.in_ok-first.ensures.items) c.new.ensures.items }
