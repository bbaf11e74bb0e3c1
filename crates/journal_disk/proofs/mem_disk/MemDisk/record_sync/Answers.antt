use Rattle.std.proofs.Common.{is_ok}
use Rattle.journal_disk.proofs.RecordLaws.{kept_synced}
use Rattle.journal_disk.proofs.mem_disk.MemDisk.record_sync.Goals as goal

pub invariant_of-self : goal.invariant_of-self
invariant_of-self c = record { kept = kept_synced c.args.self.now.first.items c.args.self.now.bytes.items c.args.self.now.calls.items c.push.new.self.items (is_ok c.push.result) c.args.self.now.kept c.push.ensures.items }
