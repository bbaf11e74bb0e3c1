use Rattle.std.proofs.Common.{map, ap, refl}
use Rattle.journal_disk.specs.Recorded.{call_of}
use Rattle.journal_disk.specs.Calls.{synced}
use Rattle.journal_disk.proofs.RecordLaws.{call_time, sync_images, sync_durable}
use Rattle.journal_disk.proofs.mem_disk.MemDiskDisk.sync.Goals as goal

pub returns-in-Ok-clause-durable : goal.returns-in-Ok-clause-durable
returns-in-Ok-clause-durable c =
    sync_durable c.args.self.now.first.items c.record_sync.new.self.first.items (map call_of c.args.self.now.calls.items) (map call_of c.record_sync.new.self.calls.items) synced
    (ap (λ v. v.items) c.record_sync.ensures.first) c.in-Ok.ensures.recorded
    c.args.self.now.bytes.items c.args.self.now.kept refl

pub returns-in-Ok-clause-images : goal.returns-in-Ok-clause-images
returns-in-Ok-clause-images c =
    sync_images c.args.self.now.first.items c.record_sync.new.self.first.items (map call_of c.args.self.now.calls.items) (map call_of c.record_sync.new.self.calls.items) synced
    (ap (λ v. v.items) c.record_sync.ensures.first) c.in-Ok.ensures.recorded refl

pub returns-in-Ok-clause-time : goal.returns-in-Ok-clause-time
returns-in-Ok-clause-time c =
    call_time c.args.self.now.first.items c.record_sync.new.self.first.items (map call_of c.args.self.now.calls.items) (map call_of c.record_sync.new.self.calls.items) synced
    (ap (λ v. v.items) c.record_sync.ensures.first) c.in-Ok.ensures.recorded
