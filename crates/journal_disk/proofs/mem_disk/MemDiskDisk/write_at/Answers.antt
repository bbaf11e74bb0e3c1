use Rattle.std.proofs.Common.{map, ap, refl}
use Rattle.journal_disk.specs.Recorded.{call_of}
use Rattle.journal_disk.specs.Calls.{wrote}
use Rattle.journal_disk.proofs.RecordLaws.{call_time, write_images}
use Rattle.journal_disk.proofs.mem_disk.MemDiskDisk.write_at.Goals as goal

pub returns-in-Ok-clause-images : goal.returns-in-Ok-clause-images
returns-in-Ok-clause-images c =
    write_images c.args.self.now.first.items c.record_write.new.self.first.items (map call_of c.args.self.now.calls.items) (map call_of c.record_write.new.self.calls.items) (wrote c.args.at c.args.piece.now)
    (ap (λ v. v.items) c.record_write.ensures.first) c.in-Ok.ensures.recorded
    c.args.at c.args.piece.now refl

pub returns-in-Ok-clause-time : goal.returns-in-Ok-clause-time
returns-in-Ok-clause-time c =
    call_time c.args.self.now.first.items c.record_write.new.self.first.items (map call_of c.args.self.now.calls.items) (map call_of c.record_write.new.self.calls.items) (wrote c.args.at c.args.piece.now)
    (ap (λ v. v.items) c.record_write.ensures.first) c.in-Ok.ensures.recorded
