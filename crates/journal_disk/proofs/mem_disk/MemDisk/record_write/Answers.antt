use Rattle.std.proofs.Common.{ap}
use Rattle.journal_disk.specs.declared.mem_disk.DiskCall.TheVariants.{Wrote}
use Rattle.journal_disk.specs.Calls.{wrote}
use Rattle.journal_disk.proofs.RecordLaws.{kept_wrote}
use Rattle.journal_disk.proofs.mem_disk.MemDisk.record_write.Goals as goal

pub invariant_of-self-in-Ok : goal.invariant_of-self-in-Ok
invariant_of-self-in-Ok c = record {
  kept = kept_wrote c.args.self.now.first.items c.args.self.now.bytes.items c.in_ok-next.next.items c.deref.result.now c.args.piece.now c.args.self.now.calls.items c.push.new.self.items c.args.at (Wrote c.args.at c.in_ok-piece.piece)
      c.args.self.now.kept c.in_ok-next.ensures c.deref.ensures.value c.in-Ok.ensures.items (ap (wrote c.args.at) c.in_ok-piece.ensures.items);
}
