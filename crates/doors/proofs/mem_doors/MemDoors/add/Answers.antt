use Rattle.std.proofs.Common.{rules, ◌≡◌, false, is_some, is_ok, length}
use Rattle.doors.proofs.Stopping.{pushed}
use Rattle.doors.proofs.mem_doors.MemDoors.add.Goals as goal

pub invariant_of-self : goal.invariant_of-self
invariant_of-self g c = record {
  unused = pushed (λ door. (is_some door.kept ≡ false) × (length door.planned.items ≡ c.args.self.now.connections)
      × (door.faults ≡ 0) × (length door.past.items ≡ 0)) (is_ok c.push.result) c.push.new.self.items
      c.args.self.now.doors.items c.args.door c.push.ensures.items c.args.self.now.unused
      (let new = c.is_new.ensures in let is = c.if-not-is_new.false in search rules);
  room = c.args.self.now.room;
}
