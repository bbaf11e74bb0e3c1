use Rattle.std.proofs.Common.{rules, true}
use Rattle.doors.specs.Kept.{IsMadeBy}
use Rattle.doors.proofs.Stopping.{pushed}
use Rattle.doors.proofs.tcp_doors.doors_at.Goals as goal

pub doors-preserved : goal.doors-preserved
doors-preserved g c = (
  (let more = c.push_reserved.ensures.len in let so_far = c.doors.invariant.0 in search rules),
  pushed (IsMadeBy c.args.words.now) true
      c.push_reserved.new.self.items c.doors.doors.items c.in-Ok-door_at.door c.push_reserved.ensures.items
      c.doors.invariant.1 c.in-Ok-door_at.ensures,
  (let room = c.push_reserved.ensures.capacity in let so_far = c.doors.invariant.2 in search rules),
)
