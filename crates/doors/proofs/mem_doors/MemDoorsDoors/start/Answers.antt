use Rattle.std.proofs.Common.{rules, ◌≡◌, false, is_some, length, slice_index_or}
use Rattle.std.proofs.lemmas.List.Elements.{All-same}
use Rattle.doors.proofs.Stopping.{none_of_none}
use Rattle.doors.proofs.mem_doors.MemDoorsDoors.start.Goals as goal

pub returns-clause-new : goal.returns-clause-new
returns-clause-new g c = λ k d within.
    let unused = All-same (λ door. (is_some door.kept ≡ false) × (length door.planned.items ≡ c.args.self.now.connections)
    × (door.faults ≡ 0) × (length door.past.items ≡ 0)) c.take_all.result.items c.args.self.now.doors.items
    c.take_all.ensures.items c.args.self.now.unused k d within in
    let many : length (slice_index_or c.take_all.result.items k d).planned.items ≡ c.args.connections
    = (let own = unused.1 in let same = c.if-self-connections.false in search rules) in
    record { free = unused.0; to_come = many; calm = unused.2; fresh = none_of_none _ _ unused.3 }
