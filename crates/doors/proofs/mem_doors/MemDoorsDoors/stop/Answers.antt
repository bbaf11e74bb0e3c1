use Rattle.std.proofs.Common.{false}
use Rattle.doors.proofs.Stopping.{stopping}
use Rattle.doors.proofs.mem_doors.MemDoorsDoors.stop.Goals as goal

pub returns-clause-stopped : goal.returns-clause-stopped
returns-clause-stopped g c = stopping (record { out = λ _. false; to_come = _; faults = _; visits = _ }) _ _ _ _ c.keep_stopped.ensures.kept
