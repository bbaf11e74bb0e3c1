-- The same by the journals that were handed on. It serves proofs.
use Rattle.std.specs.Prelude.{◌≡◌, ℕ, [], ◌∷◌, Result, Ok, Err}
use Rattle.outside.specs.Faults.{Rose}
use Rattle.doors.specs.Starts.{DoorMembers, IsNew, Stopped, stopped_by}
use Rattle.account_journal.specs.declared.journal.Journal.{Journal}
use Rattle.gateway_journal.specs.PassedOn.{Gate, WireTelling}
use Rattle.gateway_serving.specs.PassedOn.{WorkDone}
use Rattle.gateway_serving.specs.declared.asked.Serving.{Serving}
use Rattle.gateway_serving.specs.Telling.{DoorsTold, StartAndStop, StartNone}
use Rattle.gateway_journal.specs.DoorRuns.{DiskMembers, ServesDoor, LosesDoor}
use Rattle.journal_serving.specs.declared.ending.KeptEnd.{KeptEnd}
use Rattle.journal_serving.specs.declared.ending.KeptFault.{KeptFault}
use Rattle.journal_serving.specs.declared.ending.KeptFault.TheVariants.{Disk, NotStarted, Memory}

-- One door was served over a journal to its end, and stopped; these are the accounts and the disk after it.
pub record WasServed {D J : Type 0} (t : DoorMembers D) (m : DiskMembers J) (gate : Gate) (connections : ℕ) (opened : Journal J) (stopped : Stopped) (disk : J) (end : KeptEnd) : Type 0 where
  pub door : D
  pub back : D
  pub new : IsNew t connections door
  pub closed : Journal J
  pub serves : ServesDoor t m gate connections opened closed door back end.done
  pub idle : closed.opened ≡ 0
  pub stopped_is : stopped ≡ stopped_by t connections back
  pub accounts : end.accounts.items ≡ closed.accounts.items
  pub disk_is : disk ≡ closed.disk

-- It was served until a call on the disk failed, and stopped.
pub record WasLost {D J W : Type 0} (t : DoorMembers D) (m : DiskMembers J) (tell : WireTelling W) (gate : Gate) (connections : ℕ) (opened : Journal J) (stopped : Stopped) (disk : J) : Type 0 where
  pub door : D
  pub back : D
  pub new : IsNew t connections door
  pub done : WorkDone
  pub loses : LosesDoor t m tell gate connections opened disk door back done
  pub stopped_is : stopped ≡ stopped_by t connections back

-- By how it ended: the door was started and stopped, and the disk handed back.
abbrev pub EndsOver : {D J W : Type 0} → DoorMembers D → DiskMembers J → WireTelling W → Gate → Serving → Journal J → DoorsTold → DoorsTold → J → Result KeptEnd KeptFault → Type 0
EndsOver t m tell gate serving opened before now disk (Ok end) =
    (stopped : Stopped) × StartAndStop serving before now (stopped ∷ []) × WasServed t m gate serving.connections opened stopped disk end
EndsOver t m tell gate serving opened before now disk (Err Disk) =
    (stopped : Stopped) × StartAndStop serving before now (stopped ∷ []) × WasLost t m tell gate serving.connections opened stopped disk
EndsOver t m tell gate serving opened before now disk (Err fault) = ⊥

-- From an opened journal: so it ended; or no doors were started, and their count rose; or there was no memory. Then the disk is the journal's.
abbrev pub WasKept : {D J W : Type 0} → DoorMembers D → DiskMembers J → WireTelling W → Gate → Serving → Journal J → DoorsTold → DoorsTold → J → Result KeptEnd KeptFault → Type 0
WasKept t m tell gate serving opened before now disk (Err NotStarted) = StartNone before now × Rose before.faults now.faults × (disk ≡ opened.disk)
WasKept t m tell gate serving opened before now disk (Err Memory) = StartNone before now × (now.faults ≡ before.faults) × (disk ≡ opened.disk)
WasKept t m tell gate serving opened before now disk came_to = EndsOver t m tell gate serving opened before now disk came_to
