-- Connections of a door that were served over a journal, one after the other.
use Rattle.std.specs.Prelude.{◌≡◌, ◌⊎◌, ℕ, ◌+◌, ◌*◌, ◌≤◌, ◌<◌, min, List, [], ◌∷◌, Bool, true, false, Option, length}
use Rattle.account_journal.specs.declared.journal.Journal.{Journal}
use Rattle.journal_disk.specs.declared.disk.Disk.{Ghosts}
use Rattle.outside.specs.Faults.{Rose}
use Rattle.doors.specs.Visits.{Told, Gained}
use Rattle.doors.specs.Starts.{DoorMembers}
use Rattle.gateway_workers.specs.PassedOn.{Gate, WireTelling}
use Rattle.gateway_workers.specs.declared.work_done.WorkDone.{WorkDone}
use Rattle.gateway_workers.specs.Tours.{Run, AreRuns, visits_of, calls_in, replies_in}
use Rattle.gateway_journal.specs.declared.worker.KeptWorker.{KeptWorker}
use Rattle.gateway_journal.specs.declared.worker.Turned.{Turned}
use Rattle.gateway_journal.specs.declared.worker.Turned.TheVariants.{One, Over, Failed, Lost}
use Rattle.gateway_journal.specs.Kept.{HasKept, IsKeptFor, IsLostIn}
use Rattle.gateway_journal.specs.Served.{service_kept, LosesKept}

-- what a disk tells, as one
pub record DiskMembers (J : Type 0) : Type 1 where
  pub reads : J → Option (List ℕ)
  pub image : J → List ℕ → Type 0
  pub faults : J → ℕ
  pub moment : J → ℕ
  pub image_since : J → ℕ → List ℕ → Type 0

-- the same of a disk
abbrev pub disk_members : {J : Type 0} → Ghosts J → DiskMembers J
disk_members disk = record { reads = disk.reads; image = disk.image; faults = disk.faults; moment = disk.moment; image_since = disk.image_since }

-- Between two moments of a journal and a door these connections were served, and nothing else was done to them.
pub record Stretch {D J : Type 0} (t : DoorMembers D) (m : DiskMembers J) (gate : Gate) (a b : Journal J) (v w : D) (runs : List Run) : Type 0 where
  pub each : AreRuns (service_kept gate) a.used runs
  pub visits : Gained (t.visits v) (visits_of runs) (t.visits w)
  pub keeps : HasKept m.reads m.image m.faults a b (calls_in runs)
  pub to_come : t.to_come v ≡ t.to_come w + length runs
  pub free : t.out w ≡ false

-- A connection was taken in which a call on the disk failed, behind so many replies: it was handed back with the number of that end.
pub record LosesOne {D J W : Type 0} (t : DoorMembers D) (m : DiskMembers J) (tell : WireTelling W) (gate : Gate) (a : Journal J) (disk : J) (v w : D) (replies : ℕ) : Type 0 where
  pub given : Told
  pub back : Told
  pub wire : W
  pub logs : back.log ≡ tell.log wire
  pub dials : back.dial_faults ≡ tell.dial_faults wire
  pub transfers : back.transfer_faults ≡ tell.faults wire
  pub lost : LosesKept m.reads m.image m.faults (λ j. IsLostIn m.reads m.image m.moment m.image_since j disk) tell gate a given back wire replies
  pub rose : Rose (m.faults a.disk) (m.faults disk)
  pub visit : Gained (t.visits v) (record { given = given; back = back; ending = 6 } ∷ []) (t.visits w)
  pub to_come : t.to_come v ≡ t.to_come w + 1
  pub free : t.out w ≡ false

-- A door was served over a journal, at most so many connections: all that it had, up to that, where it didn't fail.
pub record ServesDoor {D J : Type 0} (t : DoorMembers D) (m : DiskMembers J) (gate : Gate) (most : ℕ) (a b : Journal J) (v w : D) (done : WorkDone) : Type 0 where
  pub runs : List Run
  pub stretch : Stretch t m gate a b v w runs
  pub few : length runs ≤ most
  pub connections : done.connections ≡ length runs
  pub exchanges : done.exchanges ≡ replies_in runs
  pub ends : ((done.faults ≡ 0) × (t.faults w ≡ t.faults v) × (length runs ≡ min most (t.to_come v)))
      ⊎ ((done.faults ≡ 1) × Rose (t.faults v) (t.faults w))

-- A door was served until a call on the disk failed in a connection, with what was done in that one.
pub record LosesDoor {D J W : Type 0} (t : DoorMembers D) (m : DiskMembers J) (tell : WireTelling W) (gate : Gate) (most : ℕ) (a : Journal J) (disk : J) (v w : D) (done : WorkDone) : Type 0 where
  pub so_far : Journal J
  pub between : D
  pub runs : List Run
  pub stretch : Stretch t m gate a so_far v between runs
  pub idle : so_far.opened ≡ 0
  pub few : length runs < most
  pub replies : ℕ
  pub lost : LosesOne t m tell gate so_far disk between w replies
  pub connections : done.connections ≡ length runs + 1
  pub exchanges : done.exchanges ≡ replies_in runs + replies
  pub calm : (done.faults ≡ 0) × (t.faults w ≡ t.faults v)

-- ---- what serves proofs

-- The worker did this, and its accounts are as they have to be for the next connection.
pub record Did {D J : Type 0} (t : DoorMembers D) (m : DiskMembers J) (gate : Gate) (v w : KeptWorker D J) (runs : List Run) : Type 0 where
  pub stretch : Stretch t m gate v.kept.journal w.kept.journal v.door w.door runs
  pub belongs : IsKeptFor m.reads w.kept.journal gate
  pub idle : w.kept.journal.opened ≡ 0
  pub connections : w.connections ≡ v.connections + length runs
  pub replies : w.replies ≡ v.replies + replies_in runs
  pub few : w.replies ≤ v.replies + 1000 * length runs

-- In one more connection a call on the disk failed.
pub record Loses {D J W : Type 0} (t : DoorMembers D) (m : DiskMembers J) (tell : WireTelling W) (gate : Gate) (v w : KeptWorker D J) : Type 0 where
  pub written : ℕ
  pub lost : LosesOne t m tell gate v.kept.journal w.kept.journal.disk v.door w.door written
  pub connections : w.connections ≡ v.connections + 1
  pub replies : w.replies ≡ v.replies + written

-- One turn: a connection was served, the door had none, it failed, or the disk did.
abbrev pub TurnIs : {D J W : Type 0} → DoorMembers D → DiskMembers J → WireTelling W → Gate → KeptWorker D J → KeptWorker D J → Turned → Type 0
TurnIs t m tell gate v w One = ((r : Run) × Did t m gate v w (r ∷ [])) × (t.faults w.door ≡ t.faults v.door) × (w.failed ≡ v.failed)
TurnIs t m tell gate v w Over = Did t m gate v w [] × (t.faults w.door ≡ t.faults v.door) × (w.failed ≡ v.failed) × (t.to_come w.door ≡ 0)
TurnIs t m tell gate v w Failed = Did t m gate v w [] × Rose (t.faults v.door) (t.faults w.door) × (w.failed ≡ true)
TurnIs t m tell gate v w Lost = Loses t m tell gate v w × (t.faults w.door ≡ t.faults v.door) × (w.failed ≡ v.failed)

-- a worker before its first connection
pub record Waits {D J : Type 0} (t : DoorMembers D) (m : DiskMembers J) (gate : Gate) (v : KeptWorker D J) : Type 0 where
  pub belongs : IsKeptFor m.reads v.kept.journal gate
  pub idle : v.kept.journal.opened ≡ 0
  pub free : t.out v.door ≡ false
  pub none : (v.connections ≡ 0) × (v.replies ≡ 0) × (v.failed ≡ false)

-- All that it did, with at most so many connections; either it lost no accounts, or it did in the last one.
abbrev pub Worked : {D J W : Type 0} → DoorMembers D → DiskMembers J → WireTelling W → Gate → ℕ → KeptWorker D J → KeptWorker D J → Bool → Type 0
Worked t m tell gate most v w true = (runs : List Run) × Did t m gate v w runs × (length runs ≤ most)
    × (((w.failed ≡ false) × (t.faults w.door ≡ t.faults v.door) × (length runs ≡ min most (t.to_come v.door))) ⊎ ((w.failed ≡ true) × Rose (t.faults v.door) (t.faults w.door)))
Worked {D} {J} t m tell gate most v w false = (u : KeptWorker D J) × (runs : List Run) × Did t m gate v u runs × (length runs < most) × Loses t m tell gate u w
    × (t.faults w.door ≡ t.faults v.door) × (w.failed ≡ false)
