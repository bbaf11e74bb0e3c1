-- What serving a connection over a journal did.
use Rattle.std.specs.Prelude.{ℕ, List, Option}
use Rattle.account_core.specs.Machine.{Call}
use Rattle.account_journal.specs.declared.journal.Journal.{Journal}
use Rattle.journal_disk.specs.declared.disk.Disk.{Ghosts}
use Rattle.doors.specs.Visits.{Told}
use Rattle.gateway_workers.specs.PassedOn.{Gate, Served, Service, WireTelling, service_in, Serves, LosesServing}
use Rattle.gateway_journal.specs.Kept.{kept_slots, HasKept, IsLostIn}

-- by what requests are decided and forwarded, where numbers of calls are slots of a journal
abbrev pub service_kept : Gate → Service
service_kept gate = service_in kept_slots gate

-- A connection was served to its end: just its calls were added between these two moments of a journal.
abbrev pub ServesKept : {D : Type 0} → (D → Option (List ℕ)) → (D → List ℕ → Type 0) → (D → ℕ) → Gate → Journal D → Journal D → Told → Told → Served → Type 0
ServesKept reads image faults gate before after given back served = Serves (service_kept gate) before.used (HasKept reads image faults before after) given back served

-- A connection was served until a call on the disk failed: its exchanges so far added their calls, so many were replied to, and the
-- next one has no reply. `loses` says in which call the accounts of a journal were lost.
abbrev pub LosesKept : {D W : Type 0} → (D → Option (List ℕ)) → (D → List ℕ → Type 0) → (D → ℕ) → (Journal D → ℕ → Call → Type 0) → WireTelling W → Gate → Journal D → Told → Told → W → ℕ → Type 0
LosesKept {D} reads image faults loses t gate before given back wire replies =
    LosesServing {B = Journal D} (service_kept gate) t (λ j. j.used) (HasKept reads image faults) loses before given back wire replies

-- So it was where the journal's disk is left as this one, by what a disk tells.
abbrev pub LosesKeptAs : {D W : Type 0} → Ghosts D → D → WireTelling W → Gate → Journal D → Told → Told → W → ℕ → Type 0
LosesKeptAs tell disk t gate before given back wire replies =
    LosesKept tell.reads tell.image tell.faults (λ j. IsLostIn tell.reads tell.image tell.moment tell.image_since j disk) t gate before given back wire replies
