-- What serving over a journal comes to.
use Rattle.std.specs.Prelude.{◌≡◌, ◌⊎◌, ℕ, ◌+◌, ◌<◌, List, [], ◌∷◌, ◌++◌, Option, Some, Result, Ok, Err, IfSome, length, get_or, max, true, false}
use Rattle.account_core.specs.declared.Account.{Account}
use Rattle.account_core.specs.declared.Limit.{Limit}
use Rattle.account_core.specs.Machine.{Call, reservation, settlement, done, Entry, entry}
use Rattle.account_core.specs.History.{state_after, AreSteps, entries_by}
use Rattle.account_shared.specs.Gains.{ClientCall}
use Rattle.outside.specs.Dials.{Dial}
use Rattle.outside.specs.Faults.{Rose}
use Rattle.doors.specs.Starts.{Stopped}
use Rattle.doors.specs.Visits.{Told}
use Rattle.journal_disk.specs.Beginnings.{may_be_journal}
use Rattle.journal_disk.specs.Shutting.{Shut}
use Rattle.journal_disk.specs.declared.disks.Disks.{Ghosts}
use Rattle.account_journal.specs.Slots.{bodies}
use Rattle.account_journal.specs.Histories.{AccountsFollow, HasEntryOrNot, grant_entry, history_in, no_account, no_limit}
use Rattle.account_journal.specs.Reading.{IsFaultOf, IsIntact}
use Rattle.account_journal.specs.Recovery.{IsPartlyRecovered, recovered_history}
use Rattle.account_journal.specs.declared.reading.OpenFault.{OpenFault}
use Rattle.account_journal.specs.declared.reading.OpenFault.TheVariants as unopened
use Rattle.gateway_journal.specs.PassedOn.{numbers_taken, Service, WireTelling, LosesServing}
use Rattle.gateway_serving.specs.PassedOn.{WorkDone, Run, AreRuns, visits_of, calls_in, replies_in, one_if}
use Rattle.gateway_serving.specs.declared.asked.Serving.{Serving}
use Rattle.gateway_serving.specs.Telling.{DoorsTold, StartAndStop, StartNone}
use Rattle.gateway_journal.specs.Kept.{kept_slots, entries_made, kept_of_calls}
use Rattle.journal_serving.specs.declared.ending.KeptEnd.{KeptEnd}
use Rattle.journal_serving.specs.declared.ending.KeptFault.{KeptFault}
use Rattle.journal_serving.specs.declared.ending.KeptFault.TheVariants.{Disk, OtherClients, Damaged, NotStarted, Memory}

-- What disks tell at one moment: what the disk of each name reads as when it is opened, how many are open, how the latest that was shut
-- was left, and the count of openings that failed.
pub record DisksTold : Type 0 where
  pub holds : List ℕ → Option (List ℕ)
  pub running : ℕ
  pub last : Option Shut
  pub faults : ℕ

-- the same of what opens them
abbrev pub disks_told : {J D : Type 0} → Ghosts J D → J → DisksTold
disks_told tell disks = record { holds = tell.holds disks; running = tell.running disks; last = tell.last disks; faults = tell.faults disks }

-- No disk was opened, and the count of these faults rose: every name holds what it held.
pub record WasNotOpened (before now : DisksTold) : Type 0 where
  pub idle : now.running ≡ 0
  pub failed : Rose before.faults now.faults
  pub last : now.last ≡ before.last
  pub holds : now.holds ≡ before.holds

-- The disk of this name, which held what may be a journal's, was opened and shut, and none is open: the name holds what it was left with,
-- and the other names hold what they held.
pub record WasOpenedAndShut (name : List ℕ) (before now : DisksTold) (shut : Shut) : Type 0 where
  pub idle : now.running ≡ 0
  pub may_be : IfSome (before.holds name) (λ b. may_be_journal b ≡ true)
  pub last : now.last ≡ Some shut
  pub held : now.holds name ≡ shut.reads
  pub others : (other : List ℕ) → (other ≡ name → ⊥) → now.holds other ≡ before.holds other

-- ---- the accounts

-- What is kept in a journal at one moment: its history, the account of each client, and how many slots are used.
pub record Accounted : Type 0 where
  pub history : List Entry
  pub accounts : List Account
  pub used : ℕ

-- The accounts are those after the history, which leaves no grant open.
abbrev pub IsAccounted : List Limit → Accounted → Type 0
IsAccounted limits k = AccountsFollow limits k.accounts k.used 0 k.history

-- From one moment to another just these calls were made: refusals included, they are the machine's steps as they were made, client by
-- client; just those that aren't refused were added to the history, and the accounts follow it.
pub record HasAdded (limits : List Limit) (k n : Accounted) (calls : List ClientCall) : Type 0 where
  pub steps : (client : ℕ) → client < length limits
      → AreSteps (get_or limits client no_limit) (state_after (get_or limits client no_limit) (entries_by client k.history)) (entries_by client (entries_made k.used calls))
  pub history : n.history ≡ k.history ++ kept_of_calls k.used calls
  pub used : n.used ≡ k.used + numbers_taken kept_slots calls
  pub opened : ℕ
  pub follows : AccountsFollow limits n.accounts n.used opened n.history

-- the entry of a call that is made now, where it is not refused
abbrev pub entry_now : Accounted → ℕ → Call → Entry
entry_now k client (reservation window bound) = grant_entry client k.used (max window (get_or k.accounts client no_account).window) bound
entry_now k client (settlement of window bound measured) = entry client k.used (settlement of window bound measured) done

-- In this call the disk failed: what it reads as then, where it tells that, has the history before the call, or that and the call's entry.
abbrev pub LosesCall : Option (List ℕ) → Accounted → ℕ → Call → Type 0
LosesCall reads k client call = IfSome reads (λ b. HasEntryOrNot k.history (entry_now k client call) b)

-- ---- the door

-- what a wire tells
pub record WireTold : Type 0 where
  pub log : Option (List Dial)
  pub dial_faults : ℕ
  pub faults : ℕ

abbrev pub wire_told : Told → WireTold
wire_told told = record { log = told.log; dial_faults = told.dial_faults; faults = told.transfer_faults }

abbrev pub told_wires : WireTelling WireTold
told_wires = record { log = λ w. w.log; dial_faults = λ w. w.dial_faults; faults = λ w. w.faults }

-- The door was stopped, and gave these connections: it tells their visits, where it tells any. Its count of faults rose exactly where
-- it failed, and else it gave all.
pub record HasGiven (connections : ℕ) (runs : List Run) (stopped : Stopped) (done : WorkDone) : Type 0 where
  pub visits : IfSome stopped.visits (λ visits. visits ≡ visits_of runs)
  pub gave : stopped.gave ≡ length runs
  pub whole : stopped.rose ≡ false → stopped.gave ≡ connections
  pub connections_are : done.connections ≡ length runs
  pub exchanges : done.exchanges ≡ replies_in runs
  pub faults : done.faults ≡ one_if stopped.rose

-- One door was served over a journal until it had given its connections, or failed.
pub record WasServed (s : Service) (limits : List Limit) (mark : List ℕ) (connections : ℕ) (held : Option (List ℕ)) (shut : Shut) (stopped : Stopped) (end : KeptEnd) : Type 0 where
  pub opened : Accounted
  pub closed : Accounted
  pub before : IsAccounted limits opened
  pub after : IsAccounted limits closed
  pub intact : IfSome held (λ b. IsIntact limits mark (bodies b))
  pub recovered : IfSome held (λ b. opened.history ≡ recovered_history b)
  pub runs : List Run
  pub each : AreRuns s opened.used runs
  pub added : HasAdded limits opened closed (calls_in runs)
  pub given : HasGiven connections runs stopped end.done
  pub accounts : end.accounts.items ≡ closed.accounts
  pub stored : IfSome shut.reads (λ b. history_in b ≡ closed.history)

-- It was served until a call on the disk failed in the last of its connections.
pub record WasLost (s : Service) (limits : List Limit) (mark : List ℕ) (held : Option (List ℕ)) (shut : Shut) (stopped : Stopped) : Type 0 where
  pub opened : Accounted
  pub so_far : Accounted
  pub before : IsAccounted limits opened
  pub until : IsAccounted limits so_far
  pub intact : IfSome held (λ b. IsIntact limits mark (bodies b))
  pub recovered : IfSome held (λ b. opened.history ≡ recovered_history b)
  pub runs : List Run
  pub each : AreRuns s opened.used runs
  pub added : HasAdded limits opened so_far (calls_in runs)
  pub given : Told
  pub back : Told
  pub replies : ℕ
  pub lost : LosesServing {B = Accounted} s told_wires (λ k. k.used) (HasAdded limits) (LosesCall shut.reads) so_far given back (wire_told back) replies
  pub visits : IfSome stopped.visits (λ visits. visits ≡ visits_of runs ++ record { given = given; back = back; ending = 6 } ∷ [])
  pub failed : shut.failed ≡ true

-- ---- what it comes to

abbrev pub IsUnopened : OpenFault → KeptFault → Type 0
IsUnopened unopened.Failed fault = fault ≡ Disk
IsUnopened unopened.OtherClients fault = fault ≡ OtherClients
IsUnopened (unopened.Damaged slot) fault = fault ≡ Damaged slot
IsUnopened unopened.Memory fault = fault ≡ Memory

-- The journal was not opened, by what its disk held, or since a call on the disk failed, or for want of memory. Unless a call failed, the
-- disk was shut with the history that it held, and some first ones of the settlements that this owes.
pub record WasRefused (limits : List Limit) (mark : List ℕ) (held : Option (List ℕ)) (shut : Shut) (fault : KeptFault) : Type 0 where
  pub reason : OpenFault
  pub told : IsUnopened reason fault
  pub is_fault : IfSome held (λ b. IsFaultOf reason limits mark (bodies b))
  pub failed : reason ≡ unopened.Failed → shut.failed ≡ true
  pub stored : (reason ≡ unopened.Failed → ⊥) → IfSome held (λ b. IfSome shut.reads (λ file. IsPartlyRecovered b file))

-- The journal was opened, and no connection was served over it: the disk was shut with the recovered history.
pub record WasLeft (limits : List Limit) (mark : List ℕ) (held : Option (List ℕ)) (shut : Shut) : Type 0 where
  pub intact : IfSome held (λ b. IsIntact limits mark (bodies b))
  pub stored : IfSome held (λ b. IfSome shut.reads (λ file. history_in file ≡ recovered_history b))

-- With a disk that was opened, and shut so.
abbrev pub EndsShut : Service → List Limit → Serving → List ℕ → Option (List ℕ) → Shut → DoorsTold → DoorsTold → Result KeptEnd KeptFault → Type 0
EndsShut s limits serving mark held shut before now (Ok end) =
    (stopped : Stopped) × StartAndStop serving before now (stopped ∷ []) × WasServed s limits mark serving.connections held shut stopped end
EndsShut s limits serving mark held shut before now (Err fault) =
    (WasRefused limits mark held shut fault × (now ≡ before))
    ⊎ ((fault ≡ Disk) × ((stopped : Stopped) × StartAndStop serving before now (stopped ∷ []) × WasLost s limits mark held shut stopped))
    ⊎ ((fault ≡ NotStarted) × StartNone before now × Rose before.faults now.faults × WasLeft limits mark held shut)
    ⊎ ((fault ≡ Memory) × StartNone before now × (now.faults ≡ before.faults) × WasLeft limits mark held shut)

-- No disk was opened; or one was, and was shut.
abbrev pub ComesTo : Service → List Limit → Serving → List ℕ → List ℕ → DisksTold → DisksTold → DoorsTold → DoorsTold → Result KeptEnd KeptFault → Type 0
ComesTo s limits serving mark name disks disks_now before now came_to =
    ((came_to ≡ Err Disk) × WasNotOpened disks disks_now × (now ≡ before))
    ⊎ ((shut : Shut) × WasOpenedAndShut name disks disks_now shut × EndsShut s limits serving mark (disks.holds name) shut before now came_to)
