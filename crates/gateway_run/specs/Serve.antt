-- What a serve command comes to.
use Rattle.std.specs.Prelude.{◌≡◌, ◌⊎◌, ◌++◌, ℕ, List, Option, None, Some, map, Result, Ok, Err, codes, nat_lt}
use Rattle.std.specs.Fmt.{decimal}
use Rattle.doors.specs.declared.starting.Doors.{Ghosts as DoorsTell}
use Rattle.gateway_serving.specs.Decisions.{Service}
use Rattle.gateway_serving.specs.declared.asked.Serving.{Serving}
use Rattle.gateway_serving.specs.declared.ending.ServeEnd.{ServeEnd}
use Rattle.gateway_serving.specs.declared.ending.ServeFault.{ServeFault}
use Rattle.gateway_serving.specs.declared.ending.ServeFault.TheVariants.{NotStarted as NoDoors, Memory as NoMemory}
use Rattle.sha2.specs.Sha256.{sha256}
use Rattle.client_files.specs.declared.client.Client.{Client}
use Rattle.client_files.specs.Written.{client_file}
use Rattle.gateway_serving.specs.PassedOn.{client_limit}
use Rattle.journal_disk.specs.declared.disks.Disks.{Ghosts as DisksTell}
use Rattle.journal_serving.specs.PassedOn.{kept_slots}
use Rattle.journal_serving.specs.declared.ending.KeptEnd.{KeptEnd}
use Rattle.journal_serving.specs.declared.ending.KeptFault.{KeptFault}
use Rattle.journal_serving.specs.declared.ending.KeptFault.TheVariants as unserved
use Rattle.journal_serving.specs.Keeping.{DisksTold, disks_told, ComesTo as KeptComesTo}
use Rattle.account_commands.specs.PassedOn.{DISK_FAILED, Outcome, Served, NotStarted, Memory, FilesTold, NoFileFailed, IsRefusedAs, IsFaultyAs}
use Rattle.gateway_serving.specs.Telling.{DoorsTold, doors_told}
use Rattle.gateway_serving.specs.Ends.{ComesTo}
use Rattle.command_words.specs.declared.command.AskedServe.{AskedServe}
use Rattle.account_commands.specs.RuleFiles.{rules_in}
use Rattle.account_commands.specs.Replay.{client_lines}
use Rattle.gateway_run.specs.declared.serve_inputs.ServeTexts.{ServeTexts}
use Rattle.gateway_run.specs.declared.serve_inputs.ServeInputs.{ServeInputs}
use Rattle.gateway_run.specs.ServeFiles.{HoldServeTexts, HaveNoServeTexts, HoldServe, IsServeRefused}

-- What the doors tell before and after a call.
pub record DoorsCall : Type 0 where
  pub before : DoorsTold
  pub now : DoorsTold

abbrev pub doors_call : {D Door S K W C : Type 0} → DoorsTell D Door S K W C → D → D → DoorsCall
doors_call tell before now = record { before = doors_told tell before; now = doors_told tell now }

-- What the disks tell before and after a call.
pub record DisksCall : Type 0 where
  pub before : DisksTold
  pub now : DisksTold

abbrev pub disks_call : {J D : Type 0} → DisksTell J D → J → J → DisksCall
disks_call tell before now = record { before = disks_told tell before; now = disks_told tell now }

-- What doors and disks tell before and after a call.
pub record OutsideCall : Type 0 where
  pub doors : DoorsCall
  pub disks : DisksCall

abbrev pub outside_call : DoorsCall → DisksCall → OutsideCall
outside_call doors disks = record { doors = doors; disks = disks }

abbrev pub AreUnopened : DisksCall → Type 0
AreUnopened disks = disks.now ≡ disks.before

abbrev pub AreUntouched : OutsideCall → Type 0
AreUntouched outside = (outside.doors.now ≡ outside.doors.before) × AreUnopened outside.disks

-- By what requests are decided, where they are forwarded to and with which fields, and whether hints are told; and, over a journal, how
-- many slots it has.
abbrev pub service_over : Option ℕ → AskedServe → ServeInputs → Service
service_over slots asked inputs = record { rules = rules_in inputs.rules inputs.list asked.most_answer asked.most_work; host = asked.upstream; target = asked.target; passed = asked.passed.items; hints = asked.hints; slots = slots }

-- over shared cells
abbrev pub service_by : AskedServe → ServeInputs → Service
service_by asked inputs = service_over None asked inputs

-- over a journal, whose slots are the numbers of calls
abbrev pub kept_service_by : AskedServe → ServeInputs → Service
kept_service_by asked inputs = service_over kept_slots asked inputs

-- what the doors are started with
pub record IsServingOf (asked : AskedServe) (serving : Serving) : Type 0 where
  pub listen : serving.listen.now ≡ asked.listen
  pub upstream : serving.upstream.now ≡ asked.upstream
  pub workers : serving.workers ≡ asked.workers
  pub connections : serving.connections ≡ asked.connections

-- ---- the closing lines

-- how many connections were served, and how many replies were written whole
abbrev pub done_text : ℕ → ℕ → List ℕ
done_text connections exchanges = codes "connections " ++ (decimal connections ++ (codes " exchanges " ++ decimal exchanges))

-- a line for each client, in their order, and then what was done
abbrev pub closing_text : ServeEnd → List ℕ
closing_text end = client_lines end.totals.clients.items.items end.totals.accounts ++ done_text end.done.connections end.done.exchanges

-- ---- what serving comes to

-- By these rules it came to this.
abbrev pub ServesTo : AskedServe → ServeInputs → DoorsCall → Result ServeEnd ServeFault → Type 0
ServesTo asked inputs doors result = (serving : Serving) × IsServingOf asked serving
    × ComesTo (service_by asked inputs) serving doors.before doors.now result

-- The closing lines, and whether a door failed; or that no doors were started; or there was no memory, for serving or for the lines.
abbrev pub IsTold : Result ServeEnd ServeFault → Outcome → Type 0
IsTold (Ok end) (Served lines failed) = (lines.items ≡ closing_text end) × (failed ≡ nat_lt 0 end.done.faults)
IsTold (Ok end) Memory = Unit {0}
IsTold (Err NoDoors) NotStarted = Unit {0}
IsTold (Err NoMemory) Memory = Unit {0}
IsTold result other = ⊥

-- ---- over a journal

abbrev pub kept_closing_text : List Client → KeptEnd → List ℕ
kept_closing_text clients end = client_lines clients end.accounts.items ++ done_text end.done.connections end.done.exchanges

abbrev pub damaged_text : ℕ → List ℕ
damaged_text slot = codes "journal 3 Damaged " ++ decimal slot

-- The closing lines, and whether a door failed; or why the journal is refused; or that the disk failed, or no doors were started; or
-- there was no memory.
abbrev pub IsKeptTold : List Client → Result KeptEnd KeptFault → Outcome → Type 0
IsKeptTold clients (Ok end) (Served lines failed) = (lines.items ≡ kept_closing_text clients end) × (failed ≡ nat_lt 0 end.done.faults)
IsKeptTold clients (Ok end) Memory = Unit {0}
IsKeptTold clients (Ok end) other = ⊥
IsKeptTold clients (Err unserved.Disk) outcome = IsFaultyAs DISK_FAILED (codes "disk") outcome
IsKeptTold clients (Err unserved.OtherClients) outcome = IsRefusedAs (codes "journal 2 OtherClients") outcome
IsKeptTold clients (Err (unserved.Damaged slot)) outcome = IsRefusedAs (damaged_text slot) outcome
IsKeptTold clients (Err unserved.NotStarted) outcome = outcome ≡ NotStarted
IsKeptTold clients (Err unserved.Memory) outcome = outcome ≡ Memory

-- By these rules, over the journal of this name, it came to this; or there was no memory before the disk was opened.
abbrev pub KeepsAs : AskedServe → List ℕ → ServeInputs → OutsideCall → Outcome → Type 0
KeepsAs asked name inputs outside outcome = ((outcome ≡ Memory) × AreUntouched outside)
    ⊎ ((result : Result KeptEnd KeptFault) × (serving : Serving) × IsServingOf asked serving
    × KeptComesTo (kept_service_by asked inputs) (map client_limit inputs.rules.clients.clients.items) serving
    (sha256 (client_file inputs.rules.clients.window_seconds inputs.rules.clients.clients.items)) name outside.disks.before outside.disks.now outside.doors.before outside.doors.now result
    × IsKeptTold inputs.rules.clients.clients.items result outcome)

-- By these rules, over the journal of this name, if there is one.
abbrev pub ServesOver : Option (List ℕ) → AskedServe → ServeInputs → OutsideCall → Outcome → Type 0
ServesOver None asked inputs outside outcome = ((result : Result ServeEnd ServeFault) × ServesTo asked inputs outside.doors result × IsTold result outcome) × AreUnopened outside.disks
ServesOver (Some name) asked inputs outside outcome = KeepsAs asked name inputs outside outcome

abbrev pub ServesAs : AskedServe → ServeInputs → OutsideCall → Outcome → Type 0
ServesAs asked inputs outside outcome = ServesOver asked.journal asked inputs outside outcome

-- By the texts: it was served by their rules, or they are refused, or there was no memory for them.
abbrev pub ServeOf : AskedServe → ServeTexts → OutsideCall → Outcome → Type 0
ServeOf asked texts outside outcome = ((outcome ≡ Memory) × AreUntouched outside)
    ⊎ (IsServeRefused asked.schema texts asked.undeclared outcome × AreUntouched outside)
    ⊎ ((inputs : ServeInputs) × HoldServe texts asked.undeclared inputs × ServesAs asked inputs outside outcome)

-- The files hold no texts; or they do, and came to that, and none failed.
abbrev pub ServeCameTo : AskedServe → FilesTold → OutsideCall → Outcome → Type 0
ServeCameTo asked files outside outcome = (HaveNoServeTexts asked files outcome × AreUntouched outside)
    ⊎ ((texts : ServeTexts) × HoldServeTexts asked files.content texts × ServeOf asked texts outside outcome × NoFileFailed files)
