-- The doors that words ask for, and what a run over them comes to.
use Rattle.std.specs.Prelude.{◌≡◌, ◌⊎◌, ◌*◌, ℕ, List, Option, None, Result, Ok, Err, true, is_some}
use Rattle.outside.specs.declared.files.Files.{Ghosts as FilesTell}
use Rattle.doors.specs.declared.starting.Doors.{Ghosts as DoorsTell}
use Rattle.journal_disk.specs.declared.disks.Disks.{Ghosts as DisksTell}
use Rattle.command_words.specs.declared.command.Command.{Command}
use Rattle.command_words.specs.declared.command.Command.TheVariants.{Serve}
use Rattle.command_words.specs.declared.command.WordsFault.{WordsFault}
use Rattle.command_words.specs.declared.command.WordsFault.TheVariants.{Usage, Memory}
use Rattle.command_words.specs.Words.{Asks, IsNoCommand}
use Rattle.gateway_run.specs.Endings.{StreamTold, Ends}
use Rattle.gateway_run.specs.Serve.{doors_call, disks_call, outside_call}
use Rattle.gateway_run.specs.Program.{files_call, no_command, Runs}

-- how many clients may wait for their next turn, where a command lets them take turns
abbrev pub waiting_by : Command → Option ℕ
waiting_by (Serve asked) = asked.waiting
waiting_by other = None

-- the file whose being there asks a command for its end
abbrev pub stop_by : Command → Option (List ℕ)
stop_by (Serve asked) = asked.stop
stop_by other = None

-- So many may wait, and this file is looked for, as the command says that the words ask for; where they ask for none, nobody waits
-- and no file is looked for.
abbrev pub IsEntered : List (List ℕ) → Option ℕ → Option (List ℕ) → Type 0
IsEntered words waiting stop = ((command : Command) × Asks words command × (waiting ≡ waiting_by command) × (stop ≡ stop_by command))
    ⊎ (IsNoCommand words × (waiting ≡ None) × (stop ≡ None))

-- So many may wait, and this file is looked for, as words say that came to this command; where they are those of none, nobody waits and
-- no file is looked for.
abbrev pub AreEnteredBy : Result Command WordsFault → Option ℕ → Option (List ℕ) → Type 0
AreEnteredBy (Ok command) waiting stop = (waiting ≡ waiting_by command) × (stop ≡ stop_by command)
AreEnteredBy (Err Usage) waiting stop = (waiting ≡ None) × (stop ≡ None)
AreEnteredBy (Err Memory) waiting stop = ⊥

-- Doors that were told this are those for these words: so many clients may wait and this file is looked for as the words say, and a
-- read or a write of a client waits at most this many nanoseconds, which are 30 seconds.
abbrev pub AreDoorsFor : List (List ℕ) → Option ℕ → Option (List ℕ) → ℕ → Type 0
AreDoorsFor words waiting stop patience = IsEntered words waiting stop × (patience ≡ 30 * 1_000_000_000)

-- Why there are no doors for words that came to this: there was no memory for the words, or none for the name of the file that is
-- looked for.
abbrev pub WantsMemory : Result Command WordsFault → Type 0
WantsMemory (Ok command) = is_some (stop_by command) ≡ true
WantsMemory (Err Memory) = Unit {0}
WantsMemory (Err Usage) = ⊥

-- Words were run over such doors, of which none was started, and over files and disks that tell what these tell.
pub record RunsOver {F D Door S K W C J E : Type 0} (files : FilesTell F) (doors : DoorsTell D Door S K W C) (disks : DisksTell J E) (AreSuch : List (List ℕ) → D → Type 0) (words : List (List ℕ)) (status : ℕ) (out err : StreamTold) : Type 0 where
  pub doors_before : D
  pub doors_now : D
  pub such : AreSuch words doors_before
  pub idle : doors.running doors_before ≡ 0
  pub files_before : F
  pub files_now : F
  pub disks_before : J
  pub disks_now : J
  pub runs : Runs words status (files_call files files_before files_now) (outside_call (doors_call doors doors_before doors_now) (disks_call disks disks_before disks_now)) out err

-- Words were so run, or there was no memory for what they are run over.
abbrev pub ComesToEnd : {F D Door S K W C J E : Type 0} → FilesTell F → DoorsTell D Door S K W C → DisksTell J E → (List (List ℕ) → D → Type 0) → List (List ℕ) → ℕ → StreamTold → StreamTold → Type 0
ComesToEnd files doors disks AreSuch words status out err = RunsOver files doors disks AreSuch words status out err ⊎ Ends (no_command Memory) status out err
