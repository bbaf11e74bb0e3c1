-- What commands come to.
use Rattle.std.specs.Prelude.{◌≡◌, ◌⊎◌, ℕ, Bool, List, Option, IsSome, codes}
use Rattle.counted_work.specs.Counted.{work_text}
use Rattle.outside.specs.Faults.{Rose, StayAll, ChangesAlone}
use Rattle.command_outcomes.specs.declared.outcome.Outcome.{Outcome}
use Rattle.command_outcomes.specs.declared.outcome.Outcome.TheVariants.{Done, Refused, FileFailed, Faulty, Audited, Memory}

-- What the files tell of a call: what the file of a name holds, and the count of its faults before and after.
pub record FilesTold : Type 0 where
  pub content : List ℕ → Option (List ℕ)
  pub faults_before : List ℕ → ℕ
  pub faults_after : List ℕ → ℕ

abbrev pub files_told : (List ℕ → Option (List ℕ)) → (List ℕ → ℕ) → (List ℕ → ℕ) → FilesTold
files_told content before after = record {
  content = content;
  faults_before = before;
  faults_after = after;
}

-- No file failed: the count of each one's faults is as before.
abbrev pub NoFileFailed : FilesTold → Type 0
NoFileFailed files = StayAll files.faults_before files.faults_after

-- The file of one of these names was not read, and the count of its faults rose, and that of no other name, but where one count
-- stands for both; or there was no memory, and none failed.
abbrev pub IsStopped : (List ℕ → Type 0) → FilesTold → Outcome → Type 0
IsStopped IsName files (FileFailed name) =
    IsName name × Rose (files.faults_before name) (files.faults_after name) × ChangesAlone name files.faults_before files.faults_after
IsStopped IsName files Memory = NoFileFailed files
IsStopped IsName files other = ⊥

-- It was done with this output, or there was no memory.
abbrev pub IsDone : List ℕ → Outcome → Type 0
IsDone output (Done bytes) = bytes.items ≡ output
IsDone output Memory = Unit {0}
IsDone output other = ⊥

-- It was refused with this text, or there was no memory.
abbrev pub IsRefusedAs : List ℕ → Outcome → Type 0
IsRefusedAs text (Refused told) = told ≡ text
IsRefusedAs text Memory = Unit {0}
IsRefusedAs text other = ⊥

-- There was no memory; or it was refused since it takes more steps than it may, where a number of them was given.
abbrev pub IsWanting : Option ℕ → Outcome → Type 0
IsWanting most outcome = (outcome ≡ Memory) ⊎ (IsSome most × IsRefusedAs work_text outcome)

-- It has this status and text of its own, or there was no memory.
abbrev pub IsFaultyAs : ℕ → List ℕ → Outcome → Type 0
IsFaultyAs status text (Faulty number told) = (number ≡ status) × (told ≡ text)
IsFaultyAs status text Memory = Unit {0}
IsFaultyAs status text other = ⊥

-- It was an audit with these lines, in which all passed or not; or there was no memory.
abbrev pub IsAudited : List ℕ → Bool → Outcome → Type 0
IsAudited lines passed (Audited told all) = (told.items ≡ lines) × (all ≡ passed)
IsAudited lines passed Memory = Unit {0}
IsAudited lines passed other = ⊥
