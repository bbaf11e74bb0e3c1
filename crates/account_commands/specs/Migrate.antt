-- What a migrate command comes to.
use Rattle.std.specs.Prelude.{◌≡◌, ◌⊎◌, ℕ, List}
use Rattle.client_files.specs.Lines.{lines_of}
use Rattle.client_files.specs.Faults.{IsFirstFault}
use Rattle.client_files.specs.FaultTexts.{fault_text}
use Rattle.client_files.specs.Written.{Migrates}
use Rattle.client_files.specs.declared.fault.ClientsFault.{ClientsFault}
use Rattle.command_outcomes.specs.declared.limits.TheConstants.{CLIENTS_LIMIT}
use Rattle.command_outcomes.specs.declared.outcome.Outcome.{Outcome}
use Rattle.command_outcomes.specs.declared.outcome.Outcome.TheVariants.{Memory}
use Rattle.command_outcomes.specs.Texts.{line}
use Rattle.command_outcomes.specs.Outcomes.{FilesTold, NoFileFailed, IsDone, IsRefusedAs}
use Rattle.command_outcomes.specs.Reading.{IsTextOf, HasNoText}

-- The text ends with a line end.
abbrev pub IsLine : List ℕ → Type 0
IsLine text = (output : List ℕ) × (text ≡ line output)

-- The text is a client file. The output with its line end is the file of version 2 for the same window and the same clients.
abbrev pub IsMigrated : List ℕ → Outcome → Type 0
IsMigrated text outcome = (output : List ℕ) × Migrates text (line output) × IsDone output outcome

-- The text is no client file, and its first fault is told.
abbrev pub IsNoClientFile : List ℕ → Outcome → Type 0
IsNoClientFile text outcome = (fault : ClientsFault) × IsFirstFault (lines_of text) fault × IsRefusedAs (fault_text fault) outcome

-- By the text: the file of version 2 is the output, or the text is refused, or there was no memory.
abbrev pub MigrateOf : List ℕ → Outcome → Type 0
MigrateOf text outcome = (outcome ≡ Memory) ⊎ IsMigrated text outcome ⊎ IsNoClientFile text outcome

-- The file holds no text; or it does, and came to that, and none failed.
abbrev pub MigrateCameTo : List ℕ → FilesTold → Outcome → Type 0
MigrateCameTo name files outcome = HasNoText CLIENTS_LIMIT name files outcome
    ⊎ ((text : List ℕ) × IsTextOf CLIENTS_LIMIT (files.content name) text × MigrateOf text outcome × NoFileFailed files)
