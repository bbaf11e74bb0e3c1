-- What the program does.
use Rattle.std.specs.Prelude.{◌≡◌, ◌⊎◌, ℕ, List, Contains, Option, None, Some, Vec, true, false}
use Rattle.std.specs.declared.alloc.Global.{Global}
use Rattle.command_words.specs.declared.command.Command.{Command}
use Rattle.command_words.specs.declared.command.Command.TheVariants.{Help, Version, Check, Price, Explain, ExplainSchema, Audit, Introspect, Worst, Forward, Meter, Replay, Serve, Exercise, Migrate}
use Rattle.command_words.specs.declared.command.Asked.{Asked}
use Rattle.command_words.specs.declared.command.AskedList.{AskedList}
use Rattle.command_words.specs.declared.command.AskedAudit.{AskedAudit}
use Rattle.command_words.specs.declared.command.AskedReplay.{AskedReplay}
use Rattle.command_words.specs.declared.command.AskedServe.{AskedServe}
use Rattle.command_words.specs.declared.command.WordsFault.{WordsFault}
use Rattle.command_words.specs.declared.command.WordsFault.TheVariants.{Usage as NoCommand, Memory as NoMemory}
use Rattle.account_commands.specs.PassedOn.{Outcome, Done, Refused, Faulty, Audited, Served, NotStarted, Usage, Memory, line, file_text, FilesTold, files_told, NoFileFailed, IsDone, CheckCameTo}
use Rattle.command_words.specs.Words.{Asks, IsNoCommand}
use Rattle.gateway_run.specs.Texts.{usage_text, version_text, door_text}
use Rattle.outside.specs.Faults.{Rose}
use Rattle.outside.specs.declared.files.Files.{Ghosts}
use Rattle.gateway_run.specs.Endings.{StreamTold, Gains, IsKept, HasFailed, FailsAmid, Ends}
use Rattle.operation_commands.specs.Price.{PriceCameTo}
use Rattle.operation_commands.specs.Explain.{ExplainCameTo}
use Rattle.operation_commands.specs.ExplainSchema.{ExplainSchemaCameTo}
use Rattle.operation_commands.specs.Audit.{AuditCameTo}
use Rattle.operation_commands.specs.Introspect.{IntrospectCameTo}
use Rattle.operation_commands.specs.Worst.{WorstCameTo}
use Rattle.operation_commands.specs.Forward.{ForwardCameTo}
use Rattle.operation_commands.specs.Meter.{MeterCameTo}
use Rattle.account_commands.specs.Replay.{ReplayCameTo}
use Rattle.gateway_run.specs.Serve.{OutsideCall, AreUntouched, ServeCameTo}
use Rattle.account_commands.specs.Exercise.{ExerciseCameTo}
use Rattle.account_commands.specs.Migrate.{MigrateCameTo}

-- What a command that serves nothing came to. One that names no file reads none.
abbrev pub AnswerCameTo : Command → FilesTold → Outcome → Type 0
AnswerCameTo Help files outcome = IsDone usage_text outcome × NoFileFailed files
AnswerCameTo Version files outcome = IsDone version_text outcome × NoFileFailed files
AnswerCameTo (Check schema) files outcome = CheckCameTo schema files outcome
AnswerCameTo (Price asked) files outcome = PriceCameTo asked files outcome
AnswerCameTo (Explain asked) files outcome = ExplainCameTo asked files outcome
AnswerCameTo (ExplainSchema schema undeclared) files outcome = ExplainSchemaCameTo schema undeclared files outcome
AnswerCameTo (Audit asked) files outcome = AuditCameTo asked files outcome
AnswerCameTo (Introspect asked) files outcome = IntrospectCameTo asked files outcome
AnswerCameTo (Worst asked part) files outcome = WorstCameTo asked part files outcome
AnswerCameTo (Forward asked) files outcome = ForwardCameTo asked files outcome
AnswerCameTo (Meter asked reply) files outcome = MeterCameTo asked reply files outcome
AnswerCameTo (Replay asked) files outcome = ReplayCameTo asked files outcome
AnswerCameTo (Exercise requests) files outcome = ExerciseCameTo requests outcome × NoFileFailed files
AnswerCameTo (Migrate clients) files outcome = MigrateCameTo clients files outcome
AnswerCameTo (Serve asked) files outcome = ⊥

-- What a command came to. Only one that serves touches doors and disks.
abbrev pub CommandCameTo : Command → FilesTold → OutsideCall → Outcome → Type 0
CommandCameTo (Serve asked) files outside outcome = ServeCameTo asked files outside outcome
CommandCameTo command files outside outcome = AnswerCameTo command files outcome × AreUntouched outside

-- The outcome of words that were not read into a command.
abbrev pub no_command : WordsFault → Outcome
no_command NoCommand = Usage
no_command NoMemory = Memory

-- The command that the words ask for came to this.
abbrev pub IsCommandOf : List (List ℕ) → FilesTold → OutsideCall → Outcome → Type 0
IsCommandOf words files outside outcome = (command : Command) × Asks words command × CommandCameTo command files outside outcome

-- What words came to: those of a command, what it came to; those of none, a wrong use; or there was no memory for them.
abbrev pub ComeTo : List (List ℕ) → FilesTold → OutsideCall → Outcome → Type 0
ComeTo words files outside outcome = IsCommandOf words files outside outcome
    ⊎ (IsNoCommand words × (outcome ≡ Usage) × NoFileFailed files × AreUntouched outside)
    ⊎ ((outcome ≡ Memory) × NoFileFailed files × AreUntouched outside)

-- What the files tell of a call.
abbrev pub files_call : {F : Type 0} → Ghosts F → F → F → FilesTold
files_call tell before now = files_told (tell.content before) (tell.faults before) (tell.faults now)

-- What words came to was written, and the status is its own.
abbrev pub Runs : List (List ℕ) → ℕ → FilesTold → OutsideCall → StreamTold → StreamTold → Type 0
Runs words status files outside out err = (outcome : Outcome) × ComeTo words files outside outcome × Ends outcome status out err

-- Of every run that ends with this status that holds.
abbrev pub EveryRunWith : ℕ → (List (List ℕ) → FilesTold → OutsideCall → StreamTold → StreamTold → Type 0) → Type 0
EveryRunWith status Holds = (words : List (List ℕ)) (files : FilesTold) (outside : OutsideCall) (out err : StreamTold) → Runs words status files outside out err → Holds words files outside out err

-- The names of an operation's files.
abbrev pub IsAskedFile : Asked → List ℕ → Type 0
IsAskedFile asked name = (name ≡ asked.schema) ⊎ (name ≡ asked.document) ⊎ (asked.variables ≡ Some name)

-- The name of the file of a list, if there is one.
abbrev pub IsListFile : Option AskedList → List ℕ → Type 0
IsListFile None name = ⊥
IsListFile (Some list) name = name ≡ list.file

-- The names of an audit's files.
abbrev pub IsAuditFile : AskedAudit → List ℕ → Type 0
IsAuditFile asked name = (name ≡ asked.schema) ⊎ Contains asked.documents.items name

-- The names of a replay's files.
abbrev pub IsReplayFile : AskedReplay → List ℕ → Type 0
IsReplayFile asked name = (name ≡ asked.schema) ⊎ (name ≡ asked.clients) ⊎ (name ≡ asked.script) ⊎ IsListFile asked.list name

-- The names of the files by which a gateway is served.
abbrev pub IsServeFile : AskedServe → List ℕ → Type 0
IsServeFile asked name = (name ≡ asked.schema) ⊎ (name ≡ asked.clients) ⊎ IsListFile asked.list name

-- The names of the command's files.
abbrev pub IsFileOf : Command → List ℕ → Type 0
IsFileOf Help name = ⊥
IsFileOf Version name = ⊥
IsFileOf (Check schema) name = name ≡ schema
IsFileOf (Price asked) name = IsAskedFile asked name
IsFileOf (Explain asked) name = IsAskedFile asked name
IsFileOf (ExplainSchema schema undeclared) name = name ≡ schema
IsFileOf (Audit asked) name = IsAuditFile asked name
IsFileOf (Introspect asked) name = IsAskedFile asked name
IsFileOf (Worst asked part) name = IsAskedFile asked name
IsFileOf (Forward asked) name = IsAskedFile asked name
IsFileOf (Meter asked reply) name = IsAskedFile asked name ⊎ (name ≡ reply)
IsFileOf (Replay asked) name = IsReplayFile asked name
IsFileOf (Serve asked) name = IsServeFile asked name
IsFileOf (Exercise requests) name = ⊥
IsFileOf (Migrate clients) name = name ≡ clients

-- A file of the command that the words ask for was not read; just the line that names it was written, or the error stream failed.
pub record NamesFile (words : List (List ℕ)) (files : FilesTold) (out err : StreamTold) : Type 0 where
  pub command : Command
  pub asks : Asks words command
  pub name : List ℕ
  pub of_command : IsFileOf command name
  pub unread : Rose (files.faults_before name) (files.faults_after name)
  pub silent : IsKept out
  pub told : Gains err (line (file_text name)) ⊎ FailsAmid err (line (file_text name))

-- The command came to this output: it was done with it, or the doors were served and none failed, or all passed in an audit.
abbrev pub HasOutput : List (List ℕ) → FilesTold → OutsideCall → Vec ℕ Global → Type 0
HasOutput words files outside output = IsCommandOf words files outside (Done output) ⊎ IsCommandOf words files outside (Served output false) ⊎ IsCommandOf words files outside (Audited output true)

-- It came to this output, and just that was written.
abbrev pub PrintsOutput : List (List ℕ) → FilesTold → OutsideCall → StreamTold → StreamTold → Type 0
PrintsOutput words files outside out err = (output : Vec ℕ Global) × HasOutput words files outside output × Gains out (line output.items) × IsKept err

-- It was refused with this text, and just that was written.
abbrev pub PrintsOneRefusal : List (List ℕ) → FilesTold → OutsideCall → StreamTold → StreamTold → Type 0
PrintsOneRefusal words files outside out err = (text : List ℕ) × IsCommandOf words files outside (Refused text) × IsKept out × Gains err (line text)

-- It was an audit in which not all passed, and just its lines were written.
abbrev pub PrintsAudit : List (List ℕ) → FilesTold → OutsideCall → StreamTold → StreamTold → Type 0
PrintsAudit words files outside out err = (lines : Vec ℕ Global) × IsCommandOf words files outside (Audited lines false) × Gains out (line lines.items) × IsKept err

abbrev pub PrintsRefusal : List (List ℕ) → FilesTold → OutsideCall → StreamTold → StreamTold → Type 0
PrintsRefusal words files outside out err = PrintsOneRefusal words files outside out err ⊎ PrintsAudit words files outside out err

-- It came to this status and text of its own, and just that was written.
abbrev pub PrintsFault : List (List ℕ) → ℕ → FilesTold → OutsideCall → StreamTold → StreamTold → Type 0
PrintsFault words status files outside out err = (text : List ℕ) × IsCommandOf words files outside (Faulty status text) × IsKept out × Gains err (line text)

-- No doors were started, and just the line that says so was written; or doors were served, one failed, and just the closing lines
-- and that line were written.
abbrev pub TellsDoor : List (List ℕ) → FilesTold → OutsideCall → StreamTold → StreamTold → Type 0
TellsDoor words files outside out err = Gains err (line door_text)
    × ((IsCommandOf words files outside NotStarted × IsKept out)
    ⊎ ((lines : Vec ℕ Global) × IsCommandOf words files outside (Served lines true) × Gains out (line lines.items)))

-- Nothing was written.
abbrev pub IsSilent : StreamTold → StreamTold → Type 0
IsSilent out err = IsKept out × IsKept err

-- One of the streams failed, and nothing was written on the other; or the error stream failed behind closing lines.
abbrev pub OneFailed : List (List ℕ) → FilesTold → OutsideCall → StreamTold → StreamTold → Type 0
OneFailed words files outside out err = (HasFailed out × IsKept err) ⊎ (IsKept out × HasFailed err)
    ⊎ ((lines : Vec ℕ Global) × IsCommandOf words files outside (Served lines true) × Gains out (line lines.items) × HasFailed err)
