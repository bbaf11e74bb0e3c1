-- What is written of what a command came to, and with which status.
use Rattle.std.specs.Prelude.{◌≡◌, ◌⊎◌, ℕ, List, Option, Bool, true, false}
use Rattle.std.specs.Io.KnownBytes.{Appends, Keeps}
use Rattle.outside.specs.Faults.{Rose}
use Rattle.outside.specs.Contents.{AppendsFront}
use Rattle.outside.specs.declared.sink.Sink.{Ghosts}
use Rattle.account_commands.specs.PassedOn.{Outcome, Done, Refused, FileFailed, Faulty, Audited, Served, NotStarted, Usage, Memory, DONE, REFUSED, USAGE, FILE_FAILED, STREAM_FAILED, NO_MEMORY, DOOR_FAILED, line, file_text}
use Rattle.gateway_run.specs.Texts.{usage_text, door_text}

-- What a stream tells of a call: what was written on it and the count of its faults, before and after.
pub record StreamTold : Type 0 where
  pub before : Option (List ℕ)
  pub after : Option (List ℕ)
  pub faults_before : ℕ
  pub faults_after : ℕ

abbrev pub stream_told : {K : Type 0} → Ghosts K → K → K → StreamTold
stream_told tell before now = record {
  before = tell.written before;
  after = tell.written now;
  faults_before = tell.faults before;
  faults_after = tell.faults now;
}

-- Just this was written on the stream.
abbrev pub Gains : StreamTold → List ℕ → Type 0
Gains stream text = Appends stream.before stream.after text

-- Nothing was written on it.
abbrev pub IsKept : StreamTold → Type 0
IsKept stream = Keeps stream.before stream.after

-- It failed.
abbrev pub HasFailed : StreamTold → Type 0
HasFailed stream = Rose stream.faults_before stream.faults_after

-- It failed, and took a front of this text and nothing else.
abbrev pub FailsAmid : StreamTold → List ℕ → Type 0
FailsAmid stream text = HasFailed stream × AppendsFront stream.before stream.after text

-- The text was written whole and the status is this, or the stream failed amid it and the status is that of a failed stream.
abbrev pub Writes : List ℕ → ℕ → ℕ → StreamTold → Type 0
Writes text status result stream = ((result ≡ status) × Gains stream text) ⊎ ((result ≡ STREAM_FAILED) × FailsAmid stream text)

-- The status is this, and the text was written whole or the stream failed amid it.
abbrev pub Mentions : List ℕ → ℕ → ℕ → StreamTold → Type 0
Mentions text status result stream = (result ≡ status) × (Gains stream text ⊎ FailsAmid stream text)

-- The closing lines were written whole, and then, where a door failed, the line that says so; or a stream failed amid its own.
abbrev pub EndsServed : List ℕ → Bool → ℕ → StreamTold → StreamTold → Type 0
EndsServed lines false result out err = Writes (line lines) DONE result out × IsKept err
EndsServed lines true result out err = (Gains out (line lines) × Writes (line door_text) DOOR_FAILED result err)
    ⊎ ((result ≡ STREAM_FAILED) × FailsAmid out (line lines) × IsKept err)

-- the status of an audit: whether all passed
abbrev pub audit_status : Bool → ℕ
audit_status true = DONE
audit_status false = REFUSED

-- What an outcome ends with: the status, and what is written on the output stream and on the error stream.
abbrev pub Ends : Outcome → ℕ → StreamTold → StreamTold → Type 0
Ends (Done output) result out err = Writes (line output.items) DONE result out × IsKept err
Ends (Refused text) result out err = IsKept out × Writes (line text) REFUSED result err
Ends (FileFailed name) result out err = IsKept out × Mentions (line (file_text name)) FILE_FAILED result err
Ends (Faulty status text) result out err = IsKept out × Writes (line text) status result err
Ends (Audited lines passed) result out err = Writes (line lines.items) (audit_status passed) result out × IsKept err
Ends (Served lines failed) result out err = EndsServed lines.items failed result out err
Ends NotStarted result out err = IsKept out × Writes (line door_text) DOOR_FAILED result err
Ends Usage result out err = IsKept out × Mentions (line usage_text) USAGE result err
Ends Memory result out err = (result ≡ NO_MEMORY) × IsKept out × IsKept err
