-- A file that failed is told as such, and in no other way.
use Rattle.std.proofs.Common.{◌≡◌, ◌≢◌, inl, inr, sym, subst, ℕ, List, Contains, Option, None, Some}
use Rattle.account_commands.specs.PassedOn.{Outcome, Done, Refused, FileFailed, Faulty, Audited, Served, NotStarted, Usage, Memory, FILE_FAILED, FilesTold, NoFileFailed, IsStopped, HasNoText}
use Rattle.command_words.specs.declared.command.Command.{Command}
use Rattle.command_words.specs.declared.command.Command.TheVariants.{Help, Version, Check, Price, Explain, ExplainSchema, Audit, Introspect, Worst, Forward, Meter, Replay, Serve, Exercise, Migrate}
use Rattle.command_words.specs.declared.command.Asked.{Asked}
use Rattle.command_words.specs.declared.command.AskedList.{AskedList}
use Rattle.command_words.specs.declared.command.AskedReplay.{AskedReplay}
use Rattle.command_words.specs.declared.command.AskedServe.{AskedServe}
use Rattle.operation_commands.specs.Asked.{HasNoVariables, HaveNoOperation, HaveNoTexts}
use Rattle.operation_commands.specs.Explain.{TellsUnread}
use Rattle.operation_commands.specs.Meter.{HasNoReply, HaveNoMetering}
use Rattle.account_commands.specs.RuleFiles.{HaveNoRules}
use Rattle.account_commands.specs.Lists.{HasNoListText}
use Rattle.account_commands.specs.Replay.{HaveNoScript, HaveNoReplay}
use Rattle.gateway_run.specs.ServeFiles.{HaveNoServeTexts}
use Rattle.gateway_run.specs.Endings.{StreamTold, Ends}
use Rattle.gateway_run.specs.Serve.{OutsideCall}
use Rattle.gateway_run.specs.Program.{AnswerCameTo, CommandCameTo, ComeTo}

-- A file is named, or none failed.
abbrev NamesOne : FilesTold → Outcome → Type 0
NamesOne files (FileFailed name) = Unit {0}
NamesOne files other = NoFileFailed files

module _ (files : FilesTold) where
  none_failed : (outcome : Outcome) → NoFileFailed files → NamesOne files outcome
  none_failed (Done output) still = still
  none_failed (Refused text) still = still
  none_failed (FileFailed name) still = tt
  none_failed (Faulty status text) still = still
  none_failed (Served lines failed) still = still
  none_failed (Audited lines passed) still = still
  none_failed NotStarted still = still
  none_failed Usage still = still
  none_failed Memory still = still

  stopped : (IsName : List ℕ → Type 0) (outcome : Outcome) → IsStopped IsName files outcome → NamesOne files outcome
  stopped IsName (Done output) by = absurd by
  stopped IsName (Refused text) by = absurd by
  stopped IsName (FileFailed name) by = tt
  stopped IsName (Faulty status text) by = absurd by
  stopped IsName (Served lines failed) by = absurd by
  stopped IsName (Audited lines passed) by = absurd by
  stopped IsName NotStarted by = absurd by
  stopped IsName Usage by = absurd by
  stopped IsName Memory by = by

  told_names : (unread outcome : Outcome) → NamesOne files unread → TellsUnread unread outcome → NamesOne files outcome
  told_names (Refused line) outcome still told = none_failed outcome still
  told_names (Done output) outcome still told = subst (NamesOne files) (sym told) still
  told_names (FileFailed name) outcome still told = subst (NamesOne files) (sym told) still
  told_names (Faulty status text) outcome still told = subst (NamesOne files) (sym told) still
  told_names (Audited lines passed) outcome still told = subst (NamesOne files) (sym told) still
  told_names (Served lines failed) outcome still told = subst (NamesOne files) (sym told) still
  told_names NotStarted outcome still told = subst (NamesOne files) (sym told) still
  told_names Usage outcome still told = subst (NamesOne files) (sym told) still
  told_names Memory outcome still told = subst (NamesOne files) (sym told) still

  no_text : (limit : ℕ) (name : List ℕ) (outcome : Outcome) → HasNoText limit name files outcome → NamesOne files outcome
  no_text limit name outcome (inl by) = stopped (λ other. other ≡ name) outcome by
  no_text limit name outcome (inr read) = none_failed outcome read.3

  no_variables : (name : Option (List ℕ)) (outcome : Outcome) → HasNoVariables name files outcome → NamesOne files outcome
  no_variables None outcome none = absurd none
  no_variables (Some name) outcome none = no_text _ name outcome none

  no_operation : (asked : Asked) (outcome : Outcome) → HaveNoOperation asked files outcome → NamesOne files outcome
  no_operation asked outcome (inl none) = no_text _ asked.schema outcome none
  no_operation asked outcome (inr none) = no_text _ asked.document outcome none.1

  no_texts : (asked : Asked) (outcome : Outcome) → HaveNoTexts asked files outcome → NamesOne files outcome
  no_texts asked outcome (inl none) = no_operation asked outcome none
  no_texts asked outcome (inr none) = no_variables asked.variables outcome none.1

  no_reply : (name : List ℕ) (outcome : Outcome) → HasNoReply name files outcome → NamesOne files outcome
  no_reply name outcome (inl by) = stopped (λ other. other ≡ name) outcome by
  no_reply name outcome (inr large) = none_failed outcome large.4

  no_metering : (asked : Asked) (reply : List ℕ) (outcome : Outcome) → HaveNoMetering asked reply files outcome → NamesOne files outcome
  no_metering asked reply outcome (inl none) = no_operation asked outcome none
  no_metering asked reply outcome (inr (inl none)) = no_reply reply outcome none.1
  no_metering asked reply outcome (inr (inr none)) = no_variables asked.variables outcome none.2

  no_rules : (schema clients : List ℕ) (outcome : Outcome) → HaveNoRules schema clients files outcome → NamesOne files outcome
  no_rules schema clients outcome (inl none) = no_text _ schema outcome none
  no_rules schema clients outcome (inr none) = no_text _ clients outcome none.1

  no_list : (asked : Option AskedList) (outcome : Outcome) → HasNoListText asked files outcome → NamesOne files outcome
  no_list None outcome none = absurd none
  no_list (Some asked) outcome none = no_text _ asked.file outcome none

  no_script : (asked : AskedReplay) (outcome : Outcome) → HaveNoScript asked files outcome → NamesOne files outcome
  no_script asked outcome (inl none) = no_rules asked.schema asked.clients outcome none
  no_script asked outcome (inr none) = no_text _ asked.script outcome none.1

  no_replay : (asked : AskedReplay) (outcome : Outcome) → HaveNoReplay asked files outcome → NamesOne files outcome
  no_replay asked outcome (inl none) = no_script asked outcome none
  no_replay asked outcome (inr none) = no_list asked.list outcome none.1

  no_serve : (asked : AskedServe) (outcome : Outcome) → HaveNoServeTexts asked files outcome → NamesOne files outcome
  no_serve asked outcome (inl none) = no_rules asked.schema asked.clients outcome none
  no_serve asked outcome (inr none) = no_list asked.list outcome none.1

  answer : (command : Command) (outcome : Outcome) → AnswerCameTo command files outcome → NamesOne files outcome
  answer Help outcome came = none_failed outcome came.1
  answer Version outcome came = none_failed outcome came.1
  answer (Check schema) outcome (inl by) = stopped (λ other. other ≡ schema) outcome by
  answer (Check schema) outcome (inr read) = none_failed outcome read.3
  answer (Price asked) outcome (inl none) = no_texts asked outcome none
  answer (Price asked) outcome (inr read) = none_failed outcome read.3
  answer (Explain asked) outcome (inl none) = told_names none.0 outcome (no_texts asked none.0 none.1) none.2
  answer (Explain asked) outcome (inr read) = none_failed outcome read.3
  answer (ExplainSchema schema undeclared) outcome (inl none) = told_names none.0 outcome (no_text _ schema none.0 none.1) none.2
  answer (ExplainSchema schema undeclared) outcome (inr read) = none_failed outcome read.3
  answer (Audit asked) outcome (inl none) = no_text _ asked.schema outcome none
  answer (Audit asked) outcome (inr (inl none)) = stopped (Contains asked.documents.items) outcome none.1
  answer (Audit asked) outcome (inr (inr read)) = none_failed outcome read.5
  answer (Introspect asked) outcome (inl none) = no_texts asked outcome none
  answer (Introspect asked) outcome (inr read) = none_failed outcome read.3
  answer (Worst asked part) outcome (inl none) = no_texts asked outcome none
  answer (Worst asked part) outcome (inr read) = none_failed outcome read.3
  answer (Forward asked) outcome (inl none) = no_texts asked outcome none
  answer (Forward asked) outcome (inr read) = none_failed outcome read.3
  answer (Meter asked reply) outcome (inl none) = no_metering asked reply outcome none
  answer (Meter asked reply) outcome (inr read) = none_failed outcome read.5
  answer (Replay asked) outcome (inl none) = no_replay asked outcome none
  answer (Replay asked) outcome (inr read) = none_failed outcome read.3
  answer (Exercise requests) outcome came = none_failed outcome came.1
  answer (Migrate clients) outcome (inl none) = no_text _ clients outcome none
  answer (Migrate clients) outcome (inr read) = none_failed outcome read.3
  answer (Serve asked) outcome none = absurd none

  came : (command : Command) (outside : OutsideCall) (outcome : Outcome) → CommandCameTo command files outside outcome → NamesOne files outcome
  came Help outside outcome came_to = answer Help outcome came_to.0
  came Version outside outcome came_to = answer Version outcome came_to.0
  came (Check schema) outside outcome came_to = answer (Check schema) outcome came_to.0
  came (Price asked) outside outcome came_to = answer (Price asked) outcome came_to.0
  came (Explain asked) outside outcome came_to = answer (Explain asked) outcome came_to.0
  came (ExplainSchema schema undeclared) outside outcome came_to = answer (ExplainSchema schema undeclared) outcome came_to.0
  came (Audit asked) outside outcome came_to = answer (Audit asked) outcome came_to.0
  came (Introspect asked) outside outcome came_to = answer (Introspect asked) outcome came_to.0
  came (Worst asked part) outside outcome came_to = answer (Worst asked part) outcome came_to.0
  came (Forward asked) outside outcome came_to = answer (Forward asked) outcome came_to.0
  came (Meter asked reply) outside outcome came_to = answer (Meter asked reply) outcome came_to.0
  came (Replay asked) outside outcome came_to = answer (Replay asked) outcome came_to.0
  came (Exercise requests) outside outcome came_to = answer (Exercise requests) outcome came_to.0
  came (Migrate clients) outside outcome came_to = answer (Migrate clients) outcome came_to.0
  came (Serve asked) outside outcome (inl none) = no_serve asked outcome none.0
  came (Serve asked) outside outcome (inr read) = none_failed outcome read.3

  come : (words : List (List ℕ)) (outside : OutsideCall) (outcome : Outcome) → ComeTo words files outside outcome → NamesOne files outcome
  come words outside outcome (inl of_command) = came of_command.0 outside outcome of_command.2
  come words outside outcome (inr (inl none)) = none_failed outcome none.2
  come words outside outcome (inr (inr memory)) = none_failed outcome memory.1

-- With another status than that of a file none failed.
pub all_read : (words : List (List ℕ)) (files : FilesTold) (outside : OutsideCall) (status : ℕ) (out err : StreamTold) (outcome : Outcome) → status ≢ FILE_FAILED → ComeTo words files outside outcome → Ends outcome status out err → NoFileFailed files
all_read words files outside status out err (Done output) other came_to ends = come files words outside (Done output) came_to
all_read words files outside status out err (Refused text) other came_to ends = come files words outside (Refused text) came_to
all_read words files outside status out err (FileFailed name) other came_to ends = absurd (other ends.1.0)
all_read words files outside status out err (Faulty number text) other came_to ends = come files words outside (Faulty number text) came_to
all_read words files outside status out err (Served lines failed) other came_to ends = come files words outside (Served lines failed) came_to
all_read words files outside status out err (Audited lines passed) other came_to ends = come files words outside (Audited lines passed) came_to
all_read words files outside status out err NotStarted other came_to ends = come files words outside NotStarted came_to
all_read words files outside status out err Usage other came_to ends = come files words outside Usage came_to
all_read words files outside status out err Memory other came_to ends = come files words outside Memory came_to
