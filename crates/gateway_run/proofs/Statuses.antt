-- What a run with a status says.
use Rattle.std.proofs.Common.{◌≡◌, ◌≤◌, ◌⊎◌, inl, inr, refl, sym, subst, codes, ℕ, List, Option, None, Some, Bool, true, false, Result, Ok, Err, Vec, arith, Contains}
use Rattle.account_commands.specs.PassedOn.{SCHEMA_LIMIT, DOCUMENT_LIMIT, VARIABLES_LIMIT, CLIENTS_LIMIT, SCRIPT_LIMIT, TRUSTED_LIMIT, line, Outcome, Done, Refused, FileFailed, Faulty, Served, NotStarted, Usage, Memory, Audited, DONE, REFUSED, USAGE, FILE_FAILED, STREAM_FAILED, NO_MEMORY, SIZE_BROKEN, NOT_RESPONSE, DOOR_FAILED, DISK_FAILED, FilesTold, IsStopped, IsDone, IsRefusedAs, IsWanting, IsFaultyAs, IsAudited, CheckOf, IsNoText, HasNoText}
use Rattle.std.specs.declared.alloc.Global.{Global}
use Rattle.outside.specs.Faults.{Rose}
use Rattle.command_words.specs.declared.command.Command.{Command}
use Rattle.command_words.specs.declared.command.Command.TheVariants.{Help, Version, Check, Price, Explain, ExplainSchema, Audit, Introspect, Worst, Forward, Meter, Replay, Serve, Exercise, Migrate}
use Rattle.command_words.specs.declared.command.Asked.{Asked}
use Rattle.command_words.specs.declared.command.AskedList.{AskedList}
use Rattle.command_words.specs.declared.command.AskedAudit.{AskedAudit}
use Rattle.command_words.specs.declared.command.AskedReplay.{AskedReplay}
use Rattle.command_words.specs.declared.command.AskedServe.{AskedServe}
use Rattle.gateway_serving.specs.declared.ending.ServeEnd.{ServeEnd}
use Rattle.gateway_serving.specs.declared.ending.ServeFault.{ServeFault}
use Rattle.gateway_serving.specs.declared.ending.ServeFault.TheVariants.{NotStarted as NoDoors, Memory as NoMemory}
use Rattle.client_files.specs.declared.client.Client.{Client}
use Rattle.journal_serving.specs.declared.ending.KeptEnd.{KeptEnd}
use Rattle.journal_serving.specs.declared.ending.KeptFault.{KeptFault}
use Rattle.journal_serving.specs.declared.ending.KeptFault.TheVariants as unserved
use Rattle.gateway_run.specs.declared.serve_inputs.ServeTexts.{ServeTexts}
use Rattle.gateway_run.specs.declared.serve_inputs.ServeInputs.{ServeInputs}
use Rattle.command_words.specs.Words.{Asks, IsNoCommand}
use Rattle.gateway_run.specs.Endings.{StreamTold, IsKept, Writes, EndsServed, Ends}
use Rattle.operation_commands.specs.declared.asked.AskedTexts.{AskedTexts}
use Rattle.operation_commands.specs.Asked.{HasNoVariables, HaveNoOperation, HaveNoTexts, request_in}
use Rattle.operation_commands.specs.Price.{PriceOf}
use Rattle.told_refusals.specs.Told.{Spot}
use Rattle.operation_commands.specs.Explain.{IsRefusedTelling, TellsUnread, ExplainOf}
use Rattle.operation_commands.specs.ExplainSchema.{ExplainSchemaOf}
use Rattle.operation_commands.specs.Audit.{AuditOf}
use Rattle.operation_commands.specs.Introspect.{IntrospectOf}
use Rattle.operation_commands.specs.Subjects.{MeterFault, NotResponse, SizeBroken, MeterMemory, Part, Plan, PlanTree, plan_tree}
use Rattle.operation_commands.specs.Worst.{WorstOfTree, WorstOf}
use Rattle.operation_commands.specs.Forward.{ForwardOf}
use Rattle.operation_commands.specs.Meter.{status_of, IsReplyFault, HasNoReply, HaveNoMetering, MeterOfPlan, MeterOf}
use Rattle.account_commands.specs.declared.replay_texts.ReplayTexts.{ReplayTexts}
use Rattle.account_commands.specs.RuleFiles.{HaveNoRules}
use Rattle.account_commands.specs.Lists.{HasNoListText}
use Rattle.account_commands.specs.Replay.{HaveNoScript, HaveNoReplay, ReplayOf}
use Rattle.gateway_run.specs.ServeFiles.{HaveNoServeTexts}
use Rattle.gateway_run.specs.Serve.{OutsideCall, IsTold, IsKeptTold, damaged_text, ServesOver, ServeOf, ServeCameTo}
use Rattle.account_commands.specs.Exercise.{ExerciseCameTo}
use Rattle.account_commands.specs.Migrate.{MigrateOf}
use Rattle.gateway_run.specs.Program.{AnswerCameTo, CommandCameTo, IsCommandOf, ComeTo, IsAskedFile, IsAuditFile, IsListFile, IsReplayFile, IsServeFile, IsFileOf, NamesFile, OneFailed, PrintsOutput, PrintsRefusal, PrintsFault, TellsDoor, IsSilent}

-- the statuses of faulty replies, and that of a disk
abbrev IsOwnStatus : ℕ → Type 0
IsOwnStatus status = (status ≡ SIZE_BROKEN) ⊎ (status ≡ NOT_RESPONSE) ⊎ (status ≡ DISK_FAILED)

-- ---- what a command comes to: no wrong use; a file that failed is one of these and its count rose; a status of its own is that
-- of a faulty reply or of a disk

abbrev IsAnswer : (List ℕ → Type 0) → FilesTold → Outcome → Type 0
IsAnswer IsName files (FileFailed name) = IsName name × Rose (files.faults_before name) (files.faults_after name)
IsAnswer IsName files (Faulty status text) = IsOwnStatus status
IsAnswer IsName files Usage = ⊥
IsAnswer IsName files (Audited lines passed) = Unit {0}
IsAnswer IsName files (Served lines failed) = Unit {0}
IsAnswer IsName files NotStarted = Unit {0}
IsAnswer IsName files (Done output) = Unit {0}
IsAnswer IsName files (Refused text) = Unit {0}
IsAnswer IsName files Memory = Unit {0}

module _ (IsName : List ℕ → Type 0) (files : FilesTold) where
  memory_answer : (outcome : Outcome) → outcome ≡ Memory → IsAnswer IsName files outcome
  memory_answer outcome same = subst (IsAnswer IsName files) (sym same) tt

  done_answer : (output : List ℕ) (outcome : Outcome) → IsDone output outcome → IsAnswer IsName files outcome
  done_answer output (Done bytes) done = tt
  done_answer output (Refused text) done = absurd done
  done_answer output (FileFailed name) done = absurd done
  done_answer output (Faulty status text) done = absurd done
  done_answer output (Audited lines passed) done = tt
  done_answer output (Served lines failed) done = tt
  done_answer output NotStarted done = tt
  done_answer output Usage done = done
  done_answer output Memory done = tt

  refused_answer : (text : List ℕ) (outcome : Outcome) → IsRefusedAs text outcome → IsAnswer IsName files outcome
  refused_answer text (Done bytes) refused = absurd refused
  refused_answer text (Refused told) refused = tt
  refused_answer text (FileFailed name) refused = absurd refused
  refused_answer text (Faulty status told) refused = absurd refused
  refused_answer text (Audited lines passed) refused = tt
  refused_answer text (Served lines failed) refused = tt
  refused_answer text NotStarted refused = tt
  refused_answer text Usage refused = refused
  refused_answer text Memory refused = tt

  wanting_answer : (most : Option ℕ) (outcome : Outcome) → IsWanting most outcome → IsAnswer IsName files outcome
  wanting_answer most outcome (inl memory) = memory_answer outcome memory
  wanting_answer most outcome (inr refused) = refused_answer _ outcome refused.1

  telling_answer : (text : List ℕ) (IsSpot : Option Spot → Type 0) (outcome : Outcome) → IsRefusedTelling text IsSpot outcome → IsAnswer IsName files outcome
  telling_answer text IsSpot (Done bytes) refused = absurd refused
  telling_answer text IsSpot (Refused told) refused = tt
  telling_answer text IsSpot (FileFailed name) refused = absurd refused
  telling_answer text IsSpot (Faulty status told) refused = absurd refused
  telling_answer text IsSpot (Audited lines passed) refused = tt
  telling_answer text IsSpot (Served lines failed) refused = tt
  telling_answer text IsSpot NotStarted refused = tt
  telling_answer text IsSpot Usage refused = refused
  telling_answer text IsSpot Memory refused = tt

  unread_answer : (unread outcome : Outcome) → IsAnswer IsName files unread → TellsUnread unread outcome → IsAnswer IsName files outcome
  unread_answer (Refused line) outcome answer told = telling_answer line (λ spot. spot ≡ None) outcome told
  unread_answer (Done output) outcome answer told = subst (IsAnswer IsName files) (sym told) answer
  unread_answer (FileFailed name) outcome answer told = subst (IsAnswer IsName files) (sym told) answer
  unread_answer (Faulty status text) outcome answer told = subst (IsAnswer IsName files) (sym told) answer
  unread_answer (Audited lines passed) outcome answer told = subst (IsAnswer IsName files) (sym told) answer
  unread_answer (Served lines failed) outcome answer told = subst (IsAnswer IsName files) (sym told) answer
  unread_answer NotStarted outcome answer told = subst (IsAnswer IsName files) (sym told) answer
  unread_answer Usage outcome answer told = subst (IsAnswer IsName files) (sym told) answer
  unread_answer Memory outcome answer told = subst (IsAnswer IsName files) (sym told) answer

  stopped_answer : (name : List ℕ) (outcome : Outcome) → IsName name → IsStopped (λ other. other ≡ name) files outcome → IsAnswer IsName files outcome
  stopped_answer name (Done bytes) is stopped = absurd stopped
  stopped_answer name (Refused text) is stopped = absurd stopped
  stopped_answer name (FileFailed other) is stopped = (subst IsName (sym stopped.0) is, stopped.1)
  stopped_answer name (Faulty status text) is stopped = absurd stopped
  stopped_answer name (Audited lines passed) is stopped = tt
  stopped_answer name (Served lines failed) is stopped = tt
  stopped_answer name NotStarted is stopped = tt
  stopped_answer name Usage is stopped = stopped
  stopped_answer name Memory is stopped = tt

  -- one of several files was not read
  among_answer : (IsOther : List ℕ → Type 0) → ((name : List ℕ) → IsOther name → IsName name) → (outcome : Outcome) → IsStopped IsOther files outcome → IsAnswer IsName files outcome
  among_answer IsOther is (Done bytes) stopped = tt
  among_answer IsOther is (Refused text) stopped = tt
  among_answer IsOther is (FileFailed name) stopped = (is name stopped.0, stopped.1)
  among_answer IsOther is (Faulty status text) stopped = absurd stopped
  among_answer IsOther is (Audited lines passed) stopped = tt
  among_answer IsOther is (Served lines failed) stopped = tt
  among_answer IsOther is NotStarted stopped = tt
  among_answer IsOther is Usage stopped = stopped
  among_answer IsOther is Memory stopped = tt

  -- ---- files that don't hold what they must

  no_text_answer : (limit : ℕ) (name : List ℕ) (outcome : Outcome) → IsName name → HasNoText limit name files outcome → IsAnswer IsName files outcome
  no_text_answer limit name outcome is (inl stopped) = stopped_answer name outcome is stopped
  no_text_answer limit name outcome is (inr read) = told limit name read.0 outcome read.2
    where
      told : (limit : ℕ) (name bytes : List ℕ) (outcome : Outcome) → IsNoText limit name bytes outcome → IsAnswer IsName files outcome
      told limit name bytes outcome (inl large) = refused_answer _ outcome large.1
      told limit name bytes outcome (inr none) = refused_answer _ outcome none.2

  no_variables_answer : (name : Option (List ℕ)) (outcome : Outcome) → ((own : List ℕ) → name ≡ Some own → IsName own) → HasNoVariables name files outcome → IsAnswer IsName files outcome
  no_variables_answer None outcome is none = absurd none
  no_variables_answer (Some name) outcome is none = no_text_answer VARIABLES_LIMIT name outcome (is name refl) none

  no_operation_answer : (asked : Asked) (outcome : Outcome) → ((name : List ℕ) → IsAskedFile asked name → IsName name) → HaveNoOperation asked files outcome → IsAnswer IsName files outcome
  no_operation_answer asked outcome is (inl none) = no_text_answer SCHEMA_LIMIT asked.schema outcome (is asked.schema (inl refl)) none
  no_operation_answer asked outcome is (inr none) = no_text_answer DOCUMENT_LIMIT asked.document outcome (is asked.document (inr (inl refl))) none.1

  no_reply_answer : (name : List ℕ) (outcome : Outcome) → IsName name → HasNoReply name files outcome → IsAnswer IsName files outcome
  no_reply_answer name outcome is (inl stopped) = stopped_answer name outcome is stopped
  no_reply_answer name outcome is (inr large) = refused_answer _ outcome large.3

  no_rules_answer : (schema clients : List ℕ) (outcome : Outcome) → IsName schema → IsName clients → HaveNoRules schema clients files outcome → IsAnswer IsName files outcome
  no_rules_answer schema clients outcome is also (inl none) = no_text_answer SCHEMA_LIMIT schema outcome is none
  no_rules_answer schema clients outcome is also (inr none) = no_text_answer CLIENTS_LIMIT clients outcome also none.1

  no_list_answer : (asked : Option AskedList) (outcome : Outcome) → ((name : List ℕ) → IsListFile asked name → IsName name) → HasNoListText asked files outcome → IsAnswer IsName files outcome
  no_list_answer None outcome is none = absurd none
  no_list_answer (Some asked) outcome is none = no_text_answer TRUSTED_LIMIT asked.file outcome (is asked.file refl) none

  no_script_answer : (asked : AskedReplay) (outcome : Outcome) → ((name : List ℕ) → IsReplayFile asked name → IsName name) → HaveNoScript asked files outcome → IsAnswer IsName files outcome
  no_script_answer asked outcome is (inl none) = no_rules_answer asked.schema asked.clients outcome (is asked.schema (inl refl)) (is asked.clients (inr (inl refl))) none
  no_script_answer asked outcome is (inr none) = no_text_answer SCRIPT_LIMIT asked.script outcome (is asked.script (inr (inr (inl refl)))) none.1

  no_replay_answer : (asked : AskedReplay) (outcome : Outcome) → ((name : List ℕ) → IsReplayFile asked name → IsName name) → HaveNoReplay asked files outcome → IsAnswer IsName files outcome
  no_replay_answer asked outcome is (inl none) = no_script_answer asked outcome is none
  no_replay_answer asked outcome is (inr none) = no_list_answer asked.list outcome (λ name own. is name (inr (inr (inr own)))) none.1

  no_serve_answer : (asked : AskedServe) (outcome : Outcome) → ((name : List ℕ) → IsServeFile asked name → IsName name) → HaveNoServeTexts asked files outcome → IsAnswer IsName files outcome
  no_serve_answer asked outcome is (inl none) = no_rules_answer asked.schema asked.clients outcome (is asked.schema (inl refl)) (is asked.clients (inr (inl refl))) none
  no_serve_answer asked outcome is (inr none) = no_list_answer asked.list outcome (λ name own. is name (inr (inr own))) none.1

  -- ---- what they hold

  check_answer : (schema bytes : List ℕ) (outcome : Outcome) → CheckOf schema bytes outcome → IsAnswer IsName files outcome
  check_answer schema bytes outcome (inl memory) = memory_answer outcome memory
  check_answer schema bytes outcome (inr (inl done)) = done_answer _ outcome done.2
  check_answer schema bytes outcome (inr (inr refused)) = refused_answer _ outcome refused.2

  price_answer : (asked : Asked) (texts : AskedTexts) (outcome : Outcome) → PriceOf asked texts outcome → IsAnswer IsName files outcome
  price_answer asked texts outcome (inl wants) = wanting_answer asked.most_work outcome wants
  price_answer asked texts outcome (inr (inl done)) = done_answer _ outcome done.3
  price_answer asked texts outcome (inr (inr refused)) = refused_answer _ outcome refused.2

  explain_answer : (asked : Asked) (texts : AskedTexts) (outcome : Outcome) → ExplainOf asked texts outcome → IsAnswer IsName files outcome
  explain_answer asked texts outcome (inl (inl memory)) = memory_answer outcome memory
  explain_answer asked texts outcome (inl (inr told)) = telling_answer (codes "work 1 TooMuch") _ outcome told.1
  explain_answer asked texts outcome (inr (inl done)) = done_answer _ outcome done.2.2
  explain_answer asked texts outcome (inr (inr refused)) = telling_answer _ _ outcome refused.2

  explain_schema_answer : (name : List ℕ) (undeclared : ℕ) (text : List ℕ) (outcome : Outcome) → ExplainSchemaOf name undeclared text outcome → IsAnswer IsName files outcome
  explain_schema_answer name undeclared text outcome (inl memory) = memory_answer outcome memory
  explain_schema_answer name undeclared text outcome (inr (inl done)) = done_answer _ outcome done.3
  explain_schema_answer name undeclared text outcome (inr (inr refused)) = telling_answer _ _ outcome refused.2

  audited_answer : (lines : List ℕ) (passed : Bool) (outcome : Outcome) → IsAudited lines passed outcome → IsAnswer IsName files outcome
  audited_answer lines passed (Done bytes) audited = tt
  audited_answer lines passed (Refused text) audited = tt
  audited_answer lines passed (FileFailed name) audited = absurd audited
  audited_answer lines passed (Faulty status text) audited = absurd audited
  audited_answer lines passed (Audited told all) audited = tt
  audited_answer lines passed (Served told failed) audited = tt
  audited_answer lines passed NotStarted audited = tt
  audited_answer lines passed Usage audited = audited
  audited_answer lines passed Memory audited = tt

  audit_answer : (asked : AskedAudit) (schema : List ℕ) (contents : List (List ℕ)) (outcome : Outcome) → AuditOf asked schema contents outcome → IsAnswer IsName files outcome
  audit_answer asked schema contents outcome (inl memory) = memory_answer outcome memory
  audit_answer asked schema contents outcome (inr (inl audited)) = audited_answer _ _ outcome audited.1.2
  audit_answer asked schema contents outcome (inr (inr refused)) = refused_answer _ outcome refused.2

  introspect_answer : (asked : Asked) (texts : AskedTexts) (outcome : Outcome) → IntrospectOf asked texts outcome → IsAnswer IsName files outcome
  introspect_answer asked texts outcome (inl wants) = wanting_answer asked.most_work outcome wants
  introspect_answer asked texts outcome (inr (inl done)) = done_answer _ outcome done.2
  introspect_answer asked texts outcome (inr (inr refused)) = refused_answer _ outcome refused.2

  worst_tree_answer : (part : Part) (tree : PlanTree) (outcome : Outcome) → WorstOfTree part tree outcome → IsAnswer IsName files outcome
  worst_tree_answer part tree outcome (inl memory) = memory_answer outcome memory
  worst_tree_answer part tree outcome (inr (inl done)) = done_answer _ outcome done.1
  worst_tree_answer part tree outcome (inr (inr large)) = refused_answer _ outcome large.1

  worst_answer : (asked : Asked) (part : Part) (texts : AskedTexts) (outcome : Outcome) → WorstOf asked part texts outcome → IsAnswer IsName files outcome
  worst_answer asked part texts outcome (inl wants) = wanting_answer asked.most_work outcome wants
  worst_answer asked part texts outcome (inr (inl accepted)) = worst_tree_answer part (plan_tree (request_in asked accepted.0) accepted.2.2.is_planned.prepared) outcome accepted.2.3
  worst_answer asked part texts outcome (inr (inr refused)) = refused_answer _ outcome refused.2

  forward_answer : (asked : Asked) (texts : AskedTexts) (outcome : Outcome) → ForwardOf asked texts outcome → IsAnswer IsName files outcome
  forward_answer asked texts outcome (inl wants) = wanting_answer asked.most_work outcome wants
  forward_answer asked texts outcome (inr (inl done)) = done_answer _ outcome done.2
  forward_answer asked texts outcome (inr (inr refused)) = refused_answer _ outcome refused.2

  fault_status : (fault : MeterFault) (status : ℕ) → (fault ≡ MeterMemory → ⊥) → status ≡ status_of fault → IsOwnStatus status
  fault_status (NotResponse path why) status of_reply same = inr (inl same)
  fault_status (SizeBroken path size length) status of_reply same = inl same
  fault_status MeterMemory status of_reply same = absurd (of_reply refl)

  reply_answer : (fault : MeterFault) (outcome : Outcome) → (fault ≡ MeterMemory → ⊥) → IsReplyFault fault outcome → IsAnswer IsName files outcome
  reply_answer fault (Done output) of_reply faulty = absurd faulty
  reply_answer fault (Refused text) of_reply faulty = absurd faulty
  reply_answer fault (FileFailed name) of_reply faulty = absurd faulty
  reply_answer fault (Faulty status text) of_reply faulty = fault_status fault status of_reply faulty.0
  reply_answer fault (Audited lines passed) of_reply faulty = tt
  reply_answer fault (Served lines failed) of_reply faulty = tt
  reply_answer fault NotStarted of_reply faulty = tt
  reply_answer fault Usage of_reply faulty = faulty
  reply_answer fault Memory of_reply faulty = tt

  meter_plan_answer : (plan : Plan) (alias : List ℕ) (tree : PlanTree) (reply : List ℕ) (outcome : Outcome) → MeterOfPlan plan alias tree reply outcome → IsAnswer IsName files outcome
  meter_plan_answer plan alias tree reply outcome (inl memory) = memory_answer outcome memory
  meter_plan_answer plan alias tree reply outcome (inr (inl done)) = done_answer _ outcome done.2
  meter_plan_answer plan alias tree reply outcome (inr (inr faulty)) = reply_answer faulty.0 outcome faulty.1.1 faulty.2

  meter_answer : (asked : Asked) (texts : AskedTexts) (reply : List ℕ) (outcome : Outcome) → MeterOf asked texts reply outcome → IsAnswer IsName files outcome
  meter_answer asked texts reply outcome (inl wants) = wanting_answer asked.most_work outcome wants
  meter_answer asked texts reply outcome (inr (inl accepted)) = meter_plan_answer accepted.2.0 accepted.2.4.0 (plan_tree (request_in asked accepted.0) accepted.2.2.is_planned.prepared) reply outcome accepted.2.4.2
  meter_answer asked texts reply outcome (inr (inr refused)) = refused_answer _ outcome refused.2

  migrate_answer : (text : List ℕ) (outcome : Outcome) → MigrateOf text outcome → IsAnswer IsName files outcome
  migrate_answer text outcome (inl memory) = memory_answer outcome memory
  migrate_answer text outcome (inr (inl done)) = done_answer _ outcome done.2
  migrate_answer text outcome (inr (inr refused)) = refused_answer _ outcome refused.2

  replay_answer : (name : List ℕ) (texts : ReplayTexts) (undeclared : ℕ) (work : Option ℕ) (outcome : Outcome) → ReplayOf name texts undeclared work outcome → IsAnswer IsName files outcome
  replay_answer name texts undeclared work outcome (inl memory) = memory_answer outcome memory
  replay_answer name texts undeclared work outcome (inr (inl done)) = done_answer _ outcome done.2.2.2
  replay_answer name texts undeclared work outcome (inr (inr refused)) = refused_answer _ outcome refused.2

  exercise_answer : (requests : ℕ) (outcome : Outcome) → ExerciseCameTo requests outcome → IsAnswer IsName files outcome
  exercise_answer requests outcome (inl memory) = memory_answer outcome memory
  exercise_answer requests outcome (inr (inl done)) = done_answer _ outcome done.2.2
  exercise_answer requests outcome (inr (inr refused)) = refused_answer _ outcome refused.2

-- ---- commands

asked_answer : (asked : Asked) (files : FilesTold) (outcome : Outcome) → HaveNoTexts asked files outcome → IsAnswer (IsAskedFile asked) files outcome
asked_answer asked files outcome (inl none) = no_operation_answer (IsAskedFile asked) files asked outcome (λ name is. is) none
asked_answer asked files outcome (inr none) = no_variables_answer (IsAskedFile asked) files asked.variables outcome (λ own same. inr (inr same)) none.1

metering_answer : (asked : Asked) (reply : List ℕ) (files : FilesTold) (outcome : Outcome) → HaveNoMetering asked reply files outcome → IsAnswer (IsFileOf (Meter asked reply)) files outcome
metering_answer asked reply files outcome (inl none) = no_operation_answer (IsFileOf (Meter asked reply)) files asked outcome (λ name is. inl is) none
metering_answer asked reply files outcome (inr (inl none)) = no_reply_answer (IsFileOf (Meter asked reply)) files reply outcome (inr refl) none.1
metering_answer asked reply files outcome (inr (inr none)) = no_variables_answer (IsFileOf (Meter asked reply)) files asked.variables outcome (λ own same. inl (inr (inr same))) none.2

answers : (command : Command) (files : FilesTold) (outcome : Outcome) → AnswerCameTo command files outcome → IsAnswer (IsFileOf command) files outcome
answers Help files outcome done = done_answer (IsFileOf Help) files _ outcome done.0
answers Version files outcome done = done_answer (IsFileOf Version) files _ outcome done.0
answers (Check schema) files outcome (inl stopped) = stopped_answer (IsFileOf (Check schema)) files schema outcome refl stopped
answers (Check schema) files outcome (inr read) = check_answer (IsFileOf (Check schema)) files schema read.0 outcome read.2
answers (Price asked) files outcome (inl none) = asked_answer asked files outcome none
answers (Price asked) files outcome (inr read) = price_answer (IsAskedFile asked) files asked read.0 outcome read.2
answers (Explain asked) files outcome (inl none) = unread_answer (IsAskedFile asked) files none.0 outcome (asked_answer asked files none.0 none.1) none.2
answers (Explain asked) files outcome (inr read) = explain_answer (IsAskedFile asked) files asked read.0 outcome read.2
answers (ExplainSchema schema undeclared) files outcome (inl none) =
    unread_answer (IsFileOf (ExplainSchema schema undeclared)) files none.0 outcome (no_text_answer (IsFileOf (ExplainSchema schema undeclared)) files SCHEMA_LIMIT schema none.0 refl none.1) none.2
answers (ExplainSchema schema undeclared) files outcome (inr read) = explain_schema_answer (IsFileOf (ExplainSchema schema undeclared)) files schema undeclared read.0 outcome read.2
answers (Audit asked) files outcome (inl none) = no_text_answer (IsAuditFile asked) files SCHEMA_LIMIT asked.schema outcome (inl refl) none
answers (Audit asked) files outcome (inr (inl none)) = among_answer (IsAuditFile asked) files (Contains asked.documents.items) (λ name is. inr is) outcome none.1
answers (Audit asked) files outcome (inr (inr read)) = audit_answer (IsAuditFile asked) files asked read.0 read.1 outcome read.4
answers (Introspect asked) files outcome (inl none) = asked_answer asked files outcome none
answers (Introspect asked) files outcome (inr read) = introspect_answer (IsAskedFile asked) files asked read.0 outcome read.2
answers (Worst asked part) files outcome (inl none) = asked_answer asked files outcome none
answers (Worst asked part) files outcome (inr read) = worst_answer (IsAskedFile asked) files asked part read.0 outcome read.2
answers (Forward asked) files outcome (inl none) = asked_answer asked files outcome none
answers (Forward asked) files outcome (inr read) = forward_answer (IsAskedFile asked) files asked read.0 outcome read.2
answers (Meter asked reply) files outcome (inl none) = metering_answer asked reply files outcome none
answers (Meter asked reply) files outcome (inr read) = meter_answer (IsFileOf (Meter asked reply)) files asked read.0 read.1 outcome read.4
answers (Replay asked) files outcome (inl none) = no_replay_answer (IsReplayFile asked) files asked outcome (λ name is. is) none
answers (Replay asked) files outcome (inr read) = replay_answer (IsReplayFile asked) files asked.schema read.0 asked.undeclared asked.most_work outcome read.2
answers (Exercise requests) files outcome came_to = exercise_answer (IsFileOf (Exercise requests)) files requests outcome came_to.0
answers (Migrate clients) files outcome (inl none) = no_text_answer (IsFileOf (Migrate clients)) files CLIENTS_LIMIT clients outcome refl none
answers (Migrate clients) files outcome (inr read) = migrate_answer (IsFileOf (Migrate clients)) files read.0 outcome read.2
answers (Serve asked) files outcome none = absurd none

told_answer : (IsName : List ℕ → Type 0) (files : FilesTold) (result : Result ServeEnd ServeFault) (outcome : Outcome) → IsTold result outcome → IsAnswer IsName files outcome
told_answer IsName files (Ok end) (Audited lines passed) told = tt
told_answer IsName files (Ok end) (Served lines failed) told = tt
told_answer IsName files (Ok end) Memory told = tt
told_answer IsName files (Ok end) (Done output) told = tt
told_answer IsName files (Ok end) (Refused text) told = tt
told_answer IsName files (Ok end) (FileFailed name) told = absurd told
told_answer IsName files (Ok end) (Faulty status text) told = absurd told
told_answer IsName files (Ok end) NotStarted told = tt
told_answer IsName files (Ok end) Usage told = told
told_answer IsName files (Err NoDoors) outcome told = none_answer outcome told
  where
    none_answer : (outcome : Outcome) → IsTold (Err NoDoors) outcome → IsAnswer IsName files outcome
    none_answer (Audited lines passed) told = tt
    none_answer (Served lines failed) told = tt
    none_answer Memory told = tt
    none_answer (Done output) told = tt
    none_answer (Refused text) told = tt
    none_answer (FileFailed name) told = absurd told
    none_answer (Faulty status text) told = absurd told
    none_answer NotStarted told = tt
    none_answer Usage told = told
told_answer IsName files (Err NoMemory) outcome told = none_answer outcome told
  where
    none_answer : (outcome : Outcome) → IsTold (Err NoMemory) outcome → IsAnswer IsName files outcome
    none_answer (Audited lines passed) told = tt
    none_answer (Served lines failed) told = tt
    none_answer Memory told = tt
    none_answer (Done output) told = tt
    none_answer (Refused text) told = tt
    none_answer (FileFailed name) told = absurd told
    none_answer (Faulty status text) told = absurd told
    none_answer NotStarted told = tt
    none_answer Usage told = told

-- over a journal
faulty_answer : (IsName : List ℕ → Type 0) (files : FilesTold) (text : List ℕ) (outcome : Outcome) → IsFaultyAs DISK_FAILED text outcome → IsAnswer IsName files outcome
faulty_answer IsName files text (Done bytes) faulty = absurd faulty
faulty_answer IsName files text (Refused told) faulty = absurd faulty
faulty_answer IsName files text (FileFailed name) faulty = absurd faulty
faulty_answer IsName files text (Faulty status told) faulty = inr (inr faulty.0)
faulty_answer IsName files text (Audited lines passed) faulty = tt
faulty_answer IsName files text (Served lines failed) faulty = tt
faulty_answer IsName files text NotStarted faulty = tt
faulty_answer IsName files text Usage faulty = faulty
faulty_answer IsName files text Memory faulty = tt

kept_answer : (IsName : List ℕ → Type 0) (files : FilesTold) (clients : List Client) (result : Result KeptEnd KeptFault) (outcome : Outcome) → IsKeptTold clients result outcome → IsAnswer IsName files outcome
kept_answer IsName files clients (Ok end) (Audited lines passed) told = tt
kept_answer IsName files clients (Ok end) (Served lines failed) told = tt
kept_answer IsName files clients (Ok end) Memory told = tt
kept_answer IsName files clients (Ok end) (Done output) told = tt
kept_answer IsName files clients (Ok end) (Refused text) told = tt
kept_answer IsName files clients (Ok end) (FileFailed name) told = absurd told
kept_answer IsName files clients (Ok end) (Faulty status text) told = absurd told
kept_answer IsName files clients (Ok end) NotStarted told = tt
kept_answer IsName files clients (Ok end) Usage told = told
kept_answer IsName files clients (Err unserved.Disk) outcome told = faulty_answer IsName files (codes "disk") outcome told
kept_answer IsName files clients (Err unserved.OtherClients) outcome told = refused_answer IsName files (codes "journal 2 OtherClients") outcome told
kept_answer IsName files clients (Err (unserved.Damaged slot)) outcome told = refused_answer IsName files (damaged_text slot) outcome told
kept_answer IsName files clients (Err unserved.NotStarted) outcome told = subst (IsAnswer IsName files) (sym told) tt
kept_answer IsName files clients (Err unserved.Memory) outcome told = memory_answer IsName files outcome told

over_answer : (asked : AskedServe) (files : FilesTold) (journal : Option (List ℕ)) (inputs : ServeInputs) (outside : OutsideCall) (outcome : Outcome) → ServesOver journal asked inputs outside outcome → IsAnswer (IsServeFile asked) files outcome
over_answer asked files None inputs outside outcome served = told_answer (IsServeFile asked) files served.0.0 outcome served.0.2
over_answer asked files (Some name) inputs outside outcome (inl memory) = memory_answer (IsServeFile asked) files outcome memory.0
over_answer asked files (Some name) inputs outside outcome (inr kept_as) = kept_answer (IsServeFile asked) files inputs.rules.clients.clients.items kept_as.0 outcome kept_as.4

serve_of_answer : (asked : AskedServe) (texts : ServeTexts) (files : FilesTold) (outside : OutsideCall) (outcome : Outcome) → ServeOf asked texts outside outcome → IsAnswer (IsServeFile asked) files outcome
serve_of_answer asked texts files outside outcome (inl memory) = memory_answer (IsServeFile asked) files outcome memory.0
serve_of_answer asked texts files outside outcome (inr (inl refused)) = refused_answer (IsServeFile asked) files _ outcome refused.0.2
serve_of_answer asked texts files outside outcome (inr (inr served)) = over_answer asked files asked.journal served.0 outside outcome served.2

serve_answer : (asked : AskedServe) (files : FilesTold) (outside : OutsideCall) (outcome : Outcome) → ServeCameTo asked files outside outcome → IsAnswer (IsServeFile asked) files outcome
serve_answer asked files outside outcome (inl none) = no_serve_answer (IsServeFile asked) files asked outcome (λ name is. is) none.0
serve_answer asked files outside outcome (inr read) = serve_of_answer asked read.0 files outside outcome read.2

came : (command : Command) (files : FilesTold) (outside : OutsideCall) (outcome : Outcome) → CommandCameTo command files outside outcome → IsAnswer (IsFileOf command) files outcome
came Help files outside outcome came_to = answers Help files outcome came_to.0
came Version files outside outcome came_to = answers Version files outcome came_to.0
came (Check schema) files outside outcome came_to = answers (Check schema) files outcome came_to.0
came (Price asked) files outside outcome came_to = answers (Price asked) files outcome came_to.0
came (Explain asked) files outside outcome came_to = answers (Explain asked) files outcome came_to.0
came (ExplainSchema schema undeclared) files outside outcome came_to = answers (ExplainSchema schema undeclared) files outcome came_to.0
came (Audit asked) files outside outcome came_to = answers (Audit asked) files outcome came_to.0
came (Introspect asked) files outside outcome came_to = answers (Introspect asked) files outcome came_to.0
came (Worst asked part) files outside outcome came_to = answers (Worst asked part) files outcome came_to.0
came (Forward asked) files outside outcome came_to = answers (Forward asked) files outcome came_to.0
came (Meter asked reply) files outside outcome came_to = answers (Meter asked reply) files outcome came_to.0
came (Replay asked) files outside outcome came_to = answers (Replay asked) files outcome came_to.0
came (Exercise requests) files outside outcome came_to = answers (Exercise requests) files outcome came_to.0
came (Migrate clients) files outside outcome came_to = answers (Migrate clients) files outcome came_to.0
came (Serve asked) files outside outcome came_to = serve_answer asked files outside outcome came_to

came_file : (command : Command) (files : FilesTold) (outside : OutsideCall) (name : List ℕ) → CommandCameTo command files outside (FileFailed name) → IsFileOf command name × Rose (files.faults_before name) (files.faults_after name)
came_file command files outside name = came command files outside (FileFailed name)

came_usage : (command : Command) (files : FilesTold) (outside : OutsideCall) → CommandCameTo command files outside Usage → ⊥
came_usage command files outside = came command files outside Usage

came_faulty : (command : Command) (files : FilesTold) (outside : OutsideCall) (status : ℕ) (text : List ℕ) → CommandCameTo command files outside (Faulty status text) → IsOwnStatus status
came_faulty command files outside status text = came command files outside (Faulty status text)

-- and words
come_faulty : (words : List (List ℕ)) (files : FilesTold) (outside : OutsideCall) (status : ℕ) (text : List ℕ) → ComeTo words files outside (Faulty status text) → IsOwnStatus status
come_faulty words files outside status text (inl came) = came_faulty came.0 files outside status text came.2
come_faulty words files outside status text (inr (inl none)) = let no = none.1 in absurd (cc)
come_faulty words files outside status text (inr (inr memory)) = let no = memory.0 in absurd (cc)

come_usage : (words : List (List ℕ)) (files : FilesTold) (outside : OutsideCall) → ComeTo words files outside Usage → IsNoCommand words
come_usage words files outside (inl came) = absurd (came_usage came.0 files outside came.2)
come_usage words files outside (inr (inl none)) = none.0
come_usage words files outside (inr (inr memory)) = let no = memory.0 in absurd (cc)

come_file : (words : List (List ℕ)) (files : FilesTold) (outside : OutsideCall) (name : List ℕ) → ComeTo words files outside (FileFailed name)
    → (command : Command) × Asks words command × IsFileOf command name × Rose (files.faults_before name) (files.faults_after name)
come_file words files outside name (inl came) = let file = came_file came.0 files outside name came.2 in (came.0, came.1, file.0, file.1)
come_file words files outside name (inr (inl none)) = let no = none.1 in absurd (cc)
come_file words files outside name (inr (inr memory)) = let no = memory.0 in absurd (cc)

come_none : (words : List (List ℕ)) (files : FilesTold) (outside : OutsideCall) (outcome : Outcome) → IsNoCommand words → ComeTo words files outside outcome → (outcome ≡ Usage) ⊎ (outcome ≡ Memory)
come_none words files outside outcome none (inl came) = absurd (none came.0 came.1)
come_none words files outside outcome none (inr (inl usage)) = inl usage.1
come_none words files outside outcome none (inr (inr memory)) = inr memory.0

come_done : (words : List (List ℕ)) (files : FilesTold) (outside : OutsideCall) (output : Vec ℕ Global) → ComeTo words files outside (Done output) → IsCommandOf words files outside (Done output)
come_done words files outside output (inl came) = came
come_done words files outside output (inr (inl none)) = let no = none.1 in absurd (cc)
come_done words files outside output (inr (inr memory)) = let no = memory.0 in absurd (cc)

come_refused : (words : List (List ℕ)) (files : FilesTold) (outside : OutsideCall) (text : List ℕ) → ComeTo words files outside (Refused text) → IsCommandOf words files outside (Refused text)
come_refused words files outside text (inl came) = came
come_refused words files outside text (inr (inl none)) = let no = none.1 in absurd (cc)
come_refused words files outside text (inr (inr memory)) = let no = memory.0 in absurd (cc)

come_fault : (words : List (List ℕ)) (files : FilesTold) (outside : OutsideCall) (status : ℕ) (text : List ℕ) → ComeTo words files outside (Faulty status text) → IsCommandOf words files outside (Faulty status text)
come_fault words files outside status text (inl came) = came
come_fault words files outside status text (inr (inl none)) = let no = none.1 in absurd (cc)
come_fault words files outside status text (inr (inr memory)) = let no = memory.0 in absurd (cc)

come_served : (words : List (List ℕ)) (files : FilesTold) (outside : OutsideCall) (lines : Vec ℕ Global) (failed : Bool) → ComeTo words files outside (Served lines failed) → IsCommandOf words files outside (Served lines failed)
come_served words files outside lines failed (inl came) = came
come_served words files outside lines failed (inr (inl none)) = let no = none.1 in absurd (cc)
come_served words files outside lines failed (inr (inr memory)) = let no = memory.0 in absurd (cc)

come_audited : (words : List (List ℕ)) (files : FilesTold) (outside : OutsideCall) (lines : Vec ℕ Global) (passed : Bool) → ComeTo words files outside (Audited lines passed) → IsCommandOf words files outside (Audited lines passed)
come_audited words files outside lines passed (inl came) = came
come_audited words files outside lines passed (inr (inl none)) = let no = none.1 in absurd (cc)
come_audited words files outside lines passed (inr (inr memory)) = let no = memory.0 in absurd (cc)

come_unstarted : (words : List (List ℕ)) (files : FilesTold) (outside : OutsideCall) → ComeTo words files outside NotStarted → IsCommandOf words files outside NotStarted
come_unstarted words files outside (inl came) = came
come_unstarted words files outside (inr (inl none)) = let no = none.1 in absurd (cc)
come_unstarted words files outside (inr (inr memory)) = let no = memory.0 in absurd (cc)

-- the status of an outcome
abbrev Ended : ℕ → ℕ → Type 0
Ended status result = (result ≡ status) ⊎ (result ≡ STREAM_FAILED)

writes_ended : {A B : Type 0} (status result : ℕ) → ((result ≡ status) × A) ⊎ ((result ≡ STREAM_FAILED) × B) → Ended status result
writes_ended status result (inl whole) = inl whole.0
writes_ended status result (inr failed) = inr failed.0

-- it failed, and its own status is another
writes_failed : {A B : Type 0} (status : ℕ) → (status ≡ STREAM_FAILED → ⊥) → ((STREAM_FAILED ≡ status) × A) ⊎ ((STREAM_FAILED ≡ STREAM_FAILED) × B) → B
writes_failed status other (inl whole) = absurd (other (sym whole.0))
writes_failed status other (inr failed) = failed.1

no_stream : (status : ℕ) → IsOwnStatus status → status ≡ STREAM_FAILED → ⊥
no_stream status (inl broken) same = omega (arith, broken, same)
no_stream status (inr (inl none)) same = omega (arith, none, same)
no_stream status (inr (inr disk)) same = omega (arith, disk, same)

own_most : (status result : ℕ) → IsOwnStatus status → Ended status result → result ≤ DISK_FAILED
own_most status result (inl broken) (inl same) = omega (arith, broken, same)
own_most status result (inr (inl none)) (inl same) = omega (arith, none, same)
own_most status result (inr (inr disk)) (inl same) = omega (arith, disk, same)
own_most status result reply (inr stream) = omega (arith, stream)

ended_most : (status result : ℕ) → status ≤ DISK_FAILED → Ended status result → result ≤ DISK_FAILED
ended_most status result within (inl same) = omega (arith, within, same)
ended_most status result within (inr stream) = omega (arith, stream)

-- closing lines end with one of three statuses
served_ended : (lines : List ℕ) (failed : Bool) (result : ℕ) (out err : StreamTold) → EndsServed lines failed result out err → (result ≡ DONE) ⊎ (result ≡ DOOR_FAILED) ⊎ (result ≡ STREAM_FAILED)
served_ended lines false result out err (inl whole, kept) = inl whole.0
served_ended lines false result out err (inr failed, kept) = inr (inr failed.0)
served_ended lines true result out err (inl (gains, inl whole)) = inr (inl whole.0)
served_ended lines true result out err (inl (gains, inr failed)) = inr (inr failed.0)
served_ended lines true result out err (inr failed) = inr (inr failed.0)

served_other : (result : ℕ) → (result ≡ DONE → ⊥) → (result ≡ DOOR_FAILED → ⊥) → (result ≡ STREAM_FAILED → ⊥) → (result ≡ DONE) ⊎ (result ≡ DOOR_FAILED) ⊎ (result ≡ STREAM_FAILED) → ⊥
served_other result done door stream (inl same) = done same
served_other result done door stream (inr (inl same)) = door same
served_other result done door stream (inr (inr same)) = stream same

served_most : (result : ℕ) → (result ≡ DONE) ⊎ (result ≡ DOOR_FAILED) ⊎ (result ≡ STREAM_FAILED) → result ≤ DISK_FAILED
served_most result (inl same) = omega (arith, same)
served_most result (inr (inl same)) = omega (arith, same)
served_most result (inr (inr same)) = omega (arith, same)

pub known : (words : List (List ℕ)) (files : FilesTold) (outside : OutsideCall) (status : ℕ) (out err : StreamTold) (outcome : Outcome) → ComeTo words files outside outcome → Ends outcome status out err → status ≤ DISK_FAILED
known words files outside status out err (Done output) come ends = ended_most DONE status (omega (arith)) (writes_ended DONE status ends.0)
known words files outside status out err (Audited lines true) come ends = ended_most DONE status (omega (arith)) (writes_ended DONE status ends.0)
known words files outside status out err (Audited lines false) come ends = ended_most REFUSED status (omega (arith)) (writes_ended REFUSED status ends.0)
known words files outside status out err (Refused text) come ends = ended_most REFUSED status (omega (arith)) (writes_ended REFUSED status ends.1)
known words files outside status out err (FileFailed name) come ends = omega (arith, ends.1.0)
known words files outside status out err (Faulty number text) come ends = own_most number status (come_faulty words files outside number text come) (writes_ended number status ends.1)
known words files outside status out err (Served lines failed) come ends = served_most status (served_ended lines.items failed status out err ends)
known words files outside status out err NotStarted come ends = ended_most DOOR_FAILED status (omega (arith)) (writes_ended DOOR_FAILED status ends.1)
known words files outside status out err Usage come ends = omega (arith, ends.1.0)
known words files outside status out err Memory come ends = omega (arith, ends.0)

-- a status that no command's text ends with
no_end : (status result : ℕ) → (result ≡ status → ⊥) → (result ≡ STREAM_FAILED → ⊥) → Ended status result → ⊥
no_end status result here there (inl same) = here same
no_end status result here there (inr stream) = there stream

own_other : (status result : ℕ) → result ≤ NO_MEMORY → IsOwnStatus status → result ≡ status → ⊥
own_other status result within (inl broken) same = omega (arith, within, broken, same)
own_other status result within (inr (inl none)) same = omega (arith, within, none, same)
own_other status result within (inr (inr disk)) same = omega (arith, within, disk, same)

pub usage : (words : List (List ℕ)) (files : FilesTold) (outside : OutsideCall) (out err : StreamTold) (outcome : Outcome) → ComeTo words files outside outcome → Ends outcome USAGE out err → IsNoCommand words × IsKept out
usage words files outside out err (Done output) come ends = absurd (no_end DONE USAGE (λ same. omega (arith, same)) (λ same. omega (arith, same)) (writes_ended DONE USAGE ends.0))
usage words files outside out err (Audited lines true) come ends = absurd (no_end DONE USAGE (λ same. omega (arith, same)) (λ same. omega (arith, same)) (writes_ended DONE USAGE ends.0))
usage words files outside out err (Audited lines false) come ends = absurd (no_end REFUSED USAGE (λ same. omega (arith, same)) (λ same. omega (arith, same)) (writes_ended REFUSED USAGE ends.0))
usage words files outside out err (Refused text) come ends = absurd (no_end REFUSED USAGE (λ same. omega (arith, same)) (λ same. omega (arith, same)) (writes_ended REFUSED USAGE ends.1))
usage words files outside out err (FileFailed name) come ends = absurd (omega (arith, ends.1.0))
usage words files outside out err (Faulty number text) come ends =
    absurd (no_end number USAGE (own_other number USAGE (omega (arith)) (come_faulty words files outside number text come)) (λ same. omega (arith, same)) (writes_ended number USAGE ends.1))
usage words files outside out err (Served lines failed) come ends = absurd (served_other USAGE (λ same. omega (arith, same)) (λ same. omega (arith, same)) (λ same. omega (arith, same)) (served_ended lines.items failed USAGE out err ends))
usage words files outside out err NotStarted come ends = absurd (no_end DOOR_FAILED USAGE (λ same. omega (arith, same)) (λ same. omega (arith, same)) (writes_ended DOOR_FAILED USAGE ends.1))
usage words files outside out err Usage come ends = (come_usage words files outside come, ends.0)
usage words files outside out err Memory come ends = absurd (omega (arith, ends.0))

pub file_failed : (words : List (List ℕ)) (files : FilesTold) (outside : OutsideCall) (out err : StreamTold) (outcome : Outcome) → ComeTo words files outside outcome → Ends outcome FILE_FAILED out err → NamesFile words files out err
file_failed words files outside out err (Done output) come ends = absurd (no_end DONE FILE_FAILED (λ same. omega (arith, same)) (λ same. omega (arith, same)) (writes_ended DONE FILE_FAILED ends.0))
file_failed words files outside out err (Audited lines true) come ends = absurd (no_end DONE FILE_FAILED (λ same. omega (arith, same)) (λ same. omega (arith, same)) (writes_ended DONE FILE_FAILED ends.0))
file_failed words files outside out err (Audited lines false) come ends = absurd (no_end REFUSED FILE_FAILED (λ same. omega (arith, same)) (λ same. omega (arith, same)) (writes_ended REFUSED FILE_FAILED ends.0))
file_failed words files outside out err (Refused text) come ends = absurd (no_end REFUSED FILE_FAILED (λ same. omega (arith, same)) (λ same. omega (arith, same)) (writes_ended REFUSED FILE_FAILED ends.1))
file_failed words files outside out err (FileFailed name) come ends = let found = come_file words files outside name come in record {
  command = found.0;
  asks = found.1;
  name = name;
  of_command = found.2;
  unread = found.3;
  silent = ends.0;
  told = ends.1.1;
}
file_failed words files outside out err (Faulty number text) come ends =
    absurd (no_end number FILE_FAILED (own_other number FILE_FAILED (omega (arith)) (come_faulty words files outside number text come)) (λ same. omega (arith, same)) (writes_ended number FILE_FAILED ends.1))
file_failed words files outside out err (Served lines failed) come ends = absurd (served_other FILE_FAILED (λ same. omega (arith, same)) (λ same. omega (arith, same)) (λ same. omega (arith, same)) (served_ended lines.items failed FILE_FAILED out err ends))
file_failed words files outside out err NotStarted come ends = absurd (no_end DOOR_FAILED FILE_FAILED (λ same. omega (arith, same)) (λ same. omega (arith, same)) (writes_ended DOOR_FAILED FILE_FAILED ends.1))
file_failed words files outside out err Usage come ends = absurd (omega (arith, ends.1.0))
file_failed words files outside out err Memory come ends = absurd (omega (arith, ends.0))

served_stream : (words : List (List ℕ)) (files : FilesTold) (outside : OutsideCall) (lines : Vec ℕ Global) (failed : Bool) (out err : StreamTold) → ComeTo words files outside (Served lines failed)
    → EndsServed lines.items failed STREAM_FAILED out err → OneFailed words files outside out err
served_stream words files outside lines false out err come ends = inl ((writes_failed DONE (λ same. omega (arith, same)) ends.0).0, ends.1)
served_stream words files outside lines true out err come (inl (gains, writes)) = inr (inr (lines, come_served words files outside lines true come, gains, (writes_failed DOOR_FAILED (λ same. omega (arith, same)) writes).0))
served_stream words files outside lines true out err come (inr failed) = inl (failed.1.0, failed.2)

pub stream_failed : (words : List (List ℕ)) (files : FilesTold) (outside : OutsideCall) (out err : StreamTold) (outcome : Outcome) → ComeTo words files outside outcome → Ends outcome STREAM_FAILED out err → OneFailed words files outside out err
stream_failed words files outside out err (Done output) come ends = inl ((writes_failed DONE (λ same. omega (arith, same)) ends.0).0, ends.1)
stream_failed words files outside out err (Audited lines true) come ends = inl ((writes_failed DONE (λ same. omega (arith, same)) ends.0).0, ends.1)
stream_failed words files outside out err (Audited lines false) come ends = inl ((writes_failed REFUSED (λ same. omega (arith, same)) ends.0).0, ends.1)
stream_failed words files outside out err (Refused text) come ends = inr (inl (ends.0, (writes_failed REFUSED (λ same. omega (arith, same)) ends.1).0))
stream_failed words files outside out err (FileFailed name) come ends = absurd (omega (arith, ends.1.0))
stream_failed words files outside out err (Faulty number text) come ends = inr (inl (ends.0, (writes_failed number (no_stream number (come_faulty words files outside number text come)) ends.1).0))
stream_failed words files outside out err (Served lines failed) come ends = served_stream words files outside lines failed out err come ends
stream_failed words files outside out err NotStarted come ends = inr (inl (ends.0, (writes_failed DOOR_FAILED (λ same. omega (arith, same)) ends.1).0))
stream_failed words files outside out err Usage come ends = absurd (omega (arith, ends.1.0))
stream_failed words files outside out err Memory come ends = absurd (omega (arith, ends.0))

writes_whole : {A B : Type 0} (status result : ℕ) → (result ≡ STREAM_FAILED → ⊥) → ((result ≡ status) × A) ⊎ ((result ≡ STREAM_FAILED) × B) → A
writes_whole status result other (inl whole) = whole.1
writes_whole status result other (inr failed) = absurd (other failed.0)

door_other : (status : ℕ) {A B : Type 0} → (status ≡ DOOR_FAILED → ⊥) → (status ≡ STREAM_FAILED → ⊥) → ((status ≡ DOOR_FAILED) × A) ⊎ ((status ≡ STREAM_FAILED) × B) → ⊥
door_other status door stream (inl whole) = door whole.0
door_other status door stream (inr failed) = stream failed.0

served_whole : (words : List (List ℕ)) (files : FilesTold) (outside : OutsideCall) (lines : Vec ℕ Global) (failed : Bool) (out err : StreamTold) → ComeTo words files outside (Served lines failed)
    → EndsServed lines.items failed DONE out err → PrintsOutput words files outside out err
served_whole words files outside lines false out err come ends = (lines, inr (inl (come_served words files outside lines false come)), writes_whole DONE DONE (λ same. omega (arith, same)) ends.0, ends.1)
served_whole words files outside lines true out err come (inl (gains, writes)) = absurd (door_other DONE (λ same. omega (arith, same)) (λ same. omega (arith, same)) writes)
served_whole words files outside lines true out err come (inr failed) = let no = failed.0 in absurd (omega (arith, no))

pub done : (words : List (List ℕ)) (files : FilesTold) (outside : OutsideCall) (out err : StreamTold) (outcome : Outcome) → ComeTo words files outside outcome → Ends outcome DONE out err → PrintsOutput words files outside out err
done words files outside out err (Done output) come ends = (output, inl (come_done words files outside output come), writes_whole DONE DONE (λ same. omega (arith, same)) ends.0, ends.1)
done words files outside out err (Refused text) come ends = absurd (no_end REFUSED DONE (λ same. omega (arith, same)) (λ same. omega (arith, same)) (writes_ended REFUSED DONE ends.1))
done words files outside out err (FileFailed name) come ends = absurd (omega (arith, ends.1.0))
done words files outside out err (Faulty number text) come ends =
    absurd (no_end number DONE (own_other number DONE (omega (arith)) (come_faulty words files outside number text come)) (λ same. omega (arith, same)) (writes_ended number DONE ends.1))
done words files outside out err (Audited lines true) come ends = (lines, inr (inr (come_audited words files outside lines true come)), writes_whole DONE DONE (λ same. omega (arith, same)) ends.0, ends.1)
done words files outside out err (Audited lines false) come ends = absurd (no_end REFUSED DONE (λ same. omega (arith, same)) (λ same. omega (arith, same)) (writes_ended REFUSED DONE ends.0))
done words files outside out err (Served lines failed) come ends = served_whole words files outside lines failed out err come ends
done words files outside out err NotStarted come ends = absurd (no_end DOOR_FAILED DONE (λ same. omega (arith, same)) (λ same. omega (arith, same)) (writes_ended DOOR_FAILED DONE ends.1))
done words files outside out err Usage come ends = absurd (omega (arith, ends.1.0))
done words files outside out err Memory come ends = absurd (omega (arith, ends.0))

pub refused : (words : List (List ℕ)) (files : FilesTold) (outside : OutsideCall) (out err : StreamTold) (outcome : Outcome) → ComeTo words files outside outcome → Ends outcome REFUSED out err → PrintsRefusal words files outside out err
refused words files outside out err (Done output) come ends = absurd (no_end DONE REFUSED (λ same. omega (arith, same)) (λ same. omega (arith, same)) (writes_ended DONE REFUSED ends.0))
refused words files outside out err (Refused text) come ends = inl (text, come_refused words files outside text come, ends.0, writes_whole REFUSED REFUSED (λ same. omega (arith, same)) ends.1)
refused words files outside out err (FileFailed name) come ends = absurd (omega (arith, ends.1.0))
refused words files outside out err (Faulty number text) come ends =
    absurd (no_end number REFUSED (own_other number REFUSED (omega (arith)) (come_faulty words files outside number text come)) (λ same. omega (arith, same)) (writes_ended number REFUSED ends.1))
refused words files outside out err (Audited lines true) come ends = absurd (no_end DONE REFUSED (λ same. omega (arith, same)) (λ same. omega (arith, same)) (writes_ended DONE REFUSED ends.0))
refused words files outside out err (Audited lines false) come ends = inr (lines, come_audited words files outside lines false come, writes_whole REFUSED REFUSED (λ same. omega (arith, same)) ends.0, ends.1)
refused words files outside out err (Served lines failed) come ends = absurd (served_other REFUSED (λ same. omega (arith, same)) (λ same. omega (arith, same)) (λ same. omega (arith, same)) (served_ended lines.items failed REFUSED out err ends))
refused words files outside out err NotStarted come ends = absurd (no_end DOOR_FAILED REFUSED (λ same. omega (arith, same)) (λ same. omega (arith, same)) (writes_ended DOOR_FAILED REFUSED ends.1))
refused words files outside out err Usage come ends = absurd (omega (arith, ends.1.0))
refused words files outside out err Memory come ends = absurd (omega (arith, ends.0))

pub no_memory : (words : List (List ℕ)) (files : FilesTold) (outside : OutsideCall) (out err : StreamTold) (outcome : Outcome) → ComeTo words files outside outcome → Ends outcome NO_MEMORY out err → IsSilent out err
no_memory words files outside out err (Done output) come ends = absurd (no_end DONE NO_MEMORY (λ same. omega (arith, same)) (λ same. omega (arith, same)) (writes_ended DONE NO_MEMORY ends.0))
no_memory words files outside out err (Audited lines true) come ends = absurd (no_end DONE NO_MEMORY (λ same. omega (arith, same)) (λ same. omega (arith, same)) (writes_ended DONE NO_MEMORY ends.0))
no_memory words files outside out err (Audited lines false) come ends = absurd (no_end REFUSED NO_MEMORY (λ same. omega (arith, same)) (λ same. omega (arith, same)) (writes_ended REFUSED NO_MEMORY ends.0))
no_memory words files outside out err (Refused text) come ends = absurd (no_end REFUSED NO_MEMORY (λ same. omega (arith, same)) (λ same. omega (arith, same)) (writes_ended REFUSED NO_MEMORY ends.1))
no_memory words files outside out err (FileFailed name) come ends = absurd (omega (arith, ends.1.0))
no_memory words files outside out err (Faulty number text) come ends =
    absurd (no_end number NO_MEMORY (own_other number NO_MEMORY (omega (arith)) (come_faulty words files outside number text come)) (λ same. omega (arith, same)) (writes_ended number NO_MEMORY ends.1))
no_memory words files outside out err (Served lines failed) come ends = absurd (served_other NO_MEMORY (λ same. omega (arith, same)) (λ same. omega (arith, same)) (λ same. omega (arith, same)) (served_ended lines.items failed NO_MEMORY out err ends))
no_memory words files outside out err NotStarted come ends = absurd (no_end DOOR_FAILED NO_MEMORY (λ same. omega (arith, same)) (λ same. omega (arith, same)) (writes_ended DOOR_FAILED NO_MEMORY ends.1))
no_memory words files outside out err Usage come ends = absurd (omega (arith, ends.1.0))
no_memory words files outside out err Memory come ends = (ends.1, ends.2)

-- a status of its own is the outcome's
fault_whole : (words : List (List ℕ)) (files : FilesTold) (outside : OutsideCall) (status number : ℕ) (text : List ℕ) (out err : StreamTold) → SIZE_BROKEN ≤ status → ComeTo words files outside (Faulty number text) → IsKept out
    → Writes (line text) number status err → PrintsFault words status files outside out err
fault_whole words files outside status number text out err large come kept (inl whole) =
    (text, subst (λ n. IsCommandOf words files outside (Faulty n text)) (sym whole.0) (come_fault words files outside number text come), kept, whole.1)
fault_whole words files outside status number text out err large come kept (inr failed) = let same = failed.0 in absurd (omega (arith, large, same))

large_other : (status number : ℕ) → SIZE_BROKEN ≤ status → number ≤ NO_MEMORY → Ended number status → ⊥
large_other status number large small (inl same) = omega (arith, large, small, same)
large_other status number large small (inr same) = omega (arith, large, same)

pub faulty : (words : List (List ℕ)) (files : FilesTold) (outside : OutsideCall) (status : ℕ) (out err : StreamTold) (outcome : Outcome) → SIZE_BROKEN ≤ status → (status ≡ DOOR_FAILED → ⊥) → ComeTo words files outside outcome → Ends outcome status out err
    → PrintsFault words status files outside out err
faulty words files outside status out err (Done output) large other come ends = absurd (large_other status DONE large (omega (arith)) (writes_ended DONE status ends.0))
faulty words files outside status out err (Audited lines true) large other come ends = absurd (large_other status DONE large (omega (arith)) (writes_ended DONE status ends.0))
faulty words files outside status out err (Audited lines false) large other come ends = absurd (large_other status REFUSED large (omega (arith)) (writes_ended REFUSED status ends.0))
faulty words files outside status out err (Refused text) large other come ends = absurd (large_other status REFUSED large (omega (arith)) (writes_ended REFUSED status ends.1))
faulty words files outside status out err (FileFailed name) large other come ends = absurd (omega (arith, large, ends.1.0))
faulty words files outside status out err (Faulty number text) large other come ends = fault_whole words files outside status number text out err large come ends.0 ends.1
faulty words files outside status out err (Served lines failed) large other come ends = absurd (served_other status (λ same. omega (arith, large, same)) other (λ same. omega (arith, large, same))
    (served_ended lines.items failed status out err ends))
faulty words files outside status out err NotStarted large other come ends = absurd (no_end DOOR_FAILED status other (λ same. omega (arith, large, same)) (writes_ended DOOR_FAILED status ends.1))
faulty words files outside status out err Usage large other come ends = absurd (omega (arith, large, ends.1.0))
faulty words files outside status out err Memory large other come ends = absurd (omega (arith, large, ends.0))

-- with the status of a disk
pub disk_failed : (words : List (List ℕ)) (files : FilesTold) (outside : OutsideCall) (out err : StreamTold) (outcome : Outcome) → ComeTo words files outside outcome → Ends outcome DISK_FAILED out err → PrintsFault words DISK_FAILED files outside out err
disk_failed words files outside out err outcome come ends = faulty words files outside DISK_FAILED out err outcome (omega (arith)) (λ same. omega (arith, same)) come ends

ends_none : (status : ℕ) (out err : StreamTold) (outcome : Outcome) → (outcome ≡ Usage) ⊎ (outcome ≡ Memory) → Ends outcome status out err → (status ≡ USAGE) ⊎ (status ≡ NO_MEMORY)
ends_none status out err outcome (inl usage) ends = inl (subst (λ o. Ends o status out err) usage ends).1.0
ends_none status out err outcome (inr memory) ends = inr (subst (λ o. Ends o status out err) memory ends).0

pub other_words : (words : List (List ℕ)) (files : FilesTold) (outside : OutsideCall) (status : ℕ) (out err : StreamTold) (outcome : Outcome) → IsNoCommand words → ComeTo words files outside outcome → Ends outcome status out err
    → (status ≡ USAGE) ⊎ (status ≡ NO_MEMORY)
other_words words files outside status out err outcome none come ends = ends_none status out err outcome (come_none words files outside outcome none come) ends

own_door : (status : ℕ) → IsOwnStatus status → DOOR_FAILED ≡ status → ⊥
own_door status (inl broken) same = omega (arith, broken, same)
own_door status (inr (inl none)) same = omega (arith, none, same)
own_door status (inr (inr disk)) same = omega (arith, disk, same)

served_door : (words : List (List ℕ)) (files : FilesTold) (outside : OutsideCall) (lines : Vec ℕ Global) (failed : Bool) (out err : StreamTold) → ComeTo words files outside (Served lines failed)
    → EndsServed lines.items failed DOOR_FAILED out err → TellsDoor words files outside out err
served_door words files outside lines false out err come ends = absurd (no_end DONE DOOR_FAILED (λ same. omega (arith, same)) (λ same. omega (arith, same)) (writes_ended DONE DOOR_FAILED ends.0))
served_door words files outside lines true out err come (inl (gains, writes)) = (writes_whole DOOR_FAILED DOOR_FAILED (λ same. omega (arith, same)) writes, inr (lines, come_served words files outside lines true come, gains))
served_door words files outside lines true out err come (inr failed) = let no = failed.0 in absurd (omega (arith, no))

-- with the status of doors
pub door_failed : (words : List (List ℕ)) (files : FilesTold) (outside : OutsideCall) (out err : StreamTold) (outcome : Outcome) → ComeTo words files outside outcome → Ends outcome DOOR_FAILED out err → TellsDoor words files outside out err
door_failed words files outside out err (Done output) come ends = absurd (no_end DONE DOOR_FAILED (λ same. omega (arith, same)) (λ same. omega (arith, same)) (writes_ended DONE DOOR_FAILED ends.0))
door_failed words files outside out err (Audited lines true) come ends = absurd (no_end DONE DOOR_FAILED (λ same. omega (arith, same)) (λ same. omega (arith, same)) (writes_ended DONE DOOR_FAILED ends.0))
door_failed words files outside out err (Audited lines false) come ends = absurd (no_end REFUSED DOOR_FAILED (λ same. omega (arith, same)) (λ same. omega (arith, same)) (writes_ended REFUSED DOOR_FAILED ends.0))
door_failed words files outside out err (Refused text) come ends = absurd (no_end REFUSED DOOR_FAILED (λ same. omega (arith, same)) (λ same. omega (arith, same)) (writes_ended REFUSED DOOR_FAILED ends.1))
door_failed words files outside out err (FileFailed name) come ends = absurd (omega (arith, ends.1.0))
door_failed words files outside out err (Faulty number text) come ends =
    absurd (no_end number DOOR_FAILED (own_door number (come_faulty words files outside number text come)) (λ same. omega (arith, same)) (writes_ended number DOOR_FAILED ends.1))
door_failed words files outside out err (Served lines failed) come ends = served_door words files outside lines failed out err come ends
door_failed words files outside out err NotStarted come ends = (writes_whole DOOR_FAILED DOOR_FAILED (λ same. omega (arith, same)) ends.1, inl (come_unstarted words files outside come, ends.0))
door_failed words files outside out err Usage come ends = absurd (omega (arith, ends.1.0))
door_failed words files outside out err Memory come ends = absurd (omega (arith, ends.0))
