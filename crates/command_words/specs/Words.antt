-- The commands, and the words that ask for them.
use Rattle.std.specs.Prelude.{◌≡◌, ◌≤◌, ◌<◌, ◌⊎◌, ◌↔◌, ⊤, ℕ, List, [], ◌∷◌, Option, None, Some, IsTrue, length, unwrap_or, codes}
use Rattle.std.specs.List.{list_all}
use Rattle.std.specs.Str.Parse.{IsNumeral, digits_value}
use Rattle.clap.specs.Walk.{Row, first_of, all_of}
use Rattle.clap.specs.Simple.{App, matches_of}
use Rattle.clap.specs.Faults.{fault_of}
use Rattle.command_words.specs.declared.command.Command.{Command}
use Rattle.command_words.specs.declared.command.Command.TheVariants.{Help, Version, Check, Price, Explain, ExplainSchema, Audit, Introspect, Worst, Forward, Meter, Replay, Serve, Exercise, Migrate}
use Rattle.command_words.specs.declared.command.Asked.{Asked}
use Rattle.cost_num.specs.Amount.{IsAmount}
use Rattle.cost_num.specs.declared.TheConstants.{CAP}
use Rattle.cost_num.specs.declared.Cost.{Cost}
use Rattle.http_front.specs.Passed.{may_be_passed}
use Rattle.command_words.specs.declared.command.AskedList.{AskedList}
use Rattle.command_words.specs.declared.command.AskedAudit.{AskedAudit}
use Rattle.command_words.specs.declared.command.AskedReplay.{AskedReplay}
use Rattle.command_words.specs.declared.command.AskedServe.{AskedServe}
use Rattle.response_model.specs.declared.part.Part.{Part}
use Rattle.response_model.specs.declared.part.Part.TheVariants.{Types, Fields}
use Rattle.command_words.specs.Defaults.{usual_size, greatest_size, greatest_exercise, usual_target, usual_workers, greatest_workers, greatest_connections, endless_connections, greatest_waiting, greatest_answer, least_work, greatest_work, greatest_passed}
use Rattle.command_words.specs.Apps.{check_app, price_app, explain_app, audit_app, introspect_app, worst_app, forward_app, meter_app, replay_app, serve_app, exercise_app, migrate_app}

-- The text is this number, in one decimal digit or more, and it is no greater than that.
abbrev pub IsNumber : ℕ → List ℕ → ℕ → Type 0
IsNumber most text n = IsNumeral 10 text × (n ≡ digits_value 10 text) × (n ≤ most)

-- the size of lists that declare none
abbrev pub IsUndeclared : Option (List ℕ) → ℕ → Type 0
IsUndeclared None n = n ≡ usual_size
IsUndeclared (Some text) n = IsNumber greatest_size text n

-- the number of an option, from the least to the greatest one; without the option it is the usual one
abbrev pub IsWithin : ℕ → ℕ → ℕ → Option (List ℕ) → ℕ → Type 0
IsWithin least greatest usual None n = n ≡ usual
IsWithin least greatest usual (Some text) n = IsNumber greatest text n × (least ≤ n)

-- How many workers serve. Over a journal one does, and no number is given.
abbrev pub IsWorkers : Option (List ℕ) → Option (List ℕ) → ℕ → Type 0
IsWorkers None given n = IsWithin 1 greatest_workers usual_workers given n
IsWorkers (Some journal) given n = (given ≡ None) × (n ≡ 1)

-- The flag stands.
abbrev pub Stands : Option (List ℕ) → Type 0
Stands flag = flag ≡ Some (codes "true")

-- the number of an option, from the least to the greatest one; none without the option
abbrev pub IsMaybe : ℕ → ℕ → Option (List ℕ) → Option ℕ → Type 0
IsMaybe least greatest None number = number ≡ None
IsMaybe least greatest (Some text) None = ⊥
IsMaybe least greatest (Some text) (Some n) = IsNumber greatest text n × (least ≤ n)

-- how many steps an operation may take, where that is said
abbrev pub IsMostWork : Option (List ℕ) → Option ℕ → Type 0
IsMostWork given number = IsMaybe least_work greatest_work given number

-- the target of requests to the upstream
abbrev pub IsTarget : Option (List ℕ) → List ℕ → Type 0
IsTarget None target = target ≡ usual_target
IsTarget (Some text) target = target ≡ text

-- the number of requests of an exercise
abbrev pub IsRequests : Option (List ℕ) → ℕ → Type 0
IsRequests None n = ⊥
IsRequests (Some text) n = IsNumber greatest_exercise text n × (0 < n)

-- the words at places and of options, by their names
abbrev pub Rows : Type 0
Rows = List Row

-- how many connections each worker serves; without an end no number is given
abbrev pub IsConnections : Rows → ℕ → Type 0
IsConnections rows n =
    (Stands (first_of (codes "endless") rows) × (first_of (codes "connections") rows ≡ None) × (n ≡ endless_connections))
    ⊎ ((Stands (first_of (codes "endless") rows) → ⊥) × IsWithin 1 greatest_connections greatest_connections (first_of (codes "connections") rows) n)

-- the list of trusted documents that is named; that only its documents may be asked is said beside its name alone
abbrev pub IsList : Rows → Option AskedList → Type 0
IsList rows None = (first_of (codes "trusted") rows ≡ None) × (Stands (first_of (codes "trusted-only") rows) → ⊥)
IsList rows (Some list) = (first_of (codes "trusted") rows ≡ Some list.file) × (IsTrue list.only ↔ Stands (first_of (codes "trusted-only") rows))

-- the names of the fields that are passed on are these words, in their order: not too many, and each of fields that may be passed on
pub record ArePassed (words names : List (List ℕ)) : Type 0 where
  pub given : names ≡ words
  pub few : length names ≤ greatest_passed
  pub may_be : IsTrue (list_all may_be_passed names)

-- They give the files of this operation, and how it is asked for.
pub record GivesOperation (rows : Rows) (asked : Asked) : Type 0 where
  pub schema : first_of (codes "schema") rows ≡ Some asked.schema
  pub document : first_of (codes "document") rows ≡ Some asked.document
  pub variables : first_of (codes "variables") rows ≡ asked.variables
  pub operation : first_of (codes "operation") rows ≡ asked.operation
  pub most_work : IsMostWork (first_of (codes "most-work") rows) asked.most_work

-- They give this operation.
pub record GivesAsked (rows : Rows) (asked : Asked) : Type 0 where
  pub schema : first_of (codes "schema") rows ≡ Some asked.schema
  pub document : first_of (codes "document") rows ≡ Some asked.document
  pub variables : first_of (codes "variables") rows ≡ asked.variables
  pub operation : first_of (codes "operation") rows ≡ asked.operation
  pub undeclared : IsUndeclared (first_of (codes "unsized") rows) asked.undeclared
  pub most_work : IsMostWork (first_of (codes "most-work") rows) asked.most_work

-- what an operation may cost at most in each part, where that is said: two amounts, as the allowance of a client has them
abbrev pub IsMost : Option (List (List ℕ)) → Option Cost → Type 0
IsMost None None = ⊤
IsMost (Some (types ∷ fields ∷ [])) (Some most) = IsAmount CAP types most.types × IsAmount CAP fields most.fields
IsMost given most = ⊥

-- They give this audit.
pub record GivesAskedAudit (rows : Rows) (asked : AskedAudit) : Type 0 where
  pub schema : first_of (codes "schema") rows ≡ Some asked.schema
  pub documents : all_of (codes "documents") rows ≡ Some asked.documents.items
  pub is_most : IsMost (all_of (codes "most") rows) asked.most
  pub undeclared : IsUndeclared (first_of (codes "unsized") rows) asked.undeclared
  pub most_work : IsMostWork (first_of (codes "most-work") rows) asked.most_work

-- They give this schema alone, and no operation.
pub record GivesSchemaAlone (rows : Rows) (schema : List ℕ) (undeclared : ℕ) : Type 0 where
  pub is_schema : first_of (codes "schema") rows ≡ Some schema
  pub no_document : first_of (codes "document") rows ≡ None
  pub no_variables : first_of (codes "variables") rows ≡ None
  pub no_operation : first_of (codes "operation") rows ≡ None
  pub no_most_work : first_of (codes "most-work") rows ≡ None
  pub is_undeclared : IsUndeclared (first_of (codes "unsized") rows) undeclared

-- They give this replay.
pub record GivesAskedReplay (rows : Rows) (asked : AskedReplay) : Type 0 where
  pub schema : first_of (codes "schema") rows ≡ Some asked.schema
  pub clients : first_of (codes "clients") rows ≡ Some asked.clients
  pub script : first_of (codes "script") rows ≡ Some asked.script
  pub is_list : IsList rows asked.list
  pub undeclared : IsUndeclared (first_of (codes "unsized") rows) asked.undeclared
  pub most_work : IsMostWork (first_of (codes "most-work") rows) asked.most_work

-- They give this serving of a gateway.
pub record GivesAskedServe (rows : Rows) (asked : AskedServe) : Type 0 where
  pub schema : first_of (codes "schema") rows ≡ Some asked.schema
  pub clients : first_of (codes "clients") rows ≡ Some asked.clients
  pub listen : first_of (codes "listen") rows ≡ Some asked.listen
  pub upstream : first_of (codes "upstream") rows ≡ Some asked.upstream
  pub target : IsTarget (first_of (codes "target") rows) asked.target
  pub journal : first_of (codes "journal") rows ≡ asked.journal
  pub workers : IsWorkers (first_of (codes "journal") rows) (first_of (codes "workers") rows) asked.workers
  pub connections : IsConnections rows asked.connections
  pub waiting : IsMaybe 1 greatest_waiting (first_of (codes "idle") rows) asked.waiting
  pub stop : first_of (codes "stop") rows ≡ asked.stop
  pub is_list : IsList rows asked.list
  pub are_passed : ArePassed (unwrap_or (all_of (codes "pass") rows) []) asked.passed.items
  pub hints : IsTrue asked.hints ↔ Stands (first_of (codes "hints") rows)
  pub most_answer : IsMaybe 1 greatest_answer (first_of (codes "most-answer") rows) asked.most_answer
  pub undeclared : IsUndeclared (first_of (codes "unsized") rows) asked.undeclared
  pub most_work : IsMostWork (first_of (codes "most-work") rows) asked.most_work

abbrev pub part_word : Part → List ℕ
part_word Types = codes "types"
part_word Fields = codes "fields"

-- They give this part of the cost.
abbrev pub GivesPart : Rows → Part → Type 0
GivesPart rows part = first_of (codes "part") rows ≡ Some (part_word part)

-- They give this file of a reply.
abbrev pub GivesReply : Rows → List ℕ → Type 0
GivesReply rows reply = first_of (codes "reply") rows ≡ Some reply

-- The words behind a command's name are faultless, and this holds of what they give.
abbrev pub Reads : App → (Rows → Type 0) → List (List ℕ) → Type 0
Reads app P words = (fault_of app words ≡ []) × P (matches_of app words)

-- ---- what the words behind the name of each command give, and when they ask for it

abbrev pub GivesCheck : Rows → Command → Type 0
GivesCheck rows (Check schema) = first_of (codes "schema") rows ≡ Some schema
GivesCheck rows other = ⊥

abbrev pub GivesPrice : Rows → Command → Type 0
GivesPrice rows (Price asked) = GivesAsked rows asked
GivesPrice rows other = ⊥

abbrev pub GivesExplain : Rows → Command → Type 0
GivesExplain rows (Explain asked) = GivesAsked rows asked
GivesExplain rows (ExplainSchema schema undeclared) = GivesSchemaAlone rows schema undeclared
GivesExplain rows other = ⊥

abbrev pub GivesAudit : Rows → Command → Type 0
GivesAudit rows (Audit asked) = GivesAskedAudit rows asked
GivesAudit rows other = ⊥

-- They give this operation, and no size of lists that declare none.
abbrev pub GivesIntrospect : Rows → Command → Type 0
GivesIntrospect rows (Introspect asked) = GivesOperation rows asked × (asked.undeclared ≡ usual_size)
GivesIntrospect rows other = ⊥

abbrev pub GivesWorst : Rows → Command → Type 0
GivesWorst rows (Worst asked part) = GivesAsked rows asked × GivesPart rows part
GivesWorst rows other = ⊥

abbrev pub GivesForward : Rows → Command → Type 0
GivesForward rows (Forward asked) = GivesAsked rows asked
GivesForward rows other = ⊥

abbrev pub GivesMeter : Rows → Command → Type 0
GivesMeter rows (Meter asked reply) = GivesAsked rows asked × GivesReply rows reply
GivesMeter rows other = ⊥

abbrev pub GivesReplay : Rows → Command → Type 0
GivesReplay rows (Replay asked) = GivesAskedReplay rows asked
GivesReplay rows other = ⊥

abbrev pub GivesServe : Rows → Command → Type 0
GivesServe rows (Serve asked) = GivesAskedServe rows asked
GivesServe rows other = ⊥

abbrev pub GivesExercise : Rows → Command → Type 0
GivesExercise rows (Exercise requests) = IsRequests (first_of (codes "requests") rows) requests
GivesExercise rows other = ⊥

abbrev pub GivesMigrate : Rows → Command → Type 0
GivesMigrate rows (Migrate clients) = first_of (codes "clients") rows ≡ Some clients
GivesMigrate rows other = ⊥

abbrev pub AsksCheck : List (List ℕ) → Command → Type 0
AsksCheck words command = Reads check_app (λ rows. GivesCheck rows command) words

abbrev pub AsksPrice : List (List ℕ) → Command → Type 0
AsksPrice words command = Reads price_app (λ rows. GivesPrice rows command) words

abbrev pub AsksExplain : List (List ℕ) → Command → Type 0
AsksExplain words command = Reads explain_app (λ rows. GivesExplain rows command) words

abbrev pub AsksAudit : List (List ℕ) → Command → Type 0
AsksAudit words command = Reads audit_app (λ rows. GivesAudit rows command) words

abbrev pub AsksIntrospect : List (List ℕ) → Command → Type 0
AsksIntrospect words command = Reads introspect_app (λ rows. GivesIntrospect rows command) words

abbrev pub AsksWorst : List (List ℕ) → Command → Type 0
AsksWorst words command = Reads worst_app (λ rows. GivesWorst rows command) words

abbrev pub AsksForward : List (List ℕ) → Command → Type 0
AsksForward words command = Reads forward_app (λ rows. GivesForward rows command) words

abbrev pub AsksMeter : List (List ℕ) → Command → Type 0
AsksMeter words command = Reads meter_app (λ rows. GivesMeter rows command) words

abbrev pub AsksReplay : List (List ℕ) → Command → Type 0
AsksReplay words command = Reads replay_app (λ rows. GivesReplay rows command) words

abbrev pub AsksServe : List (List ℕ) → Command → Type 0
AsksServe words command = Reads serve_app (λ rows. GivesServe rows command) words

abbrev pub AsksExercise : List (List ℕ) → Command → Type 0
AsksExercise words command = Reads exercise_app (λ rows. GivesExercise rows command) words

abbrev pub AsksMigrate : List (List ℕ) → Command → Type 0
AsksMigrate words command = Reads migrate_app (λ rows. GivesMigrate rows command) words

-- The first word names the command, and those behind it ask for it.
abbrev pub AsksAfter : List ℕ → List (List ℕ) → Command → Type 0
AsksAfter name words Help = (name ≡ codes "--help") × (words ≡ [])
AsksAfter name words Version = (name ≡ codes "--version") × (words ≡ [])
AsksAfter name words (Check schema) = (name ≡ codes "check") × AsksCheck words (Check schema)
AsksAfter name words (Price asked) = (name ≡ codes "price") × AsksPrice words (Price asked)
AsksAfter name words (Explain asked) = (name ≡ codes "explain") × AsksExplain words (Explain asked)
AsksAfter name words (ExplainSchema schema undeclared) = (name ≡ codes "explain") × AsksExplain words (ExplainSchema schema undeclared)
AsksAfter name words (Audit asked) = (name ≡ codes "audit") × AsksAudit words (Audit asked)
AsksAfter name words (Introspect asked) = (name ≡ codes "introspect") × AsksIntrospect words (Introspect asked)
AsksAfter name words (Worst asked part) = (name ≡ codes "worst") × AsksWorst words (Worst asked part)
AsksAfter name words (Forward asked) = (name ≡ codes "forward") × AsksForward words (Forward asked)
AsksAfter name words (Meter asked reply) = (name ≡ codes "meter") × AsksMeter words (Meter asked reply)
AsksAfter name words (Replay asked) = (name ≡ codes "replay") × AsksReplay words (Replay asked)
AsksAfter name words (Serve asked) = (name ≡ codes "serve") × AsksServe words (Serve asked)
AsksAfter name words (Exercise requests) = (name ≡ codes "exercise") × AsksExercise words (Exercise requests)
AsksAfter name words (Migrate clients) = (name ≡ codes "migrate") × AsksMigrate words (Migrate clients)

-- The words ask for the command.
abbrev pub Asks : List (List ℕ) → Command → Type 0
Asks [] command = ⊥
Asks (name ∷ words) command = AsksAfter name words command

-- over a journal one worker serves
abbrev pub ServesAlone : Option (List ℕ) → ℕ → Type 0
ServesAlone None workers = ⊤
ServesAlone (Some journal) workers = workers ≡ 1

-- A gateway that is to be served has 1 worker or more, one over a journal, with 1 connection or more each, within their limits.
abbrev pub ServesWithinLimits : Command → Type 0
ServesWithinLimits (Serve asked) = (0 < asked.workers) × (asked.workers ≤ greatest_workers) × (0 < asked.connections) × (asked.connections ≤ endless_connections)
    × ServesAlone asked.journal asked.workers
ServesWithinLimits other = ⊤

-- They ask for no command.
abbrev pub IsNoCommand : List (List ℕ) → Type 0
IsNoCommand words = (command : Command) → Asks words command → ⊥
