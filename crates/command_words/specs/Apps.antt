-- The words behind a command's name, as a simple command of clap each.
use Rattle.std.specs.Prelude.{Some, true, codes}
use Rattle.clap.specs.Lexer.{usize_max}
use Rattle.clap.specs.Walk.{Rule, Text}
use Rattle.clap.specs.Simple.{App, new_app, new_rule, with_rule, on_top}
use Rattle.clap.specs.declared.builder.action.ArgAction.TheVariants.{Set, Append, SetTrue}

-- a word that must stand
abbrev pub place : Text → Rule
place id = record (new_rule id) { action = Some Set; required = true }

-- `--` and this, with a value
abbrev pub option : Text → Rule
option id = record (new_rule id) { long = Some id; action = Some Set }

-- the same, and it must stand
abbrev pub required_option : Text → Rule
required_option id = record (option id) { required = true }

-- `--` and this, without a value
abbrev pub flag : Text → Rule
flag id = record (new_rule id) { long = Some id; action = Some SetTrue }

-- `--` and this, with a value; it may stand several times
abbrev pub repeated_option : Text → Rule
repeated_option id = record (option id) { action = Some Append }

-- a word that may stand
abbrev pub maybe_place : Text → Rule
maybe_place id = record (new_rule id) { action = Some Set }

-- words that must stand, one or more, also on both sides of an option
abbrev pub places : Text → Rule
places id = record (place id) { range = Some (record { start_inclusive = 1; end_inclusive = usize_max }); action = Some Append }

-- `--` and this, with two values
abbrev pub pair_option : Text → Rule
pair_option id = record (option id) { range = Some (record { start_inclusive = 2; end_inclusive = 2 }) }

-- a command without words so far; no flag asks for help
abbrev pub top : Text → App
top name = on_top (λ s. record s { no_binary_name = true; disable_help_flag = true }) (new_app name)

-- the files of an operation
abbrev pub with_files : App → App
with_files app = with_rule (with_rule app (place (codes "schema"))) (place (codes "document"))

-- how many steps an operation may take
abbrev pub with_work : App → App
with_work app = with_rule app (option (codes "most-work"))

-- and how it is asked for
abbrev pub with_options : App → App
with_options app = with_work (with_rule (with_rule (with_rule app (option (codes "variables"))) (option (codes "operation"))) (option (codes "unsized")))

-- the files of a gateway, and the addresses on both sides of it
abbrev pub with_gateway : App → App
with_gateway app = with_rule (with_rule (with_rule (with_rule app (place (codes "schema"))) (place (codes "clients"))) (required_option (codes "listen"))) (required_option (codes "upstream"))

-- and how it is served
abbrev pub with_serving : App → App
with_serving app = with_rule (with_rule (with_rule (with_rule app (option (codes "target"))) (option (codes "workers"))) (option (codes "connections"))) (option (codes "unsized"))

-- and how it is served for weeks
abbrev pub with_lasting : App → App
with_lasting app = with_rule (with_rule (with_rule (with_rule app (flag (codes "endless"))) (option (codes "idle"))) (option (codes "stop"))) (option (codes "journal"))

-- the list of trusted documents, and whether only its documents may be asked
abbrev pub with_list : App → App
with_list app = with_rule (with_rule app (option (codes "trusted"))) (flag (codes "trusted-only"))

-- what is told to the upstream of a client's request, and to the client of its account and of the schema
abbrev pub with_telling : App → App
with_telling app = with_rule (with_rule (with_rule app (repeated_option (codes "pass"))) (flag (codes "hints"))) (option (codes "most-answer"))

-- `check SCHEMA`
abbrev pub check_app : App
check_app = with_rule (top (codes "check")) (place (codes "schema"))

-- `price SCHEMA DOCUMENT`
abbrev pub price_app : App
price_app = with_options (with_files (top (codes "price")))

-- `explain SCHEMA`, and perhaps DOCUMENT
abbrev pub explain_app : App
explain_app = with_options (with_rule (with_rule (top (codes "explain")) (place (codes "schema"))) (maybe_place (codes "document")))

-- the schema's file and the documents', and what an operation may cost
abbrev pub with_audited : App → App
with_audited app = with_rule (with_rule (with_rule app (place (codes "schema"))) (places (codes "documents"))) (pair_option (codes "most"))

-- `audit SCHEMA DOCUMENT..`; `--variables-none` says what holds of every audit
abbrev pub audit_app : App
audit_app = with_work (with_rule (with_rule (with_audited (top (codes "audit"))) (option (codes "unsized"))) (flag (codes "variables-none")))

-- `introspect SCHEMA DOCUMENT`
abbrev pub introspect_app : App
introspect_app = with_work (with_rule (with_rule (with_files (top (codes "introspect"))) (option (codes "variables"))) (option (codes "operation")))

-- `worst SCHEMA DOCUMENT PART`
abbrev pub worst_app : App
worst_app = with_options (with_rule (with_files (top (codes "worst"))) (place (codes "part")))

-- `forward SCHEMA DOCUMENT`
abbrev pub forward_app : App
forward_app = with_options (with_files (top (codes "forward")))

-- `meter SCHEMA DOCUMENT REPLY`
abbrev pub meter_app : App
meter_app = with_options (with_rule (with_files (top (codes "meter"))) (place (codes "reply")))

-- `replay SCHEMA CLIENTS SCRIPT`
abbrev pub replay_app : App
replay_app = with_work (with_list (with_rule (with_rule (with_rule (with_rule (top (codes "replay")) (place (codes "schema"))) (place (codes "clients"))) (place (codes "script"))) (option (codes "unsized"))))

-- `serve SCHEMA CLIENTS --listen ADDR --upstream ADDR`
abbrev pub serve_app : App
serve_app = with_work (with_telling (with_list (with_lasting (with_serving (with_gateway (top (codes "serve")))))))

-- `exercise N`
abbrev pub exercise_app : App
exercise_app = with_rule (top (codes "exercise")) (place (codes "requests"))

-- `migrate CLIENTS`
abbrev pub migrate_app : App
migrate_app = with_rule (top (codes "migrate")) (place (codes "clients"))
