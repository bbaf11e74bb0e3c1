-- By what a gateway is served that is made of what files hold.
use Rattle.std.proofs.Common.{◌≡◌, ◌∙◌, ap, ap₂, subst, ℕ, Bool, List, Option, Result, map}
use Rattle.account_core.specs.declared.Limit.{Limit}
use Rattle.gateway_serving.specs.PassedOn.{Gate, Settings, client_limit, limits_of, service_in}
use Rattle.gateway_serving.specs.Decisions.{Rules, rules_of, Service}
use Rattle.gateway_serving.specs.declared.asked.Serving.{Serving}
use Rattle.gateway_serving.specs.Telling.{DoorsTold}
use Rattle.journal_serving.specs.declared.ending.KeptEnd.{KeptEnd}
use Rattle.journal_serving.specs.declared.ending.KeptFault.{KeptFault}
use Rattle.journal_serving.specs.Keeping.{DisksTold, ComesTo}
use Rattle.command_words.specs.declared.command.AskedServe.{AskedServe}
use Rattle.account_commands.specs.RuleFiles.{rules_in}
use Rattle.gateway_run.specs.declared.serve_inputs.ServeInputs.{ServeInputs}
use Rattle.gateway_run.specs.Serve.{service_over}

with_parts : Option ℕ → Rules → List ℕ → List ℕ → List (List ℕ) → Bool → Service
with_parts slots rules host target passed hints = record { rules = rules; host = host; target = target; passed = passed; hints = hints; slots = slots }

pub same_service : (slots : Option ℕ) (gate : Gate) (asked : AskedServe) (inputs : ServeInputs) (settings : Settings) → rules_of gate ≡ rules_in inputs.rules inputs.list asked.most_answer asked.most_work
    → gate.settings ≡ settings → settings.host ≡ asked.upstream → settings.target ≡ asked.target → settings.passed.items ≡ asked.passed.items → settings.hints ≡ asked.hints
    → service_in slots gate ≡ service_over slots asked inputs
unfolding with_parts
same_service slots gate asked inputs settings rules same host target passed hints =
    ap (λ (r : Rules). with_parts slots r gate.settings.host gate.settings.target gate.settings.passed.items gate.settings.hints) rules
    ∙ ap₂ (λ h t. with_parts slots (rules_in inputs.rules inputs.list asked.most_answer asked.most_work) h t gate.settings.passed.items gate.settings.hints) (ap (λ (s : Settings). s.host) same ∙ host) (ap (λ (s : Settings). s.target) same ∙ target)
    ∙ ap₂ (λ p b. with_parts slots (rules_in inputs.rules inputs.list asked.most_answer asked.most_work) asked.upstream asked.target p b) (ap (λ (s : Settings). s.passed.items) same ∙ passed) (ap (λ (s : Settings). s.hints) same ∙ hints)

-- what the clients may spend
pub same_limits : (gate : Gate) (inputs : ServeInputs) (most work : Option ℕ) → rules_of gate ≡ rules_in inputs.rules inputs.list most work → limits_of gate ≡ map client_limit inputs.rules.clients.clients.items
same_limits gate inputs most work rules = ap (λ (r : Rules). map client_limit r.clients) rules

-- what serving over a journal came to is said of what its parts are
pub came_alike : (s t : Service) (limits own_limits : List Limit) (mark own_mark name own_name : List ℕ) (serving : Serving) (disks disks_now : DisksTold) (doors doors_now : DoorsTold) (came_to : Result KeptEnd KeptFault)
    → s ≡ t → limits ≡ own_limits → mark ≡ own_mark → name ≡ own_name
    → ComesTo s limits serving mark name disks disks_now doors doors_now came_to → ComesTo t own_limits serving own_mark own_name disks disks_now doors doors_now came_to
came_alike s t limits own_limits mark own_mark name own_name serving disks disks_now doors doors_now came_to same_s same_l same_m same_n came =
    subst (λ n. ComesTo t own_limits serving own_mark n disks disks_now doors doors_now came_to) same_n
    (subst (λ m. ComesTo t own_limits serving m name disks disks_now doors doors_now came_to) same_m
    (subst (λ l. ComesTo t l serving mark name disks disks_now doors doors_now came_to) same_l
    (subst (λ v. ComesTo v limits serving mark name disks disks_now doors doors_now came_to) same_s came)))
