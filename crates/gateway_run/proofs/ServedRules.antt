-- What the rules that were read give to serving, and how many clients there are at its end.
use Rattle.std.proofs.Common.{◌≤◌, ℕ, List, length, Result, Ok, Err, IfOk, sym, subst}
use Rattle.client_files.specs.declared.client.Client.{Client}
use Rattle.client_files.specs.ClientFiles.{MayBeServed}
use Rattle.client_files.specs.declared.client.TheConstants.{CLIENT_LIMIT}
use Rattle.schema_model.specs.declared.schema.Schema.{Schema}
use Rattle.schema_model.specs.SchemaViews.{schema_data}
use Rattle.cost_directives.specs.declared.weights.Weights.{Weights}
use Rattle.cost_directives.specs.WeightViews.{weights_data}
use Rattle.plan_model.specs.Sound.{CanBeFilled}
use Rattle.gateway_serving.specs.Decisions.{HasWeights}
use Rattle.gateway_serving.specs.declared.ending.ServeEnd.{ServeEnd}
use Rattle.gateway_serving.specs.declared.ending.ServeFault.{ServeFault}
use Rattle.gateway_serving.specs.Ends.{WasServed}
use Rattle.account_commands.specs.PassedOn.{HoldsWith}
use Rattle.command_words.specs.declared.command.AskedServe.{AskedServe}
use Rattle.gateway_run.specs.declared.serve_inputs.ServeInputs.{ServeInputs}
use Rattle.gateway_run.specs.Serve.{DoorsCall, ServesTo, service_by}

pub has_weights : (text : List ℕ) (undeclared : ℕ) (schema : Schema) (weights : Weights) → HoldsWith text undeclared schema weights → CanBeFilled (schema_data schema) → HasWeights (schema_data schema) (weights_data weights)
has_weights text undeclared schema weights held filled = ((undeclared, held.1.1), filled)

pub few_clients : (asked : AskedServe) (inputs : ServeInputs) (doors : DoorsCall) (result : Result ServeEnd ServeFault) → MayBeServed inputs.rules.clients.window_seconds inputs.rules.clients.clients.items
    → ServesTo asked inputs doors result → IfOk result (λ end. length end.totals.clients.items.items ≤ CLIENT_LIMIT)
few_clients asked inputs doors (Ok end) served came =
    let was : WasServed (service_by asked inputs) came.0 doors.before doors.now end = came.2 in
    subst (λ (cs : List Client). length cs ≤ CLIENT_LIMIT) (sym (was.2).clients) served.few
few_clients asked inputs doors (Err fault) served came = tt
