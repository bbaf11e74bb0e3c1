-- What is refused of an operation's texts.
use Rattle.std.proofs.Common.{◌≡◌, inl, inr, ℕ, List, Bool, Option, None, Some, subst}
use Rattle.schema_model.specs.SchemaData.{has_floats}
use Rattle.schema_model.specs.SchemaViews.{schema_data}
use Rattle.schema_model.specs.declared.schema.Schema.{Schema}
use Rattle.cost_directives.specs.declared.weights.Weights.{Weights}
use Rattle.command_words.specs.declared.command.Asked.{Asked}
use Rattle.acceptance.specs.Requests.{RequestData}
use Rattle.acceptance.specs.Refusals.{IsUnread, IsRefusedFor}
use Rattle.operation_commands.specs.declared.asking.Inputs.{Inputs}
use Rattle.operation_commands.specs.declared.asked.AskedTexts.{AskedTexts}
use Rattle.command_outcomes.specs.declared.checked.SchemaRefusal.{SchemaRefusal}
use Rattle.operation_commands.specs.declared.asking.AskedRefusal.TheVariants.{NoSchema, NotJson, BadVariables, NoOperation}
use Rattle.operation_commands.specs.declared.asking.AskedFault.{AskedFault}
use Rattle.operation_commands.specs.declared.asking.AskedFault.TheVariants.{Refused, Memory}
use Rattle.acceptance.specs.declared.fault.Refusal.{Refusal}
use Rattle.command_outcomes.specs.Check.{HoldsWith, IsUnchecked}
use Rattle.operation_commands.specs.Asked.{HoldInputs, request_in, HoldsSchema, HoldsGiven, IsUngiven, LetsFloatsIn, IsNoSchemaOf, IsUnreadIn, IsNoOperationOf, IsRefusalOf, IsNoInputsOf, IfAskedRefused}

pub schema_held : (asked : Asked) (texts : AskedTexts) (text : List ℕ) (schema : Schema) (weights : Weights) → text ≡ texts.schema → HoldsWith text asked.undeclared schema weights → HoldsSchema asked texts
schema_held asked texts text schema weights same held = subst (λ t. (s : Schema) × (w : Weights) × HoldsWith t asked.undeclared s w) same (schema, weights, held)

-- whether floats are let in, by the schema that was read
pub floats_held : (asked : Asked) (texts : AskedTexts) (text : List ℕ) (schema : Schema) (weights : Weights) (floats : Bool) → text ≡ texts.schema → HoldsWith text asked.undeclared schema weights → floats ≡ has_floats (schema_data schema)
    → LetsFloatsIn texts.schema asked.undeclared floats
floats_held asked texts text schema weights floats same held is = subst (λ t. LetsFloatsIn t asked.undeclared floats) same (schema, weights, held, is)

pub no_schema : (asked : Asked) (texts : AskedTexts) (text : List ℕ) (fault : AskedFault) → text ≡ texts.schema → IfAskedRefused fault (IsNoSchemaOf text) → IfAskedRefused fault (IsNoInputsOf asked texts)
no_schema asked texts text (Refused (NoSchema refusal)) same refused = subst (λ t. IsUnchecked t refusal) same refused
no_schema asked texts text (Refused NotJson) same refused = absurd refused
no_schema asked texts text (Refused BadVariables) same refused = absurd refused
no_schema asked texts text (Refused (NoOperation refusal)) same refused = absurd refused
no_schema asked texts text Memory same refused = tt

given_schema : (variables : Option (List ℕ)) (refusal : SchemaRefusal) → IsUngiven variables (NoSchema refusal) → ⊥
given_schema None refusal ungiven = ungiven
given_schema (Some text) refusal ungiven = ungiven

given_operation : (variables : Option (List ℕ)) (refusal : Refusal) → IsUngiven variables (NoOperation refusal) → ⊥
given_operation None refusal ungiven = ungiven
given_operation (Some text) refusal ungiven = ungiven

pub not_given : (asked : Asked) (texts : AskedTexts) (fault : AskedFault) → HoldsSchema asked texts → IfAskedRefused fault (IsUngiven texts.variables) → IfAskedRefused fault (IsNoInputsOf asked texts)
not_given asked texts (Refused (NoSchema refusal)) schema refused = absurd (given_schema texts.variables refusal refused)
not_given asked texts (Refused NotJson) schema refused = (schema, refused)
not_given asked texts (Refused BadVariables) schema refused = (schema, refused)
not_given asked texts (Refused (NoOperation refusal)) schema refused = absurd (given_operation texts.variables refusal refused)
not_given asked texts Memory schema refused = tt

pub not_read : (asked : Asked) (texts : AskedTexts) (floats : Bool) (text : List ℕ) (fault : AskedFault) → LetsFloatsIn texts.schema asked.undeclared floats → HoldsGiven texts → text ≡ texts.document → IfAskedRefused fault (IsUnreadIn floats text) → IfAskedRefused fault (IsNoInputsOf asked texts)
not_read asked texts floats text (Refused (NoSchema refusal)) schema given same refused = absurd refused
not_read asked texts floats text (Refused NotJson) schema given same refused = absurd refused
not_read asked texts floats text (Refused BadVariables) schema given same refused = absurd refused
not_read asked texts floats text (Refused (NoOperation refusal)) lets given same refused = (given, (floats, lets, subst (λ t. IsUnread floats t refusal) same refused))
not_read asked texts floats text Memory schema given same refused = tt

-- it is a refusal then
pub refused_for : (asked : Asked) (texts : AskedTexts) (fault : AskedFault) → IfAskedRefused fault (IsNoInputsOf asked texts) → IfAskedRefused fault (IsRefusalOf asked texts)
refused_for asked texts (Refused (NoSchema refusal)) none = none
refused_for asked texts (Refused NotJson) none = none
refused_for asked texts (Refused BadVariables) none = none
refused_for asked texts (Refused (NoOperation refusal)) none = inl none
refused_for asked texts Memory none = tt

pub not_accepted : (asked : Asked) (texts : AskedTexts) (inputs : Inputs) (r : RequestData) (fault : AskedFault) → HoldInputs asked texts inputs → r ≡ request_in asked inputs → IfAskedRefused fault (IsNoOperationOf r) → IfAskedRefused fault (IsRefusalOf asked texts)
not_accepted asked texts inputs r (Refused (NoSchema refusal)) held same refused = absurd refused
not_accepted asked texts inputs r (Refused NotJson) held same refused = absurd refused
not_accepted asked texts inputs r (Refused BadVariables) held same refused = absurd refused
not_accepted asked texts inputs r (Refused (NoOperation refusal)) held same refused = inr (inputs, held, subst (λ q. IsRefusedFor q refusal) same refused)
not_accepted asked texts inputs r Memory held same refused = tt
