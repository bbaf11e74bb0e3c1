-- What a request is refused for: the first test that it doesn't pass.
use Rattle.std.specs.Prelude.{◌≡◌, ◌≢◌, ℕ, Bool, List, Option, Some, Result, Err}
use Rattle.document_reader.specs.declared.trees.Operation.{Operation}
use Rattle.document_reader.specs.Picking.{picked}
use Rattle.document_reader.specs.DocumentAnswers.{HasDocumentFault}
use Rattle.document_rules.specs.declared.rule.RuleFault.{RuleFault}
use Rattle.document_rules.specs.declared.rule.RuleFault.TheVariants.{Broken, Memory as NoRuleMemory}
use Rattle.document_rules.specs.Checking.{Breach, first_broken}
use Rattle.variable_coercion.specs.declared.faults.CoerceFault.{CoerceFault}
use Rattle.variable_coercion.specs.declared.faults.CoerceFault.TheVariants.{Memory as NoVariableMemory}
use Rattle.variable_coercion.specs.Refusals.{Refusal as Unvalued}
use Rattle.variable_coercion.specs.Variables.{VariableData, variables_answer}
use Rattle.variable_coercion.specs.Calls.{variable_told}
use Rattle.merged_selections.specs.declared.fault.PlanFault.{PlanFault}
use Rattle.merged_selections.specs.declared.fault.PlanFault.TheVariants.{Memory as NoPlanMemory}
use Rattle.merged_selections.specs.Faults.{IsTold}
use Rattle.plan_model.specs.Visits.{PlanAnswer, planned_well}
use Rattle.acceptance.specs.declared.fault.Refusal.{Refusal}
use Rattle.acceptance.specs.declared.fault.Refusal.TheVariants.{Document, Pick, Rule, Variable, Plan, Bound}
use Rattle.acceptance.specs.declared.fault.AcceptFault.{AcceptFault}
use Rattle.acceptance.specs.declared.fault.AcceptFault.TheVariants.{Refused, Memory}
use Rattle.acceptance.specs.Requests.{RequestData, AsksFor, KeepsRules, Prepared, plan_answer}
use Rattle.acceptance.specs.Bounds.{NamesExceeding}

-- The fault names the first broken rule and its place.
abbrev pub NamesBreach : RuleFault → Option Breach → Type 0
NamesBreach (Broken rule at) first = first ≡ Some (rule, at)
NamesBreach NoRuleMemory first = ⊥

-- The fault names the first variable that is refused.
abbrev pub NamesVariable : CoerceFault → Result (List VariableData) Unvalued → Type 0
NamesVariable fault answer = (refusal : Unvalued) × (variable_told fault ≡ Some refusal) × (answer ≡ Err refusal)

-- The fault is the answer: the first node at fault, or that there are too many.
abbrev pub NamesNode : PlanFault → PlanAnswer → Type 0
NamesNode fault answer = IsTold answer fault × (fault ≢ NoPlanMemory)

-- A request is refused since no operation is picked; or since the operation breaks a rule; or for a variable; or since it isn't
-- planned; or since some response costs too much. What stands before in this order is passed. That a text is no document is
-- told of the text.
abbrev pub IsRefusedFor : RequestData → Refusal → Type 0
IsRefusedFor r (Document fault) = ⊥
IsRefusedFor r (Pick fault) = picked r.name r.document ≡ Err fault
IsRefusedFor r (Rule fault) = (o : Operation) × AsksFor r o × NamesBreach fault (first_broken r.schema r.document o)
IsRefusedFor r (Variable fault) = (o : Operation) × KeepsRules r o × NamesVariable fault (variables_answer r.schema o.variables.items r.given)
IsRefusedFor r (Plan fault) = (p : Prepared r) × NamesNode fault (plan_answer r p)
IsRefusedFor r (Bound fault) = (p : Prepared r) × (plan_answer r p ≡ planned_well) × NamesExceeding r p fault

-- The fault of a stage is told, and want of memory as such.

abbrev pub TellsRule : RuleFault → AcceptFault → Type 0
TellsRule fault (Refused (Rule told)) = (told ≡ fault) × (fault ≢ NoRuleMemory)
TellsRule fault (Refused other) = ⊥
TellsRule fault Memory = fault ≡ NoRuleMemory

abbrev pub TellsVariable : CoerceFault → AcceptFault → Type 0
TellsVariable fault (Refused (Variable told)) = (told ≡ fault) × (fault ≢ NoVariableMemory)
TellsVariable fault (Refused other) = ⊥
TellsVariable fault Memory = fault ≡ NoVariableMemory

abbrev pub TellsPlan : PlanFault → AcceptFault → Type 0
TellsPlan fault (Refused (Plan told)) = (told ≡ fault) × (fault ≢ NoPlanMemory)
TellsPlan fault (Refused other) = ⊥
TellsPlan fault Memory = fault ≡ NoPlanMemory

-- The text is no document, with this fault, where floats are let in or aren't.
abbrev pub IsUnread : Bool → List ℕ → Refusal → Type 0
IsUnread floats text (Document fault) = HasDocumentFault floats text fault
IsUnread floats text other = ⊥

-- where it is a refusal, this holds of it
abbrev pub IfRefused : AcceptFault → (Refusal → Type 0) → Type 0
IfRefused (Refused refusal) P = P refusal
IfRefused Memory P = Unit {0}
