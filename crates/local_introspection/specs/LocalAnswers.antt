-- What a request of the gateway's own schema comes to.
use Rattle.std.specs.Prelude.{◌≡◌, ◌≢◌, ◌<◌, ◌⊎◌, [], Some, Result, Ok, Err}
use Rattle.document_reader.specs.declared.trees.Operation.{Operation}
use Rattle.response_model.specs.Response.{Tree}
use Rattle.response_model.specs.ResponseText.{response_text}
use Rattle.operation_class.specs.declared.classes.Class.TheVariants.{Mixed as MixedClass}
use Rattle.operation_class.specs.Classes.{class_at}
use Rattle.document_rules.specs.declared.rule.RuleFault.{RuleFault}
use Rattle.document_rules.specs.declared.rule.RuleFault.TheVariants.{Memory as NoRuleMemory}
use Rattle.document_rules.specs.Checking.{first_broken}
use Rattle.variable_coercion.specs.declared.faults.CoerceFault.{CoerceFault}
use Rattle.variable_coercion.specs.declared.faults.CoerceFault.TheVariants.{Memory as NoVariableMemory}
use Rattle.variable_coercion.specs.Variables.{variables_answer}
use Rattle.acceptance.specs.PassedOn.{PlanFault, Memory as NoPlanMemory}
use Rattle.acceptance.specs.Refusals.{NamesBreach, NamesVariable, NamesNode}
use Rattle.local_introspection.specs.declared.fault.LocalFault.{LocalFault}
use Rattle.local_introspection.specs.declared.fault.LocalFault.TheVariants.{Mixed, Rule, Variable, Plan, TooLarge, Memory}
use Rattle.local_introspection.specs.declared.walk.Local.{Local}
use Rattle.local_introspection.specs.Answers.{values_in}
use Rattle.local_introspection.specs.Lengths.{IsLong}
use Rattle.local_introspection.specs.LocalRequests.{LocalRequest, AsksFor, KeepsRules, Prepared, plan_answer, IsPlannedWell, IsTheAnswer, IsWritten}

-- The operation is planned well, and the one answer to it is written so.
abbrev pub IsAnsweredWith : LocalRequest → Local → Type 0
IsAnsweredWith r local = (p : Prepared r) × IsPlannedWell r p × (t : Tree) × IsTheAnswer r p t × IsWritten r p t local

-- A request is refused since a field stands beside that the gateway can't answer, as the class of its operation tells; or for the first
-- rule that the operation breaks over the schema of schemas; or for the first variable that is refused; or since it isn't planned; or
-- since the one answer to it has more than 1,000,000 values, or its text is longer than it may be. What stands before in this order is
-- passed.
abbrev pub IsRefusedFor : LocalRequest → LocalFault → Type 0
IsRefusedFor r (Mixed at) = class_at r.document r.place ≡ MixedClass at
IsRefusedFor r (Rule fault) = (o : Operation) × AsksFor r o × NamesBreach fault (first_broken r.schema r.document o)
IsRefusedFor r (Variable fault) = (o : Operation) × KeepsRules r o × NamesVariable fault (variables_answer r.schema o.variables.items r.given)
IsRefusedFor r (Plan fault) = (p : Prepared r) × NamesNode fault (plan_answer r p)
IsRefusedFor r TooLarge = (p : Prepared r) × IsPlannedWell r p × (t : Tree) × IsTheAnswer r p t × ((1000000 < values_in t) ⊎ IsLong r.most (response_text (Some t) []))
IsRefusedFor r Memory = Unit {0}

abbrev pub ComesTo : LocalRequest → Result Local LocalFault → Type 0
ComesTo r (Ok local) = IsAnsweredWith r local
ComesTo r (Err fault) = IsRefusedFor r fault

-- It is answered, or refused for something else than want of memory.
abbrev pub HasVerdict : LocalRequest → Type 0
HasVerdict r = ((local : Local) × IsAnsweredWith r local) ⊎ ((fault : LocalFault) × (fault ≢ Memory) × IsRefusedFor r fault)

-- ---- the fault of a stage is told, and want of memory as such

abbrev pub TellsRule : RuleFault → LocalFault → Type 0
TellsRule fault (Rule told) = (told ≡ fault) × (fault ≢ NoRuleMemory)
TellsRule fault Memory = fault ≡ NoRuleMemory
TellsRule fault other = ⊥

abbrev pub TellsVariable : CoerceFault → LocalFault → Type 0
TellsVariable fault (Variable told) = (told ≡ fault) × (fault ≢ NoVariableMemory)
TellsVariable fault Memory = fault ≡ NoVariableMemory
TellsVariable fault other = ⊥

abbrev pub TellsPlan : PlanFault → LocalFault → Type 0
TellsPlan fault (Plan told) = (told ≡ fault) × (fault ≢ NoPlanMemory)
TellsPlan fault Memory = fault ≡ NoPlanMemory
TellsPlan fault other = ⊥
