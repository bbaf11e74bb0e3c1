-- Operations that are answered from the schema itself, and why others aren't.
use Rattle.std.specs.Prelude.{◌≡◌, ◌≢◌, ℕ, List, Option, None, Some, codes}
use Rattle.static_cost.specs.CostBound.{IsWithin}
use Rattle.acceptance.specs.Requests.{RequestData}
use Rattle.cost_num.specs.declared.Cost.{Cost}
use Rattle.operation_class.specs.declared.classes.Class.TheVariants.{Local as LocalClass}
use Rattle.operation_class.specs.Routes.{GoesUpstream, IsPicked}
use Rattle.command_outcomes.specs.PassedOn.{Memory as NoLocalMemory, Local, LocalRequest, IsAnsweredWith, IsRefusedFor, local_text, IsAnsweredHere, IsRefusedHere}
use Rattle.command_words.specs.declared.command.Asked.{Asked}
use Rattle.command_outcomes.specs.Known.{AreKnownOf}
use Rattle.operation_commands.specs.declared.asking.AskedFault.{AskedFault}
use Rattle.operation_commands.specs.declared.asking.AskedFault.TheVariants as asked_fault
use Rattle.operation_commands.specs.declared.own_answers.OwnRefusal.{OwnRefusal}
use Rattle.operation_commands.specs.declared.own_answers.OwnRefusal.TheVariants as refusal
use Rattle.operation_commands.specs.declared.own_answers.OwnFault.{OwnFault}
use Rattle.operation_commands.specs.declared.own_answers.OwnFault.TheVariants.{Refused, Memory}
use Rattle.operation_commands.specs.Asked.{asked_text}

-- where the operation stands that is answered from the schema, if it doesn't go to the upstream
abbrev pub IsPlaced : RequestData → Option ℕ → Type 0
IsPlaced r None = GoesUpstream r.name r.document
IsPlaced r (Some place) = IsPicked r.name r.document place LocalClass

-- what is answered of a request from the schema of the text, if it doesn't go to the upstream
abbrev pub IsOwn : List ℕ → RequestData → Option Local → Type 0
IsOwn text r None = GoesUpstream r.name r.document
IsOwn text r (Some answer) = IsAnsweredHere (AreKnownOf text) answer r

abbrev pub IsOwnWithin : Option Local → Type 0
IsOwnWithin None = Unit {0}
IsOwnWithin (Some answer) = IsWithin answer.cost

-- what the answer costs, if it doesn't go to the upstream
abbrev pub IsOwnCost : List ℕ → RequestData → Option Cost → Type 0
IsOwnCost text r None = GoesUpstream r.name r.document
IsOwnCost text r (Some cost) = (answer : Local) × IsAnsweredHere (AreKnownOf text) answer r × (answer.cost ≡ cost)

abbrev pub IsCostWithin : Option Cost → Type 0
IsCostWithin None = Unit {0}
IsCostWithin (Some cost) = IsWithin cost

-- It is answered at this cost.
abbrev pub CostsAt : LocalRequest → Cost → Type 0
CostsAt r cost = (answer : Local) × IsAnsweredWith r answer × (answer.cost ≡ cost)

-- why it isn't answered
abbrev pub IsNotOwn : List ℕ → RequestData → OwnRefusal → Type 0
IsNotOwn text r (refusal.NotAnswered fault) = IsRefusedHere (AreKnownOf text) fault r
IsNotOwn text r other = ⊥

-- where it is a refusal, this holds of it
abbrev pub IfOwnRefused : OwnFault → (OwnRefusal → Type 0) → Type 0
IfOwnRefused (Refused r) P = P r
IfOwnRefused Memory P = Unit {0}

-- a fault that any operation may have is told
abbrev pub IsAskedFault : AskedFault → OwnFault → Type 0
IsAskedFault (asked_fault.Refused r) fault = fault ≡ Refused (refusal.Asked r)
IsAskedFault asked_fault.Memory fault = fault ≡ Memory

-- why what is asked of the schema isn't answered
abbrev pub TellsLocal : LocalRequest → OwnFault → Type 0
TellsLocal r (Refused (refusal.NotAnswered fault)) = (fault ≢ NoLocalMemory) × IsRefusedFor r fault
TellsLocal r (Refused other) = ⊥
TellsLocal r Memory = Unit {0}

-- the text of a refusal
abbrev pub own_text : Asked → OwnRefusal → List ℕ
own_text asked (refusal.Asked r) = asked_text asked r
own_text asked (refusal.NotAnswered fault) = local_text fault
own_text asked refusal.NotLocal = codes "local 7 NotLocal"
