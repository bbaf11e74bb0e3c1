-- What each stage finds is what becomes of the request.
use Rattle.std.proofs.Common.{◌≡◌, ◌∙◌, ℕ, List, Option, None, Some, Ok, Err, refl, sym, ap, ap₂, subst}
use Rattle.std.specs.Prelude.{◌≢◌, IsSome}
use Rattle.document_reader.specs.declared.trees.Operation.{Operation}
use Rattle.document_reader.specs.Picking.{picked}
use Rattle.input_values.specs.coercion.Literals.{Environment}
use Rattle.variable_coercion.specs.declared.faults.CoerceFault.{CoerceFault}
use Rattle.variable_coercion.specs.declared.faults.CoerceFault.TheVariants.{Missing, BadValue, TooLarge, Memory as NoVariableMemory}
use Rattle.variable_coercion.specs.Refusals.{missing, bad_value, too_large}
use Rattle.variable_coercion.specs.Variables.{VariableData, values_by_name, variables_answer}
use Rattle.variable_coercion.specs.Calls.{IsTold as IsToldOf, variable_told}
use Rattle.document_rules.specs.declared.rule.RuleFault.{RuleFault}
use Rattle.document_rules.specs.declared.rule.RuleFault.TheVariants.{Broken, Memory as NoRuleMemory}
use Rattle.document_rules.specs.declared.checking.Checked.{Checked}
use Rattle.document_rules.specs.Parts.{operation_at}
use Rattle.document_rules.specs.Checking.{Breach, first_broken, IsCheckOf, AnswersBreach}
use Rattle.merged_selections.specs.declared.fault.PlanFault.{PlanFault}
use Rattle.merged_selections.specs.Faults.{IsTold}
use Rattle.plan_model.specs.Visits.{planned_well}
use Rattle.plan_model.specs.Operations.{setting_of, operation_answer, planned_operation}
use Rattle.static_cost.specs.PassedOn.{Plan, HasRows}
use Rattle.acceptance.specs.declared.fault.Refusal.TheVariants.{Document, Pick, Rule, Variable, Plan as NoPlan, Bound}
use Rattle.acceptance.specs.declared.fault.AcceptFault.{AcceptFault}
use Rattle.acceptance.specs.declared.fault.AcceptFault.TheVariants.{Refused, Memory}
use Rattle.acceptance.specs.Requests.{RequestData, KeepsRules, IsCheckFor, AreValues, Prepared, setting}
use Rattle.acceptance.specs.Bounds.{IsPlanned}
use Rattle.acceptance.specs.Refusals.{NamesBreach, NamesVariable, NamesNode, IsRefusedFor, IfRefused, TellsRule, TellsVariable, TellsPlan}

pub the_some : {X : Type 0} → (o : Option X) → IsSome o → (x : X) × (o ≡ Some x)
the_some None there = absurd (cc)
the_some (Some x) there = (x, refl)

-- ---- rules

abbrev ForEach : RequestData → ℕ → (Operation → Type 0) → Type 0
ForEach r place P = (o : Operation) → operation_at r.document place ≡ Some o → P o

pub checked_for : (r : RequestData) (place : ℕ) (c : Checked) → picked r.name r.document ≡ Ok place → IsSome (operation_at r.document place)
    → ForEach r place (λ o. (first_broken r.schema r.document o ≡ None) × IsCheckOf r.schema r.document o c) → IsCheckFor r c
checked_for r place c is_picked there answer =
    let o = the_some (operation_at r.document place) there in
    let of = answer o.0 o.1 in
    let moved = subst (λ x. KeepsRules r x × IsCheckOf r.schema r.document x c) (sym of.1.operation) (((place, is_picked, o.1), of.0), of.1) in
    record { keeps = moved.0; of = moved.1 }

breach_told : (c : Checked → Type 0) (fault : RuleFault) (first : Option Breach) → fault ≢ NoRuleMemory → AnswersBreach c (Err fault) first → NamesBreach fault first
breach_told c (Broken rule at) first of_rule told = told
breach_told c NoRuleMemory first of_rule told = absurd (of_rule refl)

pub rule_refused : (r : RequestData) (place : ℕ) (c : Operation → Checked → Type 0) (fault : RuleFault) (told : AcceptFault) → picked r.name r.document ≡ Ok place → IsSome (operation_at r.document place)
    → ForEach r place (λ o. AnswersBreach (c o) (Err fault) (first_broken r.schema r.document o)) → TellsRule fault told → IfRefused told (IsRefusedFor r)
rule_refused r place c fault (Refused (Rule named)) is_picked there answer tells =
    let o = the_some (operation_at r.document place) there in
    (o.0, (place, is_picked, o.1), subst (λ f. NamesBreach f (first_broken r.schema r.document o.0)) (sym tells.0) (breach_told (c o.0) fault (first_broken r.schema r.document o.0) tells.1 (answer o.0 o.1)))
rule_refused r place c fault (Refused (Document named)) is_picked there answer tells = absurd tells
rule_refused r place c fault (Refused (Pick named)) is_picked there answer tells = absurd tells
rule_refused r place c fault (Refused (Variable named)) is_picked there answer tells = absurd tells
rule_refused r place c fault (Refused (NoPlan named)) is_picked there answer tells = absurd tells
rule_refused r place c fault (Refused (Bound named)) is_picked there answer tells = absurd tells
rule_refused r place c fault Memory is_picked there answer tells = tt

-- ---- variables

variable_named : (fault : CoerceFault) (r : RequestData) (o : Operation) → fault ≢ NoVariableMemory → IsToldOf (variable_told fault) (variables_answer r.schema o.variables.items r.given)
    → NamesVariable fault (variables_answer r.schema o.variables.items r.given)
variable_named (Missing name) r o of_variable told = (missing name, refl, told)
variable_named (BadValue path) r o of_variable told = (bad_value path, refl, told)
variable_named (TooLarge name) r o of_variable told = (too_large name, refl, told)
variable_named NoVariableMemory r o of_variable told = absurd (of_variable refl)

pub variable_refused : (r : RequestData) (o : Operation) (fault : CoerceFault) (told : AcceptFault) → KeepsRules r o → IsToldOf (variable_told fault) (variables_answer r.schema o.variables.items r.given)
    → TellsVariable fault told → IfRefused told (IsRefusedFor r)
variable_refused r o fault (Refused (Variable named)) keeps answer tells =
    (o, keeps, subst (λ f. NamesVariable f (variables_answer r.schema o.variables.items r.given)) (sym tells.0) (variable_named fault r o tells.1 answer))
variable_refused r o fault (Refused (Document named)) keeps answer tells = absurd tells
variable_refused r o fault (Refused (Pick named)) keeps answer tells = absurd tells
variable_refused r o fault (Refused (Rule named)) keeps answer tells = absurd tells
variable_refused r o fault (Refused (NoPlan named)) keeps answer tells = absurd tells
variable_refused r o fault (Refused (Bound named)) keeps answer tells = absurd tells
variable_refused r o fault Memory keeps answer tells = tt

-- ---- plans

abbrev pub prepared_by : (r : RequestData) (c : Checked) (values : List VariableData) → IsCheckFor r c → AreValues r c.operation.now values → Prepared r
prepared_by r c values of are = record { operation = c.operation.now; root = c.root.number; values = values; keeps = of.keeps; on_root = of.of.root; are_values = are }

-- the setting of the checked operation is that of the request
same_setting : (r : RequestData) (c : Checked) (env : Environment) (values : List VariableData) (of : IsCheckFor r c) (are : AreValues r c.operation.now values) → env ≡ values_by_name values
    → setting_of r.schema r.weights env c.document.now.definitions.items c.operation.now ≡ setting r (prepared_by r c values of are)
same_setting r c env values of are same = ap₂ (λ (v : Environment) ds. setting_of r.schema r.weights v ds c.operation.now) same of.of.document

pub is_planned : (r : RequestData) (c : Checked) (env : Environment) (values : List VariableData) (plan : Plan) → IsCheckFor r c → AreValues r c.operation.now values → env ≡ values_by_name values
    → operation_answer (setting_of r.schema r.weights env c.document.now.definitions.items c.operation.now) c.root.number c.operation.now ≡ planned_well
    → HasRows plan (planned_operation (setting_of r.schema r.weights env c.document.now.definitions.items c.operation.now) c.root.number c.operation.now) → IsPlanned r plan
is_planned r c env values plan of are same well rows =
    let e = same_setting r c env values of are same in
    record {
      prepared = prepared_by r c values of are;
      well = ap (λ s. operation_answer s c.root.number c.operation.now) (sym e) ∙ well;
      rows = subst (λ s. HasRows plan (planned_operation s c.root.number c.operation.now)) e rows;
    }

pub plan_refused : (r : RequestData) (c : Checked) (env : Environment) (values : List VariableData) (fault : PlanFault) (told : AcceptFault) → IsCheckFor r c → AreValues r c.operation.now values → env ≡ values_by_name values
    → IsTold (operation_answer (setting_of r.schema r.weights env c.document.now.definitions.items c.operation.now) c.root.number c.operation.now) fault
    → TellsPlan fault told → IfRefused told (IsRefusedFor r)
plan_refused r c env values fault (Refused (NoPlan named)) of are same answer tells =
    let moved = subst (λ s. IsTold (operation_answer s c.root.number c.operation.now) fault) (same_setting r c env values of are same) answer in
    (prepared_by r c values of are, subst (λ f. NamesNode f (operation_answer (setting r (prepared_by r c values of are)) c.root.number c.operation.now)) (sym tells.0) (moved, tells.1))
plan_refused r c env values fault (Refused (Document named)) of are same answer tells = absurd tells
plan_refused r c env values fault (Refused (Pick named)) of are same answer tells = absurd tells
plan_refused r c env values fault (Refused (Rule named)) of are same answer tells = absurd tells
plan_refused r c env values fault (Refused (Variable named)) of are same answer tells = absurd tells
plan_refused r c env values fault (Refused (Bound named)) of are same answer tells = absurd tells
plan_refused r c env values fault Memory of are same answer tells = tt
