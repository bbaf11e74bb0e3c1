-- What each stage finds is what becomes of the request.
use Rattle.std.proofs.Common.{◌≡◌, ◌∙◌, List, Option, None, Some, Err, refl, sym, ap, ap₂, subst}
use Rattle.std.specs.Prelude.{◌≢◌, IsSome}
use Rattle.gql_base.specs.declared.parts.trees.OperationKind.{OperationKind}
use Rattle.gql_base.specs.declared.parts.trees.OperationKind.TheVariants.{Query, Mutation, Subscription}
use Rattle.document_reader.specs.declared.trees.Definition.{Definition}
use Rattle.document_reader.specs.declared.trees.Operation.{Operation}
use Rattle.input_values.specs.coercion.Literals.{Environment}
use Rattle.variable_coercion.specs.declared.faults.CoerceFault.{CoerceFault}
use Rattle.variable_coercion.specs.declared.faults.CoerceFault.TheVariants.{Missing, BadValue, TooLarge, Memory as NoVariableMemory}
use Rattle.variable_coercion.specs.Refusals.{missing, bad_value, too_large}
use Rattle.variable_coercion.specs.Variables.{VariableData, values_by_name, variables_answer}
use Rattle.variable_coercion.specs.Calls.{IsTold as IsToldOf, variable_told}
use Rattle.document_rules.specs.declared.rule.RuleFault.{RuleFault}
use Rattle.document_rules.specs.declared.rule.RuleFault.TheVariants.{Broken, Memory as NoRuleMemory}
use Rattle.document_rules.specs.declared.checking.Checked.{Checked}
use Rattle.document_rules.specs.Parts.{operation_at}
use Rattle.document_rules.specs.Checking.{Breach, first_broken, IsCheckOf, AnswersBreach}
use Rattle.acceptance.specs.PassedOn.{PlanFault, IsTold}
use Rattle.plan_model.specs.Operations.{setting_of, operation_answer}
use Rattle.operation_class.specs.declared.classes.Class.{Class}
use Rattle.operation_class.specs.declared.classes.Class.TheVariants.{Local as LocalClass}
use Rattle.operation_class.specs.Classes.{class_of_kind, class_there}
use Rattle.acceptance.specs.Refusals.{NamesBreach, NamesVariable, NamesNode}
use Rattle.local_introspection.specs.declared.fault.LocalFault.{LocalFault}
use Rattle.local_introspection.specs.declared.fault.LocalFault.TheVariants.{Mixed, Rule, Variable, Plan, TooLarge as LocalTooLarge, Memory}
use Rattle.local_introspection.specs.LocalRequests.{LocalRequest, IsLocal, AsksFor, KeepsRules, IsCheckFor, AreValues, Prepared, setting}
use Rattle.local_introspection.specs.LocalAnswers.{IsRefusedFor, TellsRule, TellsVariable, TellsPlan}

-- ---- an operation that is local is a query

query_kind : (kind : OperationKind) (class : Class) → class_of_kind kind class ≡ LocalClass → kind ≡ Query
query_kind Query class is = refl
query_kind Mutation class is = absurd (cc)
query_kind Subscription class is = absurd (cc)

pub query_there : (ds : List Definition) (o : Option Operation) → class_there ds o ≡ LocalClass → (x : Operation) × (o ≡ Some x) × (x.kind ≡ Query)
query_there ds None is = absurd (cc)
query_there ds (Some o) is = (o, refl, query_kind o.kind _ is)

pub there_is_one : (r : LocalRequest) → IsLocal r → (o : Operation) × AsksFor r o × (o.kind ≡ Query)
there_is_one r local = let there = query_there r.document (operation_at r.document r.place) local in (there.0, (there.1, local), there.2)

some_inner : {X : Type 0} (a b : X) → Some a ≡ Some b → a ≡ b
some_inner a b is = cc

stands : (o : Option Operation) (x : Operation) → o ≡ Some x → IsSome o
stands None x is = absurd (cc)
stands (Some y) x is = refl

pub stands_there : (r : LocalRequest) → IsLocal r → IsSome (operation_at r.document r.place)
stands_there r local = let there = there_is_one r local in stands (operation_at r.document r.place) there.0 there.1.0

same_operation : (r : LocalRequest) (a b : Operation) → AsksFor r a → AsksFor r b → a ≡ b
same_operation r a b first second = some_inner a b (sym first.0 ∙ second.0)

pub query_asked : (r : LocalRequest) (o : Operation) → AsksFor r o → o.kind ≡ Query
query_asked r o asks = let there = there_is_one r asks.1 in ap (λ (x : Operation). x.kind) (same_operation r o there.0 asks there.1) ∙ there.2

-- ---- rules

abbrev ForEach : LocalRequest → (Operation → Type 0) → Type 0
ForEach r P = (o : Operation) → operation_at r.document r.place ≡ Some o → P o

pub checked_for : (r : LocalRequest) (c : Checked) → IsLocal r → ForEach r (λ o. (first_broken r.schema r.document o ≡ None) × IsCheckOf r.schema r.document o c) → IsCheckFor r c
checked_for r c local answer =
    let o = there_is_one r local in
    let of = answer o.0 o.1.0 in
    let moved = subst (λ x. KeepsRules r x × IsCheckOf r.schema r.document x c) (sym of.1.operation) ((o.1, of.0), of.1) in
    record { keeps = moved.0; of = moved.1 }

breach_named : (c : Checked → Type 0) (fault : RuleFault) (first : Option Breach) → fault ≢ NoRuleMemory → AnswersBreach c (Err fault) first → NamesBreach fault first
breach_named c (Broken rule at) first of_rule told = told
breach_named c NoRuleMemory first of_rule told = absurd (of_rule refl)

pub rule_refused : (r : LocalRequest) (c : Operation → Checked → Type 0) (fault : RuleFault) (told : LocalFault) → IsLocal r
    → ForEach r (λ o. AnswersBreach (c o) (Err fault) (first_broken r.schema r.document o)) → TellsRule fault told → IsRefusedFor r told
rule_refused r c fault (Rule named) local answer tells =
    let o = there_is_one r local in
    (o.0, o.1, subst (λ f. NamesBreach f (first_broken r.schema r.document o.0)) (sym tells.0) (breach_named (c o.0) fault (first_broken r.schema r.document o.0) tells.1 (answer o.0 o.1.0)))
rule_refused r c fault (Mixed at) local answer tells = absurd tells
rule_refused r c fault (Variable named) local answer tells = absurd tells
rule_refused r c fault (Plan named) local answer tells = absurd tells
rule_refused r c fault LocalTooLarge local answer tells = absurd tells
rule_refused r c fault Memory local answer tells = tt

-- ---- variables

variable_named : (fault : CoerceFault) (r : LocalRequest) (o : Operation) → fault ≢ NoVariableMemory → IsToldOf (variable_told fault) (variables_answer r.schema o.variables.items r.given)
    → NamesVariable fault (variables_answer r.schema o.variables.items r.given)
variable_named (Missing name) r o of_variable told = (missing name, refl, told)
variable_named (BadValue path) r o of_variable told = (bad_value path, refl, told)
variable_named (TooLarge name) r o of_variable told = (too_large name, refl, told)
variable_named NoVariableMemory r o of_variable told = absurd (of_variable refl)

pub variable_refused : (r : LocalRequest) (o : Operation) (fault : CoerceFault) (told : LocalFault) → KeepsRules r o → IsToldOf (variable_told fault) (variables_answer r.schema o.variables.items r.given)
    → TellsVariable fault told → IsRefusedFor r told
variable_refused r o fault (Variable named) keeps answer tells =
    (o, keeps, subst (λ f. NamesVariable f (variables_answer r.schema o.variables.items r.given)) (sym tells.0) (variable_named fault r o tells.1 answer))
variable_refused r o fault (Mixed at) keeps answer tells = absurd tells
variable_refused r o fault (Rule named) keeps answer tells = absurd tells
variable_refused r o fault (Plan named) keeps answer tells = absurd tells
variable_refused r o fault LocalTooLarge keeps answer tells = absurd tells
variable_refused r o fault Memory keeps answer tells = tt

-- ---- plans

abbrev pub prepared_by : (r : LocalRequest) (c : Checked) (values : List VariableData) → IsCheckFor r c → AreValues r c.operation.now values → Prepared r
prepared_by r c values of are = record { operation = c.operation.now; root = c.root.number; values = values; keeps = of.keeps; on_root = of.of.root; are_values = are }

-- by what the checked operation is planned is that of the request
pub same_setting : (r : LocalRequest) (c : Checked) (env : Environment) (values : List VariableData) (of : IsCheckFor r c) (are : AreValues r c.operation.now values) → env ≡ values_by_name values
    → setting_of r.schema r.weights env c.document.now.definitions.items c.operation.now ≡ setting r (prepared_by r c values of are)
same_setting r c env values of are same = ap₂ (λ (v : Environment) ds. setting_of r.schema r.weights v ds c.operation.now) same of.of.document

pub plan_refused : (r : LocalRequest) (c : Checked) (env : Environment) (values : List VariableData) (fault : PlanFault) (told : LocalFault) → IsCheckFor r c → AreValues r c.operation.now values → env ≡ values_by_name values
    → IsTold (operation_answer (setting_of r.schema r.weights env c.document.now.definitions.items c.operation.now) c.root.number c.operation.now) fault
    → TellsPlan fault told → IsRefusedFor r told
plan_refused r c env values fault (Plan named) of are same answer tells =
    let moved = subst (λ s. IsTold (operation_answer s c.root.number c.operation.now) fault) (same_setting r c env values of are same) answer in
    (prepared_by r c values of are, subst (λ f. NamesNode f (operation_answer (setting r (prepared_by r c values of are)) c.root.number c.operation.now)) (sym tells.0) (moved, tells.1))
plan_refused r c env values fault (Mixed at) of are same answer tells = absurd tells
plan_refused r c env values fault (Rule named) of are same answer tells = absurd tells
plan_refused r c env values fault (Variable named) of are same answer tells = absurd tells
plan_refused r c env values fault LocalTooLarge of are same answer tells = absurd tells
plan_refused r c env values fault Memory of are same answer tells = tt
