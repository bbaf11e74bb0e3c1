-- A request has one verdict: what is told of it is found stage by stage, and there is one of each.
use Rattle.std.proofs.Common.{◌≡◌, ◌∙◌, ◌≤◌, ◌⊎◌, inl, inr, ℕ, List, [], Option, None, Some, Result, Ok, Err, refl, sym, ap, subst, arith}
use Rattle.std.specs.Prelude.{◌≢◌}
use Rattle.std.proofs.lemmas.Option.{same_Some}
use Rattle.cost_num.proofs.Costs.{cost_eq}
use Rattle.response_model.specs.Response.{Tree}
use Rattle.response_model.specs.ResponseText.{response_text}
use Rattle.response_model.specs.Cost.{Part, types, fields}
use Rattle.document_reader.specs.declared.trees.Operation.{Operation}
use Rattle.operation_class.specs.declared.classes.Class.TheVariants.{Local as LocalClass, Mixed as MixedClass}
use Rattle.operation_class.specs.Classes.{class_at}
use Rattle.document_rules.specs.declared.rule.RuleFault.{RuleFault}
use Rattle.document_rules.specs.declared.rule.RuleFault.TheVariants.{Broken, Memory as NoRuleMemory}
use Rattle.document_rules.specs.Sites.{type_of_kind}
use Rattle.document_rules.specs.Checking.{Breach, first_broken}
use Rattle.variable_coercion.specs.declared.faults.CoerceFault.{CoerceFault}
use Rattle.variable_coercion.specs.declared.faults.CoerceFault.TheVariants.{Missing, BadValue, TooLarge as LargeValue, Memory as NoVariableMemory}
use Rattle.variable_coercion.specs.declared.faults.ArgFault.{ArgFault}
use Rattle.variable_coercion.specs.declared.faults.ArgFault.TheVariants.{Missing as MissingArgument, BadValue as BadArgument, TooLarge as LargeArgument, Memory as NoArgumentMemory}
use Rattle.variable_coercion.specs.Refusals.{Refusal as Unvalued, missing, bad_value, too_large as too_large_value}
use Rattle.variable_coercion.specs.Variables.{VariableData, values_by_name, variables_answer}
use Rattle.variable_coercion.specs.Calls.{variable_told}
use Rattle.acceptance.specs.PassedOn.{PlanFault, Argument, Conflict, Size, NoPossibleType, TooLarge, TooDeep, Memory as NoPlanMemory, path_text, IsFaultAt, IsTold}
use Rattle.plan_model.specs.SelectedFields.{Setting}
use Rattle.plan_model.specs.Responses.{response_cost}
use Rattle.plan_model.specs.Visits.{NodeFault, too_deep, conflict, refused_argument, refused_size, no_possible_type, PlanAnswer, planned_well, faulty, too_large}
use Rattle.plan_model.specs.Operations.{setting_of, root_place, root_position, operation_answer}
use Rattle.acceptance.specs.Refusals.{NamesBreach, NamesVariable, NamesNode}
use Rattle.meta_schema.specs.PassedOn.{asked_operation, kept_below}
use Rattle.schema_facts.specs.Things.{one, the_root}
use Rattle.local_introspection.specs.declared.fault.LocalFault.{LocalFault}
use Rattle.local_introspection.specs.declared.fault.LocalFault.TheVariants.{Mixed, Rule, Variable, Plan, TooLarge as LocalTooLarge, Memory}
use Rattle.local_introspection.specs.declared.walk.Local.{Local}
use Rattle.local_introspection.specs.Counting.{answer_tree}
use Rattle.local_introspection.specs.Answers.{values_in}
use Rattle.local_introspection.specs.Lengths.{IsShort}
use Rattle.local_introspection.proofs.Lengths.{short_and_long}
use Rattle.local_introspection.specs.LocalRequests.{LocalRequest, AsksFor, KeepsRules, Prepared, plan_answer, IsPlannedWell, place_in, nodes_asked, IsTheAnswer, cost_of_response}
use Rattle.local_introspection.specs.LocalAnswers.{IsAnsweredWith, IsRefusedFor}
use Rattle.local_introspection.proofs.OneAnswer.{one_tree}

-- ---- the fault that tells each answer

abbrev breach_fault : Option Breach → RuleFault
breach_fault None = NoRuleMemory
breach_fault (Some breach) = Broken breach.0 breach.1

is_breach : (fault : RuleFault) (first : Option Breach) → NamesBreach fault first → fault ≡ breach_fault first
is_breach (Broken rule at) first is = ap breach_fault (sym is)
is_breach NoRuleMemory first is = absurd is

abbrev pub variable_fault : Option Unvalued → CoerceFault
variable_fault None = NoVariableMemory
variable_fault (Some (missing name)) = Missing name
variable_fault (Some (bad_value path)) = BadValue path
variable_fault (Some (too_large_value name)) = LargeValue name

is_variable : (fault : CoerceFault) → fault ≡ variable_fault (variable_told fault)
is_variable (Missing name) = refl
is_variable (BadValue path) = refl
is_variable (LargeValue name) = refl
is_variable NoVariableMemory = refl

abbrev argument_fault : Unvalued → ArgFault
argument_fault (missing name) = MissingArgument name
argument_fault (bad_value name) = BadArgument name
argument_fault (too_large_value name) = LargeArgument name

abbrev pub node_fault : List ℕ → NodeFault → PlanFault
node_fault at too_deep = TooDeep at
node_fault at conflict = Conflict at
node_fault at (refused_argument refusal) = Argument at (argument_fault refusal)
node_fault at (refused_size fault) = Size at fault
node_fault at no_possible_type = NoPossibleType at

abbrev plan_fault : PlanAnswer → PlanFault
plan_fault planned_well = NoPlanMemory
plan_fault (faulty there) = node_fault (path_text there.0) there.1
plan_fault too_large = TooLarge

is_node : (answer : PlanAnswer) (at : List ℕ) (fault : NodeFault) → IsFaultAt answer at fault → node_fault at fault ≡ plan_fault answer
is_node answer at fault is = ap (λ (text : List ℕ). node_fault text fault) is.1 ∙ ap plan_fault (sym is.2)

is_plan : (fault : PlanFault) (answer : PlanAnswer) → NamesNode fault answer → fault ≡ plan_fault answer
is_plan (Argument at (MissingArgument x)) answer is = is_node answer at (refused_argument (missing x)) is.0
is_plan (Argument at (BadArgument x)) answer is = is_node answer at (refused_argument (bad_value x)) is.0
is_plan (Argument at (LargeArgument x)) answer is = is_node answer at (refused_argument (too_large_value x)) is.0
is_plan (Argument at NoArgumentMemory) answer is = absurd is.0
is_plan (Conflict at) answer is = is_node answer at conflict is.0
is_plan (Size at fault) answer is = is_node answer at (refused_size fault) is.0
is_plan (NoPossibleType at) answer is = is_node answer at no_possible_type is.0
is_plan TooLarge answer is = ap plan_fault (sym is.0)
is_plan (TooDeep at) answer is = is_node answer at too_deep is.0
is_plan NoPlanMemory answer is = absurd (is.1 refl)

-- ---- what is told of an operation, stage by stage. Where the plan is well, nothing but the size of the answer is left.

abbrev by_plan : PlanAnswer → LocalFault
by_plan planned_well = LocalTooLarge
by_plan (faulty there) = Plan (plan_fault (faulty there))
by_plan too_large = Plan TooLarge

-- a plan that is at fault
plan_told : (fault : PlanFault) (answer : PlanAnswer) → NamesNode fault answer → Plan fault ≡ by_plan answer
plan_told fault planned_well is = absurd (is.1 (well_told fault is.0))
  where
    well_told : (f : PlanFault) → IsTold planned_well f → f ≡ NoPlanMemory
    well_told (Argument at (MissingArgument x)) told = absurd (cc)
    well_told (Argument at (BadArgument x)) told = absurd (cc)
    well_told (Argument at (LargeArgument x)) told = absurd (cc)
    well_told (Argument at NoArgumentMemory) told = absurd told
    well_told (Conflict at) told = absurd (cc)
    well_told (Size at why) told = absurd (cc)
    well_told (NoPossibleType at) told = absurd (cc)
    well_told TooLarge told = absurd (cc)
    well_told (TooDeep at) told = absurd (cc)
    well_told NoPlanMemory told = refl
plan_told fault (faulty there) is = ap Plan (is_plan fault (faulty there) is)
plan_told fault too_large is = ap Plan (is_plan fault too_large is)

module _ (r : LocalRequest) (o : Operation) where
  abbrev by_root : List VariableData → Option ℕ → LocalFault
  by_root values None = Memory
  by_root values (Some root) = by_plan (operation_answer (setting_of r.schema r.weights (values_by_name values) r.document o) root o)

  abbrev by_values : Result (List VariableData) Unvalued → LocalFault
  by_values (Ok values) = by_root values (type_of_kind r.schema o.kind)
  by_values (Err refusal) = Variable (variable_fault (Some refusal))

  abbrev by_rules : Option Breach → LocalFault
  by_rules None = by_values (variables_answer r.schema o.variables.items r.given)
  by_rules (Some breach) = Rule (breach_fault (Some breach))

  abbrev told_of : LocalFault
  told_of = by_rules (first_broken r.schema r.document o)

-- what is told once the plan is found
told_of_plan : (r : LocalRequest) (p : Prepared r) → by_plan (plan_answer r p) ≡ told_of r p.operation
told_of_plan r p =
    ap (by_root r p.operation p.values) (sym p.on_root) ∙ ap (by_values r p.operation) (sym p.are_values) ∙ ap (by_rules r p.operation) (sym p.keeps.1)

told_well : (r : LocalRequest) (p : Prepared r) → IsPlannedWell r p → LocalTooLarge ≡ told_of r p.operation
told_well r p well = ap by_plan (sym well) ∙ told_of_plan r p

rule_told : (r : LocalRequest) (o : Operation) (fault : RuleFault) (first : Option Breach) → NamesBreach fault first → Rule fault ≡ by_rules r o first
rule_told r o fault (Some breach) is = ap Rule (is_breach fault (Some breach) is)
rule_told r o (Broken rule at) None is = absurd (cc)
rule_told r o NoRuleMemory None is = absurd is

variable_told_by : (r : LocalRequest) (o : Operation) (fault : CoerceFault) → KeepsRules r o → NamesVariable fault (variables_answer r.schema o.variables.items r.given) → Variable fault ≡ told_of r o
variable_told_by r o fault keeps is =
    ap Variable (is_variable fault ∙ ap variable_fault is.1) ∙ ap (by_values r o) (sym is.2) ∙ ap (by_rules r o) (sym keeps.1)

abbrev pub IsToldOfIt : LocalRequest → LocalFault → Type 0
IsToldOfIt r fault = (o : Operation) × AsksFor r o × (fault ≡ told_of r o)

-- what is told by the class of the operation
abbrev pub IsToldOfClass : LocalRequest → LocalFault → Type 0
IsToldOfClass r fault = (at : ℕ) × (class_at r.document r.place ≡ MixedClass at) × (fault ≡ Mixed at)

pub is_told : (r : LocalRequest) (fault : LocalFault) → fault ≢ Memory → IsRefusedFor r fault → IsToldOfClass r fault ⊎ IsToldOfIt r fault
is_told r (Mixed at) is_one refused = inl (at, refused, refl)
is_told r (Rule fault) is_one refused = inr (refused.0, refused.1, rule_told r refused.0 fault (first_broken r.schema r.document refused.0) refused.2)
is_told r (Variable fault) is_one refused = inr (refused.0, refused.1.0, variable_told_by r refused.0 fault refused.1 refused.2)
is_told r (Plan fault) is_one refused = inr (refused.0.operation, refused.0.keeps.0, plan_told fault (plan_answer r refused.0) refused.1 ∙ told_of_plan r refused.0)
is_told r LocalTooLarge is_one refused = inr (refused.0.operation, refused.0.keeps.0, told_well r refused.0 refused.1)
is_told r Memory is_one refused = absurd (is_one refl)

one_place : (at place : ℕ) → MixedClass at ≡ MixedClass place → at ≡ place
one_place at place same = cc

apart : (at : ℕ) → LocalClass ≡ MixedClass at → ⊥
apart at same = absurd (cc)

-- ---- one operation, with one root and one list of values

same_operation : (r : LocalRequest) (o p : Operation) → AsksFor r o → AsksFor r p → o ≡ p
same_operation r o p asks other = same_Some o p (sym asks.0 ∙ other.0)

same_values : (xs ys : List VariableData) → ◌≡◌ {A = Result (List VariableData) Unvalued} (Ok xs) (Ok ys) → xs ≡ ys
same_values xs ys same = cc

alike : {A : Type 0} (r : LocalRequest) (F : Operation → ℕ → List VariableData → A) (p q : Prepared r) → F p.operation p.root p.values ≡ F q.operation q.root q.values
alike r F p q =
    let same = same_operation r p.operation q.operation p.keeps.0 q.keeps.0 in
    let root = same_Some p.root q.root (sym p.on_root ∙ ap (λ (o : Operation). type_of_kind r.schema o.kind) same ∙ q.on_root) in
    let values = same_values p.values q.values (sym p.are_values ∙ ap (λ (o : Operation). variables_answer r.schema o.variables.items r.given) same ∙ q.are_values) in
    ap (λ (o : Operation). F o p.root p.values) same ∙ ap (λ (n : ℕ). F q.operation n p.values) root ∙ ap (λ (vs : List VariableData). F q.operation q.root vs) values

-- ---- one tree, with one cost

module _ (r : LocalRequest) (p q : Prepared r) where
  abbrev setting_by : Operation → List VariableData → Setting
  setting_by o values = setting_of r.schema r.weights (values_by_name values) r.document o

  same_nodes : nodes_asked r p ≡ nodes_asked r q
  same_nodes = alike r (λ o root values. kept_below (place_in r.facts) (asked_operation (setting_by o values) root o)) p q

  same_tree : (t other : Tree) → IsTheAnswer r p t → IsTheAnswer r q other → t ≡ other
  same_tree t other is too =
      one_tree r.facts (one the_root) (nodes_asked r p) t is.given ∙ ap (answer_tree r.facts) same_nodes ∙ sym (one_tree r.facts (one the_root) (nodes_asked r q) other too.given)

  same_cost : (t other : Tree) (part : Part) → IsTheAnswer r p t → IsTheAnswer r q other → cost_of_response r p t part ≡ cost_of_response r q other part
  same_cost t other part is too =
      alike r (λ o root values. response_cost (setting_by o values) part (root_place root) (root_position root o) t) p q ∙ ap (λ (x : Tree). cost_of_response r q x part) (same_tree t other is too)

-- ---- the verdict

pub costs_that : (r : LocalRequest) (local : Local) (p : Prepared r) (t : Tree) → IsAnsweredWith r local → IsTheAnswer r p t
    → (local.cost.types ≡ cost_of_response r p t types) × (local.cost.fields ≡ cost_of_response r p t fields)
costs_that r local p t (q, well, other, is, written) too =
    (written.of_types ∙ same_cost r q p other t types is too, written.of_fields ∙ same_cost r q p other t fields is too)

pub one_answer : (r : LocalRequest) (local other : Local) → IsAnsweredWith r local → IsAnsweredWith r other → (local.text ≡ other.text) × (local.cost ≡ other.cost)
one_answer r local other (p, well, t, is, written) (q, also, u, too, wrote) = (
  written.text ∙ ap (λ (x : Tree). response_text (Some x) []) (same_tree r p q t u is too) ∙ sym wrote.text,
  cost_eq local.cost other.cost (written.of_types ∙ same_cost r p q t u types is too ∙ sym wrote.of_types) (written.of_fields ∙ same_cost r p q t u fields is too ∙ sym wrote.of_fields),
)

same_told : (r : LocalRequest) (fault other : LocalFault) → IsToldOfClass r fault ⊎ IsToldOfIt r fault → IsToldOfClass r other ⊎ IsToldOfIt r other → fault ≡ other
same_told r fault other (inl (at, mixed, is)) (inl (place, too, also)) = is ∙ ap Mixed (one_place at place (sym mixed ∙ too)) ∙ sym also
same_told r fault other (inl (at, mixed, is)) (inr (o, asks, also)) = absurd (apart at (sym asks.1 ∙ mixed))
same_told r fault other (inr (o, asks, is)) (inl (place, too, also)) = absurd (apart place (sym asks.1 ∙ too))
same_told r fault other (inr (o, asks, is)) (inr (p, too, also)) = is ∙ ap (told_of r) (same_operation r o p asks too) ∙ sym also

pub one_refusal : (r : LocalRequest) (fault other : LocalFault) → fault ≢ Memory → other ≢ Memory → IsRefusedFor r fault → IsRefusedFor r other → fault ≡ other
one_refusal r fault other is_one too refused also = same_told r fault other (is_told r fault is_one refused) (is_told r other too also)

not_too_large : (r : LocalRequest) (local : Local) → IsAnsweredWith r local → IsRefusedFor r LocalTooLarge → ⊥
not_too_large r local (p, well, t, is, written) (q, also, u, too, inl many) =
    let fewer : values_in u ≤ 1000000 = subst (λ (x : Tree). values_in x ≤ 1000000) (same_tree r p q t u is too) written.few in
    omega (arith, fewer, many)
not_too_large r local (p, well, t, is, written) (q, also, u, too, inr long) =
    short_and_long r.most (response_text (Some u) []) (subst (λ (x : Tree). IsShort r.most (response_text (Some x) [])) (same_tree r p q t u is too) written.short) long

pub not_both : (r : LocalRequest) (local : Local) (fault : LocalFault) → fault ≢ Memory → IsAnsweredWith r local → IsRefusedFor r fault → ⊥
not_both r local fault is_one answered refused =
    let large : IsToldOfIt r LocalTooLarge = (answered.0.operation, answered.0.keeps.0, told_well r answered.0 answered.1) in
    let same = same_told r fault LocalTooLarge (is_told r fault is_one refused) (inr large) in
    not_too_large r local answered (subst (IsRefusedFor r) same refused)
