-- Each request is refused, or its operation has a bound within the cap.
use Rattle.std.proofs.Common.{◌≡◌, ◌≤◌, ◌<◌, ◌⊎◌, inl, inr, ℕ, List, true, false, Option, None, Some, Result, Ok, Err, refl, sym, subst, arith}
use Rattle.std.specs.Prelude.{◌≢◌, ◌↔◌, IsTrue, ◌&&◌, not, is_some}
use Rattle.std.proofs.lemmas.Bool.{cases_lt}
use Rattle.cost_num.specs.declared.TheConstants.{CAP}
use Rattle.cost_num.specs.declared.Cost.{Cost}
use Rattle.response_model.specs.Cost.{Part, types, fields}
use Rattle.response_model.specs.Bound.{IsBound, greatest_cost}
use Rattle.gql_base.specs.declared.parts.trees.OperationKind.{OperationKind}
use Rattle.gql_base.specs.declared.parts.trees.OperationKind.TheVariants.{Query, Mutation, Subscription}
use Rattle.document_reader.specs.declared.trees.Operation.{Operation}
use Rattle.document_reader.specs.declared.picking.PickFault.{PickFault}
use Rattle.document_reader.specs.Picking.{picked}
use Rattle.schema_rules.specs.First.{or_else, fault_where}
use Rattle.schema_rules.proofs.FirstFaults.{neither}
use Rattle.schema_model.specs.SchemaData.{SchemaData}
use Rattle.document_rules.specs.declared.rule.Rule.TheVariants.{RepeatedName, LoneAnonymous, Subscription as SubscriptionRule, NoRoot}
use Rattle.document_rules.specs.declared.rule.Rule.{Rule as RuleName}
use Rattle.document_rules.specs.declared.rule.RuleFault.TheVariants.{Broken}
use Rattle.document_rules.specs.Parts.{operation_at}
use Rattle.document_rules.specs.Sites.{type_of_kind}
use Rattle.document_rules.specs.Rules.{repeated_name, lone_anonymous, is_subscription, subscription, is_mutation, no_root}
use Rattle.document_rules.specs.Checking.{Breach, breach, breach_before_parts, breach_of_parts, fragments_in, reached_by, first_broken}
use Rattle.variable_coercion.specs.declared.faults.CoerceFault.{CoerceFault}
use Rattle.variable_coercion.specs.declared.faults.CoerceFault.TheVariants.{Missing, BadValue, TooLarge as LargeValue}
use Rattle.variable_coercion.specs.declared.faults.ArgFault.{ArgFault}
use Rattle.variable_coercion.specs.declared.faults.ArgFault.TheVariants.{Missing as MissingArgument, BadValue as BadArgument, TooLarge as LargeArgument}
use Rattle.variable_coercion.specs.Refusals.{Refusal as Unvalued, missing, bad_value, too_large as too_large_value}
use Rattle.variable_coercion.specs.Variables.{VariableData, variables_answer}
use Rattle.variable_coercion.specs.Calls.{variable_told, argument_told}
use Rattle.merged_selections.specs.declared.fault.PlanFault.{PlanFault}
use Rattle.merged_selections.specs.declared.fault.PlanFault.TheVariants.{Argument, Conflict, Size, NoPossibleType, TooLarge, TooDeep, Memory as NoPlanMemory}
use Rattle.merged_selections.specs.Faults.{path_text, IsTold}
use Rattle.plan_model.specs.SelectedFields.{holds}
use Rattle.plan_model.specs.Visits.{NodeFault, too_deep, conflict, refused_argument, refused_size, no_possible_type, PlanAnswer, planned_well, faulty, too_large}
use Rattle.acceptance.specs.declared.fault.Refusal.{Refusal}
use Rattle.acceptance.specs.declared.fault.Refusal.TheVariants.{Pick, Rule, Variable, Plan as NoPlan, Bound}
use Rattle.acceptance.specs.Requests.{RequestData, IsOfSchema, AsksFor, KeepsRules, Prepared, plan_answer, plan_tree}
use Rattle.acceptance.specs.Bounds.{ExceedsCap, IsAffordable}
use Rattle.acceptance.specs.Refusals.{NamesNode, IsRefusedFor}
use Rattle.acceptance.proofs.Picked.{picked_stands}
use Rattle.acceptance.proofs.Stages.{the_some}
use Rattle.acceptance.proofs.Costs.{PlanLaws, is_sound, bound_for, exceeds_for}

abbrev Verdict : RequestData → Type 0
Verdict r = ((refusal : Refusal) × IsRefusedFor r refusal) ⊎ ((cost : Cost) × IsAffordable r cost)

-- ---- costs

holds_then : {P : Type 0} → P → IsTrue true ↔ P
holds_then p = (λ is. p, λ p. refl)

fails_then : {P : Type 0} → (P → ⊥) → IsTrue false ↔ P
fails_then never = (λ is. absurd (differ is), λ p. absurd (never p))
  where
    differ : false ≡ true → ⊥
    differ same = cc

module _ (laws : PlanLaws) (r : RequestData) (of : IsOfSchema r) (p : Prepared r) (well : plan_answer r p ≡ planned_well) where
  abbrev greatest : Part → ℕ
  greatest part = greatest_cost part (plan_tree r p)

  is_bound : (part : Part) → IsBound (holds r.schema) part (plan_tree r p) (greatest part)
  is_bound part = laws.greatest (holds r.schema) part (plan_tree r p) (is_sound laws r p well of)

  exceeds : (part : Part) → CAP < greatest part → ExceedsCap r p part
  exceeds part over =
      let bound = is_bound part in
      (exceeds_for laws r p part well).0 (bound.attained.0, bound.attained.1, omega (arith, over, bound.attained.2))

  exceeds_not : (part : Part) → greatest part ≤ CAP → ExceedsCap r p part → ⊥
  exceeds_not part within exceeds =
      let some = (exceeds_for laws r p part well).1 exceeds in omega (arith, (is_bound part).upper some.0 some.1, some.2, within)

  by_costs : (CAP < greatest types) ⊎ (greatest types ≤ CAP) → (CAP < greatest fields) ⊎ (greatest fields ≤ CAP) → Verdict r
  by_costs (inl over) (inl over_too) = inl (
    Bound record { types = true; fields = true },
    (
      p,
      well,
      record {
        of_types = holds_then (exceeds types over);
        of_fields = holds_then (exceeds fields over_too);
        some = inl refl;
      },
    ),
  )
  by_costs (inl over) (inr within) = inl (
    Bound record { types = true; fields = false },
    (
      p,
      well,
      record {
        of_types = holds_then (exceeds types over);
        of_fields = fails_then (exceeds_not fields within);
        some = inl refl;
      },
    ),
  )
  by_costs (inr within) (inl over) = inl (
    Bound record { types = false; fields = true },
    (
      p,
      well,
      record {
        of_types = fails_then (exceeds_not types within);
        of_fields = holds_then (exceeds fields over);
        some = inr refl;
      },
    ),
  )
  by_costs (inr within) (inr within_too) = inr (
    record { types = greatest types; fields = greatest fields },
    (
      p,
      well,
      record {
        of_types = bound_for laws r p types (greatest types) well of within (is_bound types);
        of_fields = bound_for laws r p fields (greatest fields) well of within_too (is_bound fields);
        types_within = within;
        fields_within = within_too;
      },
    ),
  )

-- ---- plans

abbrev argument_fault : Unvalued → ArgFault
argument_fault (missing name) = MissingArgument name
argument_fault (bad_value path) = BadArgument path
argument_fault (too_large_value name) = LargeArgument name

argument_named : (refusal : Unvalued) → argument_told (argument_fault refusal) ≡ Some refusal
argument_named (missing name) = refl
argument_named (bad_value path) = refl
argument_named (too_large_value name) = refl

abbrev node_fault : List (List ℕ) → NodeFault → PlanFault
node_fault path too_deep = TooDeep (path_text path)
node_fault path conflict = Conflict (path_text path)
node_fault path (refused_argument refusal) = Argument (path_text path) (argument_fault refusal)
node_fault path (refused_size fault) = Size (path_text path) fault
node_fault path no_possible_type = NoPossibleType (path_text path)

of_memory : (path : List (List ℕ)) (fault : NodeFault) → node_fault path fault ≢ NoPlanMemory
of_memory path too_deep same = absurd (cc)
of_memory path conflict same = absurd (cc)
of_memory path (refused_argument refusal) same = absurd (cc)
of_memory path (refused_size fault) same = absurd (cc)
of_memory path no_possible_type same = absurd (cc)

node_told : (path : List (List ℕ)) (fault : NodeFault) → IsTold (faulty (path, fault)) (node_fault path fault)
node_told path too_deep = (path, refl, refl)
node_told path conflict = (path, refl, refl)
node_told path (refused_argument (missing name)) = (path, refl, refl)
node_told path (refused_argument (bad_value at)) = (path, refl, refl)
node_told path (refused_argument (too_large_value name)) = (path, refl, refl)
node_told path (refused_size fault) = (path, refl, refl)
node_told path no_possible_type = (path, refl, refl)

large_apart : TooLarge ≢ NoPlanMemory
large_apart same = absurd (cc)

by_plan : PlanLaws → (r : RequestData) → IsOfSchema r → (p : Prepared r) (answer : PlanAnswer) → plan_answer r p ≡ answer → Verdict r
by_plan laws r of p planned_well well = by_costs laws r of p well (cases_lt CAP (greatest_cost types (plan_tree r p))) (cases_lt CAP (greatest_cost fields (plan_tree r p)))
by_plan laws r of p (faulty (path, fault)) is = inl (NoPlan (node_fault path fault), (p, subst (NamesNode (node_fault path fault)) (sym is) (node_told path fault, of_memory path fault)))
by_plan laws r of p too_large is = inl (NoPlan TooLarge, (p, (is, large_apart)))

-- ---- rules and values

abbrev variable_fault : Unvalued → CoerceFault
variable_fault (missing name) = Missing name
variable_fault (bad_value path) = BadValue path
variable_fault (too_large_value name) = LargeValue name

variable_named : (refusal : Unvalued) → variable_told (variable_fault refusal) ≡ Some refusal
variable_named (missing name) = refl
variable_named (bad_value path) = refl
variable_named (too_large_value name) = refl

keeps_rule : (rule : RuleName) (found : Option ℕ) → breach rule found ≡ None → found ≡ None
keeps_rule rule None none = refl
keeps_rule rule (Some at) none = absurd (cc)

root_there : (s : SchemaData) (kind : OperationKind) (at : ℕ) → fault_where (is_subscription kind) at ≡ None → fault_where (is_mutation kind && not (is_some s.mutation)) at ≡ None → (root : ℕ) × (type_of_kind s kind ≡ Some root)
root_there s Query at none rooted = (s.query, refl)
root_there s Mutation at none rooted = of_mutation s.mutation refl rooted
  where
    of_mutation : (root : Option ℕ) → s.mutation ≡ root → fault_where (not (is_some root)) at ≡ None → (number : ℕ) × (s.mutation ≡ Some number)
    of_mutation None is rooted = absurd (cc)
    of_mutation (Some number) is rooted = (number, is)
root_there s Subscription at none rooted = absurd (cc)

kept_root : (r : RequestData) (o : Operation) → first_broken r.schema r.document o ≡ None → (root : ℕ) × (type_of_kind r.schema o.kind ≡ Some root)
kept_root r o none =
    let last : Option Breach = or_else (breach SubscriptionRule (subscription o)) (breach NoRoot (no_root r.schema o)) in
    let before = neither (breach_before_parts r.schema r.document o) (breach_of_parts r.schema (fragments_in r.document) o (reached_by r.document o)) none in
    let named = neither (breach RepeatedName (repeated_name r.document)) (or_else (breach LoneAnonymous (lone_anonymous r.document)) last) before.0 in
    let alone = neither (breach LoneAnonymous (lone_anonymous r.document)) last named.1 in
    let kinds = neither (breach SubscriptionRule (subscription o)) (breach NoRoot (no_root r.schema o)) alone.1 in
    root_there r.schema o.kind o.at (keeps_rule SubscriptionRule (subscription o) kinds.0) (keeps_rule NoRoot (no_root r.schema o) kinds.1)

by_values : PlanLaws → (r : RequestData) → IsOfSchema r → (o : Operation) → KeepsRules r o → (answer : Result (List VariableData) Unvalued) → variables_answer r.schema o.variables.items r.given ≡ answer → Verdict r
by_values laws r of o keeps (Ok values) is = by_plan laws r of prepared (plan_answer r prepared) refl
  where
    prepared : Prepared r
    prepared = let root = kept_root r o keeps.1 in record { operation = o; root = root.0; values = values; keeps = keeps; on_root = root.1; are_values = is }
by_values laws r of o keeps (Err refusal) is = inl (Variable (variable_fault refusal), (o, keeps, (refusal, variable_named refusal, is)))

by_rules : PlanLaws → (r : RequestData) → IsOfSchema r → (o : Operation) → AsksFor r o → (first : Option Breach) → first_broken r.schema r.document o ≡ first → Verdict r
by_rules laws r of o asks None is = by_values laws r of o (asks, is) (variables_answer r.schema o.variables.items r.given) refl
by_rules laws r of o asks (Some (rule, at)) is = inl (Rule (Broken rule at), (o, asks, is))

by_pick : PlanLaws → (r : RequestData) → IsOfSchema r → (found : Result ℕ PickFault) → picked r.name r.document ≡ found → Verdict r
by_pick laws r of (Ok place) is =
    let o = the_some (operation_at r.document place) (picked_stands r.name r.document place is) in
    by_rules laws r of o.0 (place, is, o.1) (first_broken r.schema r.document o.0) refl
by_pick laws r of (Err fault) is = inl (Pick fault, is)

pub has_verdict : PlanLaws → (r : RequestData) → IsOfSchema r → Verdict r
has_verdict laws r of = by_pick laws r of (picked r.name r.document) refl
