-- Each request whose operation the gateway answers has a verdict.
use Rattle.std.proofs.Common.{◌≡◌, ◌⊎◌, ℕ, List, inl, inr, Option, None, Some, Result, Ok, Err, refl, sym, ap, subst, ◌∙◌}
use Rattle.std.specs.Prelude.{◌≢◌}
use Rattle.std.proofs.lemmas.Bool.{cases_lt}
use Rattle.serde_json.specs.Data.{Data}
use Rattle.response_model.specs.Response.{Tree}
use Rattle.cost_num.specs.declared.Cost.{Cost}
use Rattle.response_model.specs.Cost.{types, fields}
use Rattle.document_reader.specs.declared.trees.Definition.{Definition}
use Rattle.document_reader.specs.declared.trees.Operation.{Operation}
use Rattle.operation_class.specs.declared.classes.Class.{Class}
use Rattle.operation_class.specs.declared.classes.Class.TheVariants.{Upstream, Local as LocalClass, Mixed as MixedClass}
use Rattle.operation_class.specs.Classes.{class_at}
use Rattle.document_rules.specs.declared.rule.RuleFault.TheVariants.{Broken}
use Rattle.document_rules.specs.Sites.{type_of_kind}
use Rattle.document_rules.specs.Checking.{Breach, first_broken}
use Rattle.variable_coercion.specs.Refusals.{Refusal as Unvalued, missing, bad_value, too_large as too_large_value}
use Rattle.variable_coercion.specs.Variables.{VariableData, variables_answer}
use Rattle.variable_coercion.specs.Calls.{variable_told}
use Rattle.acceptance.specs.PassedOn.{TooLarge, Memory as NoPlanMemory, path_text, IsTold}
use Rattle.plan_model.specs.Visits.{NodeFault, too_deep, conflict, refused_argument, refused_size, no_possible_type, PlanAnswer, planned_well, faulty, too_large}
use Rattle.acceptance.specs.Refusals.{NamesNode}
use Rattle.meta_schema.specs.PassedOn.{AskedNodes}
use Rattle.local_introspection.specs.declared.facts.Facts.{Facts}
use Rattle.local_introspection.specs.declared.fault.LocalFault.{LocalFault}
use Rattle.local_introspection.specs.declared.fault.LocalFault.TheVariants.{Mixed, Rule, Variable, Plan, TooLarge as LocalTooLarge, Memory}
use Rattle.local_introspection.specs.declared.walk.Local.{Local}
use Rattle.local_introspection.specs.Answers.{values_in}
use Rattle.local_introspection.proofs.Lengths.{short_or_long}
use Rattle.local_introspection.specs.Walking.{answer_text}
use Rattle.local_introspection.specs.Counting.{answer_tree, answer_cost}
use Rattle.local_introspection.specs.LocalRequests.{LocalRequest, local_request, AsksFor, KeepsRules, Prepared, plan_answer, IsPlannedWell, nodes_asked}
use Rattle.local_introspection.specs.LocalAnswers.{IsRefusedFor, HasVerdict}
use Rattle.local_introspection.proofs.OverMeta.{AskLaws}
use Rattle.local_introspection.proofs.Stages.{there_is_one, query_asked}
use Rattle.local_introspection.proofs.OneVerdict.{variable_fault, node_fault, IsToldOfClass, IsToldOfIt, is_told}
use Rattle.local_introspection.proofs.PreparedAnswers.{HaveTheirForms, is_written, is_too_large}

-- ---- the faults of variables and nodes

variable_named : (refusal : Unvalued) → variable_told (variable_fault (Some refusal)) ≡ Some refusal
variable_named (missing name) = refl
variable_named (bad_value path) = refl
variable_named (too_large_value name) = refl

node_told : (path : List (List ℕ)) (fault : NodeFault) → IsTold (faulty (path, fault)) (node_fault (path_text path) fault)
node_told path too_deep = (path, refl, refl)
node_told path conflict = (path, refl, refl)
node_told path (refused_argument (missing name)) = (path, refl, refl)
node_told path (refused_argument (bad_value at)) = (path, refl, refl)
node_told path (refused_argument (too_large_value name)) = (path, refl, refl)
node_told path (refused_size fault) = (path, refl, refl)
node_told path no_possible_type = (path, refl, refl)

of_memory : (at : List ℕ) (fault : NodeFault) → node_fault at fault ≢ NoPlanMemory
of_memory at too_deep same = absurd (cc)
of_memory at conflict same = absurd (cc)
of_memory at (refused_argument refusal) same = absurd (cc)
of_memory at (refused_size fault) same = absurd (cc)
of_memory at no_possible_type same = absurd (cc)

large_apart : TooLarge ≢ NoPlanMemory
large_apart same = absurd (cc)

-- ---- a refusal is none of memory

refused : (r : LocalRequest) (fault : LocalFault) → fault ≢ Memory → IsRefusedFor r fault → HasVerdict r
refused r fault other is = inr (fault, other, is)

-- ---- the answer, as large as it is

module _ (laws : AskLaws) (forms : HaveTheirForms) (facts : Facts) (document : List Definition) (place : ℕ) (given : Data) where
  abbrev r : LocalRequest
  r = local_request facts document place given

  by_size : (p : Prepared r) → IsPlannedWell r p → HasVerdict r
  by_size p well =
      let nodes : AskedNodes = nodes_asked r p in
      let tree : Tree = answer_tree r.facts nodes in
      elim (cases_lt 1000000 (values_in tree)) [
        | inl many ↦ refused r LocalTooLarge (λ same. absurd (cc)) (is_too_large laws forms facts document place given p well (inl many))
        | inr few ↦
            let cost : Cost = record { types = answer_cost r.facts nodes types; fields = answer_cost r.facts nodes fields } in
            let local : Local = record { cost = cost; text = answer_text r.facts nodes } in
            elim (short_or_long r.most (answer_text r.facts nodes)) [
              | inl short ↦ inl (local, is_written laws forms facts document place given p well cost (few, refl, refl) short)
              | inr long ↦ refused r LocalTooLarge (λ same. absurd (cc)) (is_too_large laws forms facts document place given p well (inr long))
            ]
      ]

  by_plan : (p : Prepared r) (answer : PlanAnswer) → plan_answer r p ≡ answer → HasVerdict r
  by_plan p planned_well is = by_size p is
  by_plan p (faulty (path, fault)) is =
      refused r (Plan (node_fault (path_text path) fault)) (λ same. absurd (cc)) (p, subst (NamesNode (node_fault (path_text path) fault)) (sym is) (node_told path fault, of_memory (path_text path) fault))
  by_plan p too_large is = refused r (Plan TooLarge) (λ same. absurd (cc)) (p, (is, large_apart))

  by_values : (o : Operation) → KeepsRules r o → (answer : Result (List VariableData) Unvalued) → variables_answer r.schema o.variables.items r.given ≡ answer → HasVerdict r
  by_values o keeps (Ok values) is = by_plan p (plan_answer r p) refl
    where
      p : Prepared r
      p = record { operation = o; root = r.schema.query; values = values; keeps = keeps; on_root = ap (type_of_kind r.schema) (query_asked r o keeps.0); are_values = is }
  by_values o keeps (Err refusal) is = refused r (Variable (variable_fault (Some refusal))) (λ same. absurd (cc)) (o, keeps, (refusal, variable_named refusal, is))

  by_rules : (o : Operation) → AsksFor r o → (first : Option Breach) → first_broken r.schema r.document o ≡ first → HasVerdict r
  by_rules o asks None is = by_values o (asks, is) (variables_answer r.schema o.variables.items r.given) refl
  by_rules o asks (Some (rule, at)) is = refused r (Rule (Broken rule at)) (λ same. absurd (cc)) (o, asks, is)

  by_class : (c : Class) → class_at document place ≡ c → c ≢ Upstream → HasVerdict r
  by_class Upstream is other = absurd (other refl)
  by_class LocalClass is other = let there = there_is_one r is in by_rules there.0 there.1 (first_broken r.schema r.document there.0) refl
  by_class (MixedClass at) is other = refused r (Mixed at) (λ same. absurd (cc)) is

  pub has_verdict : class_at document place ≢ Upstream → HasVerdict r
  has_verdict other = by_class (class_at document place) refl other

-- ---- an operation of the upstream has none

module _ (r : LocalRequest) (upstream : class_at r.document r.place ≡ Upstream) where
  apart : (c : Class) → class_at r.document r.place ≡ c → c ≢ Upstream → ⊥
  apart c is other = other (sym is ∙ upstream)

  pub no_verdict : HasVerdict r → ⊥
  no_verdict (inl (local, answered)) = apart LocalClass answered.0.keeps.0.1 (λ same. absurd (cc))
  no_verdict (inr (fault, other, refused)) = by_fault (is_told r fault other refused)
    where
      by_fault : IsToldOfClass r fault ⊎ IsToldOfIt r fault → ⊥
      by_fault (inl (at, mixed, is)) = apart (MixedClass at) mixed (λ same. absurd (cc))
      by_fault (inr (o, asks, is)) = apart LocalClass asks.1 (λ same. absurd (cc))
