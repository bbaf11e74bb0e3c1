-- The one answer fits the operation over the schema of schemas, and costs what it costs as a response.
use Rattle.std.proofs.Common.{◌≡◌, ◌∙◌, ◌≤◌, ◌*◌, ℕ, List, Option, true, sym, ap, subst, arith}
use Rattle.cost_num.specs.declared.TheConstants.{UNIT, CAP}
use Rattle.cost_num.specs.Capped.{capped}
use Rattle.response_model.specs.Plan.{Form, single}
use Rattle.response_model.specs.Response.{Tree}
use Rattle.response_model.specs.Cost.{Part, cost}
use Rattle.document_reader.specs.declared.trees.Operation.{Operation}
use Rattle.plan_model.specs.SelectedFields.{Setting, holds}
use Rattle.plan_model.specs.Responses.{FitsSelections, response_cost}
use Rattle.plan_model.specs.Operations.{root_place, root_position, IsPlannedWell}
use Rattle.schema_facts.specs.Facts.{FactsData}
use Rattle.schema_facts.specs.Things.{the_root}
use Rattle.meta_schema.specs.PassedOn.{AskedNodes, asked_operation, plan_in, FitsAsAsked, CostsAsAsked, kept_below}
use Rattle.meta_schema.specs.MetaFields.{HasMetaForm}
use Rattle.local_introspection.specs.Answers.{values_in}
use Rattle.local_introspection.specs.Counting.{answer_tree, answer_cost}
use Rattle.local_introspection.proofs.Fitting.{root_fits, root_costs}
use Rattle.local_introspection.proofs.MetaAsked.{root_is_meta}
use Rattle.local_introspection.proofs.MetaLeaves.{said_of_leaves}
use Rattle.local_introspection.proofs.Most.{answer_at_most}

-- what holds of what an operation asks and its responses
pub record AskLaws : Type 0 where
  pub fit : (e : Setting) (root : ℕ) (o : Operation) (form : Form) (t : Tree) → FitsAsAsked e root o form t
  pub costs : (e : Setting) (root : ℕ) (o : Operation) (part : Part) (form : Form) (t : Tree) → CostsAsAsked e root o part form t

same_below_cap : (c r : ℕ) → c ≤ CAP → capped c ≡ capped r → r ≡ c
same_below_cap c r within is = omega arith

few_cost_little : (c values : ℕ) → c ≤ UNIT * values → values ≤ 1000000 → c ≤ CAP
few_cost_little c values each few = omega arith

module _ (laws : AskLaws) (f : FactsData) (e : Setting) (meta : HasMetaForm f.query_name e) (place : List ℕ → Option ℕ) (o : Operation) where
  abbrev nodes_at : ℕ → AskedNodes
  nodes_at root = kept_below place (asked_operation e root o)

  abbrev Fits : ℕ → Type 0
  Fits root = FitsSelections e (single true) (root_place root) (root_position root o) (answer_tree f (nodes_at root))

  abbrev Costs : ℕ → Part → Type 0
  Costs root part = response_cost e part (root_place root) (root_position root o) (answer_tree f (nodes_at root)) ≡ answer_cost f (nodes_at root) part

  at_root : IsPlannedWell e 0 o → Fits 0
  at_root well = (laws.fit e 0 o (single true) (answer_tree f (nodes_at 0)) meta.one_type well).1 (root_fits f place (holds e.schema) (said_of_leaves f.query_name e meta) (asked_operation e 0 o) (root_is_meta f.query_name e meta place o well))

  pub answer_fits : (root : ℕ) → root ≡ 0 → IsPlannedWell e root o → Fits root
  answer_fits root is well = subst Fits (sym is) (at_root (subst (λ (n : ℕ). IsPlannedWell e n o) is well))

  cost_at_root : (part : Part) → IsPlannedWell e 0 o → values_in (answer_tree f (nodes_at 0)) ≤ 1000000 → Costs 0 part
  cost_at_root part well few =
      let own : cost part (plan_in (asked_operation e 0 o)) (answer_tree f (nodes_at 0)) ≡ answer_cost f (nodes_at 0) part = root_costs f place part (asked_operation e 0 o) (root_is_meta f.query_name e meta place o well) in
      same_below_cap (answer_cost f (nodes_at 0) part) (response_cost e part (root_place 0) (root_position 0 o) (answer_tree f (nodes_at 0)))
      (few_cost_little (answer_cost f (nodes_at 0) part) (values_in (answer_tree f (nodes_at 0))) (answer_at_most f part (nodes_at 0) the_root) few)
      (ap capped (sym own) ∙ laws.costs e 0 o part (single true) (answer_tree f (nodes_at 0)) meta.one_type well (at_root well))

  pub answer_costs : (root : ℕ) → root ≡ 0 → (part : Part) → IsPlannedWell e root o → values_in (answer_tree f (nodes_at root)) ≤ 1000000 → Costs root part
  answer_costs root is part well few =
      subst (λ (n : ℕ). Costs n part) (sym is) (cost_at_root part (subst (λ (n : ℕ). IsPlannedWell e n o) is well) (subst (λ (n : ℕ). values_in (answer_tree f (nodes_at n)) ≤ 1000000) is few))
