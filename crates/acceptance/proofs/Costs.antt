-- What a plan's bound says of the operation.
use Rattle.std.proofs.Common.{◌≡◌, ◌≤◌, ◌<◌, ◌+◌, inl, inr, ℕ, Option, None, Bool, true, sym, subst, arith}
use Rattle.std.specs.Prelude.{◌↔◌}
use Rattle.std.proofs.lemmas.Bool.{cases_lt}
use Rattle.cost_num.specs.declared.TheConstants.{CAP}
use Rattle.cost_num.specs.declared.Cost.{Cost}
use Rattle.cost_num.specs.Capped.{capped}
use Rattle.cost_num.proofs.CappedSums.{capped_over, capped_same}
use Rattle.serde_json.specs.Data.{Data}
use Rattle.document_reader.specs.declared.trees.Operation.{Operation}
use Rattle.response_model.specs.Plan.{Form, single, Plan as PlanTree}
use Rattle.response_model.specs.Response.{Tree, Fits, SizesKept}
use Rattle.response_model.specs.Cost.{Part, types, fields, cost}
use Rattle.response_model.specs.Bound.{IsBound, IsSound, Exceeds, greatest_cost}
use Rattle.schema_model.specs.SchemaViews.{schema_data}
use Rattle.plan_model.specs.SelectedFields.{Setting, Place, holds}
use Rattle.plan_model.specs.Merging.{Position}
use Rattle.plan_model.specs.Plans.{IsPlan}
use Rattle.plan_model.specs.Responses.{FitsSelections, KeepsSizes, response_cost}
use Rattle.plan_model.specs.Sound.{IsOfSchema as IsSettingOf}
use Rattle.plan_model.specs.Visits.{planned_well}
use Rattle.plan_model.specs.Operations.{operation_answer, planned_operation, root_place, root_position, IsOperationPlan, IsOperationBound}
use Rattle.static_cost.specs.PassedOn.{Plan, holds_in, IsWithinCap, IsCostBound}
use Rattle.static_cost.specs.declared.too_costly.TooCostly.{TooCostly}
use Rattle.static_cost.specs.CostBound.{IsWithin, NamesExceedingIn}
use Rattle.static_cost.specs.TableBound.{IsTableBound, NamesExceedingOf}
use Rattle.acceptance.specs.Requests.{RequestData, IsOfSchema, Prepared, setting, plan_answer, plan_tree}
use Rattle.acceptance.specs.Bounds.{IsBoundFor, ExceedsCap, NamesExceeding, IsPlanned, IsAccepted}

-- The laws on plans and their bounds.
pub record PlanLaws : Type 0 where
  pub is_plan : (e : Setting) (root : ℕ) (o : Operation) → operation_answer e root o ≡ planned_well → IsOperationPlan e root o (planned_operation e root o)
  pub sound : (e : Setting) (root : ℕ) (o : Operation) → operation_answer e root o ≡ planned_well → (undeclared : ℕ) → IsSettingOf undeclared e → IsSound (holds e.schema) (planned_operation e root o)
  pub bounds : (e : Setting) (root : ℕ) (o : Operation) → operation_answer e root o ≡ planned_well → (undeclared : ℕ) → IsSettingOf undeclared e → (part : Part) (n : ℕ) → n ≤ CAP → IsOperationBound e part root o n ↔ (greatest_cost part (planned_operation e root o) ≡ n)
  pub fit : (e : Setting) (form : Form) (place : Place) (p : Position) (plan : PlanTree) (t : Tree) → IsPlan e place p plan → FitsSelections e form place p t ↔ Fits (holds e.schema) form plan t
  pub keep : (e : Setting) (form : Form) (size : Option ℕ) (place : Place) (p : Position) (plan : PlanTree) (t : Tree) → IsPlan e place p plan → FitsSelections e form place p t → KeepsSizes e size place p t ↔ SizesKept size plan t
  pub costs : (e : Setting) (part : Part) (form : Form) (place : Place) (p : Position) (plan : PlanTree) (t : Tree) → IsPlan e place p plan → FitsSelections e form place p t → capped (cost part plan t) ≡ capped (response_cost e part place p t)
  pub greatest : (holds : ℕ → Data → Bool) (part : Part) (plan : PlanTree) → IsSound holds plan → IsBound holds part plan (greatest_cost part plan)
  pub one : (holds : ℕ → Data → Bool) (part : Part) (plan : PlanTree) (a b : ℕ) → IsBound holds part plan a → IsBound holds part plan b → a ≡ b

pub setting_of_schema : (r : RequestData) (p : Prepared r) (of : IsOfSchema r) → IsSettingOf of.0.0 (setting r p)
setting_of_schema r p of = record { weights = of.0.1; fills = of.1 }

-- the plan of a request is sound
pub is_sound : PlanLaws → (r : RequestData) (p : Prepared r) → plan_answer r p ≡ planned_well → IsOfSchema r → IsSound (holds r.schema) (plan_tree r p)
is_sound laws r p well of = laws.sound (setting r p) p.root p.operation well of.0.0 (setting_of_schema r p of)

pub bound_for : PlanLaws → (r : RequestData) (p : Prepared r) (part : Part) (n : ℕ) → plan_answer r p ≡ planned_well → IsOfSchema r → n ≤ CAP → IsBound (holds r.schema) part (plan_tree r p) n → IsBoundFor r p part n
bound_for laws r p part n well of within bound =
    let sound = is_sound laws r p well of in
    (laws.bounds (setting r p) p.root p.operation well of.0.0 (setting_of_schema r p of) part n within).1
    (laws.one (holds r.schema) part (plan_tree r p) (greatest_cost part (plan_tree r p)) n (laws.greatest (holds r.schema) part (plan_tree r p) sound) bound)

over : (a b : ℕ) → capped a ≡ capped b → CAP < a → CAP < b
over a b same more = elim (cases_lt CAP b) [
  | inl h ↦ h
  | inr h ↦ absurd (omega (arith, capped_over a more, same, capped_same b (below b h), h))
]
  where
    below : (b : ℕ) → b ≤ CAP → b ≤ CAP + 1
    below b h = omega (arith, h)

pub exceeds_for : PlanLaws → (r : RequestData) (p : Prepared r) (part : Part) → plan_answer r p ≡ planned_well → Exceeds (holds r.schema) part (plan_tree r p) CAP ↔ ExceedsCap r p part
exceeds_for laws r p part well =
    let is_plan = laws.is_plan (setting r p) p.root p.operation well in
    let place = root_place p.root in
    let pos = root_position p.root p.operation in (
      λ x.
          let fits = (laws.fit (setting r p) (single true) place pos (plan_tree r p) x.0 is_plan).1 x.1.0 in
          let same = laws.costs (setting r p) part (single true) place pos (plan_tree r p) x.0 is_plan fits in
          (x.0, (fits, (laws.keep (setting r p) (single true) None place pos (plan_tree r p) x.0 is_plan fits).1 x.1.1), over _ _ same x.2),
      λ x.
          let fits = x.1.0 in
          let same = laws.costs (setting r p) part (single true) place pos (plan_tree r p) x.0 is_plan fits in
          (x.0, ((laws.fit (setting r p) (single true) place pos (plan_tree r p) x.0 is_plan).0 fits, (laws.keep (setting r p) (single true) None place pos (plan_tree r p) x.0 is_plan fits).0 x.1.1), over _ _ (sym same) x.2),
    )

-- what the table's schema holds is what the request's does
sound_in : (laws : PlanLaws) (r : RequestData) (plan : Plan) (is_planned : IsPlanned r plan) → IsOfSchema r → schema_data plan.schema.now ≡ r.schema → IsSound (holds_in plan) (plan_tree r is_planned.prepared)
sound_in laws r plan is_planned of same = subst (λ s. IsSound (holds s) (plan_tree r is_planned.prepared)) (sym same) (is_sound laws r is_planned.prepared is_planned.well of)

pub accepted : PlanLaws → (r : RequestData) (plan : Plan) (bound : Cost) → IsPlanned r plan → IsOfSchema r → schema_data plan.schema.now ≡ r.schema → IsTableBound plan bound → IsWithin bound → IsAccepted r plan bound
accepted laws r plan bound is_planned of same table within =
    let p = is_planned.prepared in
    let both = subst (λ s. IsCostBound (holds s) (plan_tree r p) bound) same (table (plan_tree r p) (is_planned.rows, sound_in laws r plan is_planned of same)) in
    record {
      is_planned = is_planned;
      is_sound = is_sound laws r p is_planned.well of;
      has_bound = record {
        of_types = bound_for laws r p types bound.types is_planned.well of within.of_types both.of_types;
        of_fields = bound_for laws r p fields bound.fields is_planned.well of within.of_fields both.of_fields;
        types_within = within.of_types;
        fields_within = within.of_fields;
      };
    }

-- a bound within the cap is exceeded by no response
pub counted : (plan : Plan) (bound : Cost) → IsTableBound plan bound → IsWithin bound → (part : Part) → IsWithinCap plan part
counted plan bound table within types tree held exceeds = omega (arith, (table tree held).of_types.upper exceeds.0 exceeds.1, exceeds.2, within.of_types)
counted plan bound table within fields tree held exceeds = omega (arith, (table tree held).of_fields.upper exceeds.0 exceeds.1, exceeds.2, within.of_fields)

through : {A B C : Type 0} → A ↔ B → B ↔ C → A ↔ C
through f g = (λ a. g.0 (f.0 a), λ c. f.1 (g.1 c))

pub too_costly : PlanLaws → (r : RequestData) (plan : Plan) (fault : TooCostly) (is_planned : IsPlanned r plan) → IsOfSchema r → schema_data plan.schema.now ≡ r.schema → NamesExceedingOf plan fault → NamesExceeding r is_planned.prepared fault
too_costly laws r plan fault is_planned of same names =
    let p = is_planned.prepared in
    let told = subst (λ s. NamesExceedingIn (holds s) (plan_tree r p) fault) same (names (plan_tree r p) (is_planned.rows, sound_in laws r plan is_planned of same)) in
    record {
      of_types = through told.of_types (exceeds_for laws r p types is_planned.well);
      of_fields = through told.of_fields (exceeds_for laws r p fields is_planned.well);
      some = told.some;
    }
