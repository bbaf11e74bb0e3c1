use Rattle.std.proofs.Common.{ℕ, map, Option, sym, ap, ◌∙◌, subst}
use Rattle.std.specs.Prelude.{IfSome}
use Rattle.gql_base.specs.parts.Trees.{named_value}
use Rattle.collected_fields.specs.Views.{setting_of_planning, collected_field}
use Rattle.literal_loads.specs.KnownInputs.{scale_of}
use Rattle.literal_loads.specs.Walks.{HasWeighed}
use Rattle.merged_selections.proofs.MadeCalls.{weighed_costs}
use Rattle.merged_selections.proofs.call.weighed_cost.Goals as goal

pub returns-in_err-cost-clause-scaled : goal.returns-in_err-cost-clause-scaled
returns-in_err-cost-clause-scaled c = λ scaled. record { scale = ap scale_of c.cost_of.ensures.of ∙ scaled.scale; right = c.cost_of.ensures.right scaled.right }

pub returns-in-Some-clause-scaled : goal.returns-in-Some-clause-scaled
returns-in-Some-clause-scaled c = λ scaled. record { scale = ap scale_of c.cost_of.ensures.of ∙ scaled.scale; right = c.cost_of.ensures.right scaled.right }

pub returns-in-None-clause-scaled : goal.returns-in-None-clause-scaled
returns-in-None-clause-scaled c = λ scaled. record { scale = ap scale_of c.cost_of.ensures.of ∙ scaled.scale; right = c.cost_of.ensures.right scaled.right }

pub returns-in-Some-clause-cost : goal.returns-in-Some-clause-cost
returns-in-Some-clause-cost c = λ scaled. weighed_costs (setting_of_planning c.args.planning.now) c.args.of.number (collected_field c.args.field.now) c.as_slice.result.now (scale_of c.args.loads.now.of) c.in-Some.cost scaled.scale (ap (map named_value) (sym c.as_slice.ensures.value))
    (subst (λ (found : Option ℕ). IfSome found (HasWeighed (scale_of c.args.loads.now.of) c.args.of.number c.as_slice.result.now)) c.in-Some.is (c.in_ok-cost.ensures.cost scaled.right))
