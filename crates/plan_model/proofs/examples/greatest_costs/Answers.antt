use Rattle.plan_model.proofs.Computed.{types_cost, fields_cost}
use Rattle.plan_model.proofs.examples.greatest_costs.Goals as goal

pub returns-clause-types_cost : goal.returns-clause-types_cost
returns-clause-types_cost c = types_cost

pub returns-clause-fields_cost : goal.returns-clause-fields_cost
returns-clause-fields_cost c = fields_cost
