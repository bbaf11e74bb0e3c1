use Rattle.std.proofs.Common.{subst}
use Rattle.acceptance.specs.Requests.{request_data}
use Rattle.operation_commands.specs.Price.{IsPricedAs}
use Rattle.operation_commands.proofs.OwnRequests.{unpriced}
use Rattle.operation_commands.proofs.pricing.price_in.Goals as goal

pub returns-in-Ok-price_of-clause-price : goal.returns-in-Ok-price_of-clause-price
returns-in-Ok-price_of-clause-price c =
    (c.in-Ok.inputs, c.in-Ok.ensures.held, subst (λ r. IsPricedAs c.args.texts.now r c.in-Ok-price_of.cost) c.request_of-request.ensures.data c.in-Ok-price_of.ensures.price)

pub returns-clause-refused : goal.returns-clause-refused
returns-clause-refused c =
    unpriced c.args.asked.now c.args.texts.now c.in-Ok.inputs c.in-Ok.ensures.held (request_data c.request_of-request.result) c.request_of-request.ensures.data c.in-Err-price_of.fault c.in-Err-price_of.ensures.refused
