use Rattle.std.proofs.Common.{subst}
use Rattle.acceptance.specs.Requests.{request_data}
use Rattle.operation_commands.specs.Explain.{IsExplainedAs}
use Rattle.operation_commands.proofs.OwnRequests.{unpriced}
use Rattle.operation_commands.proofs.explaining.explanation_in.Goals as goal

pub returns-in-Ok-explanation_of-clause-explained : goal.returns-in-Ok-explanation_of-clause-explained
returns-in-Ok-explanation_of-clause-explained c =
    (c.in-Ok.inputs, c.in-Ok.ensures.held, subst (λ r. IsExplainedAs c.args.texts.now r c.in-Ok-explanation_of.text.items) c.request_of-request.ensures.data c.in-Ok-explanation_of.ensures.explained)

pub returns-clause-refused : goal.returns-clause-refused
returns-clause-refused c =
    unpriced c.args.asked.now c.args.texts.now c.in-Ok.inputs c.in-Ok.ensures.held (request_data c.request_of-request.result) c.request_of-request.ensures.data c.in-Err-explanation_of.fault c.in-Err-explanation_of.ensures.refused
