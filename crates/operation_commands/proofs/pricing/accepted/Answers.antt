use Rattle.operation_commands.proofs.AskedRefusals.{not_accepted}
use Rattle.acceptance.specs.Requests.{request_data}
use Rattle.operation_commands.proofs.pricing.accepted.Goals as goal

pub returns-in-Err-clause-refused : goal.returns-in-Err-clause-refused
returns-in-Err-clause-refused c =
    not_accepted c.args.asked.now c.args.texts.now c.args.inputs.now (request_data c.request_of-request.result) c.in-Err.fault c.requires.held c.request_of-request.ensures.data c.in-Err.ensures.refused
