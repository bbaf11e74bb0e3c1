use Rattle.acceptance.specs.Requests.{request_data}
use Rattle.operation_commands.proofs.OwnRequests.{is_mixed}
use Rattle.operation_commands.proofs.own_answers.mixed_fault.Goals as goal

pub returns : goal.returns
returns c = is_mixed c.args.schema.now (request_data c.args.request.now) c.in-Ok._facts c.in-Ok.ensures c.requires.mixed.0 c.args.at c.requires.mixed.1
