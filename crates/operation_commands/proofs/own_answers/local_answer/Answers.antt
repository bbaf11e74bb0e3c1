use Rattle.acceptance.specs.Requests.{request_data}
use Rattle.operation_commands.proofs.OwnRequests.{answered_own, refused_own}
use Rattle.operation_commands.proofs.own_answers.local_answer.Goals as goal

pub returns-in-Ok-clause-own : goal.returns-in-Ok-clause-own
returns-in-Ok-clause-own c =
    answered_own c.args.schema.now (request_data c.args.request.now) c.in-Ok.facts c.in-Ok.ensures c.args.place c.requires.picked c.answer_at.result c.answer_at.ensures.answered

pub returns-in-Ok-clause-refused : goal.returns-in-Ok-clause-refused
returns-in-Ok-clause-refused c =
    refused_own c.args.schema.now (request_data c.args.request.now) c.in-Ok.facts c.in-Ok.ensures c.args.place c.requires.picked c.answer_at.result c.answer_at.ensures.refused
