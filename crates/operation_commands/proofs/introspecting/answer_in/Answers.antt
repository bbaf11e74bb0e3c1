use Rattle.std.proofs.Common.{subst}
use Rattle.acceptance.specs.Requests.{request_data}
use Rattle.operation_commands.specs.Introspect.{IsAnswerOf}
use Rattle.operation_commands.proofs.OwnRequests.{unanswered}
use Rattle.operation_commands.proofs.introspecting.answer_in.Goals as goal

pub returns-in-Ok-answer_of-clause-answer : goal.returns-in-Ok-answer_of-clause-answer
returns-in-Ok-answer_of-clause-answer c =
    (c.in-Ok.inputs, c.in-Ok.ensures.held, subst (λ r. IsAnswerOf c.args.texts.now r c.in-Ok-answer_of.answer) c.request_of-request.ensures.data c.in-Ok-answer_of.ensures.answer)

pub returns-clause-refused : goal.returns-clause-refused
returns-clause-refused c =
    unanswered c.args.asked.now c.args.texts.now c.in-Ok.inputs c.in-Ok.ensures.held (request_data c.request_of-request.result) c.request_of-request.ensures.data c.in-Err-answer_of.fault c.in-Err-answer_of.ensures.refused
