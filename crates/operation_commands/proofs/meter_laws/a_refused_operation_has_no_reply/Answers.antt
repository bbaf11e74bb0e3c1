-- What is accepted has a price.
use Rattle.response_meter.specs.Metered.{IsMetered}
use Rattle.operation_commands.specs.Meter.{IsFirstFault}
use Rattle.operation_commands.proofs.OneMeasure.{priced, sent_priced}
use Rattle.operation_commands.proofs.meter_laws.a_refused_operation_has_no_reply.Goals as goal

pub returns-clause-sent : goal.returns-clause-sent
returns-clause-sent c asked texts text refusal refused sent =
    let price = sent_priced asked texts text sent in c.a_refused_operation_has_no_price.ensures.not_both asked texts price.0 refusal refused price.1

pub returns-clause-measured : goal.returns-clause-measured
returns-clause-measured c asked texts reply metered refusal refused has =
    let price = priced asked texts (λ plan alias tree. IsMetered plan alias tree reply metered) has in c.a_refused_operation_has_no_price.ensures.not_both asked texts price.0 refusal refused price.1

pub returns-clause-faulty : goal.returns-clause-faulty
returns-clause-faulty c asked texts reply fault refusal refused has =
    let price = priced asked texts (λ plan alias tree. IsFirstFault plan alias tree reply fault) has in c.a_refused_operation_has_no_price.ensures.not_both asked texts price.0 refusal refused price.1
