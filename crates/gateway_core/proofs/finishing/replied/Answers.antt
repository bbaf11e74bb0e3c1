-- The message is that of the first test that the reply doesn't pass.
use Rattle.std.proofs.Common.{subst}
use Rattle.response_model.specs.Plan.{Plan as PlanTree}
use Rattle.plan_table.specs.TableBounds.{HoldsSound}
use Rattle.response_meter.specs.Faults.{Tells}
use Rattle.response_meter.specs.Metered.{first_fault_in}
use Rattle.response_meter.specs.declared.fault.MeterFault.TheVariants.{NotResponse, SizeBroken}
use Rattle.gateway_core.specs.Messages.{message_body, reply_text}
use Rattle.gateway_core.specs.Finishes.{finished_as}
use Rattle.gateway_core.proofs.ToldMessages.{told_as, within_told, all_within, replied_as}
use Rattle.gateway_core.proofs.finishing.replied.Goals as goal

pub returns-in-Err-NotResponse : goal.returns-in-Err-NotResponse
returns-in-Err-NotResponse c =
    let fault = NotResponse c.in-Err-NotResponse.path c.in-Err-NotResponse.why in
    let bound = c.args.grant.now.ticket.bound in
    let answers = told_as c.not_response.result (reply_text fault) 502 bound bound c.told.result c.not_response.ensures c.told.ensures in
    let first = subst (λ alias. (tree : PlanTree) → HoldsSound c.args.grant.now.plan tree → Tells fault (first_fault_in c.args.grant.now.plan alias tree c.args.reply.now)) c.as_str.ensures
    (subst (λ told. (tree : PlanTree) → HoldsSound c.args.grant.now.plan tree → Tells told (first_fault_in c.args.grant.now.plan c.as_str.result.now tree c.args.reply.now)) c.in-Err-NotResponse.field-0-is c.in-Err-NotResponse.ensures.fault) in
    record {
      replied = replied_as c.args.grant.now c.args.reply.now fault c.told.result (λ same. cc) first answers;
      within = within_told (finished_as 502 (message_body (reply_text fault)) bound bound) bound c.told.result (all_within bound) answers;
    }

pub returns-in-Err-SizeBroken : goal.returns-in-Err-SizeBroken
returns-in-Err-SizeBroken c =
    let fault = SizeBroken c.in-Err-SizeBroken.path c.in-Err-SizeBroken.size c.in-Err-SizeBroken.length in
    let bound = c.args.grant.now.ticket.bound in
    let answers = told_as c.size_broken.result (reply_text fault) 502 bound bound c.told-in-Err-SizeBroken.result c.size_broken.ensures c.told-in-Err-SizeBroken.ensures in
    let first = subst (λ alias. (tree : PlanTree) → HoldsSound c.args.grant.now.plan tree → Tells fault (first_fault_in c.args.grant.now.plan alias tree c.args.reply.now)) c.as_str.ensures
    (subst (λ told. (tree : PlanTree) → HoldsSound c.args.grant.now.plan tree → Tells told (first_fault_in c.args.grant.now.plan c.as_str.result.now tree c.args.reply.now)) c.in-Err-SizeBroken.field-0-is c.in-Err-SizeBroken.ensures.fault) in
    record {
      replied = replied_as c.args.grant.now c.args.reply.now fault c.told-in-Err-SizeBroken.result (λ same. cc) first answers;
      within = within_told (finished_as 502 (message_body (reply_text fault)) bound bound) bound c.told-in-Err-SizeBroken.result (all_within bound) answers;
    }
