-- The message is that of the fault.
use Rattle.std.proofs.Common.{subst}
use Rattle.gateway_core.specs.Messages.{message_body, link_status, link_text}
use Rattle.gateway_core.specs.Finishes.{finished_as, link_charge, IsTold}
use Rattle.gateway_core.proofs.ToldMessages.{told_as, within_told, charge_within, unanswered_as}
use Rattle.gateway_core.proofs.finishing.unanswered.Goals as goal

pub returns-in_default : goal.returns-in_default
returns-in_default c =
    let fault = c.args.fault in
    let bound = c.args.bound in
    let charged = subst (λ charge. IsTold c.link_message.result c.link_status.result bound charge c.told.result) c.link_charge.ensures c.told.ensures in
    let told = subst (λ status. IsTold c.link_message.result status bound (link_charge bound fault) c.told.result) c.link_status.ensures charged in
    let answers = told_as c.link_message.result (link_text fault) (link_status fault) bound (link_charge bound fault) c.told.result c.link_message.ensures told in
    record {
      unanswered = unanswered_as fault bound c.told.result c.in_default.not-Memory answers;
      within = within_told (finished_as (link_status fault) (message_body (link_text fault)) bound (link_charge bound fault)) bound c.told.result (charge_within bound fault) answers;
    }
