use Rattle.std.proofs.Common.{◌∙◌, sym}
use Rattle.account_core.specs.Costs.{cost}
use Rattle.account_shared.proofs.Idle.{idle_past_refusal, idle_past_split, idle_split_off, idle_past_join}
use Rattle.public_calls.proofs.accounts.spend_beside.Goals as goal

pub spend-left-requires-clause-idle : goal.spend-left-requires-clause-idle
spend-left-requires-clause-idle g c = idle_split_off c.reserve.new.passes c.in-Ok.second c.in-Ok.ensures.new_clients

pub returns-in-Short-clause-idle : goal.returns-in-Short-clause-idle
returns-in-Short-clause-idle g c =
    idle_past_refusal c.args.first.now c.reserve.new.passes 0 0 (cost 2000 1000) c.in-Short.left c.in-Short.ensures.call c.requires.idle

pub returns-in-Ok-clause-idle : goal.returns-in-Ok-clause-idle
returns-in-Ok-clause-idle g c =
    idle_past_join c.settle.new.passes c.join.new.self c.spend-left.new.passes (c.join.ensures.belong.limits ∙ sym c.settle.ensures.belong.limits) c.join.ensures.joined
    (idle_past_split c.args.first.now c.reserve.new.passes c.split.new.self c.settle.new.passes 0 0 (cost 2000 1000) (cost 1000 1000) c.in-Granted.early c.in-Granted.ensures.ticket
    c.in-Granted.ensures.call c.in-Ok.ensures.clients c.in-Ok.ensures.label c.settle.ensures.call c.requires.idle)
