use Rattle.account_shared.proofs.Idle.{idle_past_refusal, idle_past_ticket}
use Rattle.public_calls.proofs.accounts.spend.Goals as goal

pub returns-in-Short-clause-idle : goal.returns-in-Short-clause-idle
returns-in-Short-clause-idle g c =
    idle_past_refusal c.args.passes.now c.reserve.new.passes 0 c.args.window c.args.bound c.in-Short.left c.in-Short.ensures.call c.requires.idle

pub returns-in-Granted-clause-idle : goal.returns-in-Granted-clause-idle
returns-in-Granted-clause-idle g c =
    idle_past_ticket c.args.passes.now c.reserve.new.passes c.settle.new.passes 0 c.args.window c.args.bound c.args.bound c.in-Granted.ticket c.in-Granted.ensures.ticket c.in-Granted.ensures.call
    c.settle.ensures.call c.requires.idle
