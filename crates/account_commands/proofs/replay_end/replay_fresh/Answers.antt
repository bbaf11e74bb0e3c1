-- Nothing was open before, and the accounts are those of the calls.
use Rattle.replay_scripts.specs.Answers.{steps_of}
use Rattle.gateway_replay.specs.PassedOn.{rules_of}
use Rattle.gateway_replay.proofs.FreshAccounts.{fresh_idle}
use Rattle.account_commands.proofs.Replays.{ends_as}
use Rattle.account_commands.proofs.replay_end.replay_fresh.Goals as goal

pub replay-requires-clause-idle : goal.replay-requires-clause-idle
replay-requires-clause-idle g c = fresh_idle (rules_of c.args.gate) c.args.passes c.requires.fresh

pub returns : goal.returns
returns g c =
    ends_as (rules_of c.args.gate) c.args.passes c.replay.new.passes (steps_of c.args.script.now) record { report = c.in_ok-report.report; totals = c.close-totals.result }
    c.requires.fresh c.in_ok-report.ensures.replayed c.in_ok-report.ensures.belong.known c.close-totals.ensures.clients c.close-totals.ensures.accounts
