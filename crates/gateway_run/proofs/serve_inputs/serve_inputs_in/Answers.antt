-- The rules that were looked at before hold what they must.
use Rattle.account_commands.proofs.ReplayRefusals.{holds_schema, holds_clients}
use Rattle.gateway_run.proofs.ServeRefusals.{no_rules, no_list}
use Rattle.gateway_run.proofs.serve_inputs.serve_inputs_in.Goals as goal

pub returns-in-Err-clause-refused : goal.returns-in-Err-clause-refused
returns-in-Err-clause-refused c = no_rules c.args.texts.now c.args.undeclared c.in-Err.fault c.in-Err.ensures.refused

pub returns-in-Err-list_of-clause-refused : goal.returns-in-Err-list_of-clause-refused
returns-in-Err-list_of-clause-refused c =
    no_list c.args.texts.now c.args.undeclared c.in-Err-list_of.fault
    (holds_schema c.args.texts.now.rules c.args.undeclared c.in-Ok.rules c.in-Ok.ensures.held) (holds_clients c.args.texts.now.rules c.args.undeclared c.in-Ok.rules c.in-Ok.ensures.held)
    c.in-Err-list_of.ensures.refused
