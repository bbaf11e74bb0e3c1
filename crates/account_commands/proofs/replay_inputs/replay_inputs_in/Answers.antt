-- The rules that were looked at before hold what they must.
use Rattle.account_commands.proofs.ReplayRefusals.{holds_schema, holds_clients, holds_script, no_rules, no_script, no_list}
use Rattle.replay_scripts.specs.Answers.{steps_of}
use Rattle.account_commands.proofs.replay_inputs.replay_inputs_in.Goals as goal

pub returns-in-Err-clause-refused : goal.returns-in-Err-clause-refused
returns-in-Err-clause-refused c = no_rules c.args.texts.now c.args.undeclared c.in-Err.fault c.in-Err.ensures.refused

pub returns-in-Err-script_of-clause-refused : goal.returns-in-Err-script_of-clause-refused
returns-in-Err-script_of-clause-refused c =
    no_script c.args.texts.now c.args.undeclared c.as_str.result.now c.in-Err-script_of.fault
    (holds_schema c.args.texts.now.rules c.args.undeclared c.in-Ok.rules c.in-Ok.ensures.held) (holds_clients c.args.texts.now.rules c.args.undeclared c.in-Ok.rules c.in-Ok.ensures.held)
    c.as_str.ensures c.in-Err-script_of.ensures.refused

pub returns-clause-refused : goal.returns-clause-refused
returns-clause-refused c =
    no_list c.args.texts.now c.args.undeclared c.in-Err-list_of.fault
    (holds_schema c.args.texts.now.rules c.args.undeclared c.in-Ok.rules c.in-Ok.ensures.held) (holds_clients c.args.texts.now.rules c.args.undeclared c.in-Ok.rules c.in-Ok.ensures.held)
    (holds_script c.args.texts.now c.as_str.result.now (steps_of c.in-Ok-script_of.script) c.as_str.ensures c.in-Ok-script_of.ensures.held) c.in-Err-list_of.ensures.refused
