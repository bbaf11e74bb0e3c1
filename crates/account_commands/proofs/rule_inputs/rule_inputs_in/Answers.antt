-- The schema that was looked at before holds what it must.
use Rattle.account_commands.proofs.RuleRefusals.{holds_rules, holds_schema, no_schema, no_clients}
use Rattle.account_commands.proofs.rule_inputs.rule_inputs_in.Goals as goal

pub returns-in-Err-clause-refused : goal.returns-in-Err-clause-refused
returns-in-Err-clause-refused c = no_schema c.args.texts.now c.args.undeclared c.as_str.result.now c.in-Err.fault c.as_str.ensures c.in-Err.ensures.refused

pub returns-in-Err-clients_of-clause-refused : goal.returns-in-Err-clients_of-clause-refused
returns-in-Err-clients_of-clause-refused c =
    no_clients c.args.texts.now c.args.undeclared c.as_str-2.result.now c.in-Err-clients_of.fault
    (holds_schema c.args.texts.now c.args.undeclared c.as_str.result.now c.in-Ok.weighed.schema c.in-Ok.weighed.weights c.as_str.ensures c.in-Ok.ensures.held)
    c.as_str-2.ensures c.in-Err-clients_of.ensures.refused

pub returns-in-Ok-known_of-clause-held : goal.returns-in-Ok-known_of-clause-held
returns-in-Ok-known_of-clause-held c =
    holds_rules c.args.texts.now c.args.undeclared c.as_str.result.now c.as_str-2.result.now c.as_str-3.result.now
    (record { weighed = c.in-Ok.weighed; facts = c.in-Ok-known_of.facts; clients = c.in-Ok-clients_of.clients })
    c.as_str.ensures c.as_str-2.ensures c.as_str-3.ensures c.in-Ok.ensures.held c.in-Ok-clients_of.ensures.held c.in-Ok-known_of.ensures
