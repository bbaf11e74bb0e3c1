-- By what the texts hold.
use Rattle.std.proofs.Common.{None, refl}
use Rattle.replay_scripts.specs.Answers.{steps_of}
use Rattle.account_commands.specs.RuleFiles.{rules_in}
use Rattle.account_commands.proofs.Replays.{printable}
use Rattle.account_commands.proofs.replay_end.replay_texts.Goals as goal

pub replay_by-requires-clause-weighed : goal.replay_by-requires-clause-weighed
replay_by-requires-clause-weighed g c =
    let held = c.in-Ok.ensures.held.are_rules.is_schema in
    ((c.args.undeclared, held.1.1), c.built_schemas_can_be_filled.ensures held.0.0 c.in-Ok.inputs.rules.weighed.schema held.0.2)

pub replay_by-requires-clause-few : goal.replay_by-requires-clause-few
replay_by-requires-clause-few g c = c.scripts_are_short.ensures c.args.texts.now.script (steps_of c.in-Ok.inputs.script) c.in-Ok.ensures.held.is_script

pub returns-in-Ok-replay_by-clause-replayed : goal.returns-in-Ok-replay_by-clause-replayed
returns-in-Ok-replay_by-clause-replayed g c = (c.in-Ok.inputs, c.in-Ok.ensures.held, (c.in-Ok-replay_by.end, c.in-Ok-replay_by.ensures, refl))

pub returns-in-Ok-replay_by-clause-printable : goal.returns-in-Ok-replay_by-clause-printable
returns-in-Ok-replay_by-clause-printable g c = printable (rules_in c.in-Ok.inputs.rules c.in-Ok.inputs.list None c.args.work) (steps_of c.in-Ok.inputs.script) c.in-Ok-replay_by.end c.in-Ok-replay_by.ensures c.in-Ok.ensures.served
