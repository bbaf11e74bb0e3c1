use Rattle.std.proofs.Common.{sym}
use Rattle.replay_scripts.proofs.StepLines.{spells_some}
use Rattle.replay_scripts.proofs.step_line.step_in.Goals as goal

pub returns-in-down-clause-some : goal.returns-in-down-clause-some
returns-in-down-clause-some c = spells_some c.args.line.now _ _ _ c.lone_end.result (sym c.in-Some.ensures) c.in-down.is c.lone_end.ensures.some

pub returns-in-fail-clause-some : goal.returns-in-fail-clause-some
returns-in-fail-clause-some c = spells_some c.args.line.now _ _ _ c.lone_end-in-fail.result (sym c.in-Some.ensures) c.in-fail.is c.lone_end-in-fail.ensures.some
