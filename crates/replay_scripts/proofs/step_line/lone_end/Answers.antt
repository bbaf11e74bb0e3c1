use Rattle.std.proofs.Common.{sym, ◌∙◌}
use Rattle.replay_scripts.proofs.StepWords.{lone_spelled, lone_bad}
use Rattle.replay_scripts.proofs.step_line.lone_end.Goals as goal

pub returns-then-is_id-clause-some : goal.returns-then-is_id-clause-some
returns-then-is_id-clause-some c = lone_spelled _ _ c.requires (sym c.is_id.ensures ∙ c.if-is_id.true)

pub returns-else-is_id-clause-none : goal.returns-else-is_id-clause-none
returns-else-is_id-clause-none c = λ step. lone_bad _ _ step c.requires (sym c.is_id.ensures ∙ c.if-is_id.false)
