use Rattle.std.proofs.Common.{sym, ◌∙◌}
use Rattle.replay_scripts.proofs.StepWords.{end_no_id, end_bad_id, end_spelled}
use Rattle.replay_scripts.proofs.step_line.end_in.Goals as goal

pub returns-in_default-clause-none : goal.returns-in_default-clause-none
returns-in_default-clause-none c = λ step. end_no_id c.args.text.now step (sym c.in_default.ensures)

pub returns-then-is_id-clause-some : goal.returns-then-is_id-clause-some
returns-then-is_id-clause-some c = end_spelled _ _ _ (sym c.in-Some.ensures) (sym c.is_id.ensures ∙ c.if-is_id.true)

pub returns-else-is_id-clause-none : goal.returns-else-is_id-clause-none
returns-else-is_id-clause-none c = λ step. end_bad_id _ _ _ step (sym c.in-Some.ensures) (sym c.is_id.ensures ∙ c.if-is_id.false)
