use Rattle.std.proofs.Common.{sym, ◌∙◌}
use Rattle.replay_scripts.proofs.StepWords.{begin_no_id, begin_no_key, begin_no_moment, begin_bad_moment, begin_bad_id, begin_bad_key, begin_spelled}
use Rattle.replay_scripts.proofs.step_line.begin_in.Goals as goal

pub returns-in_default-clause-none : goal.returns-in_default-clause-none
returns-in_default-clause-none c = λ step. begin_no_id c.args.text.now step (sym c.in_default.ensures)

pub returns-in_default-first_word-clause-none : goal.returns-in_default-first_word-clause-none
returns-in_default-first_word-clause-none c = λ step. begin_no_key _ _ _ step (sym c.in-Some.ensures) (sym c.in_default-first_word.ensures)

pub returns-in_default-first_word-2-clause-none : goal.returns-in_default-first_word-2-clause-none
returns-in_default-first_word-2-clause-none c = λ step. begin_no_moment _ _ _ _ _ step (sym c.in-Some.ensures) (sym c.in-Some-first_word.ensures) (sym c.in_default-first_word-2.ensures)

pub returns-in_default-moment_in-clause-none : goal.returns-in_default-moment_in-clause-none
returns-in_default-moment_in-clause-none c = λ step s. begin_bad_moment _ _ _ _ _ _ _ step (sym c.in-Some.ensures) (sym c.in-Some-first_word.ensures) (sym c.in-Some-first_word-2.ensures) s c.in_default-moment_in.ensures.none

pub returns-then-not-is_id-clause-none : goal.returns-then-not-is_id-clause-none
returns-then-not-is_id-clause-none c = λ step s. begin_bad_id _ _ _ _ _ _ _ step (sym c.in-Some.ensures) (sym c.in-Some-first_word.ensures) (sym c.in-Some-first_word-2.ensures) s (sym c.is_id.ensures ∙ c.if-not-is_id.true)

pub returns-then-not-is_key-clause-none : goal.returns-then-not-is_key-clause-none
returns-then-not-is_key-clause-none c = λ step s. begin_bad_key _ _ _ _ _ _ _ step (sym c.in-Some.ensures) (sym c.in-Some-first_word.ensures) (sym c.in-Some-first_word-2.ensures) s (sym c.is_key.ensures ∙ c.if-not-is_key.true)

pub returns-clause-some : goal.returns-clause-some
returns-clause-some c = begin_spelled _ _ _ _ _ _ _ _ (sym c.in-Some.ensures) (sym c.in-Some-first_word.ensures) (sym c.in-Some-first_word-2.ensures) c.in-Some-moment_in.ensures.some (sym c.is_id.ensures ∙ c.if-not-is_id.false) (sym c.is_key.ensures ∙ c.if-not-is_key.false)
