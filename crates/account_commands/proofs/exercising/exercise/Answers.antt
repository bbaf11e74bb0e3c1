-- The report of the end is summed up.
use Rattle.std.proofs.Common.{inl, inr, subst, None}
use Rattle.command_words.specs.declared.command.TheConstants.{UNDECLARED}
use Rattle.command_outcomes.specs.Outcomes.{IsDone}
use Rattle.account_commands.specs.Replay.{IsReplayed}
use Rattle.account_commands.specs.Exercise.{summary_text}
use Rattle.account_commands.proofs.Replays.{replayed_that}
use Rattle.account_commands.proofs.exercising.exercise.Goals as goal

pub returns-in-Ok-replay_texts : goal.returns-in-Ok-replay_texts
returns-in-Ok-replay_texts g c =
    inr (inl (subst (λ texts. IsReplayed texts UNDECLARED None (λ end. IsDone (summary_text end.report) c.summed_up.result)) c.in-Ok.ensures
    (replayed_that c.in-Ok.texts UNDECLARED None c.in-Ok-replay_texts.end (λ end. IsDone (summary_text end.report) c.summed_up.result) c.in-Ok-replay_texts.ensures.replayed c.summed_up.ensures)))
