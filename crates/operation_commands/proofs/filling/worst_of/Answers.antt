use Rattle.std.proofs.Common.{inl, inr, [], Some, subst}
use Rattle.response_model.specs.ResponseText.{response_text}
use Rattle.command_outcomes.specs.Outcomes.{IsDone}
use Rattle.operation_commands.proofs.filling.worst_of.Goals as goal

pub returns-in-Ok : goal.returns-in-Ok
returns-in-Ok c = λ tree held.
    let filled = c.in-Ok.ensures.filled tree held in
    inr (inl (filled.1, subst (λ t. IsDone (response_text (Some t) []) c.written.result) filled.0 c.written.ensures))
