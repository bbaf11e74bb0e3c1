use Rattle.std.proofs.Common.{inl, inr}
use Rattle.operation_commands.proofs.explaining.explain_texts.Goals as goal

pub returns-in-Ok : goal.returns-in-Ok
returns-in-Ok c = inr (inl (c.in-Ok.text.items, c.in-Ok.ensures.explained, (c.steps_taken.result, c.steps_taken.ensures, c.explained.ensures)))
