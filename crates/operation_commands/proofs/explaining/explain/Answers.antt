use Rattle.std.proofs.Common.{inl, inr}
use Rattle.operation_commands.proofs.explaining.explain.Goals as goal

pub returns-in-Ok : goal.returns-in-Ok
returns-in-Ok g c = inr (c.in-Ok.texts, c.in-Ok.ensures.held, c.explain_texts.ensures, c.in-Ok.ensures.still)

pub returns-in-Err : goal.returns-in-Err
returns-in-Err g c = inl (c.in-Err.outcome, c.in-Err.ensures.none, c.told_unread.ensures)
