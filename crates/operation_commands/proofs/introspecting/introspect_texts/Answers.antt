use Rattle.std.proofs.Common.{inl, inr}
use Rattle.operation_commands.proofs.introspecting.introspect_texts.Goals as goal

pub returns-in-Ok : goal.returns-in-Ok
returns-in-Ok c = inr (inl (c.in-Ok.answer, c.in-Ok.ensures.answer, c.answered.ensures))
