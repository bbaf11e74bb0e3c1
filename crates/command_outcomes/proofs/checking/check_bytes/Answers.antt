use Rattle.std.proofs.Common.{inl, inr, ap₂, subst}
use Rattle.command_outcomes.specs.Outcomes.{IsDone}
use Rattle.command_outcomes.specs.SchemaTexts.{counts_text}
use Rattle.command_outcomes.proofs.checking.check_bytes.Goals as goal

pub returns-in-Ok : goal.returns-in-Ok
returns-in-Ok c = inr (inl (c.in-Ok.schema, c.in-Ok.ensures.held, subst (λ text. IsDone text c.passed.result) (ap₂ counts_text c.counts-types.ensures.types c.counts-types.ensures.fields) c.passed.ensures))
