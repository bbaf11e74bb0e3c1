-- What is told where an operation takes more steps than it may.
use Rattle.std.proofs.Common.{◌≡◌, inl, inr, ℕ, List, Option, None, ap, subst}
use Rattle.std.specs.Prelude.{IsSome}
use Rattle.command_outcomes.specs.declared.outcome.Outcome.{Outcome}
use Rattle.command_outcomes.specs.declared.outcome.Outcome.TheVariants.{Refused as RefusedOutcome}
use Rattle.command_outcomes.specs.Outcomes.{IsWanting}
use Rattle.counted_work.specs.Counted.{work_text}
use Rattle.operation_commands.specs.declared.findings.Verdict.{Verdict}
use Rattle.operation_commands.specs.declared.findings.Verdict.TheVariants.{Refused}
use Rattle.operation_commands.specs.Explain.{IsRefusedTelling, IsWantingTold}

pub wanting_told : (most : Option ℕ) (line : List ℕ) (outcome : Outcome) → IsWanting most (RefusedOutcome line) → IsRefusedTelling line (λ spot. spot ≡ None) outcome → IsWantingTold most outcome
wanting_told most line outcome (inl none) told = absurd (cc)
wanting_told most line outcome (inr refused) told = inr (refused.0, subst (λ l. IsRefusedTelling l (λ spot. spot ≡ None) outcome) refused.1 told)

pub wanting_refused : (most : Option ℕ) (text : List ℕ) → IsWanting most (RefusedOutcome text) → IsSome most × (Refused text ≡ Refused work_text)
wanting_refused most text (inl none) = absurd (cc)
wanting_refused most text (inr refused) = (refused.0, ap Refused refused.1)
