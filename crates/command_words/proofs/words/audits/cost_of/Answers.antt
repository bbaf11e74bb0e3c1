use Rattle.std.proofs.Common.{ℕ, subst}
use Rattle.std.specs.Prelude.{IfNone}
use Rattle.cost_num.specs.Amount.{IsAmount}
use Rattle.cost_num.specs.declared.TheConstants.{CAP}
use Rattle.command_words.proofs.words.audits.cost_of.Goals as goal

pub returns-in_default-clause-none : goal.returns-in_default-clause-none
returns-in_default-clause-none c = λ most types fields. c.in_default.ensures'.none most.fields fields

pub returns-in_default-2-clause-none : goal.returns-in_default-2-clause-none
returns-in_default-2-clause-none c =
    λ most types fields. subst (λ r. IfNone r ((n : ℕ) → IsAmount CAP c.args.types.now n → ⊥)) c.in_default.is-0 c.amount_of.ensures.none most.types types
