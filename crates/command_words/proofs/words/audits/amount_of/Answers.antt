use Rattle.std.proofs.Common.{◌≡◌, ◌∙◌, ℕ, Ok, Err}
use Rattle.command_words.proofs.words.audits.amount_of.Goals as goal

pub returns-in-Err-clause-none : goal.returns-in-Err-clause-none
returns-in-Err-clause-none c = λ n is. let differ : Ok n ≡ Err c.in-Err.field-0 = c.read_allowance.ensures.only (Ok n) is ∙ c.in-Err.is in cc
