use Rattle.command_words.proofs.MostCosts.{no_most}
use Rattle.command_words.proofs.words.audits.most_in.Goals as goal

pub returns-in-None-clause-usage : goal.returns-in-None-clause-usage
returns-in-None-clause-usage c = λ refused most is. no_most (λ s. s.now) _ c.args.words.now c.in-None.ensures.none most is
