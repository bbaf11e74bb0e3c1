use Rattle.stripped_responses.proofs.Stripping.{value_stripped}
use Rattle.stripped_responses.proofs.laws.a_stripped_response_is_the_clients.Goals as goal

pub returns-clause-fits : goal.returns-clause-fits
returns-clause-fits c alias e form place p q t sent fits = (value_stripped alias e form place p q t sent.has_none sent.is_rewritten fits).fits

pub returns-clause-keeps : goal.returns-clause-keeps
returns-clause-keeps c alias e form size place p q t sent fits = (value_stripped alias e form place p q t sent.has_none sent.is_rewritten fits).keeps size

pub returns-clause-costs : goal.returns-clause-costs
returns-clause-costs c alias e form part place p q t sent fits = (value_stripped alias e form place p q t sent.has_none sent.is_rewritten fits).costs part
