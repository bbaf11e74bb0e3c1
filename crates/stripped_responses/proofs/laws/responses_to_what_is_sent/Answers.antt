-- By the laws on positions.
use Rattle.std.proofs.Common.{None}
use Rattle.stripped_responses.proofs.Sent.{response_stripped, response_filled}
use Rattle.stripped_responses.proofs.laws.responses_to_what_is_sent.Goals as goal

pub returns-clause-stripped : goal.returns-clause-stripped
returns-clause-stripped c alias x t response = (let found = response_stripped alias x t response in (found.fits, found.keeps None response.1))

pub returns-clause-costs : goal.returns-clause-costs
returns-clause-costs c alias x part t response = (response_stripped alias x t response).costs part

pub returns-clause-each : goal.returns-clause-each
returns-clause-each c alias x r response = (let filled = response_filled alias x r response in (filled.tree, (filled.fits, filled.keeps response.1), filled.strips))
