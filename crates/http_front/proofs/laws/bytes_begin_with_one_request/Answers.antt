-- By the lemmas on one answer.
use Rattle.http_front.proofs.OneAnswer.{no_fault, one_ask, ask_stays}
use Rattle.http_front.proofs.laws.bytes_begin_with_one_request.Goals as goal

pub returns-clause-no_fault : goal.returns-clause-no_fault
returns-clause-no_fault c = no_fault

pub returns-clause-one : goal.returns-clause-one
returns-clause-one c = one_ask

pub returns-clause-later : goal.returns-clause-later
returns-clause-later c = ask_stays
