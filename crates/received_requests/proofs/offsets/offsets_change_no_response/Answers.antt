use Rattle.std.proofs.Common.{subst}
use Rattle.received_requests.proofs.OffsetsResponses.{fits_alike, keeps_alike, costs_alike, differ_back}
use Rattle.received_requests.proofs.offsets.offsets_change_no_response.Goals as goal

pub returns-clause-fits : goal.returns-clause-fits
returns-clause-fits c e f form place p q t differ fits = subst (λ (X : Type 0). X) (fits_alike e f p q differ form place t) fits

pub returns-clause-keeps : goal.returns-clause-keeps
returns-clause-keeps c e f size place p q t differ keeps = subst (λ (X : Type 0). X) (keeps_alike e f p q differ size place t) keeps

pub returns-clause-costs : goal.returns-clause-costs
returns-clause-costs c e f part place p q t differ = costs_alike e f p q differ part place t

pub returns-clause-symmetric : goal.returns-clause-symmetric
returns-clause-symmetric c e f p q differ = differ_back e f p q differ
