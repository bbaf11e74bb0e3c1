use Rattle.acceptance.proofs.OneVerdict.{is_affordable, affordable_or_refused, one_affordable, not_both, one_bound, one_refusal}
use Rattle.acceptance.proofs.laws.a_request_has_one_verdict.Goals as goal

pub returns-clause-accepted_is_affordable : goal.returns-clause-accepted_is_affordable
returns-clause-accepted_is_affordable c = is_affordable

pub returns-clause-affordable_or_refused : goal.returns-clause-affordable_or_refused
returns-clause-affordable_or_refused c = affordable_or_refused

pub returns-clause-one_affordable : goal.returns-clause-one_affordable
returns-clause-one_affordable c = one_affordable

pub returns-clause-not_both : goal.returns-clause-not_both
returns-clause-not_both c = not_both

pub returns-clause-one_bound : goal.returns-clause-one_bound
returns-clause-one_bound c = one_bound

pub returns-clause-one_refusal : goal.returns-clause-one_refusal
returns-clause-one_refusal c = one_refusal
