use Rattle.plan_model.proofs.SameNodes.{same_keys_at, same_call_under, same_selected_under, less_below, same_visits, same_planned}
use Rattle.plan_model.proofs.laws.repeats_change_nothing.Goals as goal

pub returns-clause-keys : goal.returns-clause-keys
returns-clause-keys c = same_keys_at

pub returns-clause-call : goal.returns-clause-call
returns-clause-call c = same_call_under

pub returns-clause-selected : goal.returns-clause-selected
returns-clause-selected c = same_selected_under

pub returns-clause-below : goal.returns-clause-below
returns-clause-below c = less_below

pub returns-clause-visited : goal.returns-clause-visited
returns-clause-visited c = same_visits

pub returns-clause-planned : goal.returns-clause-planned
returns-clause-planned c = same_planned
