use Rattle.plan_model.proofs.LikeNodes.{like_fault, like_selected, like_place, like_hands}
use Rattle.plan_model.proofs.laws.like_fields_make_one_node.Goals as goal

pub returns-clause-fault : goal.returns-clause-fault
returns-clause-fault c = like_fault

pub returns-clause-selected : goal.returns-clause-selected
returns-clause-selected c = like_selected

pub returns-clause-place : goal.returns-clause-place
returns-clause-place c = like_place

pub returns-clause-hands : goal.returns-clause-hands
returns-clause-hands c = like_hands
